-- The requests that lie in some bytes, one after another, and their replies.
use Rattle.std.specs.Prelude.{Result, Ok, Err, IfSome, ◌≡◌, ℕ, ◌≤◌, [], ◌++◌, length, take, drop}
use Rattle.rules.specs.Text.{Bytes}
use Rattle.report.specs.Writing.{Wrote}
use Rattle.requests.specs.Sent.{Sent, sent, UnfoundIn}
use Rattle.requests.specs.declared.Unfound.{Unfound}
use Rattle.replies.specs.Reply.{reply_of}
use Rattle.replies.specs.declared.written.Said.{Said}
use Rattle.replies.specs.declared.answers.Gathered.{Gathered}

-- the reply to a request
abbrev pub replied : Sent → Bytes
replied s = reply_of s.request s.numbers s.text

-- the first bytes are requests, one after another, and the second their replies
pub data RepliesTo : Bytes → Bytes → Type 0 where
  none : RepliesTo [] []
  more : {asked said : Bytes} → RepliesTo asked said → (s : Sent) → RepliesTo (asked ++ sent s) (said ++ replied s)

-- bytes that are the replies to some requests
pub record Replies (said : Bytes) : Type 0 where
  pub asked : Bytes
  pub answers : RepliesTo asked said

-- the text was written behind the replies that were gathered
abbrev pub Says : Bytes → Said → Said → Type 0
Says text s s' = Wrote text s.bytes s.end s'.bytes s'.end

-- a request was taken from the front of the bytes, and its reply was written
pub record AnsweredTo (bytes : Bytes) (s s' : Said) (next : ℕ) : Type 0 where
  pub request : Sent
  pub inside : next ≤ length bytes
  pub taken : take next bytes ≡ sent request
  pub wrote : Says (replied request) s s'

-- otherwise the replies are as they were
abbrev pub AnswerOf : Bytes → Said → Said → Result ℕ Unfound → Type 0
AnswerOf bytes s s' (Ok next) = AnsweredTo bytes s s' next
AnswerOf bytes s s' (Err u) = (s' ≡ s) × UnfoundIn bytes u

-- the requests that were taken from the front of the bytes, and all their replies; and why no further request was answered
pub record GatheredFrom (bytes : Bytes) (s : Said) (g : Gathered) : Type 0 where
  pub taken_inside : g.taken ≤ length bytes
  pub answers : RepliesTo (take g.taken bytes) (take s.end s.bytes)
  pub left : IfSome g.unfound (UnfoundIn (drop g.taken bytes))
