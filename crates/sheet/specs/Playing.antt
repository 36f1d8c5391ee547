-- What the steps of play promise.
use Rattle.std.specs.Prelude.{◌≡◌, ℕ, List}
use Rattle.std.specs.Prelude as code
use Rattle.rules.specs.Text.{Bytes}
use Rattle.rules.specs.Sizes.{least_workspace}
use Rattle.rules.specs.Reading.{refused, got}
use Rattle.rules.specs.Entries.{accepted, PlayReply, play_shown, room_after}
use Rattle.rules.specs.declared.Played.{Played}
use Rattle.rules.specs.declared.Verdict.{Verdict}
use Rattle.nodes.specs.declared.head.Head.{Head}
use Rattle.loading.specs.Held.{SheetHeld}

-- the text is an accepted sheet, which the table holds with what is set up before its tree
pub record ReadyHeld (text : Bytes) (t : List ℕ) (h : Head) : Type 0 where
  pub held : SheetHeld text t h
  pub is_accepted : accepted least_workspace text ≡ got held.sheet

-- the text is refused, or that
abbrev pub ReadyReply : Bytes → code.Result Head Verdict → List ℕ → Type 0
ReadyReply text (code.Ok h) t = ReadyHeld text t h
ReadyReply text (code.Err v) t = accepted least_workspace text ≡ refused v

-- some text is such a one
pub record SomeReady (t : List ℕ) (h : Head) : Type 0 where
  pub text : Bytes
  pub ready : ReadyHeld text t h

-- the reply that is handed back, and the room after it
pub record PlayedKept (o : PlayReply) (room : List ℕ) (r : Played) (room' : List ℕ) : Type 0 where
  pub reply_is : r ≡ play_shown o
  pub room_is : room' ≡ room_after o.answers room
