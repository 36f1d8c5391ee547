-- The requests that lie in some bytes.
use Rattle.std.specs.Prelude.{Result, Ok, Err, ◌≡◌, ℕ, ◌+◌, ◌<◌, ◌≤◌, List, ◌∷◌, ◌++◌, length, get_or, take}
use Rattle.rules.specs.Text.{Bytes}
use Rattle.requests.specs.Request.{LineOf}
use Rattle.requests.specs.declared.Request.{Request}
use Rattle.requests.specs.declared.Found.{Found}
use Rattle.requests.specs.declared.Unfound.{Unfound}

-- a request as it is sent: its line, and the text of its sheet
pub record Sent : Type 0 where
  pub line : Bytes
  pub numbers : List ℕ
  pub request : Request
  pub text : Bytes
  pub asked : LineOf line numbers request
  pub size : length text ≡ request.bytes

-- the bytes of a request: the line, a line feed, and the text
abbrev pub sent : Sent → Bytes
sent s = s.line ++ 10 ∷ s.text

-- no request lies whole at the front of the bytes
abbrev pub NoneLies : Bytes → Type 0
NoneLies bytes = (s : Sent) (rest : Bytes) → ¬ (bytes ≡ sent s ++ rest)

-- whatever follows, the bytes do not begin with a request
abbrev pub NoneBegins : Bytes → Type 0
NoneBegins bytes = (s : Sent) (after rest : Bytes) → ¬ (bytes ++ after ≡ sent s ++ rest)

-- the first line of the bytes ends at a line feed
pub record FirstLineEnd (bytes : Bytes) (end : ℕ) : Type 0 where
  pub inside : end < length bytes
  pub feed : get_or bytes end 0 ≡ 10
  pub before : (j : ℕ) → j < end → ¬ (get_or bytes j 0 ≡ 10)

-- a request at the front of the bytes, whose text begins at a place
pub record WholeIn (bytes : Bytes) (numbers : List ℕ) (r : Request) (text : ℕ) : Type 0 where
  pub end : ℕ
  pub first : FirstLineEnd bytes end
  pub line : LineOf (take end bytes) (take r.count numbers) r
  pub after : text ≡ end + 1
  pub fits : text + r.bytes ≤ length bytes

-- the bytes end in a line that may go on, or in the text of a request
pub data PartialIn (bytes : Bytes) : Type 0 where
  in_line : length bytes ≤ 4437 → ((j : ℕ) → j < length bytes → ¬ (get_or bytes j 0 ≡ 10)) → PartialIn bytes
  in_text : (end : ℕ) (ns : List ℕ) (r : Request) → FirstLineEnd bytes end → LineOf (take end bytes) ns r → length bytes < end + 1 + r.bytes → PartialIn bytes

-- the first line is no request's, or goes on where the longest of a request ends
pub data MalformedIn (bytes : Bytes) : Type 0 where
  no_request : (end : ℕ) → FirstLineEnd bytes end → ((ns : List ℕ) (r : Request) → ¬ LineOf (take end bytes) ns r) → MalformedIn bytes
  too_long : 4437 < length bytes → ((j : ℕ) → j ≤ 4437 → ¬ (get_or bytes j 0 ≡ 10)) → MalformedIn bytes

-- why no request was found
abbrev pub UnfoundIn : Bytes → Unfound → Type 0
UnfoundIn bytes Unfound.Partial = PartialIn bytes
UnfoundIn bytes Unfound.Malformed = MalformedIn bytes

-- the first request of the bytes was found; or there is none
abbrev pub FoundIn : Bytes → List ℕ → Result Found Unfound → Type 0
FoundIn bytes numbers (Ok f) = WholeIn bytes numbers f.request f.text
FoundIn bytes numbers (Err u) = UnfoundIn bytes u
