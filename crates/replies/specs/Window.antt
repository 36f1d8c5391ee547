-- The bytes of the input that were read and not yet taken, and how they go on.
use Rattle.std.specs.Prelude.{◌≡◌, ℕ, ◌-◌, ◌<◌, ◌++◌, take, drop}
use Rattle.rules.specs.Text.{Bytes}
use Rattle.requests.specs.Sent.{NoneLies}
use Rattle.replies.specs.Answers.{RepliesTo}
use Rattle.replies.specs.declared.window.Window.{Window}

-- the bytes of a buffer from a place up to another
abbrev pub between : Bytes → (start end : ℕ) → Bytes
between buffer start end = take (end - start) (drop start buffer)

abbrev pub bytes_of : Window → Bytes
bytes_of w = between w.buffer w.start w.end

-- the bytes are the same, and the buffer has a place behind them
pub record PlaceBehind (w w' : Window) : Type 0 where
  pub same : bytes_of w' ≡ bytes_of w
  pub place : w'.end < 131072

-- bytes were read behind those of the window, or none
pub record ReadBehind (w w' : Window) : Type 0 where
  pub more : Bytes
  pub behind : bytes_of w' ≡ bytes_of w ++ more

-- requests were taken from the front of the window
pub record TakenFrom (w : Window) (left : Bytes) : Type 0 where
  pub asked : Bytes
  pub said : Bytes
  pub answers : RepliesTo asked said
  pub before : bytes_of w ≡ asked ++ left

-- and bytes were read behind what is left, or none
pub record WentOn (w w' : Window) : Type 0 where
  pub left : Bytes
  pub more : Bytes
  pub taken : TakenFrom w left
  pub after : bytes_of w' ≡ left ++ more

-- or they end, and no request lies whole at the front of what is left
pub record RequestsEnd (w : Window) : Type 0 where
  pub left : Bytes
  pub taken : TakenFrom w left
  pub none : NoneLies left
