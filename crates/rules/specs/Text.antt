-- "The sheet": reading from the front of a text. A reader takes the bytes that are left, and gives what it read with the
-- bytes after it, or nothing where the text does not begin so.
use Rattle.std.specs.Prelude.{ℕ, ◌+◌, ◌*◌, ◌-◌, Bool, true, false, not, ◌&&◌, List, [], ◌∷◌, eqb, leb, if◌then◌else◌}
use Rattle.std.proofs.Math.Option.{Option, none, some}
use Prim.Native.Char.{code}
use Prim.Native.String as S

abbrev pub Bytes : Type 0
Bytes = List ℕ

abbrev pub Reader : Type 0 → Type 0
Reader A = Bytes → Option (A × Bytes)

infixl 5 ◌>>=◌
infixl 5 ◌>>◌
infixl 8 ◌or_else◌
-- one reader after another; nothing where either reads nothing
unfoldable pub bind : {A B : Type 0} → Option (A × Bytes) → (A → Reader B) → Option (B × Bytes)
bind none f = none
bind (some x) f = f x.0 x.1

abbrev pub ◌>>=◌ : {A B : Type 0} → Reader A → (A → Reader B) → Reader B
◌>>=◌ r f = λ t. bind (r t) f

abbrev pub ◌>>◌ : {A B : Type 0} → Reader A → Reader B → Reader B
◌>>◌ r s = λ t. bind (r t) (λ _. s)

-- reads nothing from the text, and gives a
unfoldable pub give : {A : Type 0} → A → Reader A
give a t = some (a, t)

-- fails where the test fails
unfoldable pub guard : Bool → Reader (Unit {0})
guard true t = some (tt, t)
guard false t = none

-- the second reader where the first fails
unfoldable pub ◌or_else◌ : {A : Type 0} → Reader A → Reader A → Reader A
◌or_else◌ r s = λ t. elim (r t) [ none ↦ s t | some x ↦ some x ]

-- any one byte
unfoldable pub any_byte : Reader ℕ
any_byte [] = none
any_byte (b ∷ t) = some (b, t)

-- one byte, which is b
unfoldable pub byte : ℕ → Reader (Unit {0})
byte b = do
  c ← any_byte
  guard (eqb c b)

-- the bytes of a word as it is printed
unfoldable pub word : S.String → Reader (Unit {0})
word S.[] = give tt
word (S.◌∷◌ c s) = byte (code c) >> word s

-- fields are parted by one tab
unfoldable pub tab : Reader (Unit {0})
tab = byte 9

-- each line ends in a line feed
unfoldable pub line_feed : Reader (Unit {0})
line_feed = byte 10

unfoldable pub is_digit : ℕ → Bool
is_digit b = leb 48 b && leb b 57

-- the longest beginning of the text that is all digits, and the text after it
unfoldable pub digits : Bytes → Bytes
digits [] = []
digits (b ∷ t) = if is_digit b then b ∷ digits t else []

unfoldable pub after_digits : Bytes → Bytes
after_digits [] = []
after_digits (b ∷ t) = if is_digit b then after_digits t else b ∷ t

-- the number that n and then the digits spell
unfoldable pub spelled : ℕ → Bytes → ℕ
spelled n [] = n
spelled n (d ∷ ds) = spelled (n * 10 + (d - 48)) ds

-- one digit at least, and no 0 in front of another
unfoldable pub well_spelled : Bytes → Bool
well_spelled [] = false
well_spelled (d ∷ []) = true
well_spelled (d ∷ e ∷ ds) = not (eqb d 48)

-- numbers are decimal without leading zeros (0 itself is `0`)
unfoldable pub number : Reader ℕ
number t = if well_spelled (digits t) then some (spelled 0 (digits t), after_digits t) else none

-- such a number, from lo to hi
unfoldable pub number_in : ℕ → ℕ → Reader ℕ
number_in lo hi = do
  n ← number
  guard (leb lo n && leb n hi)
  give n
