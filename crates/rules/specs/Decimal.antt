-- Numbers as text, each printed from its highest digit.
use Rattle.std.specs.Prelude.{ℕ, zero, suc, ◌+◌, ◌/◌, ◌%◌, [], ◌∷◌, ◌++◌}
use Rattle.rules.specs.Text.{Bytes}

-- the digits of n from the highest, none where n is 0; `most` is as many as there can be
unfoldable pub leading : (most n : ℕ) → Bytes
leading zero n = []
leading (suc most) n = elim n [ zero ↦ [] | suc m ↦ leading most (suc m / 10) ++ (48 + suc m % 10) ∷ [] ]

-- the number in decimal without leading zeros (0 itself is `0`): the last digit follows those of the tenth part
unfoldable pub decimal : ℕ → Bytes
decimal n = leading n (n / 10) ++ (48 + n % 10) ∷ []
