-- A number in decimal digits.
use Rattle.std.specs.Prelude.{List, [], ◌∷◌, ◌++◌, ℕ, zero, suc, ◌+◌, ◌/◌, ◌%◌}
use Rattle.common.specs.Choice.{if_lt}

-- The digit of a number below 10, in ASCII.
abbrev pub digit : ℕ → ℕ
digit d = 48 + d

-- The digits of n, the last one split off at most k times.
unfoldable pub digits_of : ℕ → ℕ → List ℕ
digits_of zero n = digit (n % 10) ∷ []
digits_of (suc k) n = if_lt n 10 (digit n ∷ []) (digits_of k (n / 10) ++ (digit (n % 10) ∷ []))

-- The digits of n without leading zeros; 0 has one digit. No number has more digits than it counts, so n turns are enough.
unfoldable pub number_text : ℕ → List ℕ
number_text n = digits_of n n
