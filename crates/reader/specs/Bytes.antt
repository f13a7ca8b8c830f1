-- Numbers as they stand in the bytes.
use Rattle.std.specs.Prelude.{List, ℕ, ◌+◌, ◌*◌, get_or}

-- The byte at a place.
abbrev pub byte_at : List ℕ → ℕ → ℕ
byte_at t at = get_or t at 0

-- The number in the two bytes at a place, low byte first.
unfoldable pub number_at : List ℕ → ℕ → ℕ
number_at t at = byte_at t at + byte_at t (at + 1) * 256
