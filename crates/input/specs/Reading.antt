-- What is known of a place up to which bytes were read.
use Rattle.std.specs.Prelude.{ℕ, ◌≤◌}

-- The place n is not before a, and not past the end.
abbrev pub Between : ℕ → ℕ → ℕ → Type 0
Between a end n = (a ≤ n) × (n ≤ end)
