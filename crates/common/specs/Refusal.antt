-- Refusals, in the numbers that every caller sees.
use Rattle.std.specs.Prelude.{ℕ}

-- A refusal: its number (1 to 10), the input that is refused (0 table, 1 list, 2 run, 3 lent buffer or work row), and the place in it.
pub record Refusal : Type 0 where
  pub number : ℕ
  pub input : ℕ
  pub place : ℕ
