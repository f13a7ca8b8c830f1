-- What the search asks of rows and moves, whatever they are.
use Rattle.std.specs.Prelude.{Bool, ℕ}
use Rattle.std.proofs.Math.Option.{Option}

pub record Frame : Type 1 where
  -- A row.
  pub Row : Type 0
  -- How many moves there are.
  pub moves : ℕ
  -- The outcome of a move, by its number, from a row; none where it is impossible.
  pub outcome : Row → ℕ → Option Row
  -- The outcome is bad.
  pub bad : Row → Bool
  -- A row that contains an outcome.
  pub contains : Row → Row → Bool
  -- The outcome has more atoms than a row holds.
  pub wide : Row → Bool
