-- A part of a list: what a range of lent words holds.
use Rattle.std.specs.Prelude.{List, ℕ}
use Rattle.std.proofs.Math.Seq.{slice}

-- The elements from place f on, up to place t and without it. It stays shut, so that a goal says which range of which list is meant.
unfoldable pub part : ℕ → ℕ → List ℕ → List ℕ
part f t l = slice f t l
