-- The product after a receive (000, lemma 6.1).
use Rattle.std.specs.Prelude.{List, [], ◌∷◌, ℕ}
use Rattle.std.proofs.Math.Option.{Option, none, some}
use Rattle.common.specs.Choice.{if_true}
use Rattle.atoms.specs.Masks.{star, has}

-- After a receive of m: all before the first atom that has m is dropped, and that atom too if it is single; none where no atom has m.
unfoldable pub received : ℕ → List ℕ → Option (List ℕ)
received m [] = none
received m (a ∷ p) = if_true (has a m) (some (if_true (star a) (a ∷ p) p)) (received m p)
