-- The first element of a list that passes a test, and whether there is one.
use Rattle.std.specs.Prelude.{Bool, true, false, List, [], ◌∷◌, ℕ, ◌+◌, eqb}
use Rattle.std.proofs.Math.Option.{Option, none, some}
use Rattle.common.specs.Choice.{if_true}

module _ {A : Type 0} where
  -- Some element passes.
  unfoldable pub any_of : (A → Bool) → List A → Bool
  any_of P [] = false
  any_of P (x ∷ l) = if_true (P x) true (any_of P l)

  -- The place of the first that passes, where the list starts at place i.
  unfoldable pub first_place : (A → Bool) → List A → ℕ → Option ℕ
  first_place P [] i = none
  first_place P (x ∷ l) i = if_true (P x) (some i) (first_place P l (i + 1))

  -- The place of the first that gives something, and what it gives.
  unfoldable pub first_with : (A → Option ℕ) → List A → ℕ → Option (ℕ × ℕ)
  first_with f [] i = none
  first_with f (x ∷ l) i = elim (f x) [ none ↦ first_with f l (i + 1) | some j ↦ some (i, j) ]

-- The number is in the list.
abbrev pub is_in : ℕ → List ℕ → Bool
is_in x l = any_of (eqb x) l
