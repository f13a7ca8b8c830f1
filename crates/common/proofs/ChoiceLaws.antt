-- Choices: what is chosen where the test holds and where it does not, and what was tested where something is chosen.
use Rattle.std.proofs.Common.{◌≡◌, refl, Bool, true, false, ◌⊎◌, inl, inr, ℕ, ◌<◌, ◌≤◌, ltb, eqb, ltb-true, ltb-false, lt-ltb, le-ltb, eqb-true, eq-eqb, ne_eqb, arith}
use Rattle.std.proofs.lemmas.Bool.Decides.{nat_tests}
use borrow.Author.Tests.{eqb-false}
use Rattle.common.specs.Choice.{if_true, if_lt, if_eq}
use Rattle.common.proofs.BoolLaws.{either}

module _ {A : Type 0} (b : Bool) (x y : A) {r : A} where
  pub true-then : b ≡ true → r ≡ x → r ≡ if_true b x y
  unfolding if_true
  true-then e h = rw e h

  pub true-else : b ≡ false → r ≡ y → r ≡ if_true b x y
  unfolding if_true
  true-else e h = rw e h

  pub true-cases : if_true b x y ≡ r → ((b ≡ true) × (x ≡ r)) ⊎ ((b ≡ false) × (y ≡ r))
  unfolding if_true
  true-cases h = go (either b)
    where
      go : (b ≡ true) ⊎ (b ≡ false) → ((b ≡ true) × (x ≡ r)) ⊎ ((b ≡ false) × (y ≡ r))
      go (inl e) = inl (e, rw e at h)
      go (inr e) = inr (e, rw e at h)

module _ {A : Type 0} (a b : ℕ) (x y : A) {r : A} where
  pub lt-then : a < b → r ≡ x → r ≡ if_lt a b x y
  unfolding if_lt
  lt-then l h = rw (lt-ltb a b l) h

  pub lt-else : b ≤ a → r ≡ y → r ≡ if_lt a b x y
  unfolding if_lt
  lt-else l h = rw (le-ltb a b l) h

  pub lt-cases : if_lt a b x y ≡ r → ((a < b) × (x ≡ r)) ⊎ ((b ≤ a) × (y ≡ r))
  unfolding if_lt
  lt-cases h = go (either (ltb a b))
    where
      go : (ltb a b ≡ true) ⊎ (ltb a b ≡ false) → ((a < b) × (x ≡ r)) ⊎ ((b ≤ a) × (y ≡ r))
      go (inl e) = inl (ltb-true a b e, rw e at h)
      go (inr e) = inr (ltb-false a b e, rw e at h)

  pub eq-then : a ≡ b → r ≡ x → r ≡ if_eq a b x y
  unfolding if_eq
  eq-then e h = rw (eq-eqb a b e) h

  pub eq-else : (a ≡ b → ⊥) → r ≡ y → r ≡ if_eq a b x y
  unfolding if_eq
  eq-else n h = rw (ne_eqb a b n) h

  pub eq-cases : if_eq a b x y ≡ r → ((a ≡ b) × (x ≡ r)) ⊎ ((a ≡ b → ⊥) × (y ≡ r))
  unfolding if_eq
  eq-cases h = go (either (eqb a b))
    where
      go : (eqb a b ≡ true) ⊎ (eqb a b ≡ false) → ((a ≡ b) × (x ≡ r)) ⊎ ((a ≡ b → ⊥) × (y ≡ r))
      go (inl e) = inl (eqb-true a b e, rw e at h)
      go (inr e) = inr (eqb-false a b e, rw e at h)

-- What each choice tells, for `grind`: it finds its way through a model by the tests that the code made.
module _ {A : Type 0} where
  pub true_tells : (b : Bool) (x y : A) → ((if_true b x y ≡ x) × (b ≡ true)) ⊎ ((if_true b x y ≡ y) × (b ≡ false))
  unfolding if_true
  true_tells true x y = inl (refl, refl)
  true_tells false x y = inr (refl, refl)

  pub lt_tells : (a b : ℕ) (x y : A) → ((if_lt a b x y ≡ x) × (a < b)) ⊎ ((if_lt a b x y ≡ y) × (b ≤ a))
  unfolding if_lt
  lt_tells a b x y = grind (arith, nat_tests)

  pub eq_tells : (a b : ℕ) (x y : A) → ((if_eq a b x y ≡ x) × (a ≡ b)) ⊎ ((if_eq a b x y ≡ y) × (a ≡ b → ⊥))
  unfolding if_eq
  eq_tells a b x y = grind (arith, nat_tests)

pub ruleset choices = (true_tells, lt_tells, eq_tells)
