-- A chain of tests that comes to a good end: what each of its tests found.
use Rattle.std.proofs.Common.{◌≡◌, ◌⊎◌, inl, inr, ℕ, ◌<◌, ◌≤◌}
use Rattle.common.specs.Choice.{if_lt, if_eq}
use Rattle.common.proofs.ChoiceLaws.{lt-cases, eq-cases}

-- A fault, which is not the end that the chain comes to.
module _ {A : Type 0} {fault end : A} (differ : fault ≡ end → ⊥) (a b : ℕ) (next : A) where
  -- Where what is below is a fault: it is not below.
  pub below_fails : if_lt a b fault next ≡ end → (b ≤ a) × (next ≡ end)
  below_fails h = go (lt-cases _ _ _ _ h)
    where
      go : ((a < b) × (fault ≡ end)) ⊎ ((b ≤ a) × (next ≡ end)) → (b ≤ a) × (next ≡ end)
      go (inl e) = absurd (differ e.1)
      go (inr e) = e

  -- Where what is not below is a fault: it is below.
  pub below-passes : if_lt a b next fault ≡ end → (a < b) × (next ≡ end)
  below-passes h = go (lt-cases _ _ _ _ h)
    where
      go : ((a < b) × (next ≡ end)) ⊎ ((b ≤ a) × (fault ≡ end)) → (a < b) × (next ≡ end)
      go (inl e) = e
      go (inr e) = absurd (differ e.1)

  -- Where what differs is a fault: it is equal.
  pub equal-passes : if_eq a b next fault ≡ end → (a ≡ b) × (next ≡ end)
  equal-passes h = go (eq-cases _ _ _ _ h)
    where
      go : ((a ≡ b) × (next ≡ end)) ⊎ ((a ≡ b → ⊥) × (fault ≡ end)) → (a ≡ b) × (next ≡ end)
      go (inl e) = e
      go (inr e) = absurd (differ e.1)

  -- Where what is equal is a fault: it differs.
  pub equal-fails : if_eq a b fault next ≡ end → (a ≡ b → ⊥) × (next ≡ end)
  equal-fails h = go (eq-cases _ _ _ _ h)
    where
      go : ((a ≡ b) × (fault ≡ end)) ⊎ ((a ≡ b → ⊥) × (next ≡ end)) → (a ≡ b → ⊥) × (next ≡ end)
      go (inl e) = absurd (differ e.1)
      go (inr e) = e
