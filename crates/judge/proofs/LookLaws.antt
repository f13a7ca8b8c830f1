-- The products of the rows that memory holds.
use Rattle.std.proofs.Common.{◌≡◌, refl, ap₂, ◌∙◌, List, ℕ, ◌+◌, ◌*◌, ◌<◌, length, get_or}
use Rattle.std.specs.List.{between}
use Rattle.std.proofs.lemmas.Slice.{between_is}
use Rattle.common.specs.Part.{part}
use Rattle.common.proofs.ChoiceLaws.{lt-then}
use Rattle.judge.specs.Look.{from_at, to_at, product_at, Range, Sized}

module _ (n : ℕ) (starts : List ℕ) (i c : ℕ) where
  -- k is the product's number.
  module _ (k : ℕ) (e : k ≡ i * n + c) where
    pub places-told : (get_or starts k 0 ≡ from_at n starts i c) × (get_or starts (k + 1) 0 ≡ to_at n starts i c)
    unfolding from_at to_at
    places-told = rw e (refl, refl)

    pub places-range : (atoms : List ℕ) (rows : ℕ) → Sized n starts atoms rows → i < rows → c < n → Range (get_or starts k 0) (get_or starts (k + 1) 0) (length atoms)
    places-range atoms rows s h z = rw (places-told.0, places-told.1) (s.ranges i c h z)

  pub product-read : (atoms : List ℕ) (from to : ℕ) → c < n → (from ≡ from_at n starts i c) × (to ≡ to_at n starts i c) → between from to atoms ≡ product_at n starts atoms i c
  unfolding product_at part
  product-read atoms from to z e = between_is atoms from to ∙ lt-then _ _ _ _ z (ap₂ (λ (x y : ℕ). part x y atoms) e.0 e.1)
