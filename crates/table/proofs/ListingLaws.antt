-- Listed values: how many, and which.
use Rattle.std.proofs.Common.{◌≡◌, refl, ap, sym, ◌∙◌, Bool, true, false, ◌⊎◌, inl, inr, ◌∷◌, ℕ, zero, suc, ◌+◌, ◌<◌, ◌≤◌, arith, length, eqb, eqb-true}
use mathlib.Core.Option.{some}
use mathlib.Core.List.Memᴰ
use mathlib.Core.List.{Memᴰ}
use lib.ListN.{get_elem?}
use borrow.Author.Tests.{eqb-false}
use Rattle.table.specs.Listing.{listed}

module _ {A : Type 0} (f : ℕ → A) where
  pub listed-length : (k i : ℕ) → length (listed f k i) ≡ k
  unfolding listed
  listed-length zero i = refl
  listed-length (suc k) i = ap suc (listed-length k (i + 1))

  -- What stands at j is f of i + j.
  pub listed_at : (k i j : ℕ) → j < k → get_elem? (listed f k i) j ≡ some (f (i + j))
  unfolding listed
  listed_at zero i j h = absurd (omega arith)
  listed_at (suc k) i zero h = ap (λ (n : ℕ). some (f n)) (omega arith)
  listed_at (suc k) i (suc j) h =
      listed_at k (i + 1) j (omega arith) ∙ ap (λ (n : ℕ). some (f n)) (omega arith)

  -- What is listed is f of one of the numbers, and f of each of them is listed.
  pub listed-member : (k i : ℕ) (a : A) → Memᴰ a (listed f k i) → (j : ℕ) × ((i ≤ j) × (j < i + k) × (a ≡ f j))
  unfolding listed
  listed-member zero i a m = absurd (Memᴰ.not-nil m)
  listed-member (suc k) i a m = go (listed-member k (i + 1) a) (Memᴰ.cases_cons m)
    where
      go : (Memᴰ a (listed f k (i + 1)) → (j : ℕ) × ((i + 1 ≤ j) × (j < i + 1 + k) × (a ≡ f j)))
          → (a ≡ f i) ⊎ Memᴰ a (listed f k (i + 1)) → (j : ℕ) × ((i ≤ j) × (j < i + suc k) × (a ≡ f j))
      go later (inl e) = (i, (omega arith, omega arith, e))
      go later (inr n) = let l = later n in (l.0, (omega arith, omega arith, l.1.2))

  pub member-listed : (k i j : ℕ) → i ≤ j → j < i + k → Memᴰ (f j) (listed f k i)
  unfolding listed
  member-listed zero i j l h = absurd (omega arith)
  member-listed (suc k) i j l h = go (member-listed k (i + 1) j) (eqb i j) refl
    where
      go : (i + 1 ≤ j → j < i + 1 + k → Memᴰ (f j) (listed f k (i + 1))) → (b : Bool) → eqb i j ≡ b → Memᴰ (f j) (f i ∷ listed f k (i + 1))
      go later true e = Memᴰ.head (ap f (sym (eqb-true i j e)))
      go later false e =
          let n : i ≡ j → ⊥ = eqb-false i j e in
          Memᴰ.tail (later (omega arith) (omega arith))
