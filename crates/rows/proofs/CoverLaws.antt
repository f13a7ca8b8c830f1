-- One row in another: the test is true exactly when every configuration of the one is in the other.
use Rattle.std.proofs.Common.{◌≡◌, refl, sym, subst, true, false, true≢false, ◌⊎◌, inl, inr, ◌↔◌, List, ℕ, zero, suc, ◌<◌, arith, eqb, ltb, eqb-true, ltb-true, ltb-false}
use mathlib.Core.Logic.Iff
use borrow.Author.Tests.{eqb-false}
use Rattle.common.proofs.BoolLaws.{either}
use Rattle.common.proofs.ChoiceLaws.{true-then, true-cases, eq-then, eq-cases}
use Rattle.meaning.specs.Systems.{Config}
use Rattle.meaning.specs.Products.{Contained}
use Rattle.meaning.specs.Rows.{InRow}
use Rattle.meaning.proofs.ContainmentLaws.{contained-none}
use Rattle.meaning.proofs.RowLaws.{row-contained}
use Rattle.atoms.specs.Products.{product}
use Rattle.atoms.specs.Contained.{contained}
use Rattle.atoms.proofs.AtomLaws.{atoms-of}
use Rattle.atoms.proofs.ContainedLaws.{contained-iff, contained-self}
use Rattle.rows.specs.Rows.{Row, meant_row, RowOf, each_contained, covers}

-- The test over the channels is true exactly when it is at each channel.
pub each-iff : (n : ℕ) (p q : ℕ → List ℕ) → (each_contained n p q ≡ true) ↔ ((c : ℕ) → c < n → contained (p c) (q c) ≡ true)
unfolding each_contained
each-iff n p q = (there n, back n)
  where
    there : (n : ℕ) → each_contained n p q ≡ true → (c : ℕ) → c < n → contained (p c) (q c) ≡ true
    there zero e c l = absurd (omega arith)
    there (suc n) e c l = go (true-cases _ _ _ e) (either (eqb c n)) (there n)
      where
        go : ((contained (p n) (q n) ≡ true) × (each_contained n p q ≡ true)) ⊎ ((contained (p n) (q n) ≡ false) × (false ≡ true)) → (eqb c n ≡ true) ⊎ (eqb c n ≡ false)
            → (each_contained n p q ≡ true → (c : ℕ) → c < n → contained (p c) (q c) ≡ true) → contained (p c) (q c) ≡ true
        go (inr r) x ih = absurd (true≢false (sym r.1))
        go (inl r) (inl x) ih = subst (λ (d : ℕ). contained (p d) (q d) ≡ true) (sym (eqb-true c n x)) r.0
        go (inl r) (inr x) ih = let k = eqb-false c n x in ih r.1 c (omega arith)

    back : (n : ℕ) → ((c : ℕ) → c < n → contained (p c) (q c) ≡ true) → each_contained n p q ≡ true
    back zero f = refl
    back (suc n) f = sym (true-then _ _ _ (f n (omega arith)) (sym (back n (λ c l. f c (omega arith)))))

module _ (n k : ℕ) (r s : Row) (ro : RowOf n k r) (so : RowOf n k s) where
  -- Past the channels there is nothing to contain.
  channels-iff : ((c : ℕ) → c < n → contained (r.products c) (s.products c) ≡ true) ↔ ((c : ℕ) → Contained (product (r.products c)) (product (s.products c)))
  channels-iff = (λ f c. go c f (either (ltb c n)), λ f c l. (at c).1 (f c))
    where
      at : (c : ℕ) → (contained (r.products c) (s.products c) ≡ true) ↔ Contained (product (r.products c)) (product (s.products c))
      at c = contained-iff (r.products c) (s.products c) (atoms-of k (r.products c) (ro.atoms c)) (atoms-of k (s.products c) (so.atoms c))

      go : (c : ℕ) → ((c : ℕ) → c < n → contained (r.products c) (s.products c) ≡ true) → (ltb c n ≡ true) ⊎ (ltb c n ≡ false)
          → Contained (product (r.products c)) (product (s.products c))
      go c f (inl x) = (at c).0 (f c (ltb-true c n x))
      go c f (inr x) = rw (ro.none_past c (ltb-false c n x)) (contained-none (product (s.products c)))

  -- ROWS: s contains r exactly when each configuration of r is one of s.
  pub covers-iff : (covers n s r ≡ true) ↔ ((x : Config) → InRow (meant_row r) x → InRow (meant_row s) x)
  unfolding covers
  covers-iff = Iff.trans states (Iff.symm (row-contained (meant_row r) (meant_row s)))
    where
      states : (covers n s r ≡ true) ↔ ((r.state ≡ s.state) × ((c : ℕ) → Contained (product (r.products c)) (product (s.products c))))
      states = (λ e. there (eq-cases _ _ _ _ e), λ h. sym (eq-then _ _ _ _ h.0 (sym ((each-iff n _ _).1 (channels-iff.1 h.1)))))
        where
          there : ((r.state ≡ s.state) × (each_contained n r.products s.products ≡ true)) ⊎ ((r.state ≡ s.state → ⊥) × (false ≡ true))
              → (r.state ≡ s.state) × ((c : ℕ) → Contained (product (r.products c)) (product (s.products c)))
          there (inl h) = (h.0, channels-iff.0 ((each-iff n _ _).0 h.1))
          there (inr h) = absurd (true≢false (sym h.1))

-- A row contains itself.
pub covers_self : (n : ℕ) (r : Row) → covers n r r ≡ true
unfolding covers
covers_self n r = sym (eq-then _ _ _ _ refl (sym ((each-iff n r.products r.products).1 (λ c l. contained-self (r.products c)))))
