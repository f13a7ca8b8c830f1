-- The end of a word: its last message, and all of one message that stand there.
use mathlib.Core.Path.{◌≡◌, refl, sym, ap, subst, ◌∙◌}
use mathlib.Core.Bool.{true, false, true≢false}
use mathlib.Core.Logic.{◌⊎◌, inl, inr}
use mathlib.Core.List.{[], ◌∷◌, ◌++◌, append_assoc, append-nil, append_cancel_right}
use Prim.Native.Nat.{ℕ, zero, suc, ◌-◌}
use native.Mathlib.Omega.{arith}
use lib.Dec.{eqb}
use lib.ListN.{length, replicate}
use borrow.Author.Tests.{eqb-true, eqb-false, eq-eqb}
use Rattle.common.specs.Choice.{if_eq}
use Rattle.common.proofs.BoolLaws.{either, clash}
use Rattle.common.proofs.ChoiceLaws.{eq-then, eq-else}
use Rattle.meaning.specs.Words.{Word, ◌⪯◌}
use Rattle.meaning.specs.Products.{Joined}
use Rattle.meaning.proofs.WordLaws.{⪯-same, ⪯-trans, ⪯-front, ⪯-of-one, ⪯-split, replicate-snoc}
use Rattle.findings.specs.Rebuild.{ends_with, all_but_last, stripped}

-- A word that ends in m is its front and m.
pub ends_last : (m : ℕ) (w : Word) → ends_with m w ≡ true → w ≡ all_but_last w ++ (m ∷ [])
unfolding ends_with all_but_last
ends_last m [] e = absurd (true≢false (sym e))
ends_last m (x ∷ []) e = ap (◌∷ []) (eqb-true x m e)
ends_last m (x ∷ y ∷ w) e = ap (x ∷◌) (ends_last m (y ∷ w) e)

pub snoc-ends : (m : ℕ) (u : Word) → ends_with m (u ++ (m ∷ [])) ≡ true
unfolding ends_with
snoc-ends m [] = eq-eqb m m refl
snoc-ends m (x ∷ []) = eq-eqb m m refl
snoc-ends m (x ∷ y ∷ u) = snoc-ends m (y ∷ u)

-- ---- stripping

-- What is left, and the rest is all m.
pub strip-whole : (m : ℕ) (w : Word) → w ≡ stripped m w ++ replicate (length w - length (stripped m w)) m
unfolding stripped
strip-whole m [] = refl
strip-whole m (x ∷ w) = go (stripped m w) (strip-whole m w) (either (eqb x m))
  where
    Whole : Word → Type 0
    Whole s = x ∷ w ≡ s ++ replicate (suc (length w) - length s) m

    go : (s : Word) → w ≡ s ++ replicate (length w - length s) m → (eqb x m ≡ true) ⊎ (eqb x m ≡ false)
        → Whole (elim s as (λ q. Word) [ [] ↦ if_eq x m [] (x ∷ []) | y ∷ v ↦ x ∷ y ∷ v ])
    go [] e (inl q) =
        let k : length w - 0 ≡ length w = omega arith in
        let n : suc (length w) - 0 ≡ suc (length w) = omega arith in
        subst Whole (eq-then _ _ _ _ (eqb-true x m q) refl) (ap (◌∷ w) (eqb-true x m q) ∙ ap (m ∷◌) (e ∙ ap (λ (i : ℕ). replicate i m) k) ∙ ap (λ (i : ℕ). replicate i m) (sym n))
    go [] e (inr q) =
        let n : suc (length w) - 1 ≡ length w - 0 = omega arith in
        subst Whole (eq-else _ _ _ _ (eqb-false x m q) refl) (ap (x ∷◌) (e ∙ ap (λ (i : ℕ). replicate i m) (sym n)))
    go (y ∷ v) e q =
        let n : suc (length w) - suc (suc (length v)) ≡ length w - suc (length v) = omega arith in
        ap (x ∷◌) (e ∙ ap (λ (i : ℕ). y ∷ v ++ replicate i m) (sym n))

-- One m more at the end is stripped too, and a word that does not end in m stays.
pub strip-snoc : (m : ℕ) (w : Word) → stripped m (w ++ (m ∷ [])) ≡ stripped m w
unfolding stripped
strip-snoc m [] = sym (eq-then _ _ _ _ refl refl)
strip-snoc m (x ∷ w) = rw (strip-snoc m w)

pub strip-none : (m : ℕ) (w : Word) → ends_with m w ≡ false → stripped m w ≡ w
unfolding stripped ends_with
strip-none m [] e = refl
strip-none m (x ∷ []) e = sym (eq-else _ _ _ _ (eqb-false x m e) refl)
strip-none m (x ∷ y ∷ w) e = rw (strip-none m (y ∷ w) e)

-- What is left does not end in m.
pub strip-ends : (m : ℕ) (w : Word) → ends_with m (stripped m w) ≡ false
unfolding stripped ends_with
strip-ends m [] = refl
strip-ends m (x ∷ w) = go (stripped m w) (strip-ends m w) (either (eqb x m))
  where
    Ends : Word → Type 0
    Ends s = ends_with m s ≡ false

    go : (s : Word) → ends_with m s ≡ false → (eqb x m ≡ true) ⊎ (eqb x m ≡ false) → Ends (elim s as (λ q. Word) [ [] ↦ if_eq x m [] (x ∷ []) | y ∷ v ↦ x ∷ y ∷ v ])
    go [] e (inl q) = subst Ends (eq-then _ _ _ _ (eqb-true x m q) refl) refl
    go [] e (inr q) = subst Ends (eq-else _ _ _ _ (eqb-false x m q) refl) q
    go (y ∷ v) e q = e

-- ---- what losses leave of a word and m behind it

⪯-snoc : (v x : Word) (m : ℕ) → v ⪯ x ++ (m ∷ []) → (v ⪯ x) ⊎ ((u : Word) × (v ≡ u ++ (m ∷ [])) × (u ⪯ x))
⪯-snoc v x m l = go (⪯-of-one s.in_back)
  where
    s : Joined (◌⪯ x) (◌⪯ m ∷ []) v
    s = ⪯-split x (m ∷ []) l

    go : (s.back ≡ m ∷ []) ⊎ (s.back ≡ []) → (v ⪯ x) ⊎ ((u : Word) × (v ≡ u ++ (m ∷ [])) × (u ⪯ x))
    go (inl e) = inr (s.front, s.whole ∙ ap (s.front ++◌) e, s.in_front)
    go (inr e) = inl (⪯-trans (⪯-same (s.whole ∙ ap (s.front ++◌) e ∙ append-nil s.front)) s.in_front)

-- A word that does not end in m is left of x alone,
pub unended-⪯ : (v x : Word) (m : ℕ) → ends_with m v ≡ false → v ⪯ x ++ (m ∷ []) → v ⪯ x
unended-⪯ v x m e l = go (⪯-snoc v x m l)
  where
    go : (v ⪯ x) ⊎ ((u : Word) × (v ≡ u ++ (m ∷ [])) × (u ⪯ x)) → v ⪯ x
    go (inl k) = k
    go (inr r) = absurd (clash (subst (λ (q : Word). ends_with m q ≡ true) (sym r.1) (snoc-ends m r.0)) e)

-- and so it is of any number of m behind x;
pub unended-rounds : (v x : Word) (m k : ℕ) → ends_with m v ≡ false → v ⪯ x ++ replicate k m → v ⪯ x
unended-rounds v x m zero e l = ⪯-trans l (⪯-same (append-nil x))
unended-rounds v x m (suc k) e l = unended-rounds v x m k e (unended-⪯ v (x ++ replicate k m) m e (⪯-trans l (⪯-same (sym (append_assoc x (replicate k m) (m ∷ []) ∙ ap (x ++◌) (replicate-snoc m k))))))

-- of one that does, the front is.
pub ended-⪯ : (v x : Word) (m : ℕ) → ends_with m v ≡ true → v ⪯ x ++ (m ∷ []) → all_but_last v ⪯ x
ended-⪯ v x m e l = go (⪯-snoc v x m l)
  where
    go : (v ⪯ x) ⊎ ((u : Word) × (v ≡ u ++ (m ∷ [])) × (u ⪯ x)) → all_but_last v ⪯ x
    go (inl k) = ⪯-trans (⪯-trans (⪯-front (all_but_last v) (m ∷ [])) (⪯-same (sym (ends_last m v e)))) k
    go (inr r) = ⪯-trans (⪯-same (append_cancel_right (all_but_last v) r.0 (m ∷ []) (sym (ends_last m v e) ∙ r.1))) r.2

-- What is stripped was left of the word.
pub strip-⪯ : (m : ℕ) (w : Word) → stripped m w ⪯ w
strip-⪯ m w = ⪯-trans (⪯-front (stripped m w) (replicate (length w - length (stripped m w)) m)) (⪯-same (sym (strip-whole m w)))
