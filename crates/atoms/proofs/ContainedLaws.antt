-- Containment of lists of masks is containment of their words.
use Rattle.std.proofs.Common.{◌≡◌, refl, sym, ◌∙◌, Bool, true, false, ◌⊎◌, inl, inr, ◌↔◌, List, [], ◌∷◌, ℕ, ◌+◌, ◌<◌, ◌≤◌, arith, length, get_or}
use mathlib.Core.Logic.Iff
use Rattle.common.specs.Part.{part}
use Rattle.common.proofs.BoolLaws.{either, clash}
use Rattle.common.proofs.ChoiceLaws.{true-then, true-else}
use Rattle.common.proofs.PartLaws.{part_none, part-cons}
use Rattle.meaning.specs.Products.{Contained}
use Rattle.meaning.proofs.ContainmentLaws.{contained-none, contained-nil, contained-star, contained-single, contained-beyond}
use Rattle.atoms.specs.Masks.{star, sub, IsAtom, Atoms}
use Rattle.atoms.specs.Products.{product}
use Rattle.atoms.specs.Contained.{against, contained}
use Rattle.atoms.proofs.MaskLaws.{sub-below, sub-beyond, sub_self}

-- ---- the steps of the test

module _ (a b : ℕ) (p q : List ℕ) where
  -- q's head does not have all of a: it is dropped.
  pub drop-there : sub a b ≡ false → contained (a ∷ p) q ≡ contained (a ∷ p) (b ∷ q)
  unfolding contained against
  drop-there x = true-else _ _ _ x refl

  -- It does and is a star: a is dropped.
  pub drop_here : sub a b ≡ true → star b ≡ true → contained p (b ∷ q) ≡ contained (a ∷ p) (b ∷ q)
  unfolding contained against
  drop_here x y = true-then _ _ _ x (true-then _ _ _ y refl)

  -- It does and is a single: both are dropped.
  pub drop-both : sub a b ≡ true → star b ≡ false → contained p q ≡ contained (a ∷ p) (b ∷ q)
  unfolding contained against
  drop-both x y = true-then _ _ _ x (true-else _ _ _ y refl)

pub none_here : (q : List ℕ) → true ≡ contained [] q
unfolding contained
none_here q = refl

pub none-there : (a : ℕ) (p : List ℕ) → false ≡ contained (a ∷ p) []
unfolding contained against
none-there a p = refl

-- ---- and what they mean

-- An equation of tests, as one of what they say.
same_test : {s t : Bool} → s ≡ t → (s ≡ true) ↔ (t ≡ true)
same_test e = (λ x. sym e ∙ x, λ x. e ∙ x)

-- The head a of p against each head of q, where the rest of p is settled for every rest of q.
heads-iff : (a : ℕ) (p q : List ℕ) → IsAtom a → Atoms q → ((q : List ℕ) → Atoms q → (contained p q ≡ true) ↔ Contained (product p) (product q))
    → (contained (a ∷ p) q ≡ true) ↔ Contained (product (a ∷ p)) (product q)
heads-iff a p [] pa pq rest = (λ e. absurd (clash e (sym (none-there a p))), λ f. absurd (contained-nil pa.proper f))
heads-iff a p (b ∷ q) pa pq rest = go (heads-iff a p q pa pq.1 rest) (either (sub a b)) (either (star b))
  where
    go : ((contained (a ∷ p) q ≡ true) ↔ Contained (product (a ∷ p)) (product q)) → (sub a b ≡ true) ⊎ (sub a b ≡ false) → (star b ≡ true) ⊎ (star b ≡ false)
        → (contained (a ∷ p) (b ∷ q) ≡ true) ↔ Contained (product (a ∷ p)) (product (b ∷ q))
    go ih (inr x) y = Iff.trans (same_test (sym (drop-there a b p q x))) (Iff.trans ih (Iff.symm (contained-beyond pa.proper (sub-beyond a b pa.small x))))
    go ih (inl x) (inl y) = Iff.trans (same_test (sym (drop_here a b p q x y))) (Iff.trans (rest (b ∷ q) pq) (Iff.symm (contained-star (sub-below a b x) y)))
    go ih (inl x) (inr y) = Iff.trans (same_test (sym (drop-both a b p q x y))) (Iff.trans (rest q pq.1) (Iff.symm (contained-single pa.proper (sub-below a b x) y)))

-- CONTAINED: the test is true exactly when every word of p is a word of q.
pub contained-iff : (p q : List ℕ) → Atoms p → Atoms q → (contained p q ≡ true) ↔ Contained (product p) (product q)
contained-iff [] q pp pq = (λ e. contained-none (product q), λ f. sym (none_here q))
contained-iff (a ∷ p) q pp pq = heads-iff a p q pp.0 pq (λ r pr. contained-iff p r pp.1 pr)

-- ---- the steps over ranges, as the code takes them

pub range_none : (p q : List ℕ) (f t : ℕ) → f ≡ t → true ≡ contained (part f t p) q
range_none p q f t e = rw (part_none f t p (omega arith)) (none_here q)

module _ (p q : List ℕ) (pa pe qa qe : ℕ) (hp : pa < pe) (lp : pe ≤ length p) where
  pub range-there : qa ≡ qe → false ≡ contained (part pa pe p) (part qa qe q)
  range-there e = rw (part_none qa qe q (omega arith), part-cons pa pe p hp lp) (none-there _ _)

  module _ (hq : qa < qe) (lq : qe ≤ length q) {r : Bool} where
    pub range-drop-there : sub (get_or p pa 0) (get_or q qa 0) ≡ false → r ≡ contained (part pa pe p) (part (qa + 1) qe q) → r ≡ contained (part pa pe p) (part qa qe q)
    range-drop-there x e = e ∙ rw (part-cons qa qe q hq lq, part-cons pa pe p hp lp) (drop-there _ _ _ _ x)

    pub range-drop-here : sub (get_or p pa 0) (get_or q qa 0) ≡ true → star (get_or q qa 0) ≡ true → r ≡ contained (part (pa + 1) pe p) (part qa qe q)
        → r ≡ contained (part pa pe p) (part qa qe q)
    range-drop-here x y e = e ∙ rw (part-cons qa qe q hq lq, part-cons pa pe p hp lp) (drop_here _ _ _ _ x y)

    pub range-drop-both : sub (get_or p pa 0) (get_or q qa 0) ≡ true → star (get_or q qa 0) ≡ false → r ≡ contained (part (pa + 1) pe p) (part (qa + 1) qe q)
        → r ≡ contained (part pa pe p) (part qa qe q)
    range-drop-both x y e = e ∙ rw (part-cons qa qe q hq lq, part-cons pa pe p hp lp) (drop-both _ _ _ _ x y)

-- ---- a product contains itself, by the test alone

-- What has one atom more in front contains what it contained, if that holds for the rest of p.
contained-tail : (a : ℕ) (p q : List ℕ) → ((b : ℕ) (q : List ℕ) → contained p q ≡ true → contained p (b ∷ q) ≡ true) → contained (a ∷ p) q ≡ true → contained p q ≡ true
contained-tail a p [] wider e = absurd (clash e (sym (none-there a p)))
contained-tail a p (b ∷ q) wider e = go (contained-tail a p q wider) (either (sub a b)) (either (star b))
  where
    go : (contained (a ∷ p) q ≡ true → contained p q ≡ true) → (sub a b ≡ true) ⊎ (sub a b ≡ false) → (star b ≡ true) ⊎ (star b ≡ false) → contained p (b ∷ q) ≡ true
    go ih (inl x) (inl y) = drop_here a b p q x y ∙ e
    go ih (inl x) (inr y) = wider b q (drop-both a b p q x y ∙ e)
    go ih (inr x) y = wider b q (ih (drop-there a b p q x ∙ e))

contained-wider : (p : List ℕ) (b : ℕ) (q : List ℕ) → contained p q ≡ true → contained p (b ∷ q) ≡ true
contained-wider [] b q e = sym (none_here (b ∷ q))
contained-wider (a ∷ p) b q e = go (contained-wider p) (either (sub a b)) (either (star b))
  where
    go : ((b : ℕ) (q : List ℕ) → contained p q ≡ true → contained p (b ∷ q) ≡ true) → (sub a b ≡ true) ⊎ (sub a b ≡ false) → (star b ≡ true) ⊎ (star b ≡ false) → contained (a ∷ p) (b ∷ q) ≡ true
    go wider (inl x) (inl y) = sym (drop_here a b p q x y) ∙ wider b q (contained-tail a p q wider e)
    go wider (inl x) (inr y) = sym (drop-both a b p q x y) ∙ contained-tail a p q wider e
    go wider (inr x) y = sym (drop-there a b p q x) ∙ e

pub contained-self : (p : List ℕ) → contained p p ≡ true
contained-self [] = sym (none_here [])
contained-self (a ∷ p) = go (contained-self p) (either (star a))
  where
    go : contained p p ≡ true → (star a ≡ true) ⊎ (star a ≡ false) → contained (a ∷ p) (a ∷ p) ≡ true
    go ih (inl y) = sym (drop_here a a p p (sub_self a) y) ∙ contained-wider p a p ih
    go ih (inr y) = sym (drop-both a a p p (sub_self a) y) ∙ ih

pub ruleset head_tells = (range_none, range-there, range-drop-there, range-drop-here, range-drop-both)
