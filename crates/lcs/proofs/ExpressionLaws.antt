-- The calls on products: the test of their words, and what each answers and leaves.
use Rattle.std.proofs.Common.{◌≡◌, refl, sym, ap, ◌∙◌, true, false, cond, true≢false, ◌⊎◌, inl, inr, List, [], ◌∷◌, ◌++◌, ◌&&◌, drop, ℕ, ◌-◌, ◌<◌, ◌≤◌, arith, length, take, zero-add}
use mathlib.Core.Option.{none, some}
use Rattle.common.specs.Choice.{if_true}
use Rattle.common.specs.Front.{front}
use Rattle.common.specs.Part.{part}
use Rattle.common.proofs.ChoiceLaws.{choices, true-then, true-else, true-cases, lt-then, lt-else, lt-cases}
use Rattle.common.proofs.PartLaws.{part-take, part-all, part_length}
use Rattle.common.proofs.CopyLaws.{part-drop}
use Rattle.atoms.specs.Masks.{Atoms, atom_test}
use Rattle.std.specs.List.{list_all}
use Rattle.atoms.specs.Receive.{received}
use Rattle.atoms.specs.Normal.{normal}
use Rattle.atoms.specs.Ranges.{Normalised}
use Rattle.atoms.proofs.AtomLaws.{atom-test}
use Rattle.atoms.proofs.MaskLaws.{has-over}
use Rattle.atoms.proofs.ReceiveLaws.{receive-none, receive-past, received-end}
use Rattle.lcs.specs.Expressions.{all_atoms, is_product, NormalFront, left_count, left_front, receive_answer, receive_leaves}

-- ---- each word is an atom

pub all-listed : (p : List ℕ) → list_all (atom_test 15) p ≡ all_atoms p
unfolding all_atoms if_true
all-listed [] = refl
all-listed (a ∷ p) = elim (atom_test 15 a) as (λ b. (b && list_all (atom_test 15) p) ≡ cond b (all_atoms p) false) [ true ↦ all-listed p | false ↦ refl ]

all-atoms : (p : List ℕ) → all_atoms p ≡ true → Atoms p
unfolding all_atoms
all-atoms [] e = tt
all-atoms (a ∷ p) e = go (all-atoms p) (true-cases _ _ _ e)
  where
    go : (all_atoms p ≡ true → Atoms p) → ((atom_test 15 a ≡ true) × (all_atoms p ≡ true)) ⊎ ((atom_test 15 a ≡ false) × (false ≡ true)) → Atoms (a ∷ p)
    go rest (inl r) = (((atom-test 15 a).0 r.0).atom, rest r.1)
    go rest (inr r) = absurd (true≢false (sym r.1))

-- ---- the words are a product

-- A product has at most 25 words, each an atom.
pub product_is : (p : List ℕ) → is_product p ≡ true → (length p ≤ 25) × Atoms p
unfolding is_product
product_is p e = go (lt-cases _ _ _ _ e)
  where
    go : ((25 < length p) × (false ≡ true)) ⊎ ((length p ≤ 25) × (all_atoms p ≡ true)) → (length p ≤ 25) × Atoms p
    go (inl r) = absurd (true≢false (sym r.1))
    go (inr r) = (r.0, all-atoms p r.1)

-- ---- normal form: l is the copy of p, and r the copy with its normal form in front

pub normal-made : (p r : List ℕ) (k : ℕ) {l back : List ℕ} → l ≡ p → Normalised l (length l) r k → length p ≤ 25 → k ≤ length r → back ≡ take k r
    → NormalFront p (back ++ drop k p) k
unfolding front
normal-made p r k {l} e m f h w =
    let form : part 0 k r ≡ normal p = m.form ∙ ap normal (part-all l ∙ e) in
    let count : k ≡ length (normal p) = sym (ap length (sym form) ∙ part_length 0 k r h ∙ omega arith) in
    record {
      few = omega (arith, m.few, ap length e);
      count = count;
      leaves = rw (w, ← part-take k r, form, count) refl;
    }

-- ---- receive

module _ (p : List ℕ) (m : ℕ) where
  -- What is left is the end of the product.
  pub receive-left : (l q : List ℕ) → received m p ≡ some l → q ≡ front (part (length p - length l) (length p) p) p
      → (length l ≡ left_count (received m p)) × (q ≡ left_front p (received m p))
  receive-left l q e w =
      let s = received-end m p e in
      let n = length p - length l in
      let end : part n (length p) p ≡ l =
      ap (λ (f : ℕ). part f (length p) p) (sym (zero-add n)) ∙ sym (part-drop n 0 (length p) p) ∙ ap (drop n) (part-all p) ∙ s.1 in
      rw e (refl, w ∙ ap (λ (x : List ℕ). front x p) end)

  module _ (i : is_product p ≡ true) where
    pub receive-answers : {q : List ℕ} {r : ℕ} → r ≡ left_count (received m p) → q ≡ left_front p (received m p) → (r ≡ receive_answer p m) × (q ≡ receive_leaves p m)
    unfolding receive_answer receive_leaves
    receive-answers e f = (true-then _ _ _ i e, true-then _ _ _ i f)

    -- No atom has a message over 14.
    pub receive-over : 14 < m → (65534 ≡ receive_answer p m) × (p ≡ receive_leaves p m)
    receive-over h = let e = none_over p in receive-answers (rw (← e) refl) (rw (← e) refl)
      where
        none_over : (q : List ℕ) → none ≡ received m q
        none_over [] = receive-none m
        none_over (a ∷ q) = none_over q ∙ receive-past m a q (has-over a m h)

pub ruleset product_tells = (choices, all-listed, product_is)
