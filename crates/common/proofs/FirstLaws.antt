-- The first that passes a test: what stands there, and that nothing before it passes.
use Rattle.std.proofs.Common.{◌≡◌, refl, sym, ap, subst, ◌∙◌, Bool, true, false, true≢false, ◌⊎◌, inl, inr, ◌↔◌, List, [], ◌∷◌, ℕ, zero, suc, ◌+◌, ◌<◌, arith, eqb, eqb-true, eq-eqb}
use mathlib.Core.List.{Memᴰ}
use mathlib.Core.Option.{Option, none, some, none-ne-some, some-injective}
use Rattle.common.specs.First.{any_of, first_place, first_with, is_in}
use Rattle.common.proofs.AtLaws.{At, mem-at}
use Rattle.common.proofs.BoolLaws.{either, clash}
use Rattle.common.proofs.ChoiceLaws.{true-then, true-else, true-cases}

module _ {A : Type 0} (P : A → Bool) where
  -- Some element passes exactly when one stands somewhere.
  pub any-iff : (l : List A) → (any_of P l ≡ true) ↔ ((n : ℕ) × (x : A) × At l n x × (P x ≡ true))
  unfolding any_of
  any-iff l = (there l, λ h. back l h.0 h.1 h.2 h.3)
    where
      there : (l : List A) → any_of P l ≡ true → (n : ℕ) × (x : A) × At l n x × (P x ≡ true)
      there [] h = absurd (true≢false (sym h))
      there (y ∷ l) h = go (there l) (true-cases _ _ _ h)
        where
          go : (any_of P l ≡ true → (n : ℕ) × (x : A) × At l n x × (P x ≡ true)) → ((P y ≡ true) × (true ≡ true)) ⊎ ((P y ≡ false) × (any_of P l ≡ true))
              → (n : ℕ) × (x : A) × At (y ∷ l) n x × (P x ≡ true)
          go ih (inl r) = (0, y, refl, r.0)
          go ih (inr r) = let s = ih r.1 in (suc s.0, s.1, s.2, s.3)

      back : (l : List A) (n : ℕ) (x : A) → At l n x → P x ≡ true → any_of P l ≡ true
      back [] n x h e = absurd (none-ne-some x h)
      back (y ∷ l) zero x h e = sym (true-then _ _ _ (ap P (some-injective _ _ h) ∙ e) refl)
      back (y ∷ l) (suc n) x h e = go (back l n x h e) (either (P y))
        where
          go : any_of P l ≡ true → (P y ≡ true) ⊎ (P y ≡ false) → any_of P (y ∷ l) ≡ true
          go ih (inl k) = sym (true-then _ _ _ k refl)
          go ih (inr k) = sym (true-else _ _ _ k (sym ih))

  -- None passes exactly when each one fails.
  pub none-iff : (l : List A) → (any_of P l ≡ false) ↔ ((n : ℕ) (x : A) → At l n x → P x ≡ false)
  none-iff l = (
    λ e n x h. ⊎-fails (either (P x)) (λ k. clash ((any-iff l).1 (n, x, h, k)) e),
    λ f. ⊎-fails (either (any_of P l)) (λ k. let r = (any-iff l).0 k in clash r.3 (f r.0 r.1 r.2)),
  )
    where
      ⊎-fails : {b : Bool} → (b ≡ true) ⊎ (b ≡ false) → (b ≡ true → ⊥) → b ≡ false
      ⊎-fails (inl k) n = absurd (n k)
      ⊎-fails (inr k) n = k

  -- The first that passes stands at the place, and none before it passes.
  pub record IsFirst (l : List A) (n : ℕ) : Type 0 where
    pub element : A
    pub stands : At l n element
    pub passes : P element ≡ true
    pub before : (m : ℕ) (x : A) → m < n → At l m x → P x ≡ false

  first-later : (y : A) (l : List A) (n : ℕ) → P y ≡ false → IsFirst l n → IsFirst (y ∷ l) (suc n)
  first-later y l n e r = record { element = r.element; stands = r.stands; passes = r.passes; before = earlier }
    where
      earlier : (m : ℕ) (x : A) → m < suc n → At (y ∷ l) m x → P x ≡ false
      earlier zero x h k = ap P (sym (some-injective _ _ k)) ∙ e
      earlier (suc m) x h k = r.before m x (omega arith) k

  pub first_some : (l : List A) (i k : ℕ) → first_place P l i ≡ some k → (n : ℕ) × (k ≡ i + n) × IsFirst l n
  unfolding first_place
  first_some [] i k h = absurd (none-ne-some k h)
  first_some (y ∷ l) i k h = go (first_some l (i + 1) k) (true-cases _ _ _ h)
    where
      go : (first_place P l (i + 1) ≡ some k → (n : ℕ) × (k ≡ i + 1 + n) × IsFirst l n) → ((P y ≡ true) × (some i ≡ some k)) ⊎ ((P y ≡ false) × (first_place P l (i + 1) ≡ some k))
          → (n : ℕ) × (k ≡ i + n) × IsFirst (y ∷ l) n
      go ih (inl r) =
          let e : i ≡ k = some-injective _ _ r.1 in
          (0, omega arith, record { element = y; stands = refl; passes = r.0; before = λ m x b. absurd (omega arith) })
      go ih (inr r) = let s = ih r.1 in (suc s.0, omega (arith, s.1), first-later y l s.0 r.0 s.2)

  pub first-none : (l : List A) (i : ℕ) → (first_place P l i ≡ none) ↔ ((n : ℕ) (x : A) → At l n x → P x ≡ false)
  unfolding first_place
  first-none l i = (there l i, back l i)
    where
      there : (l : List A) (i : ℕ) → first_place P l i ≡ none → (n : ℕ) (x : A) → At l n x → P x ≡ false
      there [] i h n x k = absurd (none-ne-some x k)
      there (y ∷ l) i h n x k = go (there l (i + 1)) (true-cases _ _ _ h) n k
        where
          go : (first_place P l (i + 1) ≡ none → (n : ℕ) (x : A) → At l n x → P x ≡ false) → ((P y ≡ true) × (some i ≡ none)) ⊎ ((P y ≡ false) × (first_place P l (i + 1) ≡ none))
              → (n : ℕ) → At (y ∷ l) n x → P x ≡ false
          go ih (inl r) n k = absurd (none-ne-some i (sym r.1))
          go ih (inr r) zero k = ap P (sym (some-injective _ _ k)) ∙ r.0
          go ih (inr r) (suc n) k = ih r.1 n x k

      back : (l : List A) (i : ℕ) → ((n : ℕ) (x : A) → At l n x → P x ≡ false) → first_place P l i ≡ none
      back [] i f = refl
      back (y ∷ l) i f = sym (true-else _ _ _ (f 0 y refl) (sym (back l (i + 1) (λ n x h. f (suc n) x h))))

module _ {A : Type 0} (f : A → Option ℕ) where
  -- The first that gives something stands at the place, and none before it gives anything.
  pub record IsFirstWith (l : List A) (n j : ℕ) : Type 0 where
    pub element : A
    pub stands : At l n element
    pub gives : f element ≡ some j
    pub before : (m : ℕ) (x : A) → m < n → At l m x → f x ≡ none

  pub with-some : (l : List A) (i : ℕ) (k : ℕ × ℕ) → first_with f l i ≡ some k → (n : ℕ) × (k.0 ≡ i + n) × IsFirstWith l n k.1
  unfolding first_with
  with-some [] i k h = absurd (none-ne-some k h)
  with-some (y ∷ l) i k h = go (with-some l (i + 1) k) (f y) refl h
    where
      later : (n : ℕ) → f y ≡ none → IsFirstWith l n k.1 → IsFirstWith (y ∷ l) (suc n) k.1
      later n e r = record { element = r.element; stands = r.stands; gives = r.gives; before = earlier }
        where
          earlier : (m : ℕ) (x : A) → m < suc n → At (y ∷ l) m x → f x ≡ none
          earlier zero x b q = ap f (sym (some-injective _ _ q)) ∙ e
          earlier (suc m) x b q = r.before m x (omega arith) q

      go : (first_with f l (i + 1) ≡ some k → (n : ℕ) × (k.0 ≡ i + 1 + n) × IsFirstWith l n k.1) → (u : Option ℕ) → f y ≡ u
          → elim u as (λ x. Option (ℕ × ℕ)) [ none ↦ first_with f l (i + 1) | some j ↦ some (i, j) ] ≡ some k → (n : ℕ) × (k.0 ≡ i + n) × IsFirstWith (y ∷ l) n k.1
      go ih none e h = let s = ih h in (suc s.0, omega (arith, s.1), later s.0 e s.2)
      go ih (some j) e h =
          let q : (i, j) ≡ k = some-injective _ _ h in
          let z : i ≡ k.0 = ap (λ (x : ℕ × ℕ). x.0) q in
          (0, omega arith, record { element = y; stands = refl; gives = e ∙ ap some (ap (λ (x : ℕ × ℕ). x.1) q); before = λ m x b. absurd (omega arith) })

  pub with_none : (l : List A) (i : ℕ) → (first_with f l i ≡ none) ↔ ((n : ℕ) (x : A) → At l n x → f x ≡ none)
  unfolding first_with
  with_none l i = (there l i, back l i)
    where
      there : (l : List A) (i : ℕ) → first_with f l i ≡ none → (n : ℕ) (x : A) → At l n x → f x ≡ none
      there [] i h n x k = absurd (none-ne-some x k)
      there (y ∷ l) i h n x k = go (there l (i + 1)) (f y) refl h n k
        where
          go : (first_with f l (i + 1) ≡ none → (n : ℕ) (x : A) → At l n x → f x ≡ none) → (u : Option ℕ) → f y ≡ u
              → ◌≡◌ {A = Option (ℕ × ℕ)} (elim u as (λ x. Option (ℕ × ℕ)) [ none ↦ first_with f l (i + 1) | some j ↦ some (i, j) ]) none → (n : ℕ) → At (y ∷ l) n x → f x ≡ none
          go ih (some j) e h n k = absurd (none-ne-some (i, j) (sym h))
          go ih none e h zero k = ap f (sym (some-injective _ _ k)) ∙ e
          go ih none e h (suc n) k = ih h n x k

      back : (l : List A) (i : ℕ) → ((n : ℕ) (x : A) → At l n x → f x ≡ none) → first_with f l i ≡ none
      back [] i g = refl
      back (y ∷ l) i g = go (back l (i + 1) (λ n x h. g (suc n) x h)) (f y) (g 0 y refl)
        where
          go : first_with f l (i + 1) ≡ none → (u : Option ℕ) → u ≡ none → ◌≡◌ {A = Option (ℕ × ℕ)} (elim u as (λ x. Option (ℕ × ℕ)) [ none ↦ first_with f l (i + 1) | some j ↦ some (i, j) ]) none
          go ih none e = ih
          go ih (some j) e = absurd (none-ne-some j (sym e))

pub in-iff : (x : ℕ) (l : List ℕ) → (is_in x l ≡ true) ↔ Memᴰ x l
in-iff x l = (
  λ e. let r = (any-iff (eqb x) l).0 e in (mem-at l x).1 (r.0, subst (At l r.0) (sym (eqb-true x r.1 r.3)) r.2),
  λ h. let r = (mem-at l x).0 h in (any-iff (eqb x) l).1 (r.0, x, r.1, eq-eqb x x refl),
)
