-- Bad states: what the test says, and the search by halving.
use Rattle.std.proofs.Common.{◌≡◌, sym, subst, true, false, List, ◌⊎◌, inl, inr, ◌↔◌, ℕ, ◌+◌, ◌<◌, ◌≤◌, eq-or-lt_of_le, arith, ltb, ltb-true, ltb-false}
use mathlib.Core.List.{Memᴰ}
use Rattle.common.proofs.BoolLaws.{either}
use Rattle.common.proofs.FirstLaws.{in-iff}
use Rattle.table.specs.Systems.{GoodTable, bad_at, bads_of, bad_state, system_of}
use Rattle.table.proofs.GoodLaws.{bad-rises}
use Rattle.table.proofs.SystemLaws.{bads-are, bad-member}
use Rattle.table.specs.declared.checks.Shape.{Shape}

module _ (t : List ℕ) (s : Shape) (x : ℕ) where
  -- The search by halving: every bad state below low is below x, every one from high on is above it.
  pub record Halving (low high : ℕ) : Type 0 where
    pub inside : high ≤ s.bads
    pub below : (i : ℕ) → i < low → bad_at t s i < x
    pub above : (i : ℕ) → high ≤ i → i < s.bads → x < bad_at t s i

  pub halving-start : Halving 0 s.bads
  halving-start = record { inside = omega arith; below = λ i h. absurd (omega arith); above = λ i a b. absurd (omega arith) }

module _ (t : List ℕ) (s : Shape) (g : GoodTable t s) (x : ℕ) where
  -- The test is true exactly of the system's bad states.
  pub bad-exactly : (bad_state t s x ≡ true) ↔ Memᴰ x (system_of t).bad
  unfolding bad_state
  bad-exactly = (
    (λ h. rw (bads-are t s g) ((in-iff x (bads_of t s)).0 h)),
    (λ h. (in-iff x (bads_of t s)).1 (rw (bads-are t s g) at h)),
  )

  pub bad-here : (i : ℕ) → bad_at t s i ≡ x → i < s.bads → bad_state t s x ≡ true
  bad-here i e l = bad-exactly.1 ((bad-member t s g x).1 (i, l, sym e))

  pub bad-nowhere : ((i : ℕ) → i < s.bads → bad_at t s i ≡ x → ⊥) → bad_state t s x ≡ false
  bad-nowhere n = go (either (bad_state t s x))
    where
      go : (bad_state t s x ≡ true) ⊎ (bad_state t s x ≡ false) → bad_state t s x ≡ false
      go (inl e) = let i = (bad-member t s g x).0 (bad-exactly.0 e) in absurd (n i.0 i.1 (sym i.2))
      go (inr e) = e

  module _ {low high : ℕ} (w : Halving t s x low high) where
    pub halving-end : high ≤ low → false ≡ bad_state t s x
    halving-end l = sym (bad-nowhere (λ i b e. go i b e (either (ltb i low))))
      where
        go : (i : ℕ) → i < s.bads → bad_at t s i ≡ x → (ltb i low ≡ true) ⊎ (ltb i low ≡ false) → ⊥
        go i b e (inl h) = let q = w.below i (ltb-true i low h) in omega arith
        go i b e (inr h) =
            let r = ltb-false i low h in
            let q = w.above i (omega arith) b in omega arith

    module _ (i : ℕ) (a : low ≤ i) (b : i < high) where
      pub halving-up : bad_at t s i < x → Halving t s x (i + 1) high
      halving-up l = record { inside = w.inside; below = λ j h. go j (eq-or-lt_of_le (omega arith)); above = w.above }
        where
          go : (j : ℕ) → (j ≡ i) ⊎ (j < i) → bad_at t s j < x
          go j (inl e) = subst (λ (m : ℕ). bad_at t s m < x) (sym e) l
          go j (inr h) =
              let r = w.inside in
              let q = bad-rises t s g j i h (omega arith) in omega arith

      pub halving-down : x < bad_at t s i → Halving t s x low i
      halving-down l = let r = w.inside in record { inside = omega arith; below = w.below; above = λ j h c. go j c (eq-or-lt_of_le h) }
        where
          go : (j : ℕ) → j < s.bads → (i ≡ j) ⊎ (i < j) → x < bad_at t s j
          go j c (inl e) = subst (λ (m : ℕ). x < bad_at t s m) e l
          go j c (inr h) = let q = bad-rises t s g i j h c in omega arith
