-- Transitions that have the move of an earlier one: a look for the first that is open may pass them by.
use Rattle.std.proofs.Common.{◌≡◌, ◌≢◌, refl, sym, ap, ap₂, ◌∙◌, inl, inr, Bool, true, false, not, cond, ◌&&◌, find, List, take, Option, Some, ℕ, zero, suc, ◌+◌, ◌<◌, ◌≤◌, arith, nat_eq, length, length-take-le, get_or, set}
use Rattle.std.proofs.Math.Logic.{∥∥₁_map, ∥∥₁_elim}
use Rattle.std.proofs.lemmas.Bool.{eqb-true}
use Rattle.std.proofs.lemmas.Bool.Decides.{eqb_tells}
use Rattle.std.proofs.lemmas.List.{get_or-set_same, get_or-set_other, get_or-take}
use Rattle.std.specs.List.{range_with_len, IsAnyAnswer}
use Rattle.meaning.specs.Systems.{Ranged, Move}
use Rattle.meaning.specs.Systems as meaning
use Rattle.table.specs.Systems.{GoodTable}
use Rattle.table.specs.Transitions.{operation_of, move_of, transition_at}
use Rattle.table.specs.declared.checks.Shape.{Shape}
use Rattle.table.specs.declared.transitions.Operation.{Operation}
use Rattle.table.specs.declared.transitions.Operation.TheVariants.{Quiet, Send, Receive}
use Rattle.table.proofs.GoodLaws.{ranges}
use Rattle.table.proofs.SystemLaws.{states_are, move-of, transition-ranged}
use Rattle.judge.specs.Repeats.{operation_number, move_number, Repeats, Sources}

-- ---- the number of a move

operation-is : (a b : Operation) → Ranged 4 15 (operation_of a) → Ranged 4 15 (operation_of b) → operation_number a ≡ operation_number b → operation_of a ≡ operation_of b
operation-is Quiet Quiet h k e = refl
operation-is (Send c m) (Send d n) h k e = let p : (c ≡ d) × (m ≡ n) = (omega (arith, h, k, e), omega (arith, h, k, e)) in ap₂ meaning.send p.0 p.1
operation-is (Receive c m) (Receive d n) h k e = let p : (c ≡ d) × (m ≡ n) = (omega (arith, h, k, e), omega (arith, h, k, e)) in ap₂ meaning.receive p.0 p.1
operation-is Quiet (Send d n) h k e = absurd (omega (arith, e))
operation-is Quiet (Receive d n) h k e = absurd (omega (arith, e))
operation-is (Send c m) Quiet h k e = absurd (omega (arith, e))
operation-is (Send c m) (Receive d n) h k e = absurd (omega (arith, h, k, e))
operation-is (Receive c m) Quiet h k e = absurd (omega (arith, e))
operation-is (Receive c m) (Send d n) h k e = absurd (omega (arith, h, k, e))

below-121 : (a : Operation) → Ranged 4 15 (operation_of a) → operation_number a < 121
below-121 Quiet h = omega arith
below-121 (Send c m) h = omega (arith, h)
below-121 (Receive c m) h = omega (arith, h)

module _ (t : List ℕ) (s : Shape) (g : GoodTable t s) where
  -- What move_number asks of a transition.
  pub transition-states : (j : ℕ) → j < s.transitions → ((transition_at t j).source < 4096) × ((transition_at t j).target < 4096)
  transition-states j h =
      let m = move-of t s g j h in
      (omega (arith, m.source, states_are t s g, (ranges t s g).states), omega (arith, m.target, states_are t s g, (ranges t s g).states))

  -- No other move has it.
  move-is : (i j : ℕ) → i < s.transitions → j < s.transitions → move_number (transition_at t i) ≡ move_number (transition_at t j)
      → move_of (transition_at t i) ≡ move_of (transition_at t j)
  unfolding move_number
  move-is i j h k e =
      let a = transition_at t i in
      let b = transition_at t j in
      let p = transition-states i h in
      let q = transition-states j k in
      let x = transition-ranged t s g i a refl h in
      let y = transition-ranged t s g j b refl k in
      let l = below-121 a.operation x in
      let m = below-121 b.operation y in
      let o : operation_number a.operation ≡ operation_number b.operation = omega (arith, e, p, q, l, m) in
      let u : a.source ≡ b.source = omega (arith, e, p, q, o) in
      let v : a.target ≡ b.target = omega (arith, e, u, o) in
      rw (u, v, operation-is a.operation b.operation x y o) refl

-- ---- a look that passes some by

-- The first number from j on at which p holds: those may be passed by at which p holds just if it holds at a lower one.
module _ (p r : ℕ → Bool) (end : ℕ) (lower : (j : ℕ) → j < end → r j ≡ true → ∥ ((k : ℕ) × (k < j) × (p k ≡ p j)) ∥₁) where
  abbrev kept : ℕ → Bool
  kept j = not (r j) && p j

  passes-by : (n j : ℕ) → j + n ≤ end → ((k : ℕ) → k < j → p k ≡ false) → find kept (range_with_len j n) ≡ find p (range_with_len j n)
  passes-by zero j h none = refl
  passes-by (suc n) j h none = go (r j) (p j) refl refl (λ e. passes-by n (j + 1) (omega (arith, h)) (later e))
    where
      later : p j ≡ false → (k : ℕ) → k < j + 1 → p k ≡ false
      later e k l = elim (eqb_tells k j) [ inl q ↦ ap p q.1 ∙ e | inr q ↦ none k (omega (arith, l, q.1)) ]

      go : (b c : Bool) → r j ≡ b → p j ≡ c → {x y : Option ℕ} → (p j ≡ false → x ≡ y) → cond (not b && c) (Some j) x ≡ cond c (Some j) y
      go true true e f rest = absurd (∥∥₁_elim (lower j (omega (arith, h)) e) (λ x y. absurd x) (λ k. cc (none k.0 k.1, k.2, f)))
      go false true e f rest = refl
      go true false e f rest = rest f
      go false false e f rest = rest f

module _ (t : List ℕ) (s : Shape) (g : GoodTable t s) (l : List ℕ) (told : Sources t s.transitions l) where
  -- What has no state for its source repeats an earlier transition.
  repeated : (j : ℕ) → j < s.transitions → nat_eq (get_or l j 0) 4096 ≡ true → Repeats t j
  repeated j h e = (told j h (λ q. absurd (omega (arith, q, eqb-true _ _ e, (transition-states t s g j h).0)))).1

  -- What has one comes from it.
  pub source-is : (j : ℕ) → j < s.transitions → get_or l j 0 ≢ 4096 → get_or l j 0 ≡ (transition_at t j).source
  source-is j h e = elim (eqb_tells (get_or l j 0) (transition_at t j).source) [ inl q ↦ q.1 | inr q ↦ absurd (e (told j h q.1).0) ]

  -- Passing by what repeats an earlier transition finds the same, for a test of moves.
  pub repeats-pass : (p : Move → Bool)
      → find (λ j. not (nat_eq (get_or l j 0) 4096) && p (move_of (transition_at t j))) (range_with_len 0 s.transitions) ≡ find (λ j. p (move_of (transition_at t j))) (range_with_len 0 s.transitions)
  repeats-pass p =
      passes-by (λ j. p (move_of (transition_at t j))) (λ j. nat_eq (get_or l j 0) 4096) s.transitions
      (λ j h e. ∥∥₁_map (repeated j h e) (λ k. (k.0, k.1, ap p k.2))) s.transitions 0 (omega arith) (λ k h. absurd (omega (arith, h)))

-- ---- a list that tells of one more transition

-- The numbers of the first n transitions' moves.
abbrev pub Numbers : List ℕ → ℕ → List ℕ → Type 0
Numbers t n l = (k : ℕ) → k < n → get_or l k 0 ≡ move_number (transition_at t k)

module _ (t : List ℕ) (n : ℕ) where
  pub numbers-more : (numbers : List ℕ) → n < length numbers → Numbers t n numbers → (x : ℕ) → x ≡ move_number (transition_at t n) → Numbers t (n + 1) (set numbers n x)
  numbers-more numbers h here x e k q =
      elim (eqb_tells k n) [
        | inl w ↦ rw w.1 (get_or-set_same numbers n x 0 h ∙ e)
        | inr w ↦ get_or-set_other numbers n k x 0 w.1 ∙ here k (omega (arith, q, w.1))
      ]

  -- A number that is found is an earlier transition's.
  pub found : (s : Shape) → GoodTable t s → n < s.transitions → (numbers : List ℕ) → n < length numbers → Numbers t n numbers → (x : ℕ) → x ≡ move_number (transition_at t n)
      → (b : Bool) → IsAnyAnswer (λ y c. nat_eq y x ≡ c) (take n numbers) b → b ≡ true → Repeats t n
  found s g z numbers h here x e false a f = absurd (cc)
  found s g z numbers h here x e true a f =
      let l : a.0 < n = omega (arith, a.1, length-take-le n numbers (omega (arith, h))) in
      let same : move_number (transition_at t a.0) ≡ x = sym (here a.0 l) ∙ sym (get_or-take n numbers a.0 0 l) ∙ eqb-true _ _ (a.2 0) in
      ∣ (a.0, l, move-is t s g a.0 n (omega (arith, l, z)) z (same ∙ e)) ∣₁

  pub told-more : (l : List ℕ) → n < length l → Sources t n l → (x : ℕ) → (x ≢ (transition_at t n).source → (x ≡ 4096) × Repeats t n) → Sources t (n + 1) (set l n x)
  told-more l h told x e j q d =
      elim (eqb_tells j n) [
        | inl w ↦
            let o = get_or-set_same l n x 0 h in
            let k = e (λ y. d (rw w.1 (o ∙ y))) in
            rw w.1 (o ∙ k.0, k.1)
        | inr w ↦
            let o = get_or-set_other l n j x 0 w.1 in
            let k = told j (omega (arith, q, w.1)) (λ y. d (o ∙ y)) in
            (o ∙ k.0, k.1)
      ]
