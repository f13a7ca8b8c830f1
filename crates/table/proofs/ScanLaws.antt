-- A walk that ends well: what it read.
use Rattle.std.proofs.Common.{Bool, true, false, Result, Ok, Err, ◌≡◌, refl, sym, subst, List, ◌⊎◌, inl, inr, ℕ, zero, suc, ◌+◌, ◌*◌, ◌<◌, ◌≤◌, eq-or-lt_of_le, arith, length}
use Rattle.common.proofs.ChoiceLaws.{lt-cases}
use Rattle.reader.specs.Bytes.{number_at}
use Rattle.reader.specs.Records.{part_of}
use Rattle.table.specs.Checking.{transition_place, transition_step, scan_transitions, bad_step, scan_bads}
use Rattle.table.proofs.EndLaws.{err-ok, same_Ok}
use Rattle.table.proofs.FrameLaws.{Framed}
use Rattle.table.proofs.ReadLaws.{TransitionRead, transition-read, BadRead, bad-read}
use Rattle.table.specs.declared.faults.Fault.{Fault}
use Rattle.table.specs.declared.faults.Refusal.{Refusal}
use Rattle.table.specs.declared.fields.Header.{Header}

module _ (t : List ℕ) (h : Header) where
  -- The transitions from number i on, of n.
  pub record TransitionsRead (i n : ℕ) : Type 0 where
    pub from : i ≤ n
    pub few : n ≤ 1024
    pub each : (j : ℕ) → i ≤ j → j < n → TransitionRead t h (transition_place j) j

  none_more : (i n : ℕ) → i ≡ n → i ≤ 1024 → TransitionsRead i n
  none_more i n e l = record { from = omega arith; few = omega arith; each = λ j a b. absurd (omega arith) }

  one_more : (i n : ℕ) → TransitionRead t h (transition_place i) i → TransitionsRead (i + 1) n → TransitionsRead i n
  one_more i n r rs =
      let f = rs.from in
      record { from = omega arith; few = rs.few; each = λ j a b. go j b (eq-or-lt_of_le a) }
    where
      go : (j : ℕ) → j < n → (i ≡ j) ⊎ (i < j) → TransitionRead t h (transition_place j) j
      go j b (inl e) = subst (λ (m : ℕ). TransitionRead t h (transition_place m) m) e r
      go j b (inr l) = rs.each j (omega arith) b

  pub transitions-read : (k i n : ℕ) → k + i ≡ 1025 → i ≤ 1024 → scan_transitions k t h i ≡ Ok n → TransitionsRead i n
  unfolding scan_transitions
  transitions-read zero i n s l e = absurd (omega arith)
  transitions-read (suc k) i n s l e = go (transitions-read k (i + 1) n) (lt-cases _ _ _ _ e)
    where
      turn : Result Bool Fault → Result ℕ Refusal
      turn r = elim r [ Ok true ↦ scan_transitions k t h (i + 1) | Ok false ↦ Ok i | Err f ↦ Err (record { fault = f; at = transition_place i }) ]

      at : (k + (i + 1) ≡ 1025 → i + 1 ≤ 1024 → scan_transitions k t h (i + 1) ≡ Ok n → TransitionsRead (i + 1) n)
          → (r : Result Bool Fault) → transition_step t h (transition_place i) i ≡ r → turn r ≡ Ok n → TransitionsRead i n
      at later (Ok true) q d =
          let r = transition-read t h (transition_place i) i q in
          let c = r.few in
          one_more i n r (later (omega arith) (omega arith) d)
      at later (Ok false) q d = none_more i n (same_Ok d) l
      at later (Err f) q d = absurd (err-ok d)

      go : (k + (i + 1) ≡ 1025 → i + 1 ≤ 1024 → scan_transitions k t h (i + 1) ≡ Ok n → TransitionsRead (i + 1) n)
          → ((transition_place i < length t) × (turn (transition_step t h (transition_place i) i) ≡ Ok n))
          ⊎ ((length t ≤ transition_place i) × (◌≡◌ {A = Result ℕ Refusal} (Ok i) (Ok n)))
          → TransitionsRead i n
      go later (inl c) = at later (transition_step t h (transition_place i) i) refl c.1
      go later (inr c) = none_more i n (same_Ok c.1) l

  -- No more than 1,024 transitions are counted.
  pub few-counted : (n : ℕ) → Ok n ≡ scan_transitions 1025 t h 0 → n ≤ 1024
  few-counted n e = (transitions-read 1025 0 n refl (omega arith) (sym e)).few

module _ (t : List ℕ) (states from : ℕ) where
  -- Bad state number j, of those whose first stands at from.
  abbrev number : ℕ → ℕ
  number j = number_at (part_of t (from + 6 * j) 2) 0

  -- The bad states from number i on, of n: they end the table, are states, and rise from low.
  pub record BadsRead (i low n : ℕ) : Type 0 where
    pub first : i ≤ n
    pub whole : from + 6 * n ≡ length t
    pub framed : (j : ℕ) → i ≤ j → j < n → Framed t (from + 6 * j) 3 2
    pub state : (j : ℕ) → i ≤ j → j < n → number j < states
    pub above : (j : ℕ) → i ≤ j → j < n → low + j ≤ number j + i
    pub rises : (a b : ℕ) → i ≤ a → a ≤ b → b < n → number a + b ≤ number b + a

  no-bads : (i low n : ℕ) → i ≡ n → from + 6 * i ≡ length t → BadsRead i low n
  no-bads i low n e w = record {
    first = omega arith;
    whole = omega arith;
    framed = λ j a b. absurd (omega arith);
    state = λ j a b. absurd (omega arith);
    above = λ j a b. absurd (omega arith);
    rises = λ a b p q r. absurd (omega arith);
  }

  one-bad : (i low next n : ℕ) → BadRead t states (from + 6 * i) low next → BadsRead (i + 1) next n → BadsRead i low n
  one-bad i low next n r rs =
      let f = rs.first in
      record {
        first = omega arith;
        whole = rs.whole;
        framed = λ j a b. framed_at j b (eq-or-lt_of_le a);
        state = λ j a b. state_at j b (eq-or-lt_of_le a);
        above = λ j a b. above_at j b (eq-or-lt_of_le a);
        rises = λ a b p q l. rises-at a b q l (eq-or-lt_of_le p);
      }
    where
      low-is : low ≤ number i
      low-is = r.ok.above

      next_is : next ≡ number i + 1
      next_is = r.ok.next_is

      framed_at : (j : ℕ) → j < n → (i ≡ j) ⊎ (i < j) → Framed t (from + 6 * j) 3 2
      framed_at j b (inl e) = subst (λ (m : ℕ). Framed t (from + 6 * m) 3 2) e r.framed
      framed_at j b (inr l) = rs.framed j (omega arith) b

      state_at : (j : ℕ) → j < n → (i ≡ j) ⊎ (i < j) → number j < states
      state_at j b (inl e) = subst (λ (m : ℕ). number m < states) e r.ok.state
      state_at j b (inr l) = rs.state j (omega arith) b

      later : (j : ℕ) → j < n → i < j → number i + j ≤ number j + i
      later j b l = let a = rs.above j (omega arith) b in omega (arith, next_is)

      above_at : (j : ℕ) → j < n → (i ≡ j) ⊎ (i < j) → low + j ≤ number j + i
      above_at j b (inl e) = subst (λ (m : ℕ). low + m ≤ number m + i) e (omega (arith, low-is))
      above_at j b (inr l) = let a = later j b l in omega (arith, low-is)

      rises-at : (a b : ℕ) → a ≤ b → b < n → (i ≡ a) ⊎ (i < a) → number a + b ≤ number b + a
      rises-at a b q l (inl e) = subst (λ (m : ℕ). number m + b ≤ number b + m) e (from-here (eq-or-lt_of_le (subst (λ (m : ℕ). m ≤ b) (sym e) q)))
        where
          from-here : (i ≡ b) ⊎ (i < b) → number i + b ≤ number b + i
          from-here (inl s) = subst (λ (m : ℕ). number i + m ≤ number m + i) s (omega arith)
          from-here (inr s) = later b l s
      rises-at a b q l (inr s) = rs.rises a b (omega arith) q l

  pub bads-read : (k i low n : ℕ) → length t ≤ k + i → from + 6 * i ≤ length t → scan_bads k t states from i low ≡ Ok n → BadsRead i low n
  unfolding scan_bads
  bads-read zero i low n s p e = no-bads i low n (same_Ok e) (omega arith)
  bads-read (suc k) i low n s p e = go (bads-read k (i + 1)) (lt-cases _ _ _ _ e)
    where
      turn : Result ℕ Fault → Result ℕ Refusal
      turn r = elim r [ Ok next ↦ scan_bads k t states from (i + 1) next | Err f ↦ Err (record { fault = f; at = from + 6 * i }) ]

      at : ((next m : ℕ) → length t ≤ k + (i + 1) → from + 6 * (i + 1) ≤ length t
          → scan_bads k t states from (i + 1) next ≡ Ok m → BadsRead (i + 1) next m)
          → (r : Result ℕ Fault) → bad_step t states (from + 6 * i) low ≡ r → turn r ≡ Ok n → BadsRead i low n
      at later (Ok next) q d =
          let r = bad-read t states (from + 6 * i) low next q in
          let w = r.framed.there in
          one-bad i low next n r (later next n (omega arith) (omega arith) d)
      at later (Err f) q d = absurd (err-ok d)

      go : ((next m : ℕ) → length t ≤ k + (i + 1) → from + 6 * (i + 1) ≤ length t
          → scan_bads k t states from (i + 1) next ≡ Ok m → BadsRead (i + 1) next m)
          → ((from + 6 * i < length t) × (turn (bad_step t states (from + 6 * i) low) ≡ Ok n)) ⊎ ((length t ≤ from + 6 * i) × (◌≡◌ {A = Result ℕ Refusal} (Ok i) (Ok n)))
          → BadsRead i low n
      go later (inl c) = at later (bad_step t states (from + 6 * i) low) refl c.1
      go later (inr c) = let l = c.0 in no-bads i low n (same_Ok c.1) (omega arith)
