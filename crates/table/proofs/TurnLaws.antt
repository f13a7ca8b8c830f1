-- The walks over transitions and over bad states, turn by turn: what a walk finds from here is what it finds from the start.
use Rattle.std.proofs.Common.{true, false, Ok, Err, ◌≡◌, refl, sym, ◌∙◌, List, ℕ, zero, suc, ◌+◌, ◌*◌, ◌-◌, ◌<◌, ◌≤◌, arith, length}
use Rattle.common.proofs.ChoiceLaws.{lt-then, lt-else}
use Rattle.table.specs.Checking.{transition_place, transition_step, scan_transitions, bad_step, scan_bads}
use Rattle.table.proofs.ReadLaws.{transition-read}
use Rattle.table.specs.declared.faults.Fault.{Fault}
use Rattle.table.specs.declared.fields.Header.{Header}

module _ (t : List ℕ) (h : Header) where
  -- One turn of the walk over transitions, with turns left.
  turn_end : (k i : ℕ) → transition_place i < length t → Ok false ≡ transition_step t h (transition_place i) i → Ok i ≡ scan_transitions (suc k) t h i
  unfolding scan_transitions
  turn_end k i l e = lt-then _ _ _ _ l (rw (← e))

  turn-fails : (k i : ℕ) (f : Fault) → transition_place i < length t → Err f ≡ transition_step t h (transition_place i) i
      → Err (record { fault = f; at = transition_place i }) ≡ scan_transitions (suc k) t h i
  unfolding scan_transitions
  turn-fails k i f l e = lt-then _ _ _ _ l (rw (← e))

  turn-next : (k i : ℕ) → transition_place i < length t → Ok true ≡ transition_step t h (transition_place i) i
      → scan_transitions k t h (i + 1) ≡ scan_transitions (suc k) t h i
  unfolding scan_transitions
  turn-next k i l e = lt-then _ _ _ _ l (rw (← e))

  turn-done : (k i : ℕ) → length t ≤ transition_place i → Ok i ≡ scan_transitions k t h i
  unfolding scan_transitions
  turn-done zero i l = refl
  turn-done (suc k) i l = lt-else _ _ _ _ l refl

  -- The walk stands before transition number count, at its place.
  pub record AtTransition (count at : ℕ) : Type 0 where
    pub place : at ≡ transition_place count
    pub few : count ≤ 1024
    pub same : scan_transitions 1025 t h 0 ≡ scan_transitions (1025 - count) t h count

  pub transitions-start : AtTransition 0 10
  transitions-start = record { place = refl; few = omega arith; same = refl }

  module _ {count at : ℕ} (w : AtTransition count at) where
    pub transitions-done : length t ≤ at → Ok count ≡ scan_transitions 1025 t h 0
    transitions-done l =
        let p = w.place in
        turn-done (1025 - count) count (omega arith) ∙ sym w.same

    module _ (l : at < length t) where
      turns : 1025 - count ≡ suc (1024 - count)
      turns = let p = w.few in omega arith

      pub transitions-end : Ok false ≡ transition_step t h at count → Ok count ≡ scan_transitions 1025 t h 0
      transitions-end e =
          rw (w.same, turns) (turn_end (1024 - count) count (rw w.place at l) (rw w.place at e))

      pub transitions-fail : (f : Fault) → Err f ≡ transition_step t h at count → Err (record { fault = f; at = at }) ≡ scan_transitions 1025 t h 0
      transitions-fail f e =
          rw (w.same, turns, w.place) (turn-fails (1024 - count) count f (rw w.place at l) (rw w.place at e))

      pub transitions-next : Ok true ≡ transition_step t h at count → AtTransition (count + 1) (at + 12)
      transitions-next e =
          let p = w.place in
          let r = transition-read t h at count (sym e) in
          let z : 1025 - (count + 1) ≡ 1024 - count = omega arith in
          record {
            place = omega arith;
            few = omega arith;
            same = w.same ∙ rw (turns, z) (sym (turn-next (1024 - count) count (rw w.place at l) (rw w.place at e)));
          }

module _ (t : List ℕ) (states from : ℕ) where
  -- One turn of the walk over bad states, with turns left.
  rise-fails : (k i low : ℕ) (f : Fault) → from + 6 * i < length t → Err f ≡ bad_step t states (from + 6 * i) low
      → Err (record { fault = f; at = from + 6 * i }) ≡ scan_bads (suc k) t states from i low
  unfolding scan_bads
  rise-fails k i low f l e = lt-then _ _ _ _ l (rw (← e))

  rise-next : (k i low next : ℕ) → from + 6 * i < length t → Ok next ≡ bad_step t states (from + 6 * i) low
      → scan_bads k t states from (i + 1) next ≡ scan_bads (suc k) t states from i low
  unfolding scan_bads
  rise-next k i low next l e = lt-then _ _ _ _ l (rw (← e))

  rise-done : (k i low : ℕ) → length t ≤ from + 6 * i → Ok i ≡ scan_bads k t states from i low
  unfolding scan_bads
  rise-done zero i low l = refl
  rise-done (suc k) i low l = lt-else _ _ _ _ l refl

  -- The walk stands before bad state number count, at its place, which may not be below low.
  pub record AtBad (count at low : ℕ) : Type 0 where
    pub place : at ≡ from + 6 * count
    pub same : scan_bads (length t) t states from 0 0 ≡ scan_bads (length t - count) t states from count low

  pub bads-start : AtBad 0 from 0
  bads-start =
      let z : length t - 0 ≡ length t = omega arith in
      record { place = omega arith; same = rw z }

  module _ {count at low : ℕ} (w : AtBad count at low) where
    pub bads-done : length t ≤ at → Ok count ≡ scan_bads (length t) t states from 0 0
    bads-done l =
        let p = w.place in
        rise-done (length t - count) count low (omega arith) ∙ sym w.same

    module _ (l : at < length t) where
      left : length t - count ≡ suc (length t - (count + 1))
      left = let p = w.place in omega arith

      pub bads-fail : (f : Fault) → Err f ≡ bad_step t states at low → Err (record { fault = f; at = at }) ≡ scan_bads (length t) t states from 0 0
      bads-fail f e =
          rw (w.same, left, w.place) (rise-fails (length t - (count + 1)) count low f (rw w.place at l) (rw w.place at e))

      pub bads-next : (next : ℕ) → Ok next ≡ bad_step t states at low → AtBad (count + 1) (at + 6) next
      bads-next next e =
          let p = w.place in
          record {
            place = omega arith;
            same = w.same ∙ rw left (sym (rise-next (length t - (count + 1)) count low next (rw w.place at l) (rw w.place at e)));
          }
