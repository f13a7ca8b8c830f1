-- The walk over all records, turn by turn.
use Rattle.std.proofs.Common.{◌≡◌, List, Some, None, Ok, Err, ℕ, zero, suc, ◌+◌, ◌-◌, ◌<◌, ◌≤◌, length, refl, sym, ◌∙◌, arith}
use Rattle.common.proofs.ChoiceLaws.{lt-then, lt-else}
use Rattle.reader.specs.Records.{record_at}
use Rattle.reader.specs.Walks.{walk_from, walk_records}
use Rattle.reader.proofs.RecordLaws.{whole-at}
use Rattle.reader.specs.declared.records.Record.{Record}

module _ (t : List ℕ) where
  turn-cut : (k n at : ℕ) → at < length t → None ≡ record_at t at → Err (record { at = at }) ≡ walk_from (suc k) t n at
  unfolding walk_from
  turn-cut k n at l e = lt-then _ _ _ _ l (rw (← e))

  turn-next : (k n at : ℕ) (r : Record) → at < length t → Some r ≡ record_at t at
      → walk_from k t (n + 1) r.next ≡ walk_from (suc k) t n at
  unfolding walk_from
  turn-next k n at r l e = lt-then _ _ _ _ l (rw (← e))

  turn-done : (k n at : ℕ) → length t ≤ at → Ok n ≡ walk_from k t n at
  unfolding walk_from
  turn-done zero n at l = refl
  turn-done (suc k) n at l = lt-else _ _ _ _ l refl

  -- The walk has passed count records and stands at a place. Each record takes some bytes.
  pub record AtRecord (count at : ℕ) : Type 0 where
    pub passed : count ≤ at
    pub same : walk_records t ≡ walk_from (length t - count) t count at

  pub walk_start : AtRecord 0 0
  unfolding walk_records
  walk_start =
      let z : length t - 0 ≡ length t = omega arith in
      record { passed = omega arith; same = rw z }

  module _ {count at : ℕ} (w : AtRecord count at) where
    pub walk-done : length t ≤ at → Ok count ≡ walk_records t
    walk-done l = turn-done (length t - count) count at l ∙ sym w.same

    module _ (l : at < length t) where
      left : length t - count ≡ suc (length t - (count + 1))
      left = let p = w.passed in omega arith

      pub walk-cut : None ≡ record_at t at → Err (record { at = at }) ≡ walk_records t
      walk-cut e = rw (w.same, left) (turn-cut (length t - (count + 1)) count at l e)

      pub walk-next : (r : Record) → Some r ≡ record_at t at → AtRecord (count + 1) r.next
      walk-next r e =
          let p = w.passed in
          let n = (whole-at t at r e).next_is in
          record { passed = omega arith; same = w.same ∙ rw left (sym (turn-next (length t - (count + 1)) count at r l e)) }
