-- What the walk over all records finds in a good table.
use Rattle.std.proofs.Common.{Ok, ◌≡◌, sym, List, ℕ, zero, suc, ◌+◌, ◌≤◌, arith}
use Rattle.reader.specs.Records.{record_of}
use Rattle.reader.specs.Walks.{walk_records}
use Rattle.reader.proofs.WalkLaws.{AtRecord, walk_start, walk-next, walk-done}
use Rattle.table.specs.Checking.{transition_place, bad_place}
use Rattle.table.specs.Systems.{GoodTable}
use Rattle.table.proofs.FrameLaws.{Framed, framed-whole}
use Rattle.table.proofs.GoodLaws.{length_is, header-framed, transition-framed, bad-framed}
use Rattle.table.specs.declared.checks.Shape.{Shape}

-- Past a record whose frame passes.
past : (t : List ℕ) (count at kind size : ℕ) → AtRecord t count at → Framed t at kind size → AtRecord t (count + 1) (at + 4 + size)
past t count at kind size w f =
    let h = f.there in
    walk-next t w (omega arith) (record_of at kind size) (framed-whole t at kind size f)

-- A good table has a header, its transitions and its bad states, and no other record.
pub walk-good : (t : List ℕ) (s : Shape) → GoodTable t s → walk_records t ≡ Ok (1 + s.transitions + s.bads)
walk-good t s g = sym (walk-done t (bads s.bads (omega arith)) (omega (arith, length_is t s g)))
  where
    transitions : (i : ℕ) → i ≤ s.transitions → AtRecord t (1 + i) (transition_place i)
    transitions zero h = past t 0 0 1 6 (walk_start t) (header-framed t s g)
    transitions (suc i) h =
        let a : 1 + i + 1 ≡ 1 + suc i = omega arith in
        let b : transition_place i + 4 + 8 ≡ transition_place (suc i) = omega arith in
        rw (← a, ← b) (past t (1 + i) (transition_place i) 2 8 (transitions i (omega arith)) (transition-framed t s g i (omega arith)))

    bads : (i : ℕ) → i ≤ s.bads → AtRecord t (1 + s.transitions + i) (bad_place s.transitions i)
    bads zero h =
        let a : 1 + s.transitions + 0 ≡ 1 + s.transitions = omega arith in
        let b : bad_place s.transitions 0 ≡ transition_place s.transitions = omega arith in
        rw (a, b) (transitions s.transitions (omega arith))
    bads (suc i) h =
        let a : 1 + s.transitions + i + 1 ≡ 1 + s.transitions + suc i = omega arith in
        let b : bad_place s.transitions i + 4 + 2 ≡ bad_place s.transitions (suc i) = omega arith in
        rw (← a, ← b) (past t (1 + s.transitions + i) (bad_place s.transitions i) 3 2 (bads i (omega arith)) (bad-framed t s g i (omega arith)))
