use Rattle.std.proofs.Common.{refl, arith}
use Rattle.table.proofs.GoodLaws.{ranges, few-transitions}
use Rattle.search.proofs.VisitLaws.{sized, test-bad, test-covered, test-wide, test-full, test-append}
use Rattle.search.proofs.visits.test_outcome.Goals as goal

pub returns-then-is_bad : goal.returns-then-is_bad
returns-then-is_bad c =
    let p = c.requires in
    test-bad _ _ c.args.table.now.good _ _ _ p.standing _ _ _ _ _ (omega arith) (omega arith) p.comes _ c.is_bad.ensures c.if-is_bad.true

pub invariant_of-made : goal.invariant_of-made
invariant_of-made c = record { sized = sized _ _ c.args.table.now.good _ _ _ c.requires.standing }

pub is_made-requires : goal.is_made-requires
is_made-requires c = (omega arith, (ranges _ _ c.args.table.now.good).channels)

pub returns-then-is_made : goal.returns-then-is_made
returns-then-is_made c =
    let p = c.requires in
    test-covered _ _ c.args.table.now.good _ _ _ p.standing _ _ _ _ _ (omega arith) (omega arith) p.comes
    _ c.is_bad.ensures c.if-is_bad.false _ c.is_made.ensures c.if-is_made.true

pub returns-then-outcome-gt24 : goal.returns-then-outcome-gt24
returns-then-outcome-gt24 c =
    let p = c.requires in
    test-wide _ _ c.args.table.now.good _ _ _ p.standing _ _ _ _ _ (omega arith) (omega arith) p.comes
    _ c.is_bad.ensures c.if-is_bad.false _ c.is_made.ensures c.if-is_made.false (omega arith)

pub returns-then-room_of-rows : goal.returns-then-room_of-rows
returns-then-room_of-rows c =
    let p = c.requires in
    test-full _ _ c.args.table.now.good _ _ _ p.standing _ _ _ _ _ (omega arith) (omega arith) p.comes
    _ c.is_bad.ensures c.if-is_bad.false _ c.is_made.ensures c.if-is_made.false (omega arith) (omega (arith, c.room_of.ensures))

pub overflow_cast-transition : goal.overflow_cast-transition
overflow_cast-transition c = omega (arith, few-transitions _ _ c.args.table.now.good)

pub returns : goal.returns
returns c =
    let p = c.requires in
    test-append _ _ c.args.table.now.good _ _ _ p.standing _ _ _ _ _ (omega arith) (omega arith) p.comes
    _ c.is_bad.ensures c.if-is_bad.false _ c.is_made.ensures c.if-is_made.false (omega arith) (omega (arith, c.room_of.ensures)) _ _ _
    refl refl c.append_row.ensures
