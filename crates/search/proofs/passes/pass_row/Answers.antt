use Rattle.std.proofs.Common.{ap, arith}
use Rattle.work.specs.Room.{room_of}
use Rattle.search.proofs.StandingLaws.{grown-there}
use Rattle.search.proofs.PassLaws.{passing-by, passing-on, passing-cut, passing-ends}
use Rattle.search.proofs.passes.pass_row.Goals as goal

pub visit_move-requires-clause-there : goal.visit_move-requires-clause-there
visit_move-requires-clause-there c = (grown-there _ _ _ _ _ _ c.loop-j.invariant.grown _ (omega arith), omega arith, omega arith)

pub loop-j-preserved-then-source-state : goal.loop-j-preserved-then-source-state
loop-j-preserved-then-source-state c =
    passing-by _ _ c.args.table.now.good _ _ _ _ _ _ _ c.loop-j.invariant (omega arith) (omega arith) _ _ c.state_of-state.ensures c.source.ensures c.if-source-state.true

pub loop-j-preserved : goal.loop-j-preserved
loop-j-preserved c =
    passing-on _ _ c.args.table.now.good _ _ _ _ _ _ _ c.loop-j.invariant (omega arith) (omega arith) _ _ c.visit_move.ensures (ap room_of c.loop-j.auto.w) _ c.in-Ok.is

pub returns-in-Err : goal.returns-in-Err
returns-in-Err c =
    passing-cut _ _ c.args.table.now.good _ _ _ _ _ _ _ c.loop-j.invariant (omega arith) (omega arith) _ _ c.visit_move.ensures (ap room_of c.loop-j.auto.w) _ c.in-Err.is

pub returns : goal.returns
returns c = passing-ends _ _ c.args.table.now.good _ _ _ _ _ _ _ c.loop-j.invariant (omega arith) (omega arith)
