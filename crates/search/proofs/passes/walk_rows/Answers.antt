use Rattle.std.proofs.Common.{ap, arith}
use Rattle.common.proofs.ResultLaws.{left_err}
use Rattle.work.specs.Room.{room_of}
use Rattle.search.proofs.PassLaws.{walking_on, walking-cut, walking-ends}
use Rattle.search.proofs.passes.walk_rows.Goals as goal

pub loop-i-preserved : goal.loop-i-preserved
loop-i-preserved c = walking_on _ _ _ _ _ _ _ c.loop-i.invariant (omega arith) _ _ c.pass_row.ensures (ap room_of c.loop-i.auto.w) _ c.in_ok-made.was

pub returns-in_err-made : goal.returns-in_err-made
returns-in_err-made c =
    rw (left_err _ c.from_residual.ensures.1) (walking-cut _ _ _ _ _ _ _ c.loop-i.invariant (omega arith) _ _ c.pass_row.ensures (ap room_of c.loop-i.auto.w) _ c.in_err-made.was)

pub returns : goal.returns
returns c = walking-ends _ _ _ _ _ _ _ c.loop-i.invariant (omega arith)
