-- The rest of the parts has room, and makes the line.
use Rattle.std.proofs.Common.{[], ap, length, arith}
use Rattle.wording.proofs.LineLaws.{lining-room, lining-on}
use Rattle.wording.proofs.lines.write_line.Goals as goal

pub write_bytes-end-requires : goal.write_bytes-end-requires
write_bytes-end-requires c =
    let r = lining-room _ _ _ _ _ _ c.loop-text.invariant (record { ref_ptr = (0, 0); now = [] }, 0) c.loop-text-test.true in
    let e = ap length c.as_bytes.ensures.value in
    omega arith

pub write_number-end-requires : goal.write_number-end-requires
write_number-end-requires c =
    let r = lining-room _ _ _ _ _ _ c.loop-text.invariant (record { ref_ptr = (0, 0); now = [] }, 0) c.loop-text-test.true in
    let e = ap length c.as_bytes.ensures.value in
    omega (arith, c.write_bytes-end.ensures.next)

pub loop-text-preserved : goal.loop-text-preserved
loop-text-preserved c =
    lining-on _ _ _ _ _ _ c.loop-text.invariant (record { ref_ptr = (0, 0); now = [] }, 0) c.loop-text-test.true _ _ _ _ _ c.as_bytes.ensures.value c.write_bytes-end.ensures c.write_number-end.ensures
