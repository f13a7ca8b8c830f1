-- The invariant: the bytes of the rows so far are written.
use Rattle.std.proofs.Common.{arith}
use Rattle.lists.specs.Format.{list_bytes}
use Rattle.writer.proofs.ManyLaws.{many-none, many-room, many-on, many-all}
use Rattle.writer.proofs.placing.Placing.rows.Goals as goal

pub loop-i-init : goal.loop-i-init
loop-i-init c = many-none _ _ _ _ c.requires

pub row-requires-in-loop-i : goal.row-requires-in-loop-i
unfolding list_bytes
row-requires-in-loop-i c =
    rw (c.row.ensures.0, c.row.ensures.1, c.row.ensures.2) (many-room _ _ c.loop-i.invariant c.args.rows.now.rows.count (omega arith) c.requires)

pub loop-i-preserved : goal.loop-i-preserved
loop-i-preserved c = many-on _ _ c.loop-i.invariant (rw (c.row.ensures.0, c.row.ensures.1, c.row.ensures.2) at c.row-in-loop-i.ensures)

pub returns : goal.returns
unfolding list_bytes
returns c = many-all _ _ c.loop-i.invariant c.args.rows.now.rows.count (omega arith)
