use Rattle.writer.proofs.SizeLaws.{ListSizing}
use Rattle.writer.proofs.sizes.list_size.Given as goal

abbrev pub invariant-loop-i : goal.invariant-loop-i
invariant-loop-i l = ListSizing l.rows.channels l.rows.rows.work.now l.rows.rows.count l.i l.size
