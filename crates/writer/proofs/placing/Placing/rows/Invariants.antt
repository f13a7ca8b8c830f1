use Rattle.lists.specs.Format.{row_bytes}
use Rattle.writer.specs.Placing.{Placed}
use Rattle.writer.specs.Words.{row_in}
use Rattle.writer.proofs.ManyLaws.{up_to}
use Rattle.writer.proofs.placing.Placing.rows.Given as goal

abbrev pub invariant-loop-i : goal.invariant-loop-i
invariant-loop-i l = Placed (up_to (row_bytes l.rows.channels) (row_in l.rows.channels l.rows.rows.work.now) l.i) l.initial.self l.self
