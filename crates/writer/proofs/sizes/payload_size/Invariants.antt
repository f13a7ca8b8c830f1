use Rattle.writer.proofs.SizeLaws.{Sizing}
use Rattle.writer.proofs.sizes.payload_size.Given as goal

abbrev pub invariant-loop-c : goal.invariant-loop-c
invariant-loop-c l = Sizing l.fit.channels l.fit.row.work.now l.fit.row.number l.c l.atoms
