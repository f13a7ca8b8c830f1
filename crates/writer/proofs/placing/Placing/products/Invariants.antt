use Rattle.lists.specs.Format.{product_bytes}
use Rattle.writer.specs.Placing.{Placed}
use Rattle.writer.specs.Words.{product_in}
use Rattle.writer.proofs.ManyLaws.{up_to}
use Rattle.writer.proofs.placing.Placing.products.Given as goal

abbrev pub invariant-loop-c : goal.invariant-loop-c
invariant-loop-c l = Placed (up_to product_bytes (product_in l.fit.row.work.now l.fit.row.number) l.c) l.initial.self l.self
