use Rattle.work.proofs.AppendLaws.{Appending}
use Rattle.work.proofs.appending.next_channels.Given as goal

abbrev pub invariant-loop-c : goal.invariant-loop-c
invariant-loop-c l = Appending l.initial.w l.to l.outcome.source_row l.outcome.channel l.outcome.product.now l.w l.c
