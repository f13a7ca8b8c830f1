use Rattle.std.proofs.Common.{arith, ◌∙◌}
use Rattle.work.specs.Layout.{count_place}
use Rattle.work.proofs.AppendLaws.{next-new, next-old}
use Rattle.common.proofs.CopyLaws.{put-within}
use Rattle.work.proofs.appending.next_channel.Goals as goal

pub returns-then-c-outcome : goal.returns-then-c-outcome
returns-then-c-outcome c = next-new _ _ _ _ _ _ _ (omega arith) c.write_channel.ensures

pub returns-else-c-outcome : goal.returns-else-c-outcome
returns-else-c-outcome c =
    next-old _ _ _ _ _ _ _ (λ e. omega arith)
    (rw c.count_place-from.ensures at c.copy_within.ensures.after
    ∙ put-within c.args.w.now (count_place c.args.outcome.now.source_row c.args.c) _ c.args.to (omega arith))
