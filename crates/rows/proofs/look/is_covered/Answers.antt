use Rattle.std.proofs.Common.{sym, ◌∙◌, arith}
use Rattle.rows.proofs.LookLaws.{rows-start, rows-end, row-other, looking-next, looking-stops, looking-ends}
use Rattle.rows.proofs.look.is_covered.Goals as goal

pub rows-init : goal.rows-init
rows-init g c = rows-start _ _ _ _

pub loop-c-preserved : goal.loop-c-preserved
loop-c-preserved g c = looking-next _ _ _ _ _ _ c.loop-c.invariant (omega arith) (sym c.channel_contained.ensures ∙ c.if-not-channel_contained.false)

pub rows-preserved-then-not-channel_contained : goal.rows-preserved-then-not-channel_contained
rows-preserved-then-not-channel_contained g c =
    looking-stops _ _ _ _ _ _ c.loop-c.invariant (omega arith) (sym c.channel_contained.ensures ∙ c.if-not-channel_contained.true)

pub returns-then-state-outcome : goal.returns-then-state-outcome
returns-then-state-outcome g c = looking-ends _ _ _ _ _ _ c.loop-c.invariant (omega arith)

pub rows-preserved : goal.rows-preserved
rows-preserved g c = row-other _ _ _ _ _ c.rows.invariant (omega arith) (λ e. c.if-state-outcome.false (c.state.ensures ∙ e))

pub returns : goal.returns
returns g c = rows-end _ _ _ _ _ c.rows.invariant (omega arith)
