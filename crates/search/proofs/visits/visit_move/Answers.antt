use Rattle.std.proofs.Common.{sym, ◌∙◌, arith}
use Rattle.table.proofs.SystemLaws.{transition-ranged, transition-target}
use Rattle.search.proofs.VisitLaws.{few-changed, sized, normals, visit-elsewhere, visit-impossible, visit-comes}
use Rattle.search.proofs.visits.visit_move.Goals as goal

pub returns-then-state_of-m : goal.returns-then-state_of-m
returns-then-state_of-m c =
    visit-elsewhere _ _ c.args.table.now.good _ _ _ c.requires.standing _ _ (omega arith) (omega arith) _ c.transition-m.ensures (λ e. c.if-state_of-m.true (c.state_of.ensures ∙ e))

pub invariant_of-made : goal.invariant_of-made
invariant_of-made c = record { sized = sized _ _ c.args.table.now.good _ _ _ c.requires.standing }

pub outcome_into-requires-clause-ranged : goal.outcome_into-requires-clause-ranged
outcome_into-requires-clause-ranged c = transition-ranged _ _ c.args.table.now.good _ _ c.transition-m.ensures (omega arith)

pub outcome_into-requires-clause-in_normal_form : goal.outcome_into-requires-clause-in_normal_form
outcome_into-requires-clause-in_normal_form c = normals _ _ c.args.table.now.good _ _ _ c.requires.standing _ (omega arith)

pub returns-in_default : goal.returns-in_default
returns-in_default c =
    visit-impossible _ _ c.args.table.now.good _ _ _ c.requires.standing _ _ (omega arith) (omega arith) _ c.transition-m.ensures (sym c.state_of.ensures ∙ c.if-state_of-m.false) _ _ c.outcome_into.ensures.buffer_after c.in_default.is

pub slice_bounds-outcome-end : goal.slice_bounds-outcome-end
slice_bounds-outcome-end c = omega (arith, few-changed _ _ c.in-Some.is c.outcome_into.ensures.few_changed)

pub test_outcome-requires-clause-comes : goal.test_outcome-requires-clause-comes
test_outcome-requires-clause-comes c =
    visit-comes _ _ c.args.table.now.good _ _ _ c.requires.standing _ _ (omega arith) (omega arith) _ c.transition-m.ensures (sym c.state_of.ensures ∙ c.if-state_of-m.false) _ _ c.outcome_into.ensures.buffer_after _ c.in-Some.is

pub test_outcome-requires-clause-there : goal.test_outcome-requires-clause-there
test_outcome-requires-clause-there c = (omega arith, omega arith, transition-target _ _ c.args.table.now.good _ _ c.transition-m.ensures (omega arith))
