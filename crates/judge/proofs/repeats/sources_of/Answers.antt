use Rattle.std.proofs.Common.{arith, ◌<◌, length, ap, sym, ◌∙◌, rules}
use Rattle.table.specs.declared.transitions.Transition.{Transition}
use Rattle.table.proofs.GoodLaws.{few-transitions}
use Rattle.table.proofs.SystemLaws.{transition-ranged}
use Rattle.judge.specs.Repeats.{move_number}
use Rattle.judge.proofs.RepeatLaws.{transition-states, numbers-more, found, told-more}
use Rattle.judge.proofs.repeats.sources_of.Goals.{then-many, else-many, then-repeats, else-repeats}
use Rattle.judge.proofs.repeats.sources_of.Goals as goal

pub loop-j-init : goal.loop-j-init
loop-j-init c = let h = few-transitions _ _ c.args.table.now.good in search (rules, h)

pub move_number-number-requires-clause-states : goal.move_number-number-requires-clause-states
move_number-number-requires-clause-states c = rw c.transition-transition.ensures (transition-states _ _ c.args.table.now.good _ (omega arith))

pub move_number-number-requires-clause-ranged : goal.move_number-number-requires-clause-ranged
move_number-number-requires-clause-ranged c = transition-ranged _ _ c.args.table.now.good _ _ c.transition-transition.ensures (omega arith)

pub overflow_cast-sources : goal.overflow_cast-sources
overflow_cast-sources c =
    let h = (transition-states _ _ c.args.table.now.good c.loop-j.j (omega arith)).0 in
    omega (arith, h, ap (λ (x : Transition). x.source) c.transition-transition.ensures)

pub loop-j-preserved : goal.loop-j-preserved
loop-j-preserved c =
    let i = c.loop-j.invariant in
    let n = c.move_number-number in
    let g = c.args.table.now.good in
    let u = c.transition-transition.ensures in
    let e = n.ensures ∙ ap move_number u in
    let h : c.loop-j.j < length c.loop-j.numbers = omega (arith, i.0, i.1) in (
      i.0,
      search rules,
      search rules,
      numbers-more _ _ _ h i.3 _ e,
      told-more _ _ _ (omega (arith, i.0, i.2)) i.4 _
          (λ d.
          elim c.if-repeats.branch [
            | then-repeats w ↦ (
              w.sources-is,
              elim c.if-many.branch [
                | then-many v ↦ found _ _ _ g (omega arith) _ h i.3 _ e _ v.contains-repeats.ensures.cases (sym v.repeats-is ∙ w.if-repeats.true)
                | else-many v ↦ absurd (cc (v.repeats-is, w.if-repeats.true))
              ],
            )
            | else-repeats w ↦ absurd (d (w.sources-is ∙ ap (λ (x : Transition). x.source) u))
          ]),
    )
