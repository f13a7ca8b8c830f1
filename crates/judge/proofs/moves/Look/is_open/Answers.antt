use Rattle.std.proofs.Common.{arith, sym, ◌∙◌, inl, inr, get_or}
use Rattle.std.proofs.lemmas.Bool.Decides.{eqb_tells}
use Rattle.table.specs.Transitions.{move_of, transition_at}
use Rattle.table.proofs.GoodLaws.{few-transitions}
use Rattle.judge.proofs.MoveLaws.{settled-elsewhere, transition-in}
use Rattle.judge.proofs.RepeatLaws.{source-is}
use Rattle.judge.proofs.moves.Look.is_open.Goals as goal

pub offset_bounds-self-j : goal.offset_bounds-self-j
offset_bounds-self-j c = let h = few-transitions _ _ c.args.self.now.listed.now.table.now.good in omega (arith, h)

pub bounds-self-j : goal.bounds-self-j
bounds-self-j c = let h = few-transitions _ _ c.args.self.now.listed.now.table.now.good in omega (arith, h)

pub is_settled-requires-clause-ranged : goal.is_settled-requires-clause-ranged
is_settled-requires-clause-ranged c = transition-in _ _ c.args.self.now.listed.now.table.now.good _ c.args.self.now.listed.now.same_channels _ _ c.transition.ensures (omega arith)

pub returns-then-source-state : goal.returns-then-source-state
returns-then-source-state c =
    let l = c.args.self.now.listed.now in
    elim (eqb_tells (get_or c.args.self.now.sources.now c.args.j 0) 4096) [
      | inl q ↦ grind (arith, q.0)
      | inr q ↦
          let e =
          settled-elsewhere l.rows.now c.args.i (move_of (transition_at l.table.now.bytes.now c.args.j))
          (λ z. c.if-source-state.true (c.from-source.ensures ∙ source-is _ _ l.table.now.good _ c.args.self.now.told _ (omega arith) q.1 ∙ sym z ∙ c.requires.in_state)) in
          grind (arith, e)
    ]
