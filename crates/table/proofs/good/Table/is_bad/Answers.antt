-- The invariant: below low all bad states are below the state sought, from high on all are above it.
use Rattle.std.proofs.Common.{sym, ◌∙◌, arith}
use Rattle.table.proofs.GoodLaws.{length_is}
use Rattle.table.proofs.BadLaws.{bad-here, halving-start, halving-end, halving-up, halving-down}
use Rattle.table.proofs.good.Table.is_bad.Goals as goal

pub loop-low-init : goal.loop-low-init
loop-low-init c = halving-start _ _ _

pub bad_at-found-requires : goal.bad_at-found-requires
bad_at-found-requires c = omega (arith, length_is _ _ c.args.self.now.good)

pub returns-then-found-state : goal.returns-then-found-state
returns-then-found-state c = sym (bad-here _ _ c.args.self.now.good _ _ (sym c.bad_at-found.ensures ∙ c.if-found-state.true) (omega arith))

pub loop-low-preserved-then-found-state-2 : goal.loop-low-preserved-then-found-state-2
loop-low-preserved-then-found-state-2 c = halving-up _ _ c.args.self.now.good _ c.loop-low.invariant _ (omega arith) (omega arith) (omega arith)

pub loop-low-preserved : goal.loop-low-preserved
loop-low-preserved c = halving-down _ _ c.args.self.now.good _ c.loop-low.invariant _ (omega arith) (omega arith) (omega arith)

pub returns : goal.returns
returns c = halving-end _ _ c.args.self.now.good _ c.loop-low.invariant (omega arith)
