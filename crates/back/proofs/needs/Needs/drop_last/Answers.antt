use Rattle.std.proofs.Common.{arith, ◌∙◌, sym}
use Rattle.back.proofs.NeedLaws.{drop-empty, drop-other, drop-made}
use Rattle.back.proofs.needs.Needs.drop_last.Goals as goal

pub returns-then-tail-self : goal.returns-then-tail-self
returns-then-tail-self c = drop-empty _ _ _ (omega arith) (c.requires.1) (omega arith)

pub returns-then-from-message : goal.returns-then-from-message
returns-then-from-message c = drop-other _ _ _ (omega arith) (c.requires.1) (omega arith) (λ e. c.if-from-message.true (c.from.ensures ∙ e))

pub returns : goal.returns
returns c = drop-made _ _ _ (omega arith) (c.requires.1) (omega arith) (sym c.from.ensures ∙ c.if-from-message.false)
