use Rattle.std.proofs.Common.{sym, ◌∙◌, arith, rules}
use Rattle.atoms.proofs.AddLaws.{added-behind}
use Rattle.atoms.proofs.products.add_atom.Goals as goal

pub returns : goal.returns
returns c = added-behind _ _ _ _ (omega arith) (search rules) (search rules) (omega arith) (sym c.is_absorbed.ensures ∙ c.if-is_absorbed.false)
