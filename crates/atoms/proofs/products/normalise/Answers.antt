use Rattle.std.proofs.Common.{arith, rules}
use Rattle.atoms.proofs.NormaliseLaws.{going_on}
use Rattle.atoms.proofs.products.normalise.Goals as goal

pub loop-i-preserved : goal.loop-i-preserved
loop-i-preserved c =
    let a = c.add_atom-k in
    going_on _ _ _ _ _ _ c.loop-i.invariant (omega arith) (search rules) a.ensures a.auto.p
