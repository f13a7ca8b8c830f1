use Rattle.atoms.proofs.NormaliseLaws.{Going}
use Rattle.atoms.proofs.products.normalise.Given as goal

abbrev pub invariant-loop-i : goal.invariant-loop-i
invariant-loop-i l = Going l.initial.p l.p l.k l.i
