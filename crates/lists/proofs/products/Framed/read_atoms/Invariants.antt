use Rattle.lists.proofs.AtomLaws.{AtomsAt}
use Rattle.lists.proofs.products.Framed.read_atoms.Given as goal

abbrev pub invariant-loop-k : goal.invariant-loop-k
invariant-loop-k l = AtomsAt l.self.frame l.self.list.now l.from l.count l.used l.initial.atoms l.atoms l.k
