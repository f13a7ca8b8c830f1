use Rattle.common.proofs.PartLaws.{part-all}
use Rattle.atoms.proofs.products.contained.Goals as goal

pub returns : goal.returns
returns c = rw (part-all c.args.p.now, part-all c.args.q.now) at c.contained_at.ensures
