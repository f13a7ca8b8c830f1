use Rattle.std.proofs.Common.{refl, rules}
use Rattle.writer.proofs.ManyLaws.{placed-first}
use Rattle.writer.proofs.placing.write_rows.Goals as goal

pub returns : goal.returns
returns c = let e = placed-first c.rows.ensures refl in search rules
