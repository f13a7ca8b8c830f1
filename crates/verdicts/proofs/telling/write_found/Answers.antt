-- The steps that are told are the first words of the run buffer.
use Rattle.common.proofs.PartLaws.{part-take}
use Rattle.verdicts.proofs.telling.write_found.Goals as goal

pub returns-in-Unsafe : goal.returns-in-Unsafe
returns-in-Unsafe c = rw (c.in-Unsafe.is, part-take) c.unsafe_text.ensures
