use Rattle.std.proofs.Common.{arith}
use Rattle.prover.proofs.OutputLaws.{safe-next, safe-listed}
use Rattle.prover.proofs.answers.write_safe.Goals as goal

pub write_listed-requires : goal.write_listed-requires
write_listed-requires c = safe-next _ _ _ _ _ (omega arith) (omega arith) c.write-next.ensures

pub returns : goal.returns
returns c = safe-listed _ _ _ _ _ _ _ _ _ _ _ (omega arith) c.write_list-listed.ensures.value c.write_list-listed.ensures.list_after c.write-next.ensures c.write_listed.ensures
