use Rattle.std.proofs.Common.{arith}
use Rattle.std.proofs.lemmas.Grind.{common_steps}
use Rattle.work.specs.Room.{room_of}
use Rattle.common.specs.Choice.{if_lt}
use Rattle.work.proofs.reading.room_of.Goals as goal

pub returns : goal.returns
unfolding room_of if_lt
returns c = grind (arith, common_steps)
