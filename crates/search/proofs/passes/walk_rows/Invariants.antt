use Rattle.std.proofs.Common.{◌-◌, length}
use Rattle.table.specs.Systems.{system_of}
use Rattle.work.specs.Room.{room_of}
use Rattle.search.proofs.PassLaws.{Walking}
use Rattle.search.proofs.passes.walk_rows.Given as goal

abbrev pub invariant-loop-i : goal.invariant-loop-i
invariant-loop-i l = Walking (system_of l.table.bytes.now) (room_of (length l.initial.w)) l.initial.w 1 l.w l.made l.i

abbrev pub decreases-loop-i : goal.decreases-loop-i
decreases-loop-i l = 1024 - l.i
