use Rattle.std.proofs.Common.{length}
use Rattle.table.specs.Systems.{system_of}
use Rattle.work.specs.Room.{room_of}
use Rattle.search.proofs.PassLaws.{Passing}
use Rattle.search.proofs.passes.pass_row.Given as goal

abbrev pub invariant-loop-j : goal.invariant-loop-j
invariant-loop-j l = Passing (system_of l.table.bytes.now) (room_of (length l.initial.w)) l.initial.w l.rows l.i l.w l.made l.j
