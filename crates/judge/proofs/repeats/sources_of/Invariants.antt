use Rattle.std.proofs.Common.{◌≡◌, ◌≤◌, length}
use Rattle.judge.specs.Repeats.{Sources}
use Rattle.judge.proofs.RepeatLaws.{Numbers}
use Rattle.judge.proofs.repeats.sources_of.Given as goal

abbrev pub invariant-loop-j : goal.invariant-loop-j
invariant-loop-j l =
    (l.table.shape.transitions ≤ 1024) × (length l.numbers ≡ 1024) × (length l.sources ≡ 1024)
    × Numbers l.table.bytes.now l.j l.numbers × Sources l.table.bytes.now l.j l.sources
