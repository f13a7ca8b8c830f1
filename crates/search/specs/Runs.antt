-- The run to the visit that the search ended with.
use Rattle.std.specs.Prelude.{List, ℕ}
use Rattle.meaning.specs.Systems.{System}
use Rattle.table.specs.Systems.{system_of}
use Rattle.explore.specs.Search.{Entry}
use Rattle.findings.specs.Search.{frame_of}
use Rattle.findings.specs.Rebuild.{run_of}
use Rattle.search.specs.Standing.{entries}
use Rattle.search.specs.declared.runs.LastVisit.{LastVisit}

-- The table's system.
abbrev pub system_at : LastVisit → System
system_at x = system_of x.table.now.bytes.now

-- The rows that were made when the search ended.
abbrev pub rows_at : (x : LastVisit) → List (Entry (frame_of (system_at x)))
rows_at x = entries (system_at x) x.words.now x.end.rows

-- The run whose last move is the visit's transition.
abbrev pub run_to : LastVisit → List ℕ
run_to x = run_of (system_at x) (rows_at x) x.end.row x.end.transition
