-- The walk over all records, whatever their kinds.
use Rattle.std.specs.Prelude.{List, ℕ, zero, suc, ◌+◌, length, Some, None, Result, Ok, Err}
use Rattle.common.specs.Choice.{if_lt}
use Rattle.reader.specs.Records.{record_at}
use Rattle.reader.specs.declared.reader.Cut.{Cut}

-- The walk from a place on, where n records are passed. Each takes some bytes, so as many turns as there are bytes are enough.
unfoldable pub walk_from : ℕ → List ℕ → ℕ → ℕ → Result ℕ Cut
walk_from zero t n at = Ok n
walk_from (suc k) t n at =
    if_lt at (length t)
    (elim (record_at t at) [ None ↦ Err (record { at = at }) | Some r ↦ walk_from k t (n + 1) r.next ])
    (Ok n)

-- How many records there are, or the place of the one inside which the bytes end.
unfoldable pub walk_records : List ℕ → Result ℕ Cut
walk_records t = walk_from (length t) t 0 0
