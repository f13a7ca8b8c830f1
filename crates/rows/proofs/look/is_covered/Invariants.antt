use Rattle.std.proofs.Common.{◌≡◌}
use Rattle.rows.specs.Look.{covered_in, outcome_row}
use Rattle.rows.proofs.LookLaws.{covered_from, Looking}
use Rattle.rows.proofs.look.is_covered.Given as goal

abbrev pub invariant-rows : goal.invariant-rows
invariant-rows g l =
    let row = g.R.Rows.row_at l.rows in
    let count = g.R.Rows.count l.rows in
    let o = outcome_row row l.outcome in
    covered_from l.channels row count o l.r ≡ covered_in l.channels row count o

abbrev pub invariant-loop-c : goal.invariant-loop-c
invariant-loop-c g l =
    let row = g.R.Rows.row_at l.rows in
    Looking l.channels row (g.R.Rows.count l.rows) (outcome_row row l.outcome) l.r l.c
