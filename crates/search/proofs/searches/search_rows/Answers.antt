use Rattle.std.proofs.Common.{refl, arith}
use Rattle.table.proofs.GoodLaws.{ranges}
use Rattle.search.proofs.SearchLaws.{start-stands, leaves-safe, last-visit, leaves-ended}
use Rattle.search.proofs.searches.search_rows.Goals as goal

pub overflow_cast-table : goal.overflow_cast-table
overflow_cast-table c = omega (arith, (ranges _ _ c.args.table.now.good).start, (ranges _ _ c.args.table.now.good).states)

pub walk_rows-requires-clause-standing : goal.walk_rows-requires-clause-standing
walk_rows-requires-clause-standing c = start-stands _ _ c.args.table.now.good _ _ (omega arith) _ refl c.start_row.ensures c.start_row.auto.w

pub invariant_of-last : goal.invariant_of-last
invariant_of-last c =
    let a = last-visit _ _ c.args.table.now.good _ _ (omega arith) _ refl c.start_row.ensures c.start_row.auto.w _ _ c.walk_rows.ensures _ c.in-Err.is c.walk_rows.auto.w in
    record { leads_back = a.0; there = a.1 }

pub returns-in-Ok : goal.returns-in-Ok
returns-in-Ok c = leaves-safe _ _ c.args.table.now.good _ _ (omega arith) _ refl c.start_row.ensures c.start_row.auto.w _ _ c.walk_rows.ensures _ _ c.in-Ok.is

pub returns-in-Err : goal.returns-in-Err
returns-in-Err c =
    leaves-ended _ _ c.args.table.now.good _ _ (omega arith) _ refl c.start_row.ensures c.start_row.auto.w _ _ c.walk_rows.ensures _ c.in-Err.is _ _ _ c.verdict.ensures
