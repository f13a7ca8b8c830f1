use Rattle.std.proofs.Common.{sym}
use Rattle.common.proofs.ResultLaws.{left_err}
use Rattle.search.proofs.SearchLaws.{searches-refused}
use Rattle.search.proofs.searches.search.Goals as goal

pub returns-in_err-table : goal.returns-in_err-table
returns-in_err-table c =
    rw (left_err _ c.from_residual.ensures.1) (searches-refused _ _ _ _ (sym c.in_err-table.ensures.answer))
