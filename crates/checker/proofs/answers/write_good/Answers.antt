-- What is said of the verdict is what the search finds.
use Rattle.std.proofs.Common.{arith}
use Rattle.verdicts.proofs.SaidLaws.{left-fits}
use Rattle.checker.proofs.OutputLaws.{found-told}
use Rattle.search.proofs.SearchLaws.{search-counted}
use Rattle.checker.proofs.answers.write_good.Goals as goal

pub write_verdict-requires : goal.write_verdict-requires
write_verdict-requires c = (left-fits _ _ _ _ _ _ c.search_good-verdict.ensures (search-counted _ _ _), omega arith)

pub returns : goal.returns
returns c = found-told _ _ _ _ _ _ _ _ _ (omega arith) (omega arith) c.search_good-verdict.ensures c.write_verdict.ensures
