-- The answer of the search is that of a safe table, or another.
use Rattle.std.proofs.Common.{refl, ap, ◌∙◌, Ok, arith, rules, tests}
use Rattle.search.proofs.SearchLaws.{search-counted}
use Rattle.verdicts.proofs.SaidLaws.{left-fits}
use Rattle.prover.proofs.OutputLaws.{safe-found, other-found}
use Rattle.prover.proofs.answers.write_good.Goals as goal

pub returns-in-Ok-Safe : goal.returns-in-Ok-Safe
returns-in-Ok-Safe c =
    safe-found _ _ _ _ (omega arith) (omega arith) _ _ _ _ _ _ c.search_good-verdict.ensures _ _ (c.in-Ok-Safe.is ∙ ap Ok (rw c.in-Ok-Safe.is at c.in-Ok-Safe.field-0-is))
    c.write_safe.ensures

pub write_verdict-text-requires : goal.write_verdict-text-requires
write_verdict-text-requires c = (left-fits _ _ _ _ _ _ c.search_good-verdict.ensures (search-counted _ _ _), omega arith)

pub returns : goal.returns
returns c =
    other-found _ _ _ _ (omega arith) (omega arith) _ _ _ _ _ _ c.search_good-verdict.ensures _
    (elim c.match-verdict.branch [ goal.in-Ok+in-Unsafe-1 w ↦ λ n e. search (rules, tests) | goal.in-Err-1 w ↦ λ n e. search (rules, tests) ]) refl c.write_verdict-text.ensures
