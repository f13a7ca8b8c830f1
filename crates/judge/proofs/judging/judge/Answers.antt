use Rattle.common.proofs.ResultLaws.{left_err}
use Rattle.judge.proofs.AnswerLaws.{judges-refused, judges-good}
use Rattle.judge.proofs.judging.judge.Goals as goal

pub returns-in_err-table : goal.returns-in_err-table
returns-in_err-table c =
    rw (left_err _ c.from_residual.ensures.1) (judges-refused _ _ _ c.in_err-table.ensures.answer)

pub returns : goal.returns
returns c =
    let e = c.in_ok-table.ensures in
    judges-good _ _ _ _ e.answer (rw e.kept at c.judge_good.ensures)
