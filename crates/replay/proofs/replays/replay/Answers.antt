-- The refusals in their order, then the words played.
use Rattle.std.proofs.Common.{sym, ap, arith}
use Rattle.std.specs.Prelude.{Ok}
use Rattle.common.proofs.ResultLaws.{left_err}
use Rattle.replay.proofs.AnswerLaws.{replays-refused, replays-long, replays-played}
use Rattle.replay.proofs.replays.replay.Goals as goal

pub returns-in_err-table : goal.returns-in_err-table
returns-in_err-table c =
    rw (left_err _ c.from_residual.ensures.1) (replays-refused _ _ _ (sym c.in_err-table.ensures.answer))

pub returns-then-run-gt2048 : goal.returns-then-run-gt2048
returns-then-run-gt2048 c = replays-long _ _ _ (sym c.in_ok-table.ensures.answer) (omega arith)

pub returns : goal.returns
returns c =
    replays-played _ _ _ (sym c.in_ok-table.ensures.answer) _ (omega arith) (ap (λ e. Ok e) (rw c.in_ok-table.ensures.kept at c.play_run.ensures))
