use Rattle.judge.proofs.JudgingLaws.{judged-no-start, judged-bad, judged-moves}
use Rattle.judge.proofs.memory.Listed.judge_rows.Goals as goal

pub returns-then-not-has_start : goal.returns-then-not-has_start
returns-then-not-has_start c = judged-no-start _ _ c.args.self.now.table.now.good _ c.has_start.ensures c.if-not-has_start.true

pub returns-in-Some : goal.returns-in-Some
returns-in-Some c = judged-bad _ _ c.args.self.now.table.now.good _ c.has_start.ensures c.if-not-has_start.false _ c.lowest_bad.ensures _ c.in-Some.is

pub returns-in-None : goal.returns-in-None
returns-in-None c =
    judged-moves _ _ c.args.self.now.table.now.good _ c.has_start.ensures c.if-not-has_start.false _ c.lowest_bad.ensures c.args.self.now.same_channels c.in-None.is c.judge_moves.ensures
