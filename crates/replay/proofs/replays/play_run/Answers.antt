-- The invariant: what the words play to from here is what they play to from the start.
use Rattle.std.proofs.Common.{arith}
use Rattle.replay.proofs.PlayingLaws.{playing-starts, playing-on, playing-stuck, playing-bad, playing-elsewhere}
use Rattle.replay.proofs.replays.play_run.Goals as goal

pub loop-step-init : goal.loop-step-init
loop-step-init c = playing-starts _ _ _ _ c.args.table.now.good c.empty-memory.ensures

pub returns-in_default : goal.returns-in_default
returns-in_default c = playing-stuck _ _ _ _ _ c.loop-step.invariant (omega arith) _ _ c.play_word.ensures c.in_default.is

pub loop-step-preserved : goal.loop-step-preserved
loop-step-preserved c = playing-on _ _ _ _ _ c.loop-step.invariant (omega arith) _ _ c.play_word.ensures _ c.in-Some.is

pub returns-then-is_bad : goal.returns-then-is_bad
returns-then-is_bad c = playing-bad _ _ _ _ _ c.loop-step.invariant _ c.args.table.now.good (omega arith) _ c.is_bad.ensures c.if-is_bad.true

pub returns : goal.returns
returns c = playing-elsewhere _ _ _ _ _ c.loop-step.invariant _ c.args.table.now.good (omega arith) _ c.is_bad.ensures c.if-is_bad.false
