-- The transition of that number, where the table has it, is the move that the word plays.
use Rattle.table.proofs.SystemLaws.{transition-ranged}
use Rattle.replay.proofs.TurnLaws.{turn-past, turn-there}
use Rattle.replay.proofs.turns.play_word.Goals as goal

pub play_move-requires : goal.play_move-requires
play_move-requires c = (transition-ranged _ _ c.args.table.now.good _ _ c.transition.ensures c.if-step-table.true, c.requires)

pub returns-then-step-table : goal.returns-then-step-table
returns-then-step-table c = turn-there _ _ _ _ _ c.args.table.now.good c.from-step.ensures c.if-step-table.true c.transition.ensures c.play_move.ensures

pub returns : goal.returns
returns c = turn-past _ _ _ _ _ c.args.table.now.good c.from-step.ensures.0 c.if-step-table.false
