-- A good table has the bytes of each of its transitions.
use Rattle.table.proofs.GoodLaws.{transition-there}
use Rattle.table.proofs.good.Table.transition.Goals as goal

pub transition_at-requires : goal.transition_at-requires
transition_at-requires c = transition-there _ _ c.args.self.now.good _ c.requires
