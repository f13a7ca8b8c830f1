-- A good table has the bytes of each of its transitions.
use Rattle.table.proofs.GoodLaws.{transition-there}
use Rattle.table.proofs.good.Table.source.Goals as goal

pub source_at-requires : goal.source_at-requires
source_at-requires c = transition-there _ _ c.args.self.now.good _ c.requires
