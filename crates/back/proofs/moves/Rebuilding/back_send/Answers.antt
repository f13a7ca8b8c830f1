use Rattle.back.proofs.MoveLaws.{went-send}
use Rattle.back.proofs.moves.Rebuilding.back_send.Goals as goal

pub returns : goal.returns
returns c = went-send c.requires.3 c.drop_last-lost.ensures c.from.ensures c.push.ensures
