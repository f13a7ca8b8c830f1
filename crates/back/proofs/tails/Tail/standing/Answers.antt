use Rattle.std.proofs.lemmas.Slice.{between_is}
use Rattle.common.specs.Part.{part}
use Rattle.back.proofs.tails.Tail.standing.Goals as goal

pub returns : goal.returns
unfolding part
returns c = between_is c.args.self.now.words c.args.self.now.at 2048
