use Rattle.back.proofs.MoveLaws.{stripping-starts, stripping-room, stripping-on, stripping-ends}
use Rattle.back.proofs.moves.Rebuilding.strip_sends.Goals as goal

pub loop-self-init : goal.loop-self-init
loop-self-init c = stripping-starts _ _ _ _

pub drop_last-requires : goal.drop_last-requires
drop_last-requires c = (c.requires.few_needed.0, c.loop-self.invariant.keeps _ c.requires.few_needed.1)

pub push-requires : goal.push-requires
push-requires c = stripping-room _ _ _ _ c.loop-self.invariant c.loop-self-test.true c.drop_last.ensures c.requires.room

pub loop-self-preserved : goal.loop-self-preserved
loop-self-preserved c = stripping-on _ _ _ _ c.loop-self.invariant c.loop-self-test.true c.drop_last.ensures c.push.ensures

pub returns : goal.returns
returns c = stripping-ends _ _ _ _ c.loop-self.invariant c.loop-self-test.false c.drop_last.ensures
