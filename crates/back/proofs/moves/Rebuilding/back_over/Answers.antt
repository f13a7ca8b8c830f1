use Rattle.std.proofs.Common.{refl, ◌+◌, arith}
use Rattle.back.proofs.MoveLaws.{Known, known, needed-more, one-room, one-went, over-quiet, over-receive, over-loop, over-step, loop-room, step-room}
use Rattle.back.proofs.moves.Rebuilding.back_over.Goals as goal
use Rattle.back.proofs.moves.Rebuilding.back_over.Goals.{After-from-word}

-- What is known of the transition and its word.
k : (c : After-from-word) → Known c.args.table.now.bytes.now c.args.j c.transition-m.result c.from-word.result
k c = known _ _ c.args.table.now.good _ _ c.transition-m.ensures c.requires.there _ c.from-word.ensures

pub push-requires : goal.push-requires
push-requires c = let h = k (goal.at.push-requires c).After-from-word in one-room (over-quiet h c.in-Quiet.is _) c.args.self.now c.requires.room

pub strip_sends-requires : goal.strip_sends-requires
strip_sends-requires c =
    let h = k (goal.at.strip_sends-requires c).After-from-word in
    record {
      few_needed = ((rw c.in-Send.is at h.ranged).0, c.requires.few_needed);
      room = loop-room h c.in-Send.is _ c.if-m.true _ c.requires.room;
    }

pub back_send-requires : goal.back_send-requires
back_send-requires c =
    let h = k (goal.at.back_send-requires c).After-from-word in
    ((rw c.in-Send.is at h.ranged).0, c.requires.few_needed, step-room h c.in-Send.is c.if-m.false c.args.self.now c.requires.room, h.few)

pub put_front-requires : goal.put_front-requires
put_front-requires c =
    let h = k (goal.at.put_front-requires c).After-from-word in
    let r = rw c.in-Receive.is at h.ranged in
    (r.0, omega (arith, r.1), c.requires.few_needed)

pub push-requires-in-Receive : goal.push-requires-in-Receive
push-requires-in-Receive c =
    let h = k (goal.at.push-requires-in-Receive c).After-from-word in
    one-room (over-receive h c.in-Receive.is _) c.args.self.now c.requires.room

pub returns-in-Quiet : goal.returns-in-Quiet
returns-in-Quiet c =
    let h = k (goal.at.returns-in-Quiet c).After-from-word in
    one-went (over-quiet h c.in-Quiet.is _) c.args.self.now refl (λ n q. needed-more n (n + 1) _ q (omega arith)) c.push.ensures

pub returns-then-m : goal.returns-then-m
returns-then-m c =
    let h = k (goal.at.returns-then-m c).After-from-word in
    rw (over-loop h c.in-Send.is _ c.if-m.true) c.strip_sends.ensures

pub returns-else-m : goal.returns-else-m
returns-else-m c =
    let h = k (goal.at.returns-else-m c).After-from-word in
    rw (over-step h c.in-Send.is _ c.if-m.false) c.back_send.ensures

pub returns-in-Receive : goal.returns-in-Receive
returns-in-Receive c =
    let h = k (goal.at.returns-in-Receive c).After-from-word in
    one-went (over-receive h c.in-Receive.is _) c.args.self.now c.put_front.ensures.before c.put_front.ensures.keeps c.push-in-Receive.ensures
