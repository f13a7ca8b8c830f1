use Rattle.std.proofs.Common.{Some, None}
use Rattle.outcome.proofs.ChangeLaws.{outcome-quiet, outcome-sent, outcome-received}
use Rattle.outcome.proofs.outcomes.outcome_into.Goals as goal

pub returns-in_err-count-in-Receive-clause-buffer_after : goal.returns-in_err-count-in-Receive-clause-buffer_after
returns-in_err-count-in-Receive-clause-buffer_after c =
    rw c.from_residual.ensures
    (outcome-received _ _ _ _ _ _ _ c.received_into.new.buffer None c.in-Receive.is c.product-in-Receive.ensures.atoms c.in_err-count-in-Receive.ensures.buffer_after)

pub returns-in-Quiet-clause-buffer_after : goal.returns-in-Quiet-clause-buffer_after
returns-in-Quiet-clause-buffer_after c = outcome-quiet _ _ _ _ _ c.in-Quiet.is

pub returns-in-Send-clause-buffer_after : goal.returns-in-Send-clause-buffer_after
returns-in-Send-clause-buffer_after c =
    outcome-sent _ _ _ _ _ _ _ _ _ _ c.in-Send.is c.product.ensures.atoms c.sent_atom.ensures c.sent_into-count.ensures

pub returns-in_ok-count-in-Receive-clause-buffer_after : goal.returns-in_ok-count-in-Receive-clause-buffer_after
returns-in_ok-count-in-Receive-clause-buffer_after c =
    outcome-received _ _ _ _ _ _ _ _ (Some _) c.in-Receive.is c.product-in-Receive.ensures.atoms c.in_ok-count-in-Receive.ensures.buffer_after
