use Rattle.rows.proofs.ChangeLaws.{left-made}
use Rattle.rows.proofs.receives.received_into.Goals as goal

pub returns-clause-buffer_after : goal.returns-clause-buffer_after
returns-clause-buffer_after c = left-made _ _ _ _ _ c.in_ok-left.ensures.what_is_left c.copy_from_slice.ensures.after
