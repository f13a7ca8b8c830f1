use Rattle.std.proofs.Common.{arith}
use Rattle.outcome.proofs.OutcomeLaws.{copied-fixed, sent-made}
use Rattle.outcome.proofs.outcomes.sent_into.Goals as goal

pub add_atom-requires-clause-p_value : goal.add_atom-requires-clause-p_value
add_atom-requires-clause-p_value c = copied-fixed _ _ _ c.copy_from_slice.ensures.after c.requires.in_normal_form

pub returns : goal.returns
returns c = sent-made _ _ _ c.copy_from_slice.ensures.after _ _ _ (omega arith) c.add_atom.ensures
