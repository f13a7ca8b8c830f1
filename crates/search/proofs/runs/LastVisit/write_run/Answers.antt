use Rattle.std.proofs.Common.{◌∙◌}
use Rattle.search.proofs.RunLaws.{run-written}
use Rattle.search.proofs.runs.LastVisit.write_run.Goals as goal

pub returns-clause-words : goal.returns-clause-words
returns-clause-words c = run-written _ _ _ _ (c.standing-words.ensures ∙ c.rebuild-rebuilt.ensures.words) c.copy_from_slice.ensures.after
