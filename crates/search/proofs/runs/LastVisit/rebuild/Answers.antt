use Rattle.std.proofs.Common.{◌∙◌}
use Rattle.search.proofs.RunLaws.{last-room, last-left, last-run}
use Rattle.search.proofs.runs.LastVisit.rebuild.Goals as goal

pub back_over-requires-clause-room : goal.back_over-requires-clause-room
back_over-requires-clause-room c = last-room c.args.self.now c.new-rebuilding.result c.new-rebuilding.ensures.no_needs c.new-rebuilding.ensures.no_words

pub back_to_start-requires-clause-few_needed : goal.back_to_start-requires-clause-few_needed
back_to_start-requires-clause-few_needed c = c.back_over.ensures.keeps _ c.new-rebuilding.ensures.no_needs

pub back_to_start-requires-clause-room : goal.back_to_start-requires-clause-room
back_to_start-requires-clause-room c = last-left c.args.self.now _ c.new-rebuilding.ensures.no_needs c.new-rebuilding.ensures.no_words _ c.back_over.ensures

pub returns-clause-words : goal.returns-clause-words
returns-clause-words c = c.back_to_start.ensures.words ∙ last-run c.args.self.now _ c.new-rebuilding.ensures.no_needs c.new-rebuilding.ensures.no_words _ c.back_over.ensures
