use Rattle.std.proofs.Common.{refl, sym, ◌∙◌, not, arith, rules, tests}
use Rattle.std.proofs.lemmas.Iterator.{YieldsList-from_range}
use Rattle.std.proofs.lemmas.Iterator.Adapters.{option_map_id}
use Rattle.std.proofs.lemmas.Iterator.Search.{find_from_yields_List}
use Rattle.writer.specs.Fitting.{row_passes}
use Rattle.writer.proofs.TestLaws.{find-range}
use Rattle.writer.proofs.fitting.first_unfit.Goals as goal

pub returns : goal.returns
returns c =
    let e = find_from_yields_List (λ j. not (row_passes c.args.s c.args.rows.now.work.now j)) _ _ c.find.result c.find.ensures.ran (YieldsList-from_range 0 c.args.rows.now.count c.args.rows.now.count refl (omega arith)) (λ x b q k. search (rules, tests)) in
    sym (option_map_id c.find.result) ∙ e ∙ find-range (row_passes c.args.s c.args.rows.now.work.now) c.args.rows.now.count 0
