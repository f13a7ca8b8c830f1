use Rattle.std.proofs.Common.{refl, ◌∙◌, arith, rules, tests}
use Rattle.std.proofs.lemmas.Iterator.{YieldsList-from_range}
use Rattle.std.proofs.lemmas.Iterator.Search.{all_from_yields_List}
use Rattle.writer.specs.Fitting.{channel_passes, all_pass}
use Rattle.writer.proofs.TestLaws.{all-range}
use Rattle.writer.proofs.fitting.channels_pass.Goals as goal

pub returns : goal.returns
unfolding all_pass
returns c =
    let e = all_from_yields_List (channel_passes c.args.messages c.args.row.now.work.now c.args.row.now.number) _ _ _ c.all.ensures.ran (YieldsList-from_range 0 c.args.channels c.args.channels refl (omega arith)) (λ x b q k. search (rules, tests)) in
    e ∙ all-range (channel_passes c.args.messages c.args.row.now.work.now c.args.row.now.number) c.args.channels 0
