use Rattle.std.proofs.Common.{◌∙◌, rules, tests}
use Rattle.std.proofs.lemmas.Iterator.{YieldsList-from_slice}
use Rattle.std.proofs.lemmas.Iterator.Search.{position_from_yields_List}
use Rattle.table.specs.Systems.{bad_state}
use Rattle.judge.proofs.StateLaws.{bad_position}
use Rattle.judge.proofs.states.lowest_bad.Goals as goal

pub returns : goal.returns
returns c =
    let s = c.args.states.now in
    position_from_yields_List (bad_state c.args.table.now.bytes.now c.args.table.now.shape) _ _ _ c.position.ensures.ran (YieldsList-from_slice s cc) (λ x b q k. search (rules, tests))
    ∙ bad_position _ _ _
