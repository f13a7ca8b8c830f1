use Rattle.std.proofs.Common.{refl, ◌∙◌, arith, length, rules, tests}
use Rattle.std.proofs.lemmas.Iterator.{YieldsList-from_range}
use Rattle.judge.proofs.FirstLaws.{mapped-first}
use Rattle.judge.proofs.OpenLaws.{open_in_row, open-rows}
use Rattle.judge.proofs.moves.Look.open_row.Goals as goal

pub returns : goal.returns
returns c =
    let t = c.args.self.now.listed.now.table.now in
    let m = c.args.self.now.listed.now.rows.now in
    let n = length m.states.now in
    mapped-first (open_in_row t.bytes.now t.shape m) _ _ _ c.find_map.result c.find_map.ensures.runs (YieldsList-from_range 0 _ n refl (omega (arith, c.count.ensures))) (λ x r q k. search (rules, tests))
    ∙ open-rows t.bytes.now t.shape m n 0
