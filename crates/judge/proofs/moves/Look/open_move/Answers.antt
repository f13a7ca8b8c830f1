use Rattle.std.proofs.Common.{◌≡◌, Option, Some, None, option_map, ℕ, refl, sym, ◌∙◌, arith, not, ◌&&◌, nat_eq, get_or, rules, tests}
use Rattle.std.proofs.lemmas.Iterator.{YieldsList-from_range}
use Rattle.std.proofs.lemmas.Iterator.Search.{find_from_yields_List}
use Rattle.judge.specs.Moves.{settled_at}
use Rattle.judge.proofs.OpenLaws.{is_open, open-range}
use Rattle.judge.proofs.RepeatLaws.{repeats-pass}
use Rattle.judge.proofs.moves.Look.open_move.Goals as goal

same-option : (o : Option ℕ) → option_map (λ x. x) o ≡ o
same-option (Some i) = refl
same-option None = refl

pub returns : goal.returns
returns c =
    let t = c.args.self.now.listed.now.table.now in
    let m = c.args.self.now.listed.now.rows.now in
    let n = t.shape.transitions in
    let l = c.args.self.now.sources.now in
    let e = find_from_yields_List (λ j. not (nat_eq (get_or l j 0) 4096) && is_open t.bytes.now t.shape m c.args.i j) _ _ c.find.result c.find.ensures.ran (YieldsList-from_range 0 n n refl (omega arith)) (λ x b q k. search (rules, tests)) in
    sym (same-option c.find.result) ∙ e ∙ repeats-pass t.bytes.now t.shape t.good l c.args.self.now.told (λ u. not (settled_at m c.args.i u)) ∙ open-range t.bytes.now t.shape m c.args.i n 0
