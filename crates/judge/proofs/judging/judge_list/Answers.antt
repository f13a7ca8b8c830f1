use Rattle.std.proofs.Common.{refl}
use Rattle.table.proofs.GoodLaws.{ranges}
use Rattle.judge.proofs.AnswerLaws.{list-refused, list-few, list-taken, list-sized, list-judged}
use Rattle.judge.proofs.judging.judge_list.Goals as goal

pub read_list-requires-clause-channels_bound : goal.read_list-requires-clause-channels_bound
read_list-requires-clause-channels_bound c =
    let r = ranges _ _ c.args.table.now.good in
    (r.channels, r.messages)

pub returns-in-Err : goal.returns-in-Err
returns-in-Err c = list-refused _ _ _ c.read_list.ensures.value _ _ c.in-Err.is

pub invariant_of-products : goal.invariant_of-products
invariant_of-products c =
    let e = c.read_list.ensures in
    record { sized = list-sized _ _ _ e.value _ _ e.list_told _ c.in-Ok.is (ranges _ _ c.args.table.now.good).channels }

pub shared_ref_as_front-rows : goal.shared_ref_as_front-rows
shared_ref_as_front-rows c =
    let e = c.read_list.ensures in
    list-few _ _ _ e.value _ _ e.list_told _ c.in-Ok.is

pub slice_bounds-rows-end : goal.slice_bounds-rows-end
slice_bounds-rows-end c =
    let e = c.read_list.ensures in
    list-taken _ _ _ e.value _ _ e.list_told _ c.in-Ok.is

pub returns-in-Ok : goal.returns-in-Ok
returns-in-Ok c =
    let e = c.read_list.ensures in
    list-judged _ _ _ e.value _ _ e.list_told _ c.in-Ok.is _ refl refl refl refl _ c.judge_rows.ensures
