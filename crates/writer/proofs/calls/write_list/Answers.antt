-- Each return goes through the chain of tests by what led there.
use Rattle.std.proofs.Common.{sym, ◌∙◌, ap, length, arith}
use Rattle.common.proofs.ResultLaws.{left_err}
use Rattle.common.specs.Front.{front}
use Rattle.table.proofs.GoodLaws.{ranges}
use Rattle.work.proofs.RoomLaws.{room_fits, room-few}
use Rattle.writer.proofs.FitLaws.{all-writable}
use Rattle.writer.proofs.WriteLaws.{over_room, bad-row, too_small, all-written, table-refused, bytes_good}
use Rattle.writer.proofs.calls.write_list.Goals as goal

pub returns-in_err-table-clause-value : goal.returns-in_err-table-clause-value
returns-in_err-table-clause-value c =
    rw (left_err _ c.from_residual.ensures.1) (table-refused _ _ _ _ _ c.in_err-table.ensures.answer)

pub returns-then-room-rows-clause-value : goal.returns-then-room-rows-clause-value
returns-then-room-rows-clause-value c = over_room _ _ _ _ _ c.in_ok-table.ensures.answer _ c.room_of-room.ensures (omega arith)

pub invariant_of-rows : goal.invariant_of-rows
invariant_of-rows c = record { there = omega (arith, room_fits (length c.args.work.now)) }

pub first_unfit-requires : goal.first_unfit-requires
first_unfit-requires c = let h = ranges _ _ c.in_ok-table.table.good in (h.channels, h.messages)

pub returns-in-Some-clause-value : goal.returns-in-Some-clause-value
returns-in-Some-clause-value c = bad-row _ _ _ _ _ c.in_ok-table.ensures.answer _ c.room_of-room.ensures (omega arith) _ c.in-Some.ensures

pub invariant_of-rows-2 : goal.invariant_of-rows-2
invariant_of-rows-2 c =
    let h = ranges _ _ c.in_ok-table.table.good in
    record { few = h.channels; fits = all-writable _ _ _ (sym c.in_default.ensures) (omega (arith, h.states)) }

pub list_size-size-requires : goal.list_size-size-requires
list_size-size-requires c = omega (arith, room-few (length c.args.work.now))

pub returns-then-list-size-clause-value : goal.returns-then-list-size-clause-value
returns-then-list-size-clause-value c =
    too_small _ _ _ _ _ c.in_ok-table.ensures.answer _ c.room_of-room.ensures (omega arith) c.in_default.ensures _ c.list_size-size.ensures (omega arith)

pub returns-clause-value : goal.returns-clause-value
returns-clause-value c =
    all-written _ _ _ _ _ c.in_ok-table.ensures.answer _ c.room_of-room.ensures (omega arith) c.in_default.ensures _ c.list_size-size.ensures (omega arith)

pub returns-clause-list_after : goal.returns-clause-list_after
returns-clause-list_after c = c.write_rows.ensures ∙ ap (λ bytes. front bytes c.args.list.now) (bytes_good _ _ _ _ c.in_ok-table.ensures.answer)
