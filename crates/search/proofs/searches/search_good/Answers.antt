use Rattle.std.proofs.Common.{sym, ◌∙◌, arith}
use Rattle.search.proofs.SearchLaws.{searches-small-work, searches-small-run, searches-bad, searches-found}
use Rattle.search.proofs.searches.search_good.Goals as goal

pub returns-then-words-lt103 : goal.returns-then-words-lt103
returns-then-words-lt103 c = searches-small-work _ _ c.args.table.now.good _ _ (omega arith)

pub returns-then-places-room_of : goal.returns-then-places-room_of
returns-then-places-room_of c = searches-small-run _ _ c.args.table.now.good _ _ (omega arith) (omega (arith, c.room_of.ensures))

pub returns-then-is_bad : goal.returns-then-is_bad
returns-then-is_bad c = searches-bad _ _ c.args.table.now.good _ _ (omega arith) (omega (arith, c.room_of.ensures)) (sym c.if-is_bad.true ∙ c.is_bad.ensures)

pub returns : goal.returns
returns c =
    searches-found _ _ c.args.table.now.good _ _ (omega arith) (omega (arith, c.room_of.ensures)) _ _ _
    (sym c.if-is_bad.false ∙ c.is_bad.ensures) c.search_rows.ensures
