-- The invariant: the rows that are read are stored, and what is left is what is to be read from here.
use Rattle.std.proofs.Common.{◌≡◌, Result, Ok, Err, MatchResult, IsErrAnd, ◌∙◌, sym, arith, rules}
use Rattle.common.proofs.ResultLaws.{left_err}
use Rattle.lists.specs.Steps.{RowTold}
use Rattle.lists.proofs.ListLaws.{rows_on, rows-fail, rows-good, rows-loaded, loaded-first}
use Rattle.lists.proofs.reading.read_list.Goals as goal

-- What `map_err` passes on as it was.
ok_before : {T E D : Type 0} (P : E → D → Type 0) (a : Result T E) {b : Result T D} (x : T) → MatchResult a (λ y. b ≡ Ok y) (λ e. IsErrAnd b (P e)) → b ≡ Ok x → a ≡ Ok x
ok_before P (Ok y) x h e = cc
ok_before P (Err d) x h e = absurd (let g = rw e at h in g)

err_before : {T E D : Type 0} (P : E → D → Type 0) (a : Result T E) {b : Result T D} (y : D) → MatchResult a (λ x. b ≡ Ok x) (λ e. IsErrAnd b (P e)) → b ≡ Err y → (e : E) × (a ≡ Err e) × P e y
err_before P (Ok x) y h e = absurd (let z : ◌≡◌ {A = Result _ _} (Ok x) (Err y) = sym h ∙ e in cc)
err_before P (Err d) y h e = (d, cc, rw e at h)

pub returns-in_err-next-clause-value : goal.returns-in_err-next-clause-value
unfolding RowTold
returns-in_err-next-clause-value c =
    let q = err_before _ c.read_row-row.result c.in_err-next.field-0.0 c.map_err.ensures.cases (c.in_err-next.was) in
    let r : c.in_err-next.field-0.0 ≡ record { fault = q.0; at = c.loop-at.at } = search rules in
    rw (left_err _ c.from_residual.ensures.1, r) (rows-fail c.loop-at.invariant (omega arith) q.0 (rw q.1 at c.read_row-row.ensures))

pub loop-at-preserved : goal.loop-at-preserved
unfolding RowTold
loop-at-preserved c =
    rows_on c.loop-at.invariant (omega arith) _ _
    (rw (ok_before _ c.read_row-row.result c.in_ok-next.next c.map_err.ensures.cases (c.in_ok-next.was)) at c.read_row-row.ensures)

pub returns-clause-value : goal.returns-clause-value
returns-clause-value c = rows-good c.loop-at.invariant (omega arith)

pub returns-clause-list_told : goal.returns-clause-list_told
returns-clause-list_told c = loaded-first _ _ _ _ _ _ _ (rows-loaded c.loop-at.invariant (omega arith))
