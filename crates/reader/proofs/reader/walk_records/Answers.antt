-- The invariant: what the walk finds from here is what it finds from the start.
use Rattle.std.proofs.Common.{◌≡◌, Option, Some, None, Result, Err, refl, sym, ◌∙◌, arith}
use Rattle.std.specs.Option.{ok_or}
use Rattle.common.proofs.ResultLaws.{left_err}
use Rattle.reader.proofs.RecordLaws.{whole-at}
use Rattle.reader.proofs.WalkLaws.{walk_start, walk-done, walk-cut, walk-next}
use Rattle.reader.proofs.reader.walk_records.Goals as goal

-- Where ok_or fails there was nothing, and its error is the one given.
nothing : {A E : Type 0} (o : Option A) {d e : E} → ◌≡◌ {A = Result A E} (Err e) (ok_or o d) → (None ≡ o) × (e ≡ d)
nothing None h = (refl, cc)
nothing (Some x) h = absurd (cc)

pub loop-here-init : goal.loop-here-init
loop-here-init c = rw (c.before-here.ensures.1) (record { same_table = cc; walked = walk_start _ })

pub returns-in_err-record : goal.returns-in_err-record
returns-in_err-record c =
    let n = nothing c.record.result c.in_err-record.ensures.value in
    rw (left_err _ c.from_residual.ensures.1, n.1) (walk-cut _ c.loop-here.invariant.walked (omega arith) (n.0 ∙ rw c.loop-here.invariant.same_table at c.record.ensures))

pub loop-here-smaller : goal.loop-here-smaller
loop-here-smaller c = omega (arith, whole-at _ _ _ (sym c.in_ok-record.ensures.ok_part ∙ rw c.loop-here.invariant.same_table at c.record.ensures))

pub loop-here-preserved : goal.loop-here-preserved
loop-here-preserved c = record {
  same_table = c.loop-here.invariant.same_table;
  walked = walk-next _ c.loop-here.invariant.walked (omega arith) c.in_ok-record.record
      (sym c.in_ok-record.ensures.ok_part ∙ rw c.loop-here.invariant.same_table at c.record.ensures);
}

pub returns : goal.returns
returns c = walk-done _ c.loop-here.invariant.walked (omega arith)
