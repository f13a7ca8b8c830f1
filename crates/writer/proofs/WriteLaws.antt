-- The writer's answer, test by test.
use Rattle.std.proofs.Common.{◌≡◌, refl, ap, ◌∙◌, List, ℕ, ◌<◌, ◌≤◌, length, Option, Some, None, Ok, Err}
use Rattle.common.proofs.ChoiceLaws.{lt-then, lt-else}
use Rattle.table.specs.Checking.{check_table}
use Rattle.table.specs.declared.faults.Refusal.{Refusal}
use Rattle.table.specs.declared.checks.Shape.{Shape}
use Rattle.work.specs.Room.{room_of}
use Rattle.writer.specs.Fitting.{first_not, row_passes}
use Rattle.writer.specs.Writing.{Written, bytes_for, after_look, written_for, written, bytes_of}
use Rattle.writer.specs.declared.calls.Refused.TheVariants.{Table, BadRow, TooSmall}

-- The answer for any table.
module _ (t w : List ℕ) (rows size : ℕ) where
  pub table-refused : (r : Refusal) → check_table t ≡ Err r → Err (Table r) ≡ written t w rows size
  unfolding written
  table-refused r e = rw e

  -- For a good one, as that of its shape.
  module _ (s : Shape) (e : check_table t ≡ Ok s) (room : ℕ) (d : room ≡ room_of (length w)) where
    for-shape : (r : Written) → r ≡ written_for s w rows size → r ≡ written t w rows size
    unfolding written
    for-shape r f = rw e f

    pub over_room : room < rows → Err (BadRow room) ≡ written t w rows size
    unfolding written_for
    over_room l = for-shape _ (rw d (lt-then _ _ _ _ (rw d at l) refl))

    -- Rows that there is room for are looked at.
    module _ (l : rows ≤ room) where
      looked : (r : Option ℕ) → r ≡ first_not (row_passes s w) rows 0 → after_look (bytes_for s w rows) size r ≡ written t w rows size
      unfolding written_for
      looked r f = for-shape _ (lt-else _ _ _ _ (rw d at l) (ap (after_look (bytes_for s w rows) size) f))

      pub bad-row : (i : ℕ) → Some i ≡ first_not (row_passes s w) rows 0 → Err (BadRow i) ≡ written t w rows size
      bad-row i f = looked (Some i) f

      module _ (f : None ≡ first_not (row_passes s w) rows 0) (n : ℕ) (k : n ≡ length (bytes_for s w rows)) where
        pub too_small : size < n → Err (TooSmall n) ≡ written t w rows size
        too_small m = lt-then _ _ _ _ (rw k at m) (ap (λ (x : ℕ). Err (TooSmall x)) k) ∙ looked None f

        pub all-written : n ≤ size → Ok n ≡ written t w rows size
        all-written m = lt-else _ _ _ _ (rw k at m) (ap Ok k) ∙ looked None f

pub bytes_good : (t w : List ℕ) (rows : ℕ) (s : Shape) → check_table t ≡ Ok s → bytes_for s w rows ≡ bytes_of t w rows
unfolding bytes_of
bytes_good t w rows s e = rw e
