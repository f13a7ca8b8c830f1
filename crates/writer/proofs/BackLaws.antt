-- What is written is read back: as the rows that the words tell, and those are the rows that the work table holds.
use Rattle.std.proofs.Common.{◌≡◌, refl, sym, ap, ◌∙◌, true, false, ◌⊎◌, inl, inr, List, [], ◌∷◌, map, Option, ℕ, suc, ◌+◌, ◌*◌, ◌<◌, ◌≤◌, arith, length, get_or, ltb, ltb-true, ltb-false, Some, None, Ok, Err}
use mathlib.Core.Path.{fun_ext}
use Rattle.common.specs.Choice.{if_lt}
use Rattle.common.specs.Each.{Each}
use Rattle.common.proofs.AtLaws.{At}
use Rattle.common.proofs.BoolLaws.{either}
use Rattle.common.proofs.ChoiceLaws.{lt-then, lt-else, lt-cases}
use Rattle.common.proofs.EachLaws.{each_at}
use Rattle.rows.specs.Rows.{RowOf}
use Rattle.table.specs.Listing.{listed}
use Rattle.table.proofs.ListingLaws.{listed-length}
use Rattle.table.specs.declared.checks.Shape.{Shape}
use Rattle.work.specs.Layout.{Stored, atoms_place, NarrowRows, Holds}
use Rattle.work.specs.Room.{room_of}
use Rattle.work.proofs.RoomLaws.{room-few}
use Rattle.work.proofs.LayoutLaws.{held-state, held-count, held-atoms, held-inside}
use Rattle.lists.specs.Reading.{check_list, rows_of}
use Rattle.lists.proofs.BackLaws.{written-good, written_back}
use Rattle.writer.specs.Words.{count_in, product_in, row_in, rows_in}
use Rattle.writer.specs.Fitting.{first_not, row_passes}
use Rattle.writer.specs.Writing.{Written, bytes_for, after_look, written_for}
use Rattle.writer.proofs.FitLaws.{all_fit}
use Rattle.writer.proofs.WordLaws.{listed-part}
use Rattle.writer.specs.declared.calls.Refused.TheVariants.{BadRow, TooSmall}

-- ---- a list that was written

pub record WrittenBack (s : Shape) (w : List ℕ) (rows n : ℕ) : Type 0 where
  pub length_is : n ≡ length (bytes_for s w rows)
  pub good : check_list s (bytes_for s w rows) ≡ Ok rows
  pub back : rows_of s (bytes_for s w rows) ≡ rows_in s.channels w rows

back-of : (s : Shape) (w : List ℕ) (rows n : ℕ) → n ≡ length (bytes_for s w rows) → rows ≤ 1024 → first_not (row_passes s w) rows 0 ≡ None → WrittenBack s w rows n
back-of s w rows n d few e =
    let l : length (rows_in s.channels w rows) ≡ rows = listed-length (row_in s.channels w) rows 0 in
    let fits = all_fit s w rows e in
    record {
      length_is = d;
      good = written-good s (rows_in s.channels w rows) fits (omega arith) ∙ ap Ok l;
      back = written_back s (rows_in s.channels w rows) fits (omega arith);
    }

-- Where the writer answers that it wrote n bytes, they are a good list, and reading them gives the rows back.
pub written-for-back : (s : Shape) (w : List ℕ) (rows size n : ℕ) → written_for s w rows size ≡ Ok n → WrittenBack s w rows n
unfolding written_for
written-for-back s w rows size n e = room (lt-cases _ _ _ _ e)
  where
    no_bytes : {i : ℕ} → Err (BadRow i) ≡ Ok n → WrittenBack s w rows n
    no_bytes d = absurd (let z : ◌≡◌ {A = ℕ} 0 1 = cc in omega arith)

    no-small : {i : ℕ} → Err (TooSmall i) ≡ Ok n → WrittenBack s w rows n
    no-small d = absurd (let z : ◌≡◌ {A = ℕ} 0 1 = cc in omega arith)

    same_bytes : {i : ℕ} → ◌≡◌ {A = Written} (Ok i) (Ok n) → i ≡ n
    same_bytes d = cc

    size_of : {i : ℕ} → rows ≤ 1024 → first_not (row_passes s w) rows 0 ≡ None → i ≡ length (bytes_for s w rows)
        → ((size < i) × (Err (TooSmall i) ≡ Ok n)) ⊎ ((i ≤ size) × (◌≡◌ {A = Written} (Ok i) (Ok n))) → WrittenBack s w rows n
    size_of few q k (inl c) = no-small c.1
    size_of few q k (inr c) = back-of s w rows n (sym (same_bytes c.1) ∙ k) few q

    look : rows ≤ 1024 → (r : Option ℕ) → first_not (row_passes s w) rows 0 ≡ r → after_look (bytes_for s w rows) size r ≡ Ok n → WrittenBack s w rows n
    look few (Some i) q d = no_bytes d
    look few None q d = size_of few q refl (lt-cases _ _ _ _ d)

    room : ((room_of (length w) < rows) × (Err (BadRow (room_of (length w))) ≡ Ok n))
        ⊎ ((rows ≤ room_of (length w)) × (after_look (bytes_for s w rows) size (first_not (row_passes s w) rows 0) ≡ Ok n)) → WrittenBack s w rows n
    room (inl c) = no_bytes c.1
    room (inr c) = look (omega (arith, c.0, room-few (length w))) (first_not (row_passes s w) rows 0) refl c.1

-- ---- a work table that holds rows

-- What a function gives at the places of a list.
listed-map : {A B : Type 0} (f : ℕ → B) (g : A → B) (l : List A) (j : ℕ) → ((i : ℕ) (e : A) → At l i e → f (j + i) ≡ g e) → listed f (length l) j ≡ map g l
unfolding listed
listed-map f g [] j h = refl
listed-map {A} {B} f g (x ∷ l) j h =
    let z : j ≡ j + 0 = omega arith in
    let first : f j ≡ g x = ap f z ∙ h 0 x refl in
    rw first (ap (λ (m : List B). g x ∷ m) (listed-map f g l (j + 1) (λ i e a. ap f (next i) ∙ h (suc i) e a)))
  where
    next : (i : ℕ) → j + 1 + i ≡ j + suc i
    next i = omega arith

-- In words that hold the rows l, row i for n channels is the one that stands there, if it has no atoms past them.
module _ (w : List ℕ) (l : List Stored) (z : List ℕ) (h : Holds w l z) (narrow : NarrowRows l) (n : ℕ) (few : n ≤ 4) where
  product-held : (i : ℕ) (e : Stored) → At l i e → (c : ℕ) → c < n → product_in w i c ≡ e.row.products c
  unfolding product_in
  product-held i e a c k =
      let p : List ℕ = e.row.products c in
      let m : count_in w i c ≡ length p = held-count w l z i e h narrow a c (omega arith) in
      let q = held-atoms w l z i e h narrow a c (omega arith) in
      let u : atoms_place i c + 0 ≡ atoms_place i c = omega arith in
      rw m (listed-part w (atoms_place i c) (length p) 0 (omega (arith, inside i e a c k)) ∙ rw u q)
    where
      narrow_at : (i : ℕ) (e : Stored) → At l i e → (c : ℕ) → length (e.row.products c) ≤ 24
      narrow_at i e a c = each_at (λ (d : Stored). (b : ℕ) → length (d.row.products b) ≤ 24) l i e narrow a c

      inside : (i : ℕ) (e : Stored) → At l i e → (c : ℕ) → c < n → atoms_place i c + 0 + length (e.row.products c) ≤ length w
      inside i e a c k = omega (arith, held-inside w l z i e h narrow a, narrow_at i e a c)

  row-held : (i : ℕ) (e : Stored) → At l i e → ((c : ℕ) → n ≤ c → e.row.products c ≡ []) → row_in n w i ≡ e.row
  unfolding row_in
  row-held i e a past =
      ap (λ (p : ℕ → List ℕ). record { state = get_or w (103 * i) 0; products = p }) (fun_ext (λ c. go c (either (ltb c n))))
      ∙ ap (λ (x : ℕ). record { state = x; products = e.row.products }) (held-state w l z i e h narrow a)
    where
      go : (c : ℕ) → (ltb c n ≡ true) ⊎ (ltb c n ≡ false) → if_lt c n (product_in w i c) [] ≡ e.row.products c
      go c (inl t) =
          let k : c < n = ltb-true c n t in
          sym (lt-then _ _ _ _ k (sym (product-held i e a c k)))
      go c (inr t) =
          let k : n ≤ c = ltb-false c n t in
          sym (lt-else _ _ _ _ k (past c k))

  -- The rows that are written of a work table are the rows that it holds.
  pub rows-held : (k : ℕ) → Each (λ (e : Stored). RowOf n k e.row) l → rows_in n w (length l) ≡ map (λ (e : Stored). e.row) l
  rows-held k of = listed-map (row_in n w) (λ (e : Stored). e.row) l 0 at_row
    where
      at_row : (i : ℕ) (e : Stored) → At l i e → row_in n w (0 + i) ≡ e.row
      at_row i e a =
          let u : 0 + i ≡ i = omega arith in
          rw u (row-held i e a (each_at (λ (d : Stored). RowOf n k d.row) l i e of a).none_past)
