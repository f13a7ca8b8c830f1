-- The rows of a good list: each is a row of the table, with at most 24 atoms to a product, and there are at most 1,024.
use Rattle.std.proofs.Common.{◌≡◌, refl, subst, ◌⊎◌, inl, inr, List, [], ◌∷◌, ℕ, zero, suc, ◌+◌, ◌<◌, ◌≤◌, arith, length, get_or, Result, Ok, Err}
use Rattle.common.specs.Choice.{if_lt}
use Rattle.common.specs.Each.{Each}
use Rattle.common.proofs.ChoiceLaws.{lt-cases}
use Rattle.atoms.specs.Masks.{AtomOf, AtomsOf}
use Rattle.rows.specs.Rows.{Row}
use Rattle.reader.specs.Bytes.{byte_at, number_at}
use Rattle.table.proofs.PassLaws.{below_fails, below-passes}
use Rattle.table.specs.declared.faults.Fault.{Fault}
use Rattle.table.specs.declared.faults.Fault.TheVariants.{Length}
use Rattle.table.specs.declared.checks.Shape.{Shape}
use Rattle.lists.specs.Format.{RowFits}
use Rattle.lists.specs.Reading.{Read, read, fails, and_then, read_many, read_atom, read_product, row_with, frame_of, read_payload, in_frame, frame_at, read_row, ListRead, rows, refused, rows_behind, read_rows, read_list, verdict, check_list, rows_in, rows_of}
use Rattle.lists.proofs.ManyLaws.{no_read, same-thing, many-each}
use Rattle.lists.proofs.AtomLaws.{atom-ok}
use Rattle.lists.proofs.RowLaws.{frame-ok}
use Rattle.lists.specs.declared.products.Frame.{Frame}

-- A product of a list row for a table with k messages.
pub record ProductFits (k : ℕ) (p : List ℕ) : Type 0 where
  pub atoms : AtomsOf k p
  pub narrow : length p ≤ 24

product-fits : (f : Frame) (t : List ℕ) (from : ℕ) (p : List ℕ) (next : ℕ) → read_product f t from ≡ read p next → ProductFits f.messages p
unfolding read_product
product-fits f t from p next e =
    let a = below-passes no_read _ _ _ e in
    let b = below_fails no_read _ _ _ a.1 in
    let m = many-each (read_atom f t) (AtomOf f.messages) (λ i x j q. (atom-ok f t i x j q).atom) (byte_at t from) (from + 1) p next b.1 in
    record { atoms = m.1; narrow = omega (arith, m.0) }

-- A product among them, or none past them.
get-fits : (k : ℕ) (ps : List (List ℕ)) → Each (ProductFits k) ps → (c : ℕ) → ProductFits k (get_or ps c [])
get-fits k [] h c = record { atoms = tt; narrow = omega arith }
get-fits k (p ∷ ps) h zero = h.0
get-fits k (p ∷ ps) h (suc c) = get-fits k ps h.1 c

pub get-past : (ps : List (List ℕ)) (c : ℕ) → length ps ≤ c → get_or ps c [] ≡ []
get-past [] c h = refl
get-past (p ∷ ps) zero h = absurd (omega arith)
get-past (p ∷ ps) (suc c) h = get-past ps c (omega arith)

with-fits : (s : Shape) (state : ℕ) (ps : List (List ℕ)) → state < s.states → length ps ≡ s.channels → Each (ProductFits s.messages) ps → RowFits s (row_with state ps)
with-fits s state ps l e h =
    record {
      state_ok = l;
      row_of = record { atoms = λ c. (get-fits s.messages ps h c).atoms; none_past = λ c m. get-past ps c (omega arith) };
      narrow = λ c. (get-fits s.messages ps h c).narrow;
    }

pub payload-fits : (s : Shape) (t : List ℕ) (at end : ℕ) (r : Row) (next : ℕ) → read_payload s t at end ≡ read r next → RowFits s r
unfolding read_payload
payload-fits s t at end r next e =
    let a = below_fails no_read _ _ _ e in
    let b = below-passes no_read _ _ _ a.1 in
    go b.0 (read_many (read_product f t) s.channels (at + 6)) refl b.1
  where
    f : Frame
    f = frame_of s at end

    state : ℕ
    state = number_at t (at + 4)

    go : state < s.states → (m : Read (List (List ℕ))) → read_many (read_product f t) s.channels (at + 6) ≡ m
        → and_then m (λ ps mid. if_lt mid end (fails Length) (read (row_with state ps) mid)) ≡ read r next → RowFits s r
    go l (read ps mid) q d =
        let c = below_fails no_read _ _ _ d in
        let m = many-each (read_product f t) (ProductFits s.messages) (λ i x j z. product-fits f t i x j z) s.channels (at + 6) ps mid q in
        subst (RowFits s) (same-thing c.1) (with-fits s state ps l m.0 m.1)
    go l (fails w) q d = absurd (no_read d)

-- A row that was read fits, and came before row number 1,024.
pub row_fits : (s : Shape) (t : List ℕ) (at i : ℕ) (r : Row) (next : ℕ) → read_row s t at i ≡ read r next → RowFits s r × (i < 1024)
unfolding read_row
row_fits s t at i r next e = go (frame_at t at i) refl e
  where
    go : (m : Result ℕ Fault) → frame_at t at i ≡ m → in_frame s t at m ≡ read r next → RowFits s r × (i < 1024)
    go (Ok end) q d = (payload-fits s t at end r next d, (frame-ok t at i end q).counted)
    go (Err w) q d = absurd (no_read d)

same_rows : {l l' : List Row} → rows l ≡ rows l' → l ≡ l'
same_rows e = cc

no_rows : {f : Fault} {at : ℕ} {l : List Row} → refused f at ≡ rows l → ⊥
no_rows e = let z : ◌≡◌ {A = ℕ} 0 1 = cc in omega arith

-- Rows from number i on.
record RowsFit (s : Shape) (i : ℕ) (l : List Row) : Type 0 where
  each : Each (RowFits s) l
  few : length l + i ≤ 1024

rows_fit : (k : ℕ) (s : Shape) (t : List ℕ) (at i : ℕ) (l : List Row) → i ≤ 1024 → read_rows k s t at i ≡ rows l → RowsFit s i l
unfolding read_rows
rows_fit zero s t at i l h e = subst (RowsFit s i) (same_rows e) (record { each = tt; few = omega arith })
rows_fit (suc k) s t at i l h e = go (rows_fit k s t) (lt-cases _ _ _ _ e)
  where
    turn : Read Row → ListRead
    turn r = elim r [ read q next ↦ rows_behind (q ∷ []) (read_rows k s t next (i + 1)) | fails f ↦ refused f at ]

    more : (q : Row) → RowFits s q × (i < 1024) → ((m : List Row) → RowsFit s (i + 1) m → RowsFit s i (q ∷ m))
    more q w m r = let n = r.few in record { each = (w.0, r.each); few = omega arith }

    tail : (q : Row) → RowFits s q × (i < 1024) → (m : ListRead) → ((z : List Row) → m ≡ rows z → RowsFit s (i + 1) z) → rows_behind (q ∷ []) m ≡ rows l → RowsFit s i l
    tail q w (rows z) later d = subst (RowsFit s i) (same_rows d) (more q w z (later z refl))
    tail q w (refused f a) later d = absurd (no_rows d)

    at_row : ((next j : ℕ) (m : List Row) → j ≤ 1024 → read_rows k s t next j ≡ rows m → RowsFit s j m)
        → (r : Read Row) → read_row s t at i ≡ r → turn r ≡ rows l → RowsFit s i l
    at_row later (read q next) d f =
        let w = row_fits s t at i q next d in
        tail q w (read_rows k s t next (i + 1)) (λ z y. later next (i + 1) z (omega (arith, w.1)) y) f
    at_row later (fails x) d f = absurd (no_rows f)

    go : ((next j : ℕ) (m : List Row) → j ≤ 1024 → read_rows k s t next j ≡ rows m → RowsFit s j m)
        → ((at < length t) × (turn (read_row s t at i) ≡ rows l)) ⊎ ((length t ≤ at) × (rows [] ≡ rows l)) → RowsFit s i l
    go later (inl c) = at_row later (read_row s t at i) refl c.1
    go later (inr c) = subst (RowsFit s i) (same_rows c.1) (record { each = tt; few = omega arith })

-- What reading the list finds.
module _ (s : Shape) (t : List ℕ) where
  list-fits : RowsFit s 0 (rows_of s t)
  unfolding read_list rows_of
  list-fits = go (read_list s t) refl
    where
      go : (r : ListRead) → read_list s t ≡ r → RowsFit s 0 (rows_in r)
      go (rows l) e = rows_fit 1025 s t 0 0 l (omega arith) e
      go (refused f at) e = record { each = tt; few = omega arith }

  -- Each row is one that a list can hold.
  pub rows-fit-all : Each (RowFits s) (rows_of s t)
  rows-fit-all = list-fits.each

  -- At most 1,024 rows.
  pub few_rows : length (rows_of s t) ≤ 1024
  few_rows = omega (arith, list-fits.few)

  -- A good list has as many rows as its answer says.
  pub good-count : (n : ℕ) → check_list s t ≡ Ok n → length (rows_of s t) ≡ n
  unfolding check_list rows_of
  good-count n e = go (read_list s t) e
    where
      go : (r : ListRead) → verdict r ≡ Ok n → length (rows_in r) ≡ n
      go (rows l) d = cc
      go (refused f at) d = absurd (let z : ◌≡◌ {A = ℕ} 0 1 = cc in omega arith)
