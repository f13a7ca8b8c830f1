-- The rows of a list, read one after the other and stored.
use Rattle.std.proofs.Common.{◌≡◌, refl, sym, ap, ◌∙◌, List, [], ◌∷◌, ◌++◌, map, append_assoc, append-nil, ℕ, zero, suc, ◌+◌, ◌-◌, ◌<◌, ◌≤◌, arith, length, set, length-set, length-append, Ok, Err}
use lib.ListN.{length-map}
use Rattle.common.specs.Front.{front}
use Rattle.common.specs.Store.{put_at}
use Rattle.common.proofs.ChoiceLaws.{lt-then, lt-else}
use Rattle.common.proofs.FrontLaws.{front-none}
use Rattle.common.proofs.StoreLaws.{put_one, put_first, put_front, put-length}
use Rattle.rows.specs.Rows.{Row}
use Rattle.table.proofs.ListingLaws.{listed-length}
use Rattle.table.specs.declared.faults.Fault.{Fault}
use Rattle.table.specs.declared.checks.Shape.{Shape}
use Rattle.lists.specs.Format.{joined, products_of}
use Rattle.lists.specs.Reading.{read, fails, read_row, ListRead, rows, refused, rows_behind, read_rows, read_list, check_list, rows_of}
use Rattle.lists.specs.Loading.{atoms_in, ends, all_products, Memory, memory, Loaded}
use Rattle.lists.specs.Steps.{Room, RowRead}
use Rattle.lists.proofs.JoinLaws.{joined-append, joined_snoc, ends-length, ends-append}
use Rattle.lists.specs.declared.products.Progress.{Progress}
use Rattle.lists.specs.declared.records.Filled.{Filled}

behind-none : (r : ListRead) → r ≡ rows_behind [] r
behind-none (rows l) = refl
behind-none (refused f at) = refl

behind-both : (l m : List Row) (r : ListRead) → rows_behind l (rows_behind m r) ≡ rows_behind (l ++ m) r
behind-both l m (rows k) = ap rows (sym (append_assoc l m k))
behind-both l m (refused f at) = refl

-- One turn of the walk over the rows.
module _ (s : Shape) (t : List ℕ) where
  pub turn-next : (k at i : ℕ) (r : Row) (next : ℕ) → at < length t → read_row s t at i ≡ read r next
      → read_rows (suc k) s t at i ≡ rows_behind (r ∷ []) (read_rows k s t next (i + 1))
  unfolding read_rows
  turn-next k at i r next l e = sym (lt-then _ _ _ _ l (rw e))

  turn-fails : (k at i : ℕ) (f : Fault) → at < length t → read_row s t at i ≡ fails f → read_rows (suc k) s t at i ≡ refused f at
  unfolding read_rows
  turn-fails k at i f l e = sym (lt-then _ _ _ _ l (rw e))

  pub turn-done : (k at i : ℕ) → length t ≤ at → read_rows k s t at i ≡ rows []
  unfolding read_rows
  turn-done zero at i l = refl
  turn-done (suc k) at i l = sym (lt-else _ _ _ _ l refl)

-- ---- what is stored

-- The states of one row more.
states-snoc : (l : List Row) (r : Row) → map (λ (q : Row). q.state) (l ++ (r ∷ [])) ≡ map (λ (q : Row). q.state) l ++ (r.state ∷ [])
states-snoc [] r = refl
states-snoc (q ∷ l) r = ap (λ (m : List ℕ). q.state ∷ m) (states-snoc l r)

-- The first place is written by what goes to the front.
front-first : (x y : ℕ) (xs l : List ℕ) → front (x ∷ xs) (set l 0 y) ≡ front (x ∷ xs) l
unfolding front
front-first x y xs [] = refl
front-first x y xs (z ∷ l) = refl

loaded-none : (n : ℕ) (states starts atoms : List ℕ) → 1 ≤ length starts → Loaded n [] (memory states (set starts 0 0) atoms) (memory states (set starts 0 0) atoms)
unfolding ends joined
loaded-none n states starts atoms h =
    record {
      states_are = front-none states;
      starts_are = put_one starts 0 0 (omega arith) ∙ put_first starts (0 ∷ []) ∙ sym (front-first 0 0 [] starts);
      atoms_are = front-none atoms;
    }

module _ (n : ℕ) (l : List Row) (r : Row) (m : Filled) (old new newer : Memory) (ld : Loaded n l old new)
    (rs : length l ≡ m.rows) (ps : length (all_products n l) ≡ m.products) (us : length (atoms_in (all_products n l)) ≡ m.atoms) where
  loaded-more : newer.states ≡ put_at new.states m.rows (r.state ∷ [])
      → newer.products.starts ≡ put_at new.products.starts (m.products + 1) (ends m.atoms (products_of n r))
      → newer.products.atoms ≡ put_at new.products.atoms m.atoms (atoms_in (products_of n r))
      → Loaded n (l ++ (r ∷ [])) old newer
  loaded-more a b c =
      let p : all_products n (l ++ (r ∷ [])) ≡ all_products n l ++ products_of n r = joined_snoc (products_of n) l r in
      record {
        states_are = a ∙ ap (λ (x : List ℕ). put_at x m.rows (r.state ∷ [])) ld.states_are
            ∙ put_front (map (λ (q : Row). q.state) l) old.states (r.state ∷ []) m.rows (length-map l (λ (q : Row). q.state) ∙ rs)
            ∙ ap (λ (x : List ℕ). front x old.states) (sym (states-snoc l r));
        starts_are = b ∙ ap (λ (x : List ℕ). put_at x (m.products + 1) (ends m.atoms (products_of n r))) ld.starts_are
            ∙ put_front (0 ∷ ends 0 (all_products n l)) old.products.starts (ends m.atoms (products_of n r)) (m.products + 1) (omega (arith, ends-length 0 (all_products n l)))
            ∙ ap (λ (x : List ℕ). front (0 ∷ x) old.products.starts) (sym (ap (ends 0) p ∙ ends-append 0 m.atoms (all_products n l) (products_of n r) (omega arith)));
        atoms_are = c ∙ ap (λ (x : List ℕ). put_at x m.atoms (atoms_in (products_of n r))) ld.atoms_are
            ∙ put_front (atoms_in (all_products n l)) old.products.atoms (atoms_in (products_of n r)) m.atoms us
            ∙ ap (λ (x : List ℕ). front x old.products.atoms) (sym (ap atoms_in p ∙ joined-append (λ (q : List ℕ). q) (all_products n l) (products_of n r)));
      }

-- ---- turn by turn

-- The walk has read and stored some rows and stands before the next.
pub record RowsAt (s : Shape) (t : List ℕ) (old new : Memory) (at : ℕ) (m : Filled) : Type 0 where
  pub so_far : List Row
  pub many : length so_far ≡ m.rows
  pub inside : at ≤ length t
  pub products_are : length (all_products s.channels so_far) ≡ m.products
  pub atoms_are : length (atoms_in (all_products s.channels so_far)) ≡ m.atoms
  pub room : Room s m new
  pub states_same : length new.states ≡ length old.states
  pub starts_same : length new.products.starts ≡ length old.products.starts
  pub atoms_same : length new.products.atoms ≡ length old.products.atoms
  pub same : read_list s t ≡ rows_behind so_far (read_rows (1025 - m.rows) s t at m.rows)
  pub loaded : Loaded s.channels so_far old new

pub rows_start : (s : Shape) (t states starts atoms : List ℕ) → s.channels ≤ 4 → s.messages ≤ 15 → 1024 ≤ length states → 4097 ≤ length starts → 98304 ≤ length atoms
    → RowsAt s t (memory states (set starts 0 0) atoms) (memory states (set starts 0 0) atoms) 0 (record { rows = 0; products = 0; atoms = 0 })
unfolding read_list joined
rows_start s t states starts atoms a b x y z =
    record {
      so_far = [];
      many = refl;
      inside = omega arith;
      products_are = refl;
      atoms_are = refl;
      room = record {
        channels = a;
        messages = b;
        few_rows = omega arith;
        few_products = omega arith;
        few_atoms = omega arith;
        states_fit = x;
        starts_fit = omega (arith, length-set starts 0 0);
        atoms_fit = z;
      };
      states_same = refl;
      starts_same = refl;
      atoms_same = refl;
      same = behind-none (read_rows 1025 s t 0 0);
      loaded = loaded-none s.channels states starts atoms (omega arith);
    }

module _ {s : Shape} {t : List ℕ} {old new : Memory} {at : ℕ} {m : Filled} (w : RowsAt s t old new at m) where
  turns : 1025 - m.rows ≡ suc (1024 - m.rows)
  turns = omega (arith, w.room.few_rows)

  pub rows_on : at < length t → (newer : Memory) (next : Progress)
      → RowRead (read_row s t at m.rows) (length t) s.channels at m new newer next
      → RowsAt s t old newer next.at (record { rows = m.rows + 1; products = m.products + s.channels; atoms = next.atoms })
  rows_on l newer next r =
      let n : ℕ = s.channels in
      let so : List Row = w.so_far in
      let row : Row = r.row in
      let p : all_products n (so ++ (row ∷ [])) ≡ all_products n so ++ products_of n row = joined_snoc (products_of n) so row in
      let c : length (products_of n row) ≡ n = listed-length row.products n 0 in
      let d : length (ends m.atoms (products_of n row)) ≡ n = ends-length m.atoms (products_of n row) ∙ c in
      let few : m.rows < 1024 = r.counted in
      let q : Room s m new = w.room in
      let z : 1025 - (m.rows + 1) ≡ 1024 - m.rows = omega arith in
      let u : length newer.states ≡ length new.states =
      ap length r.states_stored ∙ put-length new.states m.rows (row.state ∷ []) (omega (arith, q.states_fit)) in
      let v : length newer.products.starts ≡ length new.products.starts =
      ap length r.starts_stored ∙ put-length new.products.starts (m.products + 1) (ends m.atoms (products_of n row)) (omega (arith, q.starts_fit, q.few_products, q.channels)) in
      let x : length newer.products.atoms ≡ length new.products.atoms =
      ap length r.atoms_stored ∙ put-length new.products.atoms m.atoms (atoms_in (products_of n row)) (omega (arith, q.atoms_fit, q.few_atoms, r.many, r.few)) in
      record {
        so_far = so ++ (row ∷ []);
        many = length-append so (row ∷ []) ∙ omega (arith, w.many);
        inside = r.inside;
        products_are = ap length p ∙ length-append (all_products n so) (products_of n row) ∙ omega (arith, w.products_are);
        atoms_are = ap (λ (x : List (List ℕ)). length (atoms_in x)) p ∙ ap length (joined-append (λ (q : List ℕ). q) (all_products n so) (products_of n row))
            ∙ length-append (atoms_in (all_products n so)) (atoms_in (products_of n row)) ∙ omega (arith, w.atoms_are, r.many);
        room = record {
          channels = q.channels;
          messages = q.messages;
          few_rows = omega arith;
          few_products = omega (arith, q.few_products, q.channels);
          few_atoms = omega (arith, q.few_atoms, r.few);
          states_fit = omega (arith, q.states_fit);
          starts_fit = omega (arith, q.starts_fit);
          atoms_fit = omega (arith, q.atoms_fit);
        };
        states_same = u ∙ w.states_same;
        starts_same = v ∙ w.starts_same;
        atoms_same = x ∙ w.atoms_same;
        same = w.same ∙ rw turns (ap (rows_behind so) (turn-next s t (1024 - m.rows) at m.rows row next.at l r.whole))
            ∙ behind-both so (row ∷ []) (read_rows (1024 - m.rows) s t next.at (m.rows + 1))
            ∙ ap (λ (k : ℕ). rows_behind (so ++ (row ∷ [])) (read_rows k s t next.at (m.rows + 1))) (sym z);
        loaded = loaded-more n so row m old new newer w.loaded w.many w.products_are w.atoms_are
            r.states_stored r.starts_stored r.atoms_stored;
      }

  pub rows-fail : at < length t → (f : Fault) → read_row s t at m.rows ≡ fails f → Err (record { fault = f; at = at }) ≡ check_list s t
  unfolding check_list
  rows-fail l f e = rw (w.same, turns, turn-fails s t (1024 - m.rows) at m.rows f l e)

  rows_are : length t ≤ at → read_list s t ≡ rows w.so_far
  rows_are l = w.same ∙ ap (rows_behind w.so_far) (turn-done s t (1025 - m.rows) at m.rows l) ∙ ap rows (append-nil w.so_far)

  pub rows-good : length t ≤ at → Ok m.rows ≡ check_list s t
  unfolding check_list
  rows-good l = rw (rows_are l, w.many)

  pub rows-loaded : length t ≤ at → Loaded s.channels (rows_of s t) old new
  unfolding rows_of
  rows-loaded l = rw (rows_are l) w.loaded

-- Whatever stood in the first place of starts.
pub loaded-first : (n : ℕ) (l : List Row) (states starts atoms : List ℕ) (y : ℕ) (new : Memory)
    → Loaded n l (memory states (set starts 0 y) atoms) new → Loaded n l (memory states starts atoms) new
loaded-first n l states starts atoms y new h =
    record { states_are = h.states_are; starts_are = h.starts_are ∙ front-first 0 y (ends 0 (all_products n l)) starts; atoms_are = h.atoms_are }

pub ruleset row_turns = (rows_start)
