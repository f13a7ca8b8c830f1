-- Round trip: the list of rows that fit is good, and its rows are those.
use Rattle.std.proofs.Common.{◌≡◌, refl, sym, ap, subst, ◌∙◌, ◌⊎◌, inl, inr, true, false, List, [], ◌∷◌, ◌++◌, append-nil, ℕ, zero, suc, ◌+◌, ◌*◌, ◌/◌, ◌%◌, ◌<◌, ◌≤◌, div-add-mod', arith, length, get_or, length-append, ltb, ltb-true, ltb-false, Ok}
use mathlib.Core.Path.{fun_ext}
use Rattle.common.specs.Each.{Each}
use Rattle.common.proofs.BoolLaws.{either}
use Rattle.common.proofs.ChoiceLaws.{lt-then, lt-else, eq-then, true-then}
use Rattle.common.proofs.StandLaws.{Stands, stands-inside, stands-get}
use Rattle.atoms.specs.Masks.{AtomOf}
use Rattle.atoms.proofs.AtomLaws.{atom-test}
use Rattle.rows.specs.Rows.{Row}
use Rattle.reader.specs.Bytes.{byte_at, number_at}
use Rattle.table.specs.Listing.{listed}
use Rattle.table.proofs.ListingLaws.{listed-length}
use Rattle.table.specs.declared.checks.Shape.{Shape}
use Rattle.lists.specs.Format.{joined, number_bytes, product_bytes, products_of, payload_bytes, row_bytes, list_bytes, RowFits}
use Rattle.lists.specs.Reading.{read, read_atom, read_product, row_with, frame_of, read_payload, frame_at, read_row, rows, rows_behind, read_rows, read_list, check_list, rows_of}
use Rattle.lists.proofs.ManyLaws.{stands-left, stands-right, many-back}
use Rattle.lists.proofs.RowLaws.{payload-read, row-framed}
use Rattle.lists.proofs.ListLaws.{turn-next, turn-done}
use Rattle.lists.proofs.GoodLaws.{ProductFits, get-past}
use Rattle.lists.specs.declared.products.Frame.{Frame}

-- A number is read back from its two bytes.
pub number-back : {t : List ℕ} {a : ℕ} (x : ℕ) → Stands t a (number_bytes x) → number_at t a ≡ x
unfolding number_at number_bytes
number-back {t} {a} x s =
    let low : byte_at t a ≡ x % 256 = stands-get s in
    let high : byte_at t (a + 1) ≡ x / 256 = stands-get (stands-right (x % 256 ∷ []) (x / 256 ∷ []) s) in
    let e : x / 256 * 256 + x % 256 ≡ x = div-add-mod' x 256 in
    rw (low, high) (omega arith)

pub number-length : (x : ℕ) → length (number_bytes x) ≡ 2
unfolding number_bytes
number-length x = refl

atom-back : (f : Frame) (t : List ℕ) (a from : ℕ) → AtomOf f.messages a → Stands t from (number_bytes a) → from + length (number_bytes a) ≤ f.end
    → read_atom f t from ≡ read a (from + length (number_bytes a))
unfolding read_atom
atom-back f t a from h s l =
    let n : length (number_bytes a) ≡ 2 = number-length a in
    let e : number_at t from ≡ a = number-back a s in
    rw (n, e) (sym (lt-else _ _ _ _ (omega arith) (true-then _ _ _ ((atom-test f.messages a).1 h) refl)))

product-back : (f : Frame) (t : List ℕ) (p : List ℕ) (from : ℕ) → ProductFits f.messages p → Stands t from (product_bytes p) → from + length (product_bytes p) ≤ f.end
    → read_product f t from ≡ read p (from + length (product_bytes p))
unfolding product_bytes read_product
product-back f t p from h s l =
    let c : byte_at t from ≡ length p = stands-get s in
    let m = many-back (read_atom f t) number_bytes t f.end (AtomOf f.messages) (atom-back f t) p (from + 1) h.atoms (stands-right (length p ∷ []) (joined number_bytes p) s) (omega arith) in
    let z : from + 1 + length (joined number_bytes p) ≡ from + suc (length (joined number_bytes p)) = omega arith in
    rw c (sym (lt-then _ _ _ _ (omega arith) (lt-else _ _ _ _ h.narrow (sym (m ∙ ap (λ (n : ℕ). read p n) z)))))

-- The products of a row that fits.
fits-listed : (s : Shape) (r : Row) → RowFits s r → (k i : ℕ) → Each (ProductFits s.messages) (listed r.products k i)
unfolding listed
fits-listed s r h zero i = tt
fits-listed s r h (suc k) i = (record { atoms = h.row_of.atoms i; narrow = h.narrow i }, fits-listed s r h k (i + 1))

-- A row is the one with its products.
get-listed : (g : ℕ → List ℕ) (k i j : ℕ) → j < k → get_or (listed g k i) j [] ≡ g (i + j)
unfolding listed
get-listed g zero i j h = absurd (omega arith)
get-listed g (suc k) i zero h = ap g (omega arith)
get-listed g (suc k) i (suc j) h = get-listed g k (i + 1) j (omega arith) ∙ ap g (omega arith)

pub row-with : (s : Shape) (r : Row) → RowFits s r → row_with r.state (products_of s.channels r) ≡ r
row-with s r h = ap (λ (p : ℕ → List ℕ). record { state = r.state; products = p }) (fun_ext (λ c. go c (either (ltb c n))))
  where
    n : ℕ
    n = s.channels

    go : (c : ℕ) → (ltb c n ≡ true) ⊎ (ltb c n ≡ false) → get_or (products_of n r) c [] ≡ r.products c
    go c (inl l) = get-listed r.products n 0 c (ltb-true c n l) ∙ ap r.products (omega arith)
    go c (inr l) =
        let m : n ≤ c = ltb-false c n l in
        get-past (products_of n r) c (omega (arith, listed-length r.products n 0)) ∙ sym (h.row_of.none_past c m)

payload-back : (s : Shape) (t : List ℕ) (at end : ℕ) (r : Row) → RowFits s r → Stands t (at + 4) (payload_bytes s.channels r)
    → end ≡ at + 4 + length (payload_bytes s.channels r) → read_payload s t at end ≡ read r end
unfolding payload_bytes
payload-back s t at end r h st e =
    let n : ℕ = s.channels in
    let ps : List (List ℕ) = products_of n r in
    let w : length (number_bytes r.state) ≡ 2 = number-length r.state in
    let v : length (number_bytes r.state ++ joined product_bytes ps) ≡ length (number_bytes r.state) + length (joined product_bytes ps) =
    length-append (number_bytes r.state) (joined product_bytes ps) in
    let y : at + 4 + length (number_bytes r.state) ≡ at + 6 = omega arith in
    let z : at + 6 + length (joined product_bytes ps) ≡ end = omega arith in
    let c : number_at t (at + 4) ≡ r.state = number-back r.state (stands-left (number_bytes r.state) (joined product_bytes ps) st) in
    let m = many-back (read_product (frame_of s at end) t) product_bytes t end (ProductFits s.messages) (product-back (frame_of s at end) t) ps (at + 6)
    (fits-listed s r h n 0) (subst (λ (a : ℕ). Stands t a (joined product_bytes ps)) y (stands-right (number_bytes r.state) (joined product_bytes ps) st)) (omega arith) in
    let k : length ps ≡ n = listed-length r.products n 0 in
    payload-read s t at end r.state (sym c) (omega arith) h.state_ok ps end (rw k at (m ∙ ap (λ (x : ℕ). read ps x) z)) (omega arith)
    ∙ ap (λ (q : Row). read q end) (row-with s r h)

row-long : (n : ℕ) (r : Row) → 4 ≤ length (row_bytes n r)
unfolding row_bytes number_bytes
row-long n r = omega arith

-- A row is read back from its record.
row_back : (s : Shape) (t : List ℕ) (at i : ℕ) (r : Row) → RowFits s r → i < 1024 → Stands t at (row_bytes s.channels r)
    → read_row s t at i ≡ read r (at + length (row_bytes s.channels r))
unfolding row_bytes number_bytes frame_at
row_back s t at i r h l st =
    let p : List ℕ = payload_bytes s.channels r in
    let k : List ℕ = number_bytes 16 in
    let n : List ℕ = number_bytes (length p) in
    let a : Stands t at n = stands-left n (k ++ p) st in
    let b : Stands t (at + length n) (k ++ p) = stands-right n (k ++ p) st in
    let c : Stands t (at + 2) k = stands-left k p b in
    let d : Stands t (at + 4) p = subst (λ (x : ℕ). Stands t x p) (omega arith) (stands-right k p b) in
    let size : number_at t at ≡ length p = number-back (length p) a in
    let kind : number_at t (at + 2) ≡ 16 = number-back 16 c in
    let inside : at + 4 + length p ≤ length t = stands-inside d in
    let z : at + 4 + length p ≡ at + length (n ++ (k ++ p)) = omega arith in
    let f : frame_at t at i ≡ Ok (at + 4 + length p) =
    rw (size, kind) (sym (lt-else _ _ _ _ (omega arith) (eq-then _ _ _ _ refl (lt-else _ _ _ _ inside (lt-then _ _ _ _ l refl))))) in
    row-framed s t at i (at + 4 + length p) f ∙ payload-back s t at (at + 4 + length p) r h d refl ∙ ap (λ (x : ℕ). read r x) z

rows_back : (s : Shape) (t : List ℕ) (l : List Row) (k at i : ℕ) → Each (RowFits s) l → length l + i ≤ 1024 → k + i ≡ 1025
    → Stands t at (list_bytes s.channels l) → at + length (list_bytes s.channels l) ≡ length t → read_rows k s t at i ≡ rows l
unfolding list_bytes joined
rows_back s t [] k at i h few turns st e = turn-done s t k at i (omega arith)
rows_back s t (r ∷ l) zero at i h few turns st e = absurd (omega arith)
rows_back s t (r ∷ l) (suc k) at i h few turns st e =
    let n : ℕ = s.channels in
    let b : List ℕ = row_bytes n r in
    let w : length (b ++ joined (row_bytes n) l) ≡ length b + length (joined (row_bytes n) l) = length-append b (joined (row_bytes n) l) in
    let long : 4 ≤ length b = row-long n r in
    turn-next s t k at i r (at + length b) (omega arith) (row_back s t at i r h.0 (omega arith) (stands-left b (joined (row_bytes n) l) st))
    ∙ ap (rows_behind (r ∷ [])) (rows_back s t l k (at + length b) (i + 1) h.1 (omega arith) (omega arith) (stands-right b (joined (row_bytes n) l) st) (omega arith))

-- The list of at most 1,024 rows that fit is read back.
module _ (s : Shape) (l : List Row) (fits : Each (RowFits s) l) (few : length l ≤ 1024) where
  list_back : read_list s (list_bytes s.channels l) ≡ rows l
  unfolding read_list
  list_back =
      let t : List ℕ = list_bytes s.channels l in
      rows_back s t l 1025 0 0 fits (omega arith) refl (record { before = []; behind = []; whole = sym (append-nil t); place = refl }) (omega arith)

  pub written-good : check_list s (list_bytes s.channels l) ≡ Ok (length l)
  unfolding check_list
  written-good = rw list_back

  pub written_back : rows_of s (list_bytes s.channels l) ≡ l
  unfolding rows_of
  written_back = rw list_back
