-- One row: what its frame and its payload decide, and what reading it stores.
use Rattle.std.proofs.Common.{◌≡◌, refl, sym, ap, ◌∙◌, List, [], ◌∷◌, ℕ, suc, ◌+◌, ◌<◌, ◌≤◌, arith, length, get_or, set, Ok}
use Rattle.common.specs.Choice.{if_lt}
use Rattle.common.proofs.ChoiceLaws.{choices, lt-then, lt-else}
use Rattle.common.proofs.StoreLaws.{put_one}
use Rattle.rows.specs.Rows.{Row}
use Rattle.reader.specs.Bytes.{number_at}
use Rattle.table.specs.Listing.{listed}
use Rattle.table.specs.declared.faults.Fault.TheVariants.{Length}
use Rattle.table.specs.declared.checks.Shape.{Shape}
use Rattle.lists.specs.Format.{products_of}
use Rattle.lists.specs.Reading.{Read, read, fails, and_then, read_many, read_product, row_with, frame_of, read_payload, frame_at, read_row}
use Rattle.lists.specs.Loading.{Products, Memory}
use Rattle.lists.specs.Steps.{ProductsRead, RowRead}
use Rattle.lists.proofs.ManyLaws.{many-each}
use Rattle.lists.specs.declared.products.Progress.{Progress}
use Rattle.lists.specs.declared.records.Filled.{Filled}

-- What a function gives, where it gives the elements of a list.
pub listed-get : {A : Type 0} (d : A) (ps : List A) (g : ℕ → A) (i : ℕ) → ((j : ℕ) → g (i + j) ≡ get_or ps j d) → listed g (length ps) i ≡ ps
unfolding listed
listed-get d [] g i h = refl
listed-get {A} d (p ∷ ps) g i h =
    let z : i ≡ i + 0 = omega arith in
    let first : g i ≡ p = ap g z ∙ h 0 in
    rw first (ap (λ (l : List A). p ∷ l) (listed-get d ps g (i + 1) (λ j. ap g (next j) ∙ h (suc j))))
  where
    next : (j : ℕ) → i + 1 + j ≡ i + suc j
    next j = omega arith

-- The products of a row that was made with them.
pub products-with : (n state : ℕ) (ps : List (List ℕ)) → length ps ≡ n → products_of n (row_with state ps) ≡ ps
products-with n state ps e = rw (← e) (listed-get [] ps (λ c. get_or ps c []) 0 (λ j. ap (λ (k : ℕ). get_or ps k []) (zero-plus j)))
  where
    zero-plus : (j : ℕ) → 0 + j ≡ j
    zero-plus j = omega arith

-- As many products are read as there are channels.
pub many-products : (one : ℕ → Read (List ℕ)) (n from : ℕ) (ps : List (List ℕ)) (next : ℕ) → read_many one n from ≡ read ps next → length ps ≡ n
many-products one n from ps next e = (many-each one (λ p. Unit {0}) (λ a x b q. tt) n from ps next e).0

-- A payload whose state is there and is one of the table's.
module _ (s : Shape) (t : List ℕ) (at end state : ℕ) (e : state ≡ number_at t (at + 4)) (l : at + 6 ≤ end) (m : state < s.states) where
  -- What the products decide.
  rest : Read (List (List ℕ)) → Read Row
  rest r = and_then r (λ ps next. if_lt next end (fails Length) (read (row_with state ps) next))

  abbrev products : Read (List (List ℕ))
  products = read_many (read_product (frame_of s at end) t) s.channels (at + 6)

  payload-is : read_payload s t at end ≡ rest products
  unfolding read_payload rest
  payload-is = rw e (sym (lt-else _ _ _ _ l (lt-then _ _ _ _ (omega arith) refl)))

  pub payload-read : (ps : List (List ℕ)) (next : ℕ) → products ≡ read ps next → end ≤ next → read_payload s t at end ≡ read (row_with state ps) next
  unfolding rest
  payload-read ps next d k = payload-is ∙ ap rest d ∙ sym (lt-else _ _ _ _ k refl)

  -- What is stored of a row with no bytes over.
  pub row_read : (f : Filled) (old : Memory) (new : Products) (next : Progress) → end ≤ length t → f.rows < 1024 → f.rows < length old.states → end ≤ next.at
      → ProductsRead products end (record { at = at + 6; atoms = f.atoms }) f.products old.products new next
      → RowRead (read_payload s t at end) (length t) s.channels at f old (record { states = set old.states f.rows state; products = new }) next
  row_read f old new next i c j k r =
      let ps : List (List ℕ) = r.products in
      let z : products_of s.channels (row_with state ps) ≡ ps = products-with s.channels state ps (many-products _ _ _ ps next.at r.whole) in
      record {
        row = row_with state ps;
        whole = payload-read ps next.at r.whole k;
        many = rw z r.many;
        few = r.few;
        counted = c;
        onward = omega (arith, r.onward);
        inside = omega (arith, r.inside);
        states_stored = put_one old.states f.rows state j;
        starts_stored = rw z r.starts_stored;
        atoms_stored = rw z r.atoms_stored;
      }

-- A frame that passes: the payload is there, and there are not too many rows.
pub record FrameOk (t : List ℕ) (at i end : ℕ) : Type 0 where
  pub kind_is : number_at t (at + 2) ≡ 16
  pub end_is : end ≡ at + 4 + number_at t at
  pub inside : end ≤ length t
  pub counted : i < 1024

pub frame-ok : (t : List ℕ) (at i end : ℕ) → frame_at t at i ≡ Ok end → FrameOk t at i end
unfolding frame_at
frame-ok t at i end e = grind (arith, choices)

pub row-framed : (s : Shape) (t : List ℕ) (at i end : ℕ) → frame_at t at i ≡ Ok end → read_row s t at i ≡ read_payload s t at end
unfolding read_row
row-framed s t at i end e = rw e

pub ruleset frames = (frame-ok)
