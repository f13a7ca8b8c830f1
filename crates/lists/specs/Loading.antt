-- What reading a list leaves in lent memory: the rows' states; the atoms of all products, one after the other; and where each product's atoms
-- begin, so that product k stands from starts[k] up to starts[k + 1].
use Rattle.std.specs.Prelude.{◌≡◌, List, [], ◌∷◌, map, ℕ, ◌+◌, ◌*◌, ◌<◌, ◌≤◌, length, get_or, Ok, Err}
use Rattle.std.proofs.Math.Option.{some}
use Rattle.std.proofs.Math.ListN.{get_elem?}
use Rattle.common.specs.Part.{part}
use Rattle.common.specs.Front.{front}
use Rattle.rows.specs.Rows.{Row}
use Rattle.table.specs.declared.checks.Shape.{Shape}
use Rattle.lists.specs.Format.{joined, products_of}
use Rattle.lists.specs.Reading.{ListChecked, rows_of}

-- The atoms of products, one after the other.
abbrev pub atoms_in : List (List ℕ) → List ℕ
atoms_in ps = joined (λ p. p) ps

-- Where the atoms of each product end, where u atoms came before.
unfoldable pub ends : ℕ → List (List ℕ) → List ℕ
ends u [] = []
ends u (p ∷ ps) = (u + length p) ∷ ends (u + length p) ps

-- The memory for products: where their atoms begin, and their atoms.
pub record Products : Type 0 where
  pub starts : List ℕ
  pub atoms : List ℕ

abbrev pub products : List ℕ → List ℕ → Products
products starts atoms = record { starts = starts; atoms = atoms }

-- The memory for rows: their states, and their products.
pub record Memory : Type 0 where
  pub states : List ℕ
  pub products : Products

abbrev pub memory : List ℕ → List ℕ → List ℕ → Memory
memory states starts atoms = record { states = states; products = products starts atoms }

-- The products of rows, for n channels: product c of row i is number i * n + c.
abbrev pub all_products : ℕ → List Row → List (List ℕ)
all_products n l = joined (products_of n) l

-- The memory holds the rows, and all later places what it held before.
pub record Loaded (n : ℕ) (l : List Row) (old new : Memory) : Type 0 where
  pub states_are : new.states ≡ front (map (λ (r : Row). r.state) l) old.states
  pub starts_are : new.products.starts ≡ front (0 ∷ ends 0 (all_products n l)) old.products.starts
  pub atoms_are : new.products.atoms ≡ front (atoms_in (all_products n l)) old.products.atoms

-- A good list's rows are left in the memory.
abbrev pub ListTold : ListChecked → Shape → List ℕ → Memory → Memory → Type 0
ListTold (Ok n) s t old new = Loaded s.channels (rows_of s t) old new
ListTold (Err r) s t old new = Unit {0}

-- Product number k in the memory is p.
pub record ProductAt (w : Products) (k : ℕ) (p : List ℕ) : Type 0 where
  pub there : k + 1 < length w.starts
  pub rises : get_or w.starts k 0 ≤ get_or w.starts (k + 1) 0
  pub inside : get_or w.starts (k + 1) 0 ≤ length w.atoms
  pub holds : part (get_or w.starts k 0) (get_or w.starts (k + 1) 0) w.atoms ≡ p

-- What stands where in memory that holds rows, for n channels.
pub record Decoded (n : ℕ) (l : List Row) (w : Memory) : Type 0 where
  pub states_there : length l ≤ length w.states
  pub state_at : (i : ℕ) (r : Row) → get_elem? l i ≡ some r → get_or w.states i 0 ≡ r.state
  pub product_at : (i c : ℕ) (r : Row) → get_elem? l i ≡ some r → c < n → ProductAt w.products (i * n + c) (r.products c)
