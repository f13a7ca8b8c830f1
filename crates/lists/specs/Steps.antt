-- What each step of the reader says of the thing m that is to be read, and what it leaves in lent memory.
use Rattle.std.specs.Prelude.{◌≡◌, List, [], ◌∷◌, ℕ, ◌+◌, ◌*◌, ◌<◌, ◌≤◌, length, Result, Ok, Err}
use Rattle.common.specs.Store.{put_at}
use Rattle.rows.specs.Rows.{Row}
use Rattle.table.specs.declared.faults.Fault.{Fault}
use Rattle.table.specs.declared.checks.Shape.{Shape}
use Rattle.lists.specs.Format.{products_of}
use Rattle.lists.specs.Reading.{Read, read, fails}
use Rattle.lists.specs.declared.products.Progress.{Progress}
use Rattle.lists.specs.declared.records.Filled.{Filled}
use Rattle.lists.specs.Loading.{atoms_in, ends, Products, Memory}

-- An atom that ends at a place.
abbrev pub AtomTold : Result ℕ Fault → Read ℕ → ℕ → Type 0
AtomTold (Ok a) m next = m ≡ read a next
AtomTold (Err f) m next = m ≡ fails f

-- So many atoms that end at a place, in a record whose payload ends at another.
pub record AtomsRead (m : Read (List ℕ)) (end next count used : ℕ) (old new : List ℕ) : Type 0 where
  pub atoms : List ℕ
  pub whole : m ≡ read atoms next
  pub many : length atoms ≡ count
  pub inside : next ≤ end
  pub stored : new ≡ put_at old used atoms

abbrev pub AtomsTold : Result (Unit {0}) Fault → Read (List ℕ) → ℕ → ℕ → ℕ → ℕ → List ℕ → List ℕ → Type 0
AtomsTold (Ok x) m end next count used old new = AtomsRead m end next count used old new
AtomsTold (Err f) m end next count used old new = m ≡ fails f

-- A product that begins at a place and ends at another, where so many atoms came before.
pub record ProductRead (m : Read (List ℕ)) (end : ℕ) (from : Progress) (old new : List ℕ) (next : Progress) : Type 0 where
  pub product : List ℕ
  pub whole : m ≡ read product next.at
  pub many : next.atoms ≡ from.atoms + length product
  pub few : next.atoms ≤ from.atoms + 24
  pub onward : from.at ≤ next.at
  pub inside : next.at ≤ end
  pub stored : new ≡ put_at old from.atoms product

abbrev pub ProductTold : Result Progress Fault → Read (List ℕ) → ℕ → Progress → List ℕ → List ℕ → Type 0
ProductTold (Ok next) m end from old new = ProductRead m end from old new next
ProductTold (Err f) m end from old new = m ≡ fails f

-- Products that begin at a place and end at another, where so many atoms came before; the first of them is product number `first`.
pub record ProductsRead (m : Read (List (List ℕ))) (end : ℕ) (from : Progress) (first : ℕ) (old new : Products) (next : Progress) : Type 0 where
  pub products : List (List ℕ)
  pub whole : m ≡ read products next.at
  pub many : next.atoms ≡ from.atoms + length (atoms_in products)
  pub few : next.atoms ≤ from.atoms + 96
  pub onward : from.at ≤ next.at
  pub inside : next.at ≤ end
  pub starts_stored : new.starts ≡ put_at old.starts (first + 1) (ends from.atoms products)
  pub atoms_stored : new.atoms ≡ put_at old.atoms from.atoms (atoms_in products)

abbrev pub ProductsTold : Result Progress Fault → Read (List (List ℕ)) → ℕ → Progress → ℕ → Products → Products → Type 0
ProductsTold (Ok next) m end from first old new = ProductsRead m end from first old new next
ProductsTold (Err f) m end from first old new = m ≡ fails f

-- There is room for all rows that a list can have, and what is filled keeps to the rows that are read.
pub record Room (s : Shape) (m : Filled) (w : Memory) : Type 0 where
  pub channels : s.channels ≤ 4
  pub messages : s.messages ≤ 15
  pub few_rows : m.rows ≤ 1024
  pub few_products : m.products ≤ 4 * m.rows
  pub few_atoms : m.atoms ≤ 96 * m.rows
  pub states_fit : 1024 ≤ length w.states
  pub starts_fit : 4097 ≤ length w.products.starts
  pub atoms_fit : 98304 ≤ length w.products.atoms

-- A row that begins at a place and ends at another, in a list of so many bytes, for a table with so many channels.
pub record RowRead (r : Read Row) (size channels at : ℕ) (m : Filled) (old new : Memory) (next : Progress) : Type 0 where
  pub row : Row
  pub whole : r ≡ read row next.at
  pub many : next.atoms ≡ m.atoms + length (atoms_in (products_of channels row))
  pub few : next.atoms ≤ m.atoms + 96
  pub counted : m.rows < 1024
  pub onward : at < next.at
  pub inside : next.at ≤ size
  pub states_stored : new.states ≡ put_at old.states m.rows (row.state ∷ [])
  pub starts_stored : new.products.starts ≡ put_at old.products.starts (m.products + 1) (ends m.atoms (products_of channels row))
  pub atoms_stored : new.products.atoms ≡ put_at old.products.atoms m.atoms (atoms_in (products_of channels row))

unfoldable pub RowTold : Result Progress Fault → Read Row → ℕ → ℕ → ℕ → Filled → Memory → Memory → Type 0
RowTold (Ok next) r size channels at m old new = RowRead r size channels at m old new next
RowTold (Err f) r size channels at m old new = r ≡ fails f
