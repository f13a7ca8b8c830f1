-- A proof list as bytes: records of kind 16, one for each row.
use Rattle.std.specs.Prelude.{List, [], ◌∷◌, ◌++◌, ℕ, ◌/◌, ◌%◌, ◌<◌, ◌≤◌, length}
use Rattle.table.specs.Listing.{listed}
use Rattle.table.specs.declared.checks.Shape.{Shape}
use Rattle.rows.specs.Rows.{Row, RowOf}

-- What f makes of each element, one after the other.
unfoldable pub joined : {A B : Type 0} → (A → List B) → List A → List B
joined f [] = []
joined f (x ∷ l) = f x ++ joined f l

-- A number in two bytes, low byte first.
unfoldable pub number_bytes : ℕ → List ℕ
number_bytes x = x % 256 ∷ x / 256 ∷ []

-- A product: its count in one byte, and its atoms.
unfoldable pub product_bytes : List ℕ → List ℕ
product_bytes p = length p ∷ joined number_bytes p

-- The products of a row for n channels.
abbrev pub products_of : ℕ → Row → List (List ℕ)
products_of n r = listed r.products n 0

-- A row's payload: its state, and its products.
unfoldable pub payload_bytes : ℕ → Row → List ℕ
payload_bytes n r = number_bytes r.state ++ joined product_bytes (products_of n r)

-- A row's record: the payload's length, kind 16, the payload.
unfoldable pub row_bytes : ℕ → Row → List ℕ
row_bytes n r = number_bytes (length (payload_bytes n r)) ++ (number_bytes 16 ++ payload_bytes n r)

-- The list of the rows, for a table with n channels.
unfoldable pub list_bytes : ℕ → List Row → List ℕ
list_bytes n rows = joined (row_bytes n) rows

-- A row that a list for a table of that shape can hold: its state and its atoms are the table's, and no product has more than 24 atoms.
pub record RowFits (s : Shape) (r : Row) : Type 0 where
  pub state_ok : r.state < s.states
  pub row_of : RowOf s.channels s.messages r
  pub narrow : (c : ℕ) → length (r.products c) ≤ 24
