-- Rows: a control state and for each channel a product as a list of masks.
use Rattle.std.specs.Prelude.{ℕ, zero, suc, ◌≤◌, ◌≡◌, Bool, true, false, List, []}
use Rattle.common.specs.Choice.{if_true, if_eq}
use Rattle.meaning.specs.Rows as meaning
use Rattle.atoms.specs.Masks.{AtomsOf}
use Rattle.atoms.specs.Products.{product}
use Rattle.atoms.specs.Contained.{contained}
use Rattle.atoms.specs.Normal.{normal}

pub record Row : Type 0 where
  pub state : ℕ
  pub products : ℕ → List ℕ

-- The configurations that a row stands for are those of the row that it means.
abbrev pub meant_row : Row → meaning.Row
meant_row r = record { state = r.state; product = λ c. product (r.products c) }

-- A row of a table with n channels and k messages: atoms of the table, and no atoms past its channels.
pub record RowOf (n k : ℕ) (r : Row) : Type 0 where
  pub atoms : (c : ℕ) → AtomsOf k (r.products c)
  pub none_past : (c : ℕ) → n ≤ c → r.products c ≡ []

-- The row with each product in normal form.
abbrev pub normal_row : Row → Row
normal_row r = record { state = r.state; products = λ c. normal (r.products c) }

-- The start state with every channel empty.
abbrev pub start_row : ℕ → Row
start_row s = record { state = s; products = λ c. [] }

-- Each of the first n products of p is contained in its like in q.
unfoldable pub each_contained : ℕ → (ℕ → List ℕ) → (ℕ → List ℕ) → Bool
each_contained zero p q = true
each_contained (suc n) p q = if_true (contained (p n) (q n)) (each_contained n p q) false

-- The row s contains the row r: the states are equal and each product contains its like.
unfoldable pub covers : ℕ → Row → Row → Bool
covers n s r = if_eq r.state s.state (each_contained n r.products s.products) false
