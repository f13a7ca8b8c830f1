-- Rows, and what configurations they mean (000, section 7.1: symbolic states).
use Rattle.std.specs.Prelude.{◌≡◌, ℕ}
use Rattle.meaning.specs.Systems.{Config}
use Rattle.meaning.specs.Products.{Product, ProductWord}

-- A control state and a product for each channel (000, section 7.1: ⟨s, R⟩).
pub record Row : Type 0 where
  pub state : ℕ
  pub product : ℕ → Product

-- The configurations of a row: its state, and in every channel a word of its product (000, section 7.1: ⟨s, w⟩ with w in R).
pub record InRow (r : Row) (x : Config) : Type 0 where
  pub state : x.state ≡ r.state
  pub words : (c : ℕ) → ProductWord (r.product c) (x.contents c)
