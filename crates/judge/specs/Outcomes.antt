-- What a send makes of a product, written to the front of a buffer. It is not brought to normal form.
use Rattle.std.specs.Prelude.{◌≡◌, List, [], ◌∷◌, ◌++◌, ℕ, ◌≤◌}
use Rattle.common.specs.Part.{part}

-- The first r words of the buffer are the product p with the atom added.
pub record Sent (p : List ℕ) (atom : ℕ) (buffer : List ℕ) (r : ℕ) : Type 0 where
  pub few : r ≤ 25
  pub product : part 0 r buffer ≡ p ++ (atom ∷ [])
