-- What a send makes of a product, written to the front of a buffer.
use Rattle.std.specs.Prelude.{◌≡◌, List, [], ◌∷◌, ◌++◌, ℕ, ◌≤◌}
use Rattle.common.specs.Part.{part}
use Rattle.atoms.specs.Normal.{normal}

-- The first r words of the buffer are the product p with the atom added, in normal form.
pub record Sent (p : List ℕ) (atom : ℕ) (buffer : List ℕ) (r : ℕ) : Type 0 where
  pub few : r ≤ 25
  pub product : part 0 r buffer ≡ normal (p ++ (atom ∷ []))
