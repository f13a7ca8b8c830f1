-- Whether every word of p is a word of q, head against head (000, section 4).
use Rattle.std.specs.Prelude.{Bool, true, false, List, [], ◌∷◌, ℕ}
use Rattle.common.specs.Choice.{if_true}
use Rattle.atoms.specs.Masks.{star, sub}

-- The head a of p against q: q's head is dropped where it does not have all of a; where it does, a is dropped, and with it q's head
-- if that is a single. `rest` says of what is left of q whether it contains the rest of p.
unfoldable pub against : ℕ → (List ℕ → Bool) → List ℕ → Bool
against a rest [] = false
against a rest (b ∷ q) = if_true (sub a b) (if_true (star b) (rest (b ∷ q)) (rest q)) (against a rest q)

unfoldable pub contained : List ℕ → List ℕ → Bool
contained [] q = true
contained (a ∷ p) q = against a (contained p) q
