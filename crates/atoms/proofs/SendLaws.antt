-- A send adds the single of its message, a self-loop send the star of it: what words that means.
use Rattle.std.proofs.Common.{◌↔◌, List, [], ◌∷◌, ◌++◌, ℕ, ◌<◌, replicate}
use mathlib.Core.List.{map-append}
use Rattle.meaning.specs.Words.{Word, ◌⪯◌}
use Rattle.meaning.proofs.SendLaws.{send-words, rounds-words}
use Rattle.atoms.specs.Masks.{meant, single_of, star_of}
use Rattle.atoms.specs.Products.{product, WordOf}
use Rattle.atoms.proofs.AtomLaws.{single-star, single-alone, star-star, star-alone}

module _ (m : ℕ) (p : List ℕ) (w : Word) (l : m < 15) where
  -- SEND: exactly what appending m to a word of the product, and then losses, can leave.
  pub send-iff : WordOf (p ++ (single_of m ∷ [])) w ↔ ((x : Word) × WordOf p x × (w ⪯ x ++ (m ∷ [])))
  send-iff = rw (map-append meant p (single_of m ∷ [])) (send-words (single-alone m l) (product p) w (single-star m l))

  -- SELF-LOOP SEND: exactly what appending m any number of times, losses included, can leave.
  pub rounds-iff : WordOf (p ++ (star_of m ∷ [])) w ↔ ((x : Word) × (k : ℕ) × WordOf p x × (w ⪯ x ++ replicate k m))
  rounds-iff = rw (map-append meant p (star_of m ∷ [])) (rounds-words (star-alone m l) (product p) w (star-star m l))
