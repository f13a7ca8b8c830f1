-- The first places of lent memory, written one after the other.
use Rattle.std.proofs.Common.{◌≡◌, refl, ap, ◌∙◌, List, [], ◌++◌, ℕ, length, drop}
use lib.Seq.{drop-append_seam, take_at}
use Rattle.common.specs.Front.{front}
use Rattle.common.specs.Part.{part}
use Rattle.common.proofs.PartLaws.{part-take}

pub front-none : (l : List ℕ) → l ≡ front [] l
unfolding front
front-none l = refl

-- What stands behind the places that are written is as it was, so writing them again changes nothing.
pub front-behind : (xs l : List ℕ) → drop (length xs) (front xs l) ≡ drop (length xs) l
unfolding front
front-behind xs l = drop-append_seam xs (drop (length xs) l)

pub front-again : (xs l : List ℕ) → front xs (front xs l) ≡ front xs l
unfolding front
front-again xs l = ap (λ (r : List ℕ). xs ++ r) (drop-append_seam xs (drop (length xs) l))

-- What was written to the front is read back there.
pub front-part : (xs l : List ℕ) (n : ℕ) → length xs ≡ n → part 0 n (front xs l) ≡ xs
unfolding front
front-part xs l n e = part-take n (xs ++ drop (length xs) l) ∙ take_at xs (drop (length xs) l) n e
