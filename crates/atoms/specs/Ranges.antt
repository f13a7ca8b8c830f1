-- What the functions over ranges of lent words answer and leave.
use Rattle.std.specs.Prelude.{◌≡◌, List, [], ◌∷◌, ◌++◌, false, ℕ, ◌+◌, ◌-◌, ◌<◌, ◌≤◌, get_or, drop}
use Rattle.common.specs.Part.{part}
use Rattle.atoms.specs.Masks.{absorbs}
use Rattle.atoms.specs.Normal.{normal}

-- Before an atom x that comes behind the first n, r of them stay: the normal form is the same, and x does not absorb the last that stays.
pub record KeptBefore (p : List ℕ) (n x r : ℕ) : Type 0 where
  pub few : r ≤ n
  pub same : normal (part 0 r p ++ (x ∷ [])) ≡ normal (part 0 n p ++ (x ∷ []))
  pub stays : 0 < r → absorbs x (get_or p (r - 1) 0) ≡ false

-- An atom x added to the first n: the first r places of q hold the normal form, and those past the n and the new one are as in p.
pub record Added (p : List ℕ) (n x : ℕ) (q : List ℕ) (r : ℕ) : Type 0 where
  pub few : r ≤ n + 1
  pub form : part 0 r q ≡ normal (part 0 n p ++ (x ∷ []))
  pub kept : drop (n + 1) q ≡ drop (n + 1) p

-- The first n atoms in normal form: the first r places of q hold it, and those past the n are as in p.
pub record Normalised (p : List ℕ) (n : ℕ) (q : List ℕ) (r : ℕ) : Type 0 where
  pub few : r ≤ n
  pub form : part 0 r q ≡ normal (part 0 n p)
  pub kept : drop n q ≡ drop n p
