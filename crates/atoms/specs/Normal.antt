-- The normal form (000, definition 5.1): no atom stands next to a star that has all its messages.
use Rattle.std.specs.Prelude.{◌≡◌, true, List, [], ◌∷◌, ℕ}
use Rattle.common.specs.Choice.{if_true}
use Rattle.atoms.specs.Masks.{absorbs}

-- One removal: an atom that stands next to a star which has all its messages is taken out.
pub data Removal : List ℕ → List ℕ → Type 0 where
  before : {a b : ℕ} {p : List ℕ} → absorbs b a ≡ true → Removal (a ∷ b ∷ p) (b ∷ p)
  behind : {a b : ℕ} {p : List ℕ} → absorbs a b ≡ true → Removal (a ∷ b ∷ p) (a ∷ p)
  later : {a : ℕ} {p q : List ℕ} → Removal p q → Removal (a ∷ p) (a ∷ q)

-- Any number of removals, in any order.
pub data Removals : List ℕ → List ℕ → Type 0 where
  done : {p : List ℕ} → Removals p p
  more : {p q r : List ℕ} → Removal p q → Removals q r → Removals p r

-- No removal is left.
abbrev pub Normal : List ℕ → Type 0
Normal p = (q : List ℕ) → Removal p q → ⊥

-- a put before a normal product: it goes where the next atom absorbs it, and else takes away what it absorbs.
unfoldable pub push : ℕ → List ℕ → List ℕ
push a [] = a ∷ []
push a (b ∷ q) = if_true (absorbs b a) (b ∷ q) (if_true (absorbs a b) (push a q) (a ∷ b ∷ q))

-- The normal form.
unfoldable pub normal : List ℕ → List ℕ
normal [] = []
normal (a ∷ p) = push a (normal p)
