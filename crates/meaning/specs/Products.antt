-- Atoms and products, and what words they mean (000, section 3).
use Rattle.std.specs.Prelude.{◌≡◌, Bool, true, false, List, [], ◌∷◌, ◌++◌, ℕ}
use Rattle.meaning.specs.Words.{Word}

-- An atom: a set of messages, and whether it is a star (000, definition 3.1).
pub record Atom : Type 0 where
  pub star : Bool
  pub has : ℕ → Bool

-- Every message of the word is in the atom's set.
abbrev pub Over : Atom → Word → Type 0
Over a [] = Unit {0}
Over a (m ∷ w) = (a.has m ≡ true) × Over a w

-- The words of an atom: of a star, (a₁ + … + aₙ)*, every word over its set; of a single, (a + ε), the empty word and its message
-- (000, definition 3.1).
pub data AtomWord (a : Atom) (w : Word) : Type 0 where
  any : a.star ≡ true → Over a w → AtomWord a w
  empty : a.star ≡ false → w ≡ [] → AtomWord a w
  one : a.star ≡ false → (m : ℕ) → a.has m ≡ true → w ≡ m ∷ [] → AtomWord a w

-- A proper atom has a message, and a single has no more than one (000, definition 3.1).
pub record Proper (a : Atom) : Type 0 where
  pub message : ℕ
  pub some : a.has message ≡ true
  pub only : a.star ≡ false → (m : ℕ) → a.has m ≡ true → m ≡ message

-- A word of K and behind it a word of L (000, section 3: concatenation).
pub record Joined (K L : Word → Type 0) (w : Word) : Type 0 where
  pub front : Word
  pub back : Word
  pub whole : w ≡ front ++ back
  pub in_front : K front
  pub in_back : L back

-- A product: atoms in order (000, definition 3.1: e₁ • … • eₙ).
abbrev pub Product : Type 0
Product = List Atom

-- The words of a product: a word of its first atom and behind it a word of the rest; no atoms mean only the empty word
-- (000, definition 3.1).
pub data ProductWord : Product → Word → Type 0 where
  end : ProductWord [] []
  join : {a : Atom} {p : Product} {u v w : Word} → w ≡ u ++ v → AtomWord a u → ProductWord p v → ProductWord (a ∷ p) w

-- p is contained in q: every word of p is a word of q (000, section 3: ⊑).
abbrev pub Contained : Product → Product → Type 0
Contained p q = (w : Word) → ProductWord p w → ProductWord q w
