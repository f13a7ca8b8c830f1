-- Atoms as masks: bit 15 marks a star, bits 0 to 14 are messages.
use Rattle.std.specs.Prelude.{◌≡◌, Bool, true, false, ◌&&◌, List, ℕ, ◌+◌, ◌-◌, ◌/◌, ◌%◌, ◌^◌, ◌<◌, eqb, ltb}
use Rattle.std.specs.Int.Bits.{bit_and}
use Rattle.common.specs.Choice.{if_true, if_lt, if_eq}
use Rattle.common.specs.Each.{Each}
use Rattle.meaning.specs.Products.{Atom, Proper}

-- Bit m of a.
unfoldable pub bit : ℕ → ℕ → Bool
bit a m = eqb (a / 2 ^ m % 2) 1

-- The atom is a star.
unfoldable pub star : ℕ → Bool
star a = bit a 15

-- The message m is in the atom.
unfoldable pub has : ℕ → ℕ → Bool
has a m = ltb m 15 && bit a m

-- What a mask means: a set of messages with a star flag.
abbrev pub meant : ℕ → Atom
meant a = record { star = star a; has = has a }

-- Every bit of a is a bit of b: a's messages are b's, and b is a star where a is.
unfoldable pub sub : ℕ → ℕ → Bool
sub a b = eqb (bit_and a b) a

-- b is a star that has all messages of a.
unfoldable pub absorbs : ℕ → ℕ → Bool
absorbs b a = star b && sub a b

-- A number that is an atom: sixteen bits, and as a set with a flag a proper one.
pub record IsAtom (a : ℕ) : Type 0 where
  pub small : a < 2 ^ 16
  pub proper : Proper (meant a)

-- An atom of a table with n messages.
pub record AtomOf (n a : ℕ) : Type 0 where
  pub atom : IsAtom a
  pub range : (m : ℕ) → has a m ≡ true → m < n

-- The message bits of a.
abbrev pub messages : ℕ → ℕ
messages a = bit_and a 32767

-- The test for an atom of a table with n messages: sixteen bits, some message, none from n on, and but for a star only one.
unfoldable pub atom_test : ℕ → ℕ → Bool
atom_test n a =
    if_lt a (2 ^ 16)
    (if_eq (messages a) 0 false
    (if_eq (messages a / 2 ^ n) 0 (if_true (star a) true (eqb (bit_and (messages a) (messages a - 1)) 0)) false))
    false

-- The single of m, and the star of m alone.
abbrev pub single_of : ℕ → ℕ
single_of m = 2 ^ m

abbrev pub star_of : ℕ → ℕ
star_of m = 2 ^ 15 + 2 ^ m

-- Each number of the list is an atom, and one of a table with n messages.
abbrev pub Atoms : List ℕ → Type 0
Atoms p = Each IsAtom p

abbrev pub AtomsOf : ℕ → List ℕ → Type 0
AtomsOf n p = Each (AtomOf n) p
