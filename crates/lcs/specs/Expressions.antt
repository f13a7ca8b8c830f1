-- The calls on products: contained, normal form, receive.
use Rattle.std.specs.Prelude.{◌≡◌, Bool, true, false, List, [], ◌∷◌, ℕ, ◌≤◌, length}
use Rattle.std.proofs.Math.Option.{Option, none, some}
use Rattle.common.specs.Choice.{if_true, if_lt}
use Rattle.common.specs.Front.{front}
use Rattle.atoms.specs.Masks.{atom_test}
use Rattle.atoms.specs.Contained.{contained}
use Rattle.atoms.specs.Receive.{received}
use Rattle.atoms.specs.Normal.{normal}

-- Each word is an atom: some message, and but for a star only one.
unfoldable pub all_atoms : List ℕ → Bool
all_atoms [] = true
all_atoms (a ∷ p) = if_true (atom_test 15 a) (all_atoms p) false

-- The words are a product that the calls take: at most 25, and each an atom.
unfoldable pub is_product : List ℕ → Bool
is_product p = if_lt 25 (length p) false (all_atoms p)

-- `lcs_contained`: 1 yes, 0 no, 2 where p or q is no product.
unfoldable pub contained_answer : List ℕ → List ℕ → ℕ
contained_answer p q = if_true (is_product p) (if_true (is_product q) (if_true (contained p q) 1 0) 2) 2

-- The normal form of p in the first places of q, r of them, all later places as in p.
pub record NormalFront (p q : List ℕ) (r : ℕ) : Type 0 where
  pub few : r ≤ 25
  pub count : r ≡ length (normal p)
  pub leaves : q ≡ front (normal p) p

-- `lcs_normal`: the count of the normal form, which stands in the first places; 65,535 where p is no product, and p as it was.
unfoldable pub normal_answer : List ℕ → ℕ
normal_answer p = if_true (is_product p) (length (normal p)) 65535

unfoldable pub normal_leaves : List ℕ → List ℕ
normal_leaves p = if_true (is_product p) (front (normal p) p) p

-- What is left after a receive: how many atoms, 65,534 if it is impossible; and p with them in its first places.
abbrev pub left_count : Option (List ℕ) → ℕ
left_count none = 65534
left_count (some q) = length q

abbrev pub left_front : List ℕ → Option (List ℕ) → List ℕ
left_front p none = p
left_front p (some q) = front q p

-- `lcs_receive`: the count of what is left, which stands in the first places; 65,534 where the receive is impossible, as it is for every
-- message over 14, and 65,535 where p is no product; p then as it was.
unfoldable pub receive_answer : List ℕ → ℕ → ℕ
receive_answer p m = if_true (is_product p) (left_count (received m p)) 65535

unfoldable pub receive_leaves : List ℕ → ℕ → List ℕ
receive_leaves p m = if_true (is_product p) (left_front p (received m p)) p
