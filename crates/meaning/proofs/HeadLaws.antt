-- What the first atom of a product gives and takes: the first message of a word, atom by atom.
use mathlib.Core.Path.{◌≡◌, refl, ap, ◌∙◌}
use mathlib.Core.Bool.{true, false}
use mathlib.Core.Logic.{⊎_elim}
use mathlib.Core.List.{[], ◌∷◌, ◌++◌, cons≢nil, head-eq_of_cons-eq, tail-eq_of_cons-eq}
use Prim.Native.Nat.{ℕ}
use Rattle.common.proofs.BoolLaws.{either, clash}
use Rattle.meaning.specs.Words.{Word}
use Rattle.meaning.specs.Products.{Atom, Over, AtomWord, any, empty, one, Product, ProductWord, join}
use Rattle.meaning.proofs.ProductLaws.{product-tail}

-- The first message of an atom's word is in the atom.
atom-first : {a : Atom} {m : ℕ} {w : Word} → AtomWord a (m ∷ w) → a.has m ≡ true
atom-first (any s h) = h.0
atom-first (empty s e) = absurd (cons≢nil e)
atom-first {a} (one s n h e) = rw (head-eq_of_cons-eq e) h

-- What stands behind the first message of a single's word is nothing.
single-rest : {a : Atom} {m : ℕ} {w : Word} → a.star ≡ false → AtomWord a (m ∷ w) → w ≡ []
single-rest s (any t h) = absurd (clash t s)
single-rest s (empty t e) = absurd (cons≢nil e)
single-rest s (one t n h e) = tail-eq_of_cons-eq e

-- No atoms have no message.
pub no-message : {m : ℕ} {w : Word} → ProductWord [] (m ∷ w) → ⊥
no-message = elim [ ]

-- A first atom that lacks the first message gives nothing of the word.
pub head-lacks : {a : Atom} {p : Product} {m : ℕ} {w : Word} → a.has m ≡ false → ProductWord (a ∷ p) (m ∷ w) → ProductWord p (m ∷ w)
head-lacks {a} {p} {m} {w} n (join {u = u} {v = v} e i j) = go u e i
  where
    go : (u : Word) → m ∷ w ≡ u ++ v → AtomWord a u → ProductWord p (m ∷ w)
    go [] e i = rw e j
    go (x ∷ u) e i = absurd (clash (atom-first i) (rw (head-eq_of_cons-eq e) at n))

-- A single gives one message at most: the rest of the word is of the rest of the product.
pub head-single : {a : Atom} {p : Product} {m : ℕ} {w : Word} → a.star ≡ false → ProductWord (a ∷ p) (m ∷ w) → ProductWord p w
head-single {a} {p} {m} {w} s (join {u = u} {v = v} e i j) = go u e i
  where
    go : (u : Word) → m ∷ w ≡ u ++ v → AtomWord a u → ProductWord p w
    go [] e i = product-tail (rw (← e) at j)
    go (x ∷ u) e i = rw (tail-eq_of_cons-eq e ∙ ap (◌++ v) (single-rest s i)) j

-- An atom that has a message gives it in front of a word of the rest.
pub head-one : {a : Atom} {p : Product} {m : ℕ} {w : Word} → a.has m ≡ true → ProductWord p w → ProductWord (a ∷ p) (m ∷ w)
head-one {a} {m = m} h i = join {u = m ∷ []} refl (⊎_elim (λ s. any s (h, tt)) (λ s. one s m h refl) (either a.star)) i

-- A star that has a message gives it in front of a word of the whole product.
pub head-star : {a : Atom} {p : Product} {m : ℕ} {w : Word} → a.star ≡ true → a.has m ≡ true → ProductWord (a ∷ p) w → ProductWord (a ∷ p) (m ∷ w)
head-star {m = m} s h (join {u = u} e i j) = join {u = m ∷ u} (ap (m ∷◌) e) (any s (h, over s i)) j
  where
    over : {a : Atom} {u : Word} → a.star ≡ true → AtomWord a u → Over a u
    over s (any t h) = h
    over s (empty t e) = absurd (clash s t)
    over s (one t m h e) = absurd (clash s t)
