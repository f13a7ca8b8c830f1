-- Containment, head against head (000, lemma 4.1 and its use): which head is dropped, and that nothing is lost or gained by it.
use mathlib.Core.Path.{◌≡◌, sym, ap, ◌∙◌}
use mathlib.Core.Bool.{true, false}
use mathlib.Core.Logic.{◌⊎◌, inl, inr, ⊎_elim, ◌↔◌}
use mathlib.Core.List.{[], ◌∷◌, ◌++◌, append_assoc}
use Prim.Native.Nat.{ℕ}
use Rattle.common.proofs.BoolLaws.{either, clash}
use Rattle.meaning.specs.Words.{Word}
use Rattle.meaning.specs.Products.{Atom, Over, AtomWord, any, empty, one, Proper, Product, ProductWord, end, join, Contained}
use Rattle.meaning.proofs.ProductLaws.{product-nil, product-skip, product-tail}
use Rattle.meaning.proofs.HeadLaws.{no-message, head-lacks, head-single, head-one, head-star}

-- a is below b: b is a star where a is one, and has all messages of a.
pub record Below (a b : Atom) : Type 0 where
  pub star : a.star ≡ true → b.star ≡ true
  pub has : (m : ℕ) → a.has m ≡ true → b.has m ≡ true

-- a is not below b: b lacks a message of a, or a is a star and b is none.
pub data Beyond (a b : Atom) : Type 0 where
  lacks : (m : ℕ) → a.has m ≡ true → b.has m ≡ false → Beyond a b
  starless : a.star ≡ true → b.star ≡ false → Beyond a b

over_below : {a b : Atom} → Below a b → (u : Word) → Over a u → Over b u
over_below l [] h = tt
over_below l (m ∷ u) h = (l.has m h.0, over_below l u h.1)

pub over-join : (b : Atom) (u v : Word) → Over b u → Over b v → Over b (u ++ v)
over-join b [] v h k = k
over-join b (m ∷ u) v h k = (h.0, over-join b u v h.1 k)

-- Every message of a word of an atom is in the atom.
atom-over : {a : Atom} {u : Word} → AtomWord a u → Over a u
atom-over (any s h) = h
atom-over {a} (empty s e) = rw e tt
atom-over {a} (one s m h e) = rw e (h, tt)

-- A word of an atom is a word of each atom above it.
pub atom-below : {a b : Atom} {u : Word} → Below a b → AtomWord a u → AtomWord b u
atom-below {a} {b} {u} l i = ⊎_elim (λ t. any t (over_below l u (atom-over i))) (λ t. single t i) (either b.star)
  where
    single : b.star ≡ false → AtomWord a u → AtomWord b u
    single t (any s h) = absurd (clash (l.star s) t)
    single t (empty s e) = empty t e
    single t (one s m h e) = one t m (l.has m h) e

-- ---- the three steps

-- The same head in front.
pub contained-cons : {a : Atom} {p q : Product} → Contained p q → Contained (a ∷ p) (a ∷ q)
contained-cons f w (join {v = v} e i j) = join e i (f v j)

-- No atoms are contained in every product.
pub contained-none : (q : Product) → Contained [] q
contained-none q w end = product-nil q

-- Nothing but the empty word is a word of no atoms.
pub contained-nil : {a : Atom} {p : Product} → Proper a → Contained (a ∷ p) [] → ⊥
contained-nil {a} {p} pa f = no-message (f (pa.message ∷ []) (head-one pa.some (product-nil p)))

-- Below a star, the head of p is dropped.
pub contained-star : {a b : Atom} {p q : Product} → Below a b → b.star ≡ true → Contained (a ∷ p) (b ∷ q) ↔ Contained p (b ∷ q)
contained-star {a} {b} {p} {q} l s = (λ f w i. f w (product-skip i), λ f w i. back f i)
  where
    behind : {u v w : Word} → w ≡ u ++ v → AtomWord a u → ProductWord (b ∷ q) v → ProductWord (b ∷ q) w
    behind {u} e i (join {u = x} {v = y} k j r) =
        join {u = u ++ x} (e ∙ ap (u ++◌) k ∙ sym (append_assoc u x y)) (any s (over-join b u x (over_below l u (atom-over i)) (atom-over j))) r

    back : {w : Word} → Contained p (b ∷ q) → ProductWord (a ∷ p) w → ProductWord (b ∷ q) w
    back f (join {v = v} e i j) = behind e i (f v j)

-- Below a single, both heads are dropped.
pub contained-single : {a b : Atom} {p q : Product} → Proper a → Below a b → b.star ≡ false → Contained (a ∷ p) (b ∷ q) ↔ Contained p q
contained-single {a} {b} {p} {q} pa l s = (λ f w i. head-single s (f (pa.message ∷ w) (head-one pa.some i)), λ f w i. back f i)
  where
    back : {w : Word} → Contained p q → ProductWord (a ∷ p) w → ProductWord (b ∷ q) w
    back f (join {v = v} e i j) = join e (atom-below l i) (f v j)

-- A word of p with a message that q's head lacks put in front, if it is not there already: q's head gives nothing of it.
lacking : {a b : Atom} {p q : Product} {w : Word} (m : ℕ) → Proper a → a.has m ≡ true → b.has m ≡ false → Contained (a ∷ p) (b ∷ q) → ProductWord (a ∷ p) w → ProductWord q w
lacking {a} {b} {p} {q} {w} m pa h n f i = go (either a.star) i
  where
    go : (a.star ≡ true) ⊎ (a.star ≡ false) → ProductWord (a ∷ p) w → ProductWord q w
    go (inl s) i = product-tail (head-lacks n (f (m ∷ w) (head-star s h i)))
    go (inr s) (join e (any t k) j) = absurd (clash t s)
    go (inr s) (join {v = v} e (empty t k) j) =
        rw (e ∙ ap (◌++ v) k) (product-tail (head-lacks n (f (m ∷ v) (head-one h j))))
    go (inr s) (join {v = v} e (one t o k x) j) =
        let y : o ≡ m = pa.only s o k ∙ sym (pa.only s m h) in
        let z : w ≡ m ∷ v = e ∙ ap (◌++ v) x ∙ ap (◌∷ v) y in
        rw z (head-lacks n (f (m ∷ v) (head-one h j)))

-- Beyond the head of q, that head is dropped: put in front of a word what it cannot give.
pub contained-beyond : {a b : Atom} {p q : Product} → Proper a → Beyond a b → Contained (a ∷ p) (b ∷ q) ↔ Contained (a ∷ p) q
contained-beyond {a} {b} {p} {q} pa d = (λ f w i. there d f i, λ f w i. product-skip (f w i))
  where
    there : {w : Word} → Beyond a b → Contained (a ∷ p) (b ∷ q) → ProductWord (a ∷ p) w → ProductWord q w
    there (lacks m h n) f i = lacking m pa h n f i
    there {w} (starless s t) f i = head-single t (f (pa.message ∷ w) (head-star s pa.some i))
