-- The words of atoms and products.
use mathlib.Core.Path.{refl, sym, ap, ◌∙◌}
use mathlib.Core.Logic.{⊎_elim, ◌↔◌}
use mathlib.Core.List.{[], ◌∷◌, ◌++◌, append_assoc, append-nil}
use Prim.Native.Nat.{ℕ}
use Rattle.meaning.specs.Words.{Word, ◌⪯◌, done, keep, lose}
use Rattle.meaning.specs.Products.{Atom, Over, AtomWord, any, empty, one, Joined, Product, ProductWord, end, join}
use Rattle.common.proofs.BoolLaws.{either}
use Rattle.meaning.proofs.WordLaws.{⪯-refl, ⪯-of-nil, ⪯-of-one, ⪯-split}

-- ---- the empty word

-- The empty word is in every atom.
pub atom-nil : (a : Atom) → AtomWord a []
atom-nil a = ⊎_elim (λ s. any s tt) (λ s. empty s refl) (either a.star)

-- The empty word is in every product.
pub product-nil : (p : Product) → ProductWord p []
product-nil [] = end
product-nil (a ∷ p) = join refl (atom-nil a) (product-nil p)

-- An atom may be left out.
pub product-skip : {a : Atom} {p : Product} {w : Word} → ProductWord p w → ProductWord (a ∷ p) w
product-skip {a} i = join refl (atom-nil a) i

-- ---- losses

over-⪯ : (a : Atom) {v w : Word} → v ⪯ w → Over a w → Over a v
over-⪯ a done h = tt
over-⪯ a (keep l) h = (h.0, over-⪯ a l h.1)
over-⪯ a (lose l) h = over-⪯ a l h.1

-- An atom's words are closed under loss.
pub atom-⪯ : {a : Atom} {v w : Word} → v ⪯ w → AtomWord a w → AtomWord a v
atom-⪯ {a} l (any s h) = any s (over-⪯ a l h)
atom-⪯ l (empty s e) = empty s (⪯-of-nil (rw e at l))
atom-⪯ l (one s m h e) = ⊎_elim (λ k. one s m h k) (λ k. empty s k) (⪯-of-one (rw e at l))

-- A product's words are closed under loss (000, definition 3.2).
pub product-⪯ : {p : Product} {v w : Word} → v ⪯ w → ProductWord p w → ProductWord p v
product-⪯ l end = rw (⪯-of-nil l) end
product-⪯ l (join {u = u} {v = v} e i j) =
    let s = ⪯-split u v (rw e at l) in
    join s.whole (atom-⪯ s.in_front i) (product-⪯ s.in_back j)

-- Without its first message a word stays in.
pub product-tail : {p : Product} {m : ℕ} {w : Word} → ProductWord p (m ∷ w) → ProductWord p w
product-tail {w = w} = product-⪯ (lose (⪯-refl w))

-- ---- joining

-- A word of p and behind it a word of q is a word of p joined with q.
pub product-join : {p q : Product} {u v : Word} → ProductWord p u → ProductWord q v → ProductWord (p ++ q) (u ++ v)
product-join end j = j
product-join {v = w} (join {u = u} {v = v} e h i) j = join (ap (◌++ w) e ∙ append_assoc u v w) h (product-join i j)

-- Each word of p joined with q is such a one.
pub product-split : (p : Product) {q : Product} {w : Word} → ProductWord (p ++ q) w → Joined (ProductWord p) (ProductWord q) w
product-split [] {w = w} i = record { front = []; back = w; whole = refl; in_front = end; in_back = i }
product-split (a ∷ p) (join {u = u} e h i) =
    let s = product-split p i in
    record {
      front = u ++ s.front;
      back = s.back;
      whole = e ∙ ap (u ++◌) s.whole ∙ sym (append_assoc u s.front s.back);
      in_front = join refl h s.in_front;
      in_back = s.in_back;
    }

-- The words of p joined with q are the joined words (000, section 3).
pub product-append : (p q : Product) (w : Word) → ProductWord (p ++ q) w ↔ Joined (ProductWord p) (ProductWord q) w
product-append p q w = (product-split p, λ j. rw j.whole (product-join j.in_front j.in_back))

-- What stands in front of a product, or behind it, may be left out.
pub product-before : (p : Product) {q : Product} {w : Word} → ProductWord q w → ProductWord (p ++ q) w
product-before p j = product-join (product-nil p) j

pub product-behind : {p : Product} (q : Product) {w : Word} → ProductWord p w → ProductWord (p ++ q) w
product-behind q {w} j = rw (append-nil w) at (product-join j (product-nil q))
