-- A product with an atom of one message added: what a send leaves, and any number of sends.
use mathlib.Core.Path.{◌≡◌, refl, ap, ap₂, ◌∙◌}
use mathlib.Core.Bool.{true, false}
use mathlib.Core.Logic.{◌↔◌}
use mathlib.Core.List.{[], ◌∷◌, ◌++◌, append-nil}
use Prim.Native.Nat.{ℕ, zero, suc}
use lib.ListN.{replicate}
use Rattle.common.proofs.BoolLaws.{clash}
use Rattle.meaning.specs.Words.{Word, ◌⪯◌}
use Rattle.meaning.specs.Products.{Atom, Over, AtomWord, any, empty, one, Product, ProductWord, end, join}
use Rattle.meaning.proofs.WordLaws.{⪯-refl, ⪯-same, ⪯-trans, ⪯-nil, ⪯-join}
use Rattle.meaning.proofs.ProductLaws.{product-nil, product-⪯, product-join, product-split}
use Rattle.meaning.proofs.HeadLaws.{head-one, head-star}

-- The atom has the message m and no other.
pub record Alone (m : ℕ) (a : Atom) : Type 0 where
  pub has : a.has m ≡ true
  pub only : (n : ℕ) → a.has n ≡ true → n ≡ m

-- The words of one atom, as a product.
last_word : {a : Atom} {w : Word} → ProductWord (a ∷ []) w → AtomWord a w
last_word {a} (join {u = u} e i end) = rw (e ∙ append-nil u) i

module _ {m : ℕ} {a : Atom} (al : Alone m a) where
  -- Of a single: its message or nothing.
  single-⪯ : {v : Word} → a.star ≡ false → AtomWord a v → v ⪯ m ∷ []
  single-⪯ s (any t h) = absurd (clash t s)
  single-⪯ s (empty t e) = rw e (⪯-nil (m ∷ []))
  single-⪯ s (one t n h e) = rw (e ∙ ap (◌∷ []) (al.only n h)) (⪯-refl (m ∷ []))

  over-replicate : (v : Word) → Over a v → (k : ℕ) × (v ≡ replicate k m)
  over-replicate [] h = (0, refl)
  over-replicate (n ∷ v) h = let r = over-replicate v h.1 in (suc r.0, ap₂ ◌∷◌ (al.only n h.0) r.1)

  -- Of a star: its message any number of times.
  star-replicate : {v : Word} → a.star ≡ true → AtomWord a v → (k : ℕ) × (v ≡ replicate k m)
  star-replicate {v} s (any t h) = over-replicate v h
  star-replicate s (empty t e) = absurd (clash s t)
  star-replicate s (one t n h e) = absurd (clash s t)

  replicate-word : a.star ≡ true → (k : ℕ) → ProductWord (a ∷ []) (replicate k m)
  replicate-word s zero = product-nil (a ∷ [])
  replicate-word s (suc k) = head-star s al.has (replicate-word s k)

  module _ (p : Product) (w : Word) where
    -- With a single of m added: exactly what losses leave of a word of p with m behind it.
    pub send-words : a.star ≡ false → ProductWord (p ++ (a ∷ [])) w ↔ ((x : Word) × ProductWord p x × (w ⪯ x ++ (m ∷ [])))
    send-words s = (there, λ r. product-⪯ r.2 (product-join r.1 (head-one al.has end)))
      where
        there : ProductWord (p ++ (a ∷ [])) w → (x : Word) × ProductWord p x × (w ⪯ x ++ (m ∷ []))
        there i =
            let j = product-split p i in
            (j.front, j.in_front, ⪯-trans (⪯-same j.whole) (⪯-join (⪯-refl j.front) (single-⪯ s (last_word j.in_back))))

    -- With the star of m added: exactly what losses leave of a word of p with any number of m behind it.
    pub rounds-words : a.star ≡ true → ProductWord (p ++ (a ∷ [])) w ↔ ((x : Word) × (k : ℕ) × ProductWord p x × (w ⪯ x ++ replicate k m))
    rounds-words s = (there, λ r. product-⪯ r.3 (product-join r.2 (replicate-word s r.1)))
      where
        there : ProductWord (p ++ (a ∷ [])) w → (x : Word) × (k : ℕ) × ProductWord p x × (w ⪯ x ++ replicate k m)
        there i =
            let j = product-split p i in
            let r = star-replicate s (last_word j.in_back) in
            (j.front, r.0, j.in_front, ⪯-same (j.whole ∙ ap (j.front ++◌) r.1))
