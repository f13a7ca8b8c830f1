-- Whether a word is one of a product can be told: message by message, by what a receive leaves.
use Rattle.std.proofs.Common.{◌≡◌, refl, sym, Bool, true, false, true≢false, ◌↔◌, ◌⊎◌, inl, inr, List, [], ◌∷◌, ℕ}
use mathlib.Core.Option.{Option, none, some}
use Rattle.common.proofs.BoolLaws.{either, clash}
use Rattle.meaning.specs.Words.{Word}
use Rattle.meaning.proofs.ProductLaws.{product-nil}
use Rattle.atoms.specs.Products.{product, WordOf}
use Rattle.atoms.specs.Receive.{received}
use Rattle.atoms.proofs.ReceiveLaws.{After, receive-iff}

member : Word → List ℕ → Bool
member [] p = true
member (m ∷ w) p = elim (received m p) [ none ↦ false | some q ↦ member w q ]

member-iff : (w : Word) (p : List ℕ) → (member w p ≡ true) ↔ WordOf p w
unfolding member
member-iff [] p = (λ e. product-nil (product p), λ i. refl)
member-iff (m ∷ w) p = go (received m p) (receive-iff m p w) (member-iff w)
  where
    go : (o : Option (List ℕ)) → After o w ↔ WordOf p (m ∷ w) → ((q : List ℕ) → (member w q ≡ true) ↔ WordOf q w)
        → (elim o as (λ x. Bool) [ none ↦ false | some q ↦ member w q ] ≡ true) ↔ WordOf p (m ∷ w)
    go none r ih = (λ e. absurd (true≢false (sym e)), λ i. absurd (r.1 i))
    go (some q) r ih = (λ e. r.0 ((ih q).0 e), λ i. (ih q).1 (r.1 i))

-- So a word that is not outside is inside.
pub word-stable : (p : List ℕ) (w : Word) → ((WordOf p w → ⊥) → ⊥) → WordOf p w
word-stable p w h = go (either (member w p))
  where
    go : (member w p ≡ true) ⊎ (member w p ≡ false) → WordOf p w
    go (inl e) = (member-iff w p).0 e
    go (inr e) = absurd (h (λ i. clash ((member-iff w p).1 i) e))
