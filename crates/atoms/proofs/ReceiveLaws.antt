-- The product after a receive means exactly the words that a receive leaves.
use Rattle.std.proofs.Common.{◌≡◌, refl, sym, ap, subst, ◌∙◌, true, false, ◌⊎◌, inl, inr, ◌↔◌, List, [], ◌∷◌, ℕ, zero, suc, ◌+◌, ◌-◌, ◌<◌, ◌≤◌, arith, length, get_or, drop}
use mathlib.Core.Option.{Option, none, some}
use native.Mathlib.Numerals.{add-one}
use Rattle.std.specs.List.{between}
use Rattle.std.proofs.Math.Nat.{sub_self}
use Rattle.std.proofs.lemmas.Slice.{between_to_end}
use Rattle.common.specs.Each.{Each}
use Rattle.common.proofs.BoolLaws.{either}
use Rattle.common.proofs.ChoiceLaws.{true-then, true-else}
use Rattle.meaning.specs.Words.{Word}
use Rattle.meaning.proofs.ProductLaws.{product-nil, product-skip, product-tail}
use Rattle.meaning.proofs.HeadLaws.{no-message, head-lacks, head-single, head-one, head-star}
use Rattle.atoms.specs.Masks.{star, has}
use Rattle.atoms.specs.Products.{product, WordOf}
use Rattle.atoms.specs.Receive.{received}

-- ---- the steps

module _ (m a : ℕ) (p : List ℕ) where
  -- An atom that lacks m is dropped.
  pub receive-past : has a m ≡ false → received m p ≡ received m (a ∷ p)
  unfolding received
  receive-past x = true-else _ _ _ x refl

  -- The first that has m stays if it is a star,
  pub receive-star : has a m ≡ true → star a ≡ true → some (a ∷ p) ≡ received m (a ∷ p)
  unfolding received
  receive-star x y = true-then _ _ _ x (rw (← true-then (star a) (a ∷ p) p y refl))

  -- and is dropped if it is single.
  pub receive-single : has a m ≡ true → star a ≡ false → some p ≡ received m (a ∷ p)
  unfolding received
  receive-single x y = true-then _ _ _ x (rw (← true-else (star a) (a ∷ p) p y refl))

pub receive-none : (m : ℕ) → none ≡ received m []
unfolding received
receive-none m = refl

-- How the product after a receive came about.
pub data Received (m : ℕ) : List ℕ → Option (List ℕ) → Type 0 where
  nowhere : Received m [] none
  at_star : {a : ℕ} {p : List ℕ} → has a m ≡ true → star a ≡ true → Received m (a ∷ p) (some (a ∷ p))
  at_single : {a : ℕ} {p : List ℕ} → has a m ≡ true → star a ≡ false → Received m (a ∷ p) (some p)
  past : {a : ℕ} {p : List ℕ} {o : Option (List ℕ)} → has a m ≡ false → Received m p o → Received m (a ∷ p) o

pub receiving : (m : ℕ) (p : List ℕ) → Received m p (received m p)
receiving m [] = rw (← receive-none m) nowhere
receiving m (a ∷ p) = go (receiving m p) (either (has a m)) (either (star a))
  where
    go : Received m p (received m p) → (has a m ≡ true) ⊎ (has a m ≡ false) → (star a ≡ true) ⊎ (star a ≡ false) → Received m (a ∷ p) (received m (a ∷ p))
    go ih (inl x) (inl y) = rw (← receive-star m a p x y) (at_star x y)
    go ih (inl x) (inr y) = rw (← receive-single m a p x y) (at_single x y)
    go ih (inr x) y = rw (← receive-past m a p x) (past x ih)

-- ---- and what they mean

-- The words of the product after a receive; none where it is impossible.
abbrev pub After : Option (List ℕ) → Word → Type 0
After none w = ⊥
After (some p) w = WordOf p w

give : {m : ℕ} {p : List ℕ} {o : Option (List ℕ)} {w : Word} → Received m p o → After o w → WordOf p (m ∷ w)
give nowhere i = absurd i
give (at_star x y) i = head-star y x i
give (at_single x y) i = head-one x i
give (past x v) i = product-skip (give v i)

take : {m : ℕ} {p : List ℕ} {o : Option (List ℕ)} {w : Word} → Received m p o → WordOf p (m ∷ w) → After o w
take nowhere i = no-message i
take (at_star x y) i = product-tail i
take (at_single x y) i = head-single y i
take (past x v) i = take v (head-lacks x i)

-- RECEIVE: the words of the product after a receive of m are exactly the w with m followed by w in the product.
pub receive-iff : (m : ℕ) (p : List ℕ) (w : Word) → After (received m p) w ↔ WordOf p (m ∷ w)
receive-iff m p w = (give (receiving m p), take (receiving m p))

-- It is impossible exactly when there is no such w.
pub impossible-iff : (m : ℕ) (p : List ℕ) → (received m p ≡ none) ↔ ((w : Word) → WordOf p (m ∷ w) → ⊥)
impossible-iff m p = (λ e w i. rw e at ((receive-iff m p w).1 i), λ f. go (received m p) refl f)
  where
    go : (o : Option (List ℕ)) → received m p ≡ o → ((w : Word) → WordOf p (m ∷ w) → ⊥) → received m p ≡ none
    go none e f = e
    go (some q) e f = absurd (f [] ((receive-iff m p []).0 (rw e (product-nil (product q)))))

-- What holds of each atom holds of each that is left.
pub received-each : (P : ℕ → Type 0) {m : ℕ} {p q : List ℕ} → Received m p (some q) → Each P p → Each P q
received-each P (at_star x y) h = h
received-each P (at_single x y) h = h.1
received-each P (past x v) h = received-each P v h.1

-- ---- the first atom that has m, as the code finds it

-- None has it.
pub received-nowhere : (m : ℕ) (p : List ℕ) → ((k : ℕ) → k < length p → has (get_or p k 0) m ≡ false) → received m p ≡ none
received-nowhere m [] f = sym (receive-none m)
received-nowhere m (a ∷ p) f = sym (receive-past m a p (f 0 (omega arith))) ∙ received-nowhere m p (λ k h. f (suc k) (omega arith))

-- The one at place n has it, and none before it.
pub record IsAt (m : ℕ) (p : List ℕ) (n : ℕ) : Type 0 where
  pub inside : n < length p
  pub there : has (get_or p n 0) m ≡ true
  pub before : (k : ℕ) → k < n → has (get_or p k 0) m ≡ false

at-rest : {m a : ℕ} {p : List ℕ} {n : ℕ} → IsAt m (a ∷ p) (suc n) → IsAt m p n
at-rest f = record { inside = omega (arith, f.inside); there = f.there; before = λ k h. f.before (suc k) (omega arith) }

received-star : (m : ℕ) (p : List ℕ) (n : ℕ) → IsAt m p n → star (get_or p n 0) ≡ true → received m p ≡ some (drop n p)
received-star m [] n f y = absurd (omega (arith, f.inside))
received-star m (a ∷ p) zero f y = sym (receive-star m a p f.there y)
received-star m (a ∷ p) (suc n) f y = sym (receive-past m a p (f.before 0 (omega arith))) ∙ received-star m p n (at-rest f) y

received-single : (m : ℕ) (p : List ℕ) (n : ℕ) → IsAt m p n → star (get_or p n 0) ≡ false → received m p ≡ some (drop (suc n) p)
received-single m [] n f y = absurd (omega (arith, f.inside))
received-single m (a ∷ p) zero f y = sym (receive-single m a p f.there y)
received-single m (a ∷ p) (suc n) f y = sym (receive-past m a p (f.before 0 (omega arith))) ∙ received-single m p n (at-rest f) y

-- What is left, as `&p[n..]` and `&p[n + 1..]` read it.
pub rest-here : (m : ℕ) (p : List ℕ) (n : ℕ) → IsAt m p n → star (get_or p n 0) ≡ true → received m p ≡ some (between n (length p) p)
rest-here m p n f y = received-star m p n f y ∙ ap some (sym (between_to_end p n (length p) (omega arith)))

pub rest-next : (m : ℕ) (p : List ℕ) (n : ℕ) → IsAt m p n → star (get_or p n 0) ≡ false → received m p ≡ some (between (n + 1) (length p) p)
rest-next m p n f y = received-single m p n f y ∙ ap some (rw add-one (sym (between_to_end p (suc n) (length p) (omega arith))))

-- ---- what is left is the end of the product

ends-with : {m : ℕ} {p q : List ℕ} → Received m p (some q) → (length q ≤ length p) × (drop (length p - length q) p ≡ q)
ends-with (at_star {p = p} x y) = (omega arith, rw sub_self refl)
ends-with (at_single {p = p} x y) = (omega arith, let e : suc (length p) - length p ≡ suc 0 = omega arith in rw e refl)
ends-with {q = q} (past {p = p} x v) = let ih = ends-with v in
    (omega (arith, ih.0), let e : suc (length p) - length q ≡ suc (length p - length q) = omega (arith, ih.0) in rw e ih.1)

pub received-end : (m : ℕ) (p : List ℕ) {q : List ℕ} → received m p ≡ some q → (length q ≤ length p) × (drop (length p - length q) p ≡ q)
received-end m p e = ends-with (subst (Received m p) e (receiving m p))
