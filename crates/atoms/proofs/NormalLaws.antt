-- The normal form: removals keep the words, end in one product whatever their order, and that product is fixed by the words.
use Rattle.std.proofs.Common.{◌≡◌, refl, sym, ap₂, subst, true, false, ◌⊎◌, inl, inr, ⊎_elim, ◌↔◌, List, [], ◌∷◌, ℕ}
use Rattle.common.specs.Each.{Each}
use Rattle.common.proofs.BoolLaws.{either, clash}
use Rattle.common.proofs.ChoiceLaws.{true-then, true-else}
use Rattle.meaning.specs.Words.{Word}
use Rattle.meaning.specs.Products.{Contained}
use Rattle.meaning.proofs.ProductLaws.{product-skip}
use Rattle.meaning.proofs.ContainmentLaws.{contained-cons, contained-none, contained-nil, contained-star, contained-single, contained-beyond}
use Rattle.atoms.specs.Masks.{star, sub, absorbs, IsAtom, Atoms}
use Rattle.atoms.specs.Products.{product, WordOf}
use Rattle.atoms.specs.Normal.{Removal, before, behind, later, Removals, done, more, Normal, push, normal}
use Rattle.atoms.proofs.BitLaws.{sub-both}
use Rattle.atoms.proofs.MaskLaws.{sub-below, sub-beyond, sub_self, absorbs-parts}

-- ---- removals keep the words

-- A star that absorbs an atom: with the atom before it, or behind it, no word is gained.
absorb-before : (a b : ℕ) (p : List ℕ) → absorbs b a ≡ true → Contained (product (a ∷ b ∷ p)) (product (b ∷ p))
absorb-before a b p e = let r = (absorbs-parts b a).0 e in (contained-star (sub-below a b r.1) r.0).1 (λ w i. i)

absorb-behind : (a b : ℕ) (p : List ℕ) → absorbs a b ≡ true → Contained (product (a ∷ b ∷ p)) (product (a ∷ p))
absorb-behind a b p e =
    let r = (absorbs-parts a b).0 e in
    (contained-star (sub-below a a (sub_self a)) r.0).1 ((contained-star (sub-below b a r.1) r.0).1 (λ w i. product-skip i))

removal-into : {p q : List ℕ} → Removal p q → Contained (product p) (product q)
removal-into (before {a = a} {b = b} {p = p} e) = absorb-before a b p e
removal-into (behind {a = a} {b = b} {p = p} e) = absorb-behind a b p e
removal-into (later r) = contained-cons (removal-into r)

removal-back : {p q : List ℕ} → Removal p q → Contained (product q) (product p)
removal-back (before e) = λ w i. product-skip i
removal-back (behind e) = contained-cons (λ w i. product-skip i)
removal-back (later r) = contained-cons (removal-back r)

pub removals-into : {p q : List ℕ} → Removals p q → Contained (product p) (product q)
removals-into done w i = i
removals-into (more r s) w i = removals-into s w (removal-into r w i)

pub removals-back : {p q : List ℕ} → Removals p q → Contained (product q) (product p)
removals-back done w i = i
removals-back (more r s) w i = removal-back r w (removals-back s w i)

-- What holds of each atom holds of each that is left.
removal-each : (P : ℕ → Type 0) {p q : List ℕ} → Removal p q → Each P p → Each P q
removal-each P (before e) h = h.1
removal-each P (behind e) h = (h.0, h.1.1)
removal-each P (later r) h = (h.0, removal-each P r h.1)

pub removals-each : (P : ℕ → Type 0) {p q : List ℕ} → Removals p q → Each P p → Each P q
removals-each P done h = h
removals-each P (more r s) h = removals-each P s (removal-each P r h)

-- ---- the normal form is reached by removals

pub removals-then : {p q r : List ℕ} → Removals p q → Removals q r → Removals p r
removals-then done t = t
removals-then (more r s) t = more r (removals-then s t)

removals-later : {a : ℕ} {p q : List ℕ} → Removals p q → Removals (a ∷ p) (a ∷ q)
removals-later done = done
removals-later (more r s) = more (later r) (removals-later s)

-- ---- the steps of `push`

module _ (a b : ℕ) (q : List ℕ) where
  pub push-gone : absorbs b a ≡ true → b ∷ q ≡ push a (b ∷ q)
  unfolding push
  push-gone x = true-then _ _ _ x refl

  pub push-takes : absorbs b a ≡ false → absorbs a b ≡ true → push a q ≡ push a (b ∷ q)
  unfolding push
  push-takes x y = true-else _ _ _ x (true-then _ _ _ y refl)

  pub push-stays : absorbs b a ≡ false → absorbs a b ≡ false → a ∷ b ∷ q ≡ push a (b ∷ q)
  unfolding push
  push-stays x y = true-else _ _ _ x (true-else _ _ _ y refl)

pub push-last : (a : ℕ) → a ∷ [] ≡ push a []
unfolding push
push-last a = refl

push-removals : (a : ℕ) (q : List ℕ) → Removals (a ∷ q) (push a q)
push-removals a [] = rw (← push-last a) done
push-removals a (b ∷ q) = go (push-removals a q) (either (absorbs b a)) (either (absorbs a b))
  where
    go : Removals (a ∷ q) (push a q) → (absorbs b a ≡ true) ⊎ (absorbs b a ≡ false) → (absorbs a b ≡ true) ⊎ (absorbs a b ≡ false) → Removals (a ∷ b ∷ q) (push a (b ∷ q))
    go ih (inl x) y = subst (Removals (a ∷ b ∷ q)) (push-gone a b q x) (more (before x) done)
    go ih (inr x) (inl y) = subst (Removals (a ∷ b ∷ q)) (push-takes a b q x y) (more (behind y) ih)
    go ih (inr x) (inr y) = subst (Removals (a ∷ b ∷ q)) (push-stays a b q x y) done

pub normal-removals : (p : List ℕ) → Removals p (normal p)
unfolding normal
normal-removals [] = done
normal-removals (a ∷ p) = removals-then (removals-later (normal-removals p)) (push-removals a (normal p))

-- ---- and has no removal left

-- Neither of two neighbours absorbs the other.
pub record Apart (a b : ℕ) : Type 0 where
  pub right : absorbs b a ≡ false
  pub left : absorbs a b ≡ false

-- No two neighbours do.
abbrev pub Chain : List ℕ → Type 0
Chain [] = Unit {0}
Chain (a ∷ []) = Unit {0}
Chain (a ∷ b ∷ p) = Apart a b × Chain (b ∷ p)

pub chain-rest : (a : ℕ) (p : List ℕ) → Chain (a ∷ p) → Chain p
chain-rest a [] h = tt
chain-rest a (b ∷ p) h = h.1

push-chain : (a : ℕ) (q : List ℕ) → Chain q → Chain (push a q)
push-chain a [] h = rw (← push-last a) tt
push-chain a (b ∷ q) h = go (push-chain a q (chain-rest b q h)) (either (absorbs b a)) (either (absorbs a b))
  where
    go : Chain (push a q) → (absorbs b a ≡ true) ⊎ (absorbs b a ≡ false) → (absorbs a b ≡ true) ⊎ (absorbs a b ≡ false) → Chain (push a (b ∷ q))
    go ih (inl x) y = subst Chain (push-gone a b q x) h
    go ih (inr x) (inl y) = subst Chain (push-takes a b q x y) ih
    go ih (inr x) (inr y) = subst Chain (push-stays a b q x y) (record { right = x; left = y }, h)

pub normal-chain : (p : List ℕ) → Chain (normal p)
unfolding normal
normal-chain [] = tt
normal-chain (a ∷ p) = push-chain a (normal p) (normal-chain p)

chain-stuck : {p q : List ℕ} → Removal p q → Chain p → ⊥
chain-stuck (before e) h = clash e h.0.right
chain-stuck (behind e) h = clash e h.0.left
chain-stuck (later {a = a} {p = p} r) h = chain-stuck r (chain-rest a p h)

pub chain-normal : (p : List ℕ) → Chain p ↔ Normal p
chain-normal p = (λ h q r. chain-stuck r h, back p)
  where
    back : (p : List ℕ) → Normal p → Chain p
    back [] n = tt
    back (a ∷ []) n = tt
    back (a ∷ b ∷ p) n = (
      record {
        right = ⊎_elim (λ e. absurd (n (b ∷ p) (before e))) (λ e. e) (either (absorbs b a));
        left = ⊎_elim (λ e. absurd (n (a ∷ p) (behind e))) (λ e. e) (either (absorbs a b));
      },
      back (b ∷ p) (λ q r. n (a ∷ q) (later r)),
    )

-- No atom stands next to a star that has all its messages.
pub normal-normal : (p : List ℕ) → Normal (normal p)
normal-normal p = (chain-normal (normal p)).0 (normal-chain p)

-- ---- two normal products with the same words are equal

-- A normal product is not contained in its own rest.
strict : (a : ℕ) (p : List ℕ) → Chain (a ∷ p) → Atoms (a ∷ p) → Contained (product (a ∷ p)) (product p) → ⊥
strict a [] h i f = contained-nil i.0.proper f
strict a (b ∷ p) h i f = go (strict b p h.1 i.1) (either (sub a b)) (either (star b))
  where
    go : (Contained (product (b ∷ p)) (product p) → ⊥) → (sub a b ≡ true) ⊎ (sub a b ≡ false) → (star b ≡ true) ⊎ (star b ≡ false) → ⊥
    go ih (inl x) (inl y) = clash ((absorbs-parts b a).1 (y, x)) h.0.right
    go ih (inl x) (inr y) = ih ((contained-single i.0.proper (sub-below a b x) y).0 f)
    go ih (inr x) y = ih (λ w j. (contained-beyond i.0.proper (sub-beyond a b i.0.small x)).0 f w (product-skip j))

-- Two normal products with one head: their rests are contained as they are.
rests : (a : ℕ) (p q : List ℕ) → Chain (a ∷ p) → Atoms (a ∷ p) → Contained (product (a ∷ p)) (product (a ∷ q)) → Contained (product p) (product q)
rests a p q h i f = go (either (star a))
  where
    behind-star : (p : List ℕ) → Chain (a ∷ p) → Atoms p → star a ≡ true → Contained (product p) (product (a ∷ q)) → Contained (product p) (product q)
    behind-star [] h i s f = contained-none (product q)
    behind-star (b ∷ p) h i s f =
        let x : sub b a ≡ false = ⊎_elim (λ e. absurd (clash ((absorbs-parts a b).1 (s, e)) h.0.left)) (λ e. e) (either (sub b a)) in
        (contained-beyond i.0.proper (sub-beyond b a i.0.small x)).0 f

    go : (star a ≡ true) ⊎ (star a ≡ false) → Contained (product p) (product q)
    go (inl s) = behind-star p h i.1 s ((contained-star (sub-below a a (sub_self a)) s).0 f)
    go (inr s) = (contained-single i.0.proper (sub-below a a (sub_self a)) s).0 f

unique : (p q : List ℕ) → Chain p → Chain q → Atoms p → Atoms q → Contained (product p) (product q) → Contained (product q) (product p) → p ≡ q
unique [] [] hp hq ip iq f g = refl
unique [] (b ∷ q) hp hq ip iq f g = absurd (contained-nil iq.0.proper g)
unique (a ∷ p) [] hp hq ip iq f g = absurd (contained-nil ip.0.proper f)
unique (a ∷ p) (b ∷ q) hp hq ip iq f g = go (unique p q) (either (sub a b)) (either (sub b a))
  where
    go : (Chain p → Chain q → Atoms p → Atoms q → Contained (product p) (product q) → Contained (product q) (product p) → p ≡ q)
        → (sub a b ≡ true) ⊎ (sub a b ≡ false) → (sub b a ≡ true) ⊎ (sub b a ≡ false) → a ∷ p ≡ b ∷ q
    go ih (inr x) y = absurd (strict b q hq iq (λ w i. (contained-beyond ip.0.proper (sub-beyond a b ip.0.small x)).0 f w (g w i)))
    go ih (inl x) (inr y) = absurd (strict a p hp ip (λ w i. (contained-beyond iq.0.proper (sub-beyond b a iq.0.small y)).0 g w (f w i)))
    go ih (inl x) (inl y) =
        let e = sub-both a b x y in
        ap₂ ◌∷◌ e
        (ih (chain-rest a p hp) (chain-rest b q hq) ip.1 iq.1
        (rests a p q hp ip (subst (λ (c : ℕ). Contained (product (a ∷ p)) (product (c ∷ q))) (sym e) f))
        (rests b q p hq iq (subst (λ (c : ℕ). Contained (product (b ∷ q)) (product (c ∷ p))) e g)))

-- ---- what is promised of the normal form

-- It has the same words.
pub normal-words : (p : List ℕ) (w : Word) → WordOf p w ↔ WordOf (normal p) w
normal-words p w = (removals-into (normal-removals p) w, removals-back (normal-removals p) w)

-- What holds of each atom of the product holds of each that is left.
pub normal-each : (P : ℕ → Type 0) (p : List ℕ) → Each P p → Each P (normal p)
normal-each P p h = removals-each P (normal-removals p) h

-- Any order of removals that goes on to the end gives it.
pub any_order : (p q : List ℕ) → Atoms p → Removals p q → Normal q → q ≡ normal p
any_order p q i r n =
    unique q (normal p) ((chain-normal q).1 n) (normal-chain p) (removals-each IsAtom r i) (normal-each IsAtom p i)
    (λ w j. (normal-words p w).0 (removals-back r w j))
    (λ w j. removals-into r w ((normal-words p w).1 j))

-- NORMAL FORM: two products have the same words exactly when their normal forms are equal.
pub same-words : (p q : List ℕ) → Atoms p → Atoms q → ((w : Word) → WordOf p w ↔ WordOf q w) ↔ (normal p ≡ normal q)
same-words p q i j = (
  λ f. unique (normal p) (normal q) (normal-chain p) (normal-chain q) (normal-each IsAtom p i) (normal-each IsAtom q j)
      (λ w k. (normal-words q w).0 ((f w).0 ((normal-words p w).1 k)))
      (λ w k. (normal-words p w).0 ((f w).1 ((normal-words q w).1 k))),
  λ e w. (λ k. (normal-words q w).1 (rw e at ((normal-words p w).0 k)), λ k. (normal-words p w).1 (rw (sym e) at ((normal-words q w).0 k))),
)
