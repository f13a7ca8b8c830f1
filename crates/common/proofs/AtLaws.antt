-- The element at a place of a list that grows at its end.
use Rattle.std.proofs.Common.{◌≡◌, refl, sym, ap, ◌∙◌, ◌⊎◌, inl, inr, ◌↔◌, List, [], ◌∷◌, ◌++◌, map, append_assoc, append-nil, ℕ, zero, suc, ◌<◌, ◌≤◌, arith, length}
use mathlib.Core.List.Memᴰ
use mathlib.Core.List.{Memᴰ}
use mathlib.Core.Option.{none, some, none-ne-some, some-injective}
use lib.ListN.{get_elem?}

module _ {A : Type 0} where
  -- e stands at place n of l.
  abbrev pub At : List A → ℕ → A → Type 0
  At l n e = get_elem? l n ≡ some e

  pub at-below : (l : List A) (n : ℕ) (e : A) → At l n e → n < length l
  at-below [] n e h = absurd (none-ne-some e h)
  at-below (x ∷ l) zero e h = omega arith
  at-below (x ∷ l) (suc n) e h = let k = at-below l n e h in omega arith

  pub at_same : (l : List A) (n : ℕ) (d e : A) → At l n d → At l n e → d ≡ e
  at_same l n d e h k = some-injective _ _ (sym h ∙ k)

  pub at_some : (l : List A) (n : ℕ) → n < length l → (e : A) × At l n e
  at_some [] n h = absurd (omega arith)
  at_some (x ∷ l) zero h = (x, refl)
  at_some (x ∷ l) (suc n) h = at_some l n (omega arith)

  pub at-past : (l : List A) (n : ℕ) → get_elem? l n ≡ none → length l ≤ n
  at-past [] n h = omega arith
  at-past (x ∷ l) zero h = absurd (none-ne-some x (sym h))
  at-past (x ∷ l) (suc n) h = let k = at-past l n h in omega arith

  pub past-at : (l : List A) (n : ℕ) → length l ≤ n → get_elem? l n ≡ none
  past-at [] n h = refl
  past-at (x ∷ l) zero h = absurd (omega arith)
  past-at (x ∷ l) (suc n) h = past-at l n (omega arith)

  -- What stands there still stands there when the list has grown.
  pub at-grown : (l t : List A) (n : ℕ) (e : A) → At l n e → At (l ++ t) n e
  at-grown [] t n e h = absurd (none-ne-some e h)
  at-grown (x ∷ l) t zero e h = h
  at-grown (x ∷ l) t (suc n) e h = at-grown l t n e h

  -- The new one stands at the end.
  pub at-end : (l : List A) (x : A) → At (l ++ (x ∷ [])) (length l) x
  at-end [] x = refl
  at-end (y ∷ l) x = at-end l x

  pub at-cases : (l : List A) (x : A) (n : ℕ) (e : A) → At (l ++ (x ∷ [])) n e → At l n e ⊎ ((n ≡ length l) × (x ≡ e))
  at-cases [] x zero e h = inr (refl, some-injective _ _ h)
  at-cases [] x (suc n) e h = absurd (none-ne-some e h)
  at-cases (y ∷ l) x zero e h = inl h
  at-cases (y ∷ l) x (suc n) e h = go (at-cases l x n e h)
    where
      go : At l n e ⊎ ((n ≡ length l) × (x ≡ e)) → At (y ∷ l) (suc n) e ⊎ ((suc n ≡ suc (length l)) × (x ≡ e))
      go (inl k) = inl k
      go (inr k) = inr (ap suc k.0, k.1)

  -- m is l with more behind it.
  pub record Grows (l m : List A) : Type 0 where
    pub more : List A
    pub whole : m ≡ l ++ more

  pub grows_none : (l : List A) → Grows l l
  grows_none l = record { more = []; whole = sym (append-nil l) }

  pub grows_one : (l : List A) (x : A) → Grows l (l ++ (x ∷ []))
  grows_one l x = record { more = x ∷ []; whole = refl }

  pub grows_then : {k l m : List A} → Grows k l → Grows l m → Grows k m
  grows_then {k} g h = record { more = g.more ++ h.more; whole = h.whole ∙ ap (◌++ h.more) g.whole ∙ append_assoc k g.more h.more }

  pub grows_at : {l m : List A} (n : ℕ) (e : A) → Grows l m → At l n e → At m n e
  grows_at {l} n e g h = rw g.whole (at-grown l g.more n e h)

  -- An element of the list stands at some place.
  pub mem-at : (l : List A) (e : A) → Memᴰ e l ↔ ((n : ℕ) × At l n e)
  mem-at l e = (there l, λ h. back l h.0 h.1)
    where
      there : (l : List A) → Memᴰ e l → (n : ℕ) × At l n e
      there [] h = absurd (Memᴰ.not-nil h)
      there (x ∷ l) h = go (there l) (Memᴰ.cases_cons h)
        where
          go : (Memᴰ e l → (n : ℕ) × At l n e) → (e ≡ x) ⊎ Memᴰ e l → (n : ℕ) × At (x ∷ l) n e
          go ih (inl k) = (0, ap some (sym k))
          go ih (inr k) = let r = ih k in (suc r.0, r.1)

      back : (l : List A) (n : ℕ) → At l n e → Memᴰ e l
      back [] n h = absurd (none-ne-some e h)
      back (x ∷ l) zero h = Memᴰ.head (sym (some-injective _ _ h))
      back (x ∷ l) (suc n) h = Memᴰ.tail (back l n h)

-- The elements of a list, each turned into another.
pub at_map : {A B : Type 0} (f : A → B) (l : List A) (n : ℕ) (b : B) → At (map f l) n b ↔ ((a : A) × At l n a × (f a ≡ b))
at_map {A} {B} f l n b = (there l n, λ h. back l n h.0 h.1 h.2)
  where
    there : (l : List A) (n : ℕ) → At (map f l) n b → (a : A) × At l n a × (f a ≡ b)
    there [] n h = absurd (none-ne-some b h)
    there (x ∷ l) zero h = (x, refl, some-injective _ _ h)
    there (x ∷ l) (suc n) h = there l n h

    back : (l : List A) (n : ℕ) (a : A) → At l n a → f a ≡ b → At (map f l) n b
    back [] n a h e = absurd (none-ne-some a h)
    back (x ∷ l) zero a h e = ap some (ap f (some-injective _ _ h) ∙ e)
    back (x ∷ l) (suc n) a h e = back l n a h e
