-- What holds of each element: of the one at a place, of a part of the list, of two lists joined, of each one that is weaker.
use Rattle.std.proofs.Common.{refl, subst, List, [], ◌∷◌, ◌++◌, ℕ, zero, suc, take, drop}
use mathlib.Core.Option.{none-ne-some, some-injective}
use Rattle.common.specs.Each.{Each}
use Rattle.common.specs.Part.{part}
use Rattle.common.proofs.AtLaws.{At}

module _ {A : Type 0} (P : A → Type 0) where
  pub each_at : (l : List A) (n : ℕ) (e : A) → Each P l → At l n e → P e
  each_at [] n e h k = absurd (none-ne-some e k)
  each_at (x ∷ l) zero e h k = subst P (some-injective _ _ k) h.0
  each_at (x ∷ l) (suc n) e h k = each_at l n e h.1 k

  pub at_each : (l : List A) → ((n : ℕ) (e : A) → At l n e → P e) → Each P l
  at_each [] f = tt
  at_each (x ∷ l) f = (f zero x refl, at_each l (λ n e h. f (suc n) e h))

  pub each_take : (n : ℕ) (l : List A) → Each P l → Each P (take n l)
  each_take zero l h = tt
  each_take (suc n) [] h = tt
  each_take (suc n) (x ∷ l) h = (h.0, each_take n l h.1)

  pub each-drop : (n : ℕ) (l : List A) → Each P l → Each P (drop n l)
  each-drop zero l h = h
  each-drop (suc n) [] h = tt
  each-drop (suc n) (x ∷ l) h = each-drop n l h.1

  pub each_append : (k l : List A) → Each P k → Each P l → Each P (k ++ l)
  each_append [] l h i = i
  each_append (x ∷ k) l h i = (h.0, each_append k l h.1 i)

  pub each_map : (Q : A → Type 0) → ((x : A) → P x → Q x) → (l : List A) → Each P l → Each Q l
  each_map Q f [] h = tt
  each_map Q f (x ∷ l) h = (f x h.0, each_map Q f l h.1)

pub each_part : (P : ℕ → Type 0) (f t : ℕ) (l : List ℕ) → Each P l → Each P (part f t l)
unfolding part
each_part P f t l h = each-drop P f (take t l) (each_take P t l h)
