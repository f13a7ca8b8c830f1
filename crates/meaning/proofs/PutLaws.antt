-- One channel changed: what stands there, and elsewhere.
use mathlib.Core.Path.{◌≡◌, refl, sym, ◌∙◌, fun_ext}
use mathlib.Core.Bool.{true, false}
use mathlib.Core.Logic.{◌⊎◌, inl, inr}
use Prim.Native.Nat.{ℕ}
use lib.Dec.{eqb}
use borrow.Author.Tests.{eqb-true, eqb-false, eq-eqb, ne_eqb}
use Rattle.meaning.specs.Systems.{put}
use Rattle.common.proofs.BoolLaws.{either}

module _ {A : Type 0} (f : ℕ → A) (c : ℕ) (v : A) where
  pub put_same : put f c v c ≡ v
  unfolding put
  put_same = rw (eq-eqb c c refl)

  pub put_other : (d : ℕ) → (d ≡ c → ⊥) → put f c v d ≡ f d
  unfolding put
  put_other d n = rw (ne_eqb d c n)

  -- What holds of v at c and of f elsewhere holds at each channel.
  pub put-each : (P : ℕ → A → Type 0) → P c v → ((d : ℕ) → (d ≡ c → ⊥) → P d (f d)) → (d : ℕ) → P d (put f c v d)
  put-each P h k d = go (either (eqb d c))
    where
      go : (eqb d c ≡ true) ⊎ (eqb d c ≡ false) → P d (put f c v d)
      go (inl e) = rw (eqb-true d c e, put_same) h
      go (inr e) = rw (put_other d (eqb-false d c e)) (k d (eqb-false d c e))

module _ {A : Type 0} (f : ℕ → A) (c : ℕ) where
  -- The last change counts.
  pub put-put : (u v : A) → put (put f c u) c v ≡ put f c v
  put-put u v = fun_ext (put-each (put f c u) c v (λ d a. a ≡ put f c v d) (sym (put_same f c v)) (λ d n. put_other f c u d n ∙ sym (put_other f c v d n)))

  -- No change.
  pub put_id : put f c (f c) ≡ f
  put_id = fun_ext (put-each f c (f c) (λ d a. a ≡ f d) refl (λ d n. refl))

-- A change at one channel of two tables keeps what holds of both.
pub put_both : {A B : Type 0} (P : A → B → Type 0) (f : ℕ → A) (g : ℕ → B) (c : ℕ) {a : A} {b : B} → P a b → ((d : ℕ) → P (f d) (g d)) → (d : ℕ) → P (put f c a d) (put g c b d)
put_both P f g c {a} {b} h k d = put-each f c a (λ e x. P x (put g c b e)) (rw (put_same g c b) h) (λ e n. rw (put_other g c b e n) (k e)) d
