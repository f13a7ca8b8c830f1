-- Things that are read one after the other: turn by turn, what holds of each, and reading back what was written.
use Rattle.std.proofs.Common.{◌≡◌, refl, sym, ap, subst, ◌∙◌, List, [], ◌∷◌, ◌++◌, append_assoc, append-nil, ℕ, zero, suc, ◌+◌, ◌-◌, ◌<◌, ◌≤◌, arith, length, length-append}
use Rattle.common.specs.Each.{Each}
use Rattle.common.proofs.StandLaws.{Stands, stands-first, stands-behind, stands-in}
use Rattle.table.specs.declared.faults.Fault.{Fault}
use Rattle.lists.specs.Format.{joined}
use Rattle.lists.specs.Reading.{Read, read, fails, and_then, behind, read_many}

module _ {A : Type 0} where
  -- A fault is nothing that was read, and what was read is one thing at one place.
  pub no_read : {f : Fault} {x : A} {next : ℕ} → fails f ≡ read x next → ⊥
  no_read e = let z : ◌≡◌ {A = ℕ} 0 1 = cc in omega arith

  pub same-thing : {x x' : A} {next next' : ℕ} → read x next ≡ read x' next' → x ≡ x'
  same-thing e = cc

  pub same_place : {x x' : A} {next next' : ℕ} → read x next ≡ read x' next' → next ≡ next'
  same_place e = cc

  behind-none : (r : Read (List A)) → r ≡ behind [] r
  behind-none (read ys next) = refl
  behind-none (fails f) = refl

  behind-both : (xs ys : List A) (r : Read (List A)) → behind xs (behind ys r) ≡ behind (xs ++ ys) r
  behind-both xs ys (read zs next) = ap (λ (l : List A). read l next) (sym (append_assoc xs ys zs))
  behind-both xs ys (fails f) = refl

module _ {A : Type 0} (one : ℕ → Read A) where
  turn-next : (k at : ℕ) (x : A) (next : ℕ) → one at ≡ read x next → read_many one (suc k) at ≡ behind (x ∷ []) (read_many one k next)
  unfolding read_many
  turn-next k at x next e = rw e

  turn-fails : (k at : ℕ) (f : Fault) → one at ≡ fails f → read_many one (suc k) at ≡ fails f
  unfolding read_many
  turn-fails k at f e = rw e

  turn-done : (at : ℕ) → read_many one 0 at ≡ read [] at
  unfolding read_many
  turn-done at = refl

  -- Of n things from a place on, k are read: they are xs, and the next stands at another place.
  pub record Reading (n from : ℕ) (xs : List A) (k at : ℕ) : Type 0 where
    pub high : k ≤ n
    pub many : length xs ≡ k
    pub same : read_many one n from ≡ behind xs (read_many one (n - k) at)

  pub reading-starts : (n from : ℕ) → Reading n from [] 0 from
  reading-starts n from =
      let z : n - 0 ≡ n = omega arith in
      record { high = omega arith; many = refl; same = rw z (behind-none (read_many one n from)) }

  module _ {n from : ℕ} {xs : List A} {k at : ℕ} (w : Reading n from xs k at) where
    module _ (l : k < n) where
      left : n - k ≡ suc (n - (k + 1))
      left = omega arith

      pub reading-on : (x : A) (next : ℕ) → one at ≡ read x next → Reading n from (xs ++ (x ∷ [])) (k + 1) next
      reading-on x next e =
          record {
            high = omega arith;
            many = length-append xs (x ∷ []) ∙ omega (arith, w.many);
            same = w.same ∙ rw left (ap (behind xs) (turn-next (n - (k + 1)) at x next e)) ∙ behind-both xs (x ∷ []) (read_many one (n - (k + 1)) next);
          }

      pub reading-fails : (f : Fault) → one at ≡ fails f → read_many one n from ≡ fails f
      reading-fails f e = w.same ∙ rw left (ap (behind xs) (turn-fails (n - (k + 1)) at f e))

    pub reading-ends : n ≤ k → read_many one n from ≡ read xs at
    reading-ends l =
        let z : n - k ≡ 0 = omega arith in
        w.same ∙ rw z (ap (behind xs) (turn-done at)) ∙ ap (λ (ys : List A). read ys at) (append-nil xs)

  -- What holds of each thing that can be read holds of each that was read, and as many were read as were asked for.
  pub many-each : (P : A → Type 0) → ((from : ℕ) (x : A) (next : ℕ) → one from ≡ read x next → P x)
      → (k from : ℕ) (xs : List A) (next : ℕ) → read_many one k from ≡ read xs next → (length xs ≡ k) × Each P xs
  unfolding read_many
  many-each P h zero from xs next e = subst (λ (l : List A). (length l ≡ 0) × Each P l) (same-thing e) (refl, tt)
  many-each P h (suc k) from xs next e = go (many-each P h k) (one from) refl e
    where
      Held : ℕ → List A → Type 0
      Held n l = (length l ≡ n) × Each P l

      more : (x : A) (mid : ℕ) → one from ≡ read x mid → ((ys : List A) (end : ℕ) → read_many one k mid ≡ read ys end → Held k ys)
          → (r : Read (List A)) → read_many one k mid ≡ r → behind (x ∷ []) r ≡ read xs next → Held (suc k) xs
      more x mid q later (read ys end) d e =
          let l = later ys end d in
          subst (Held (suc k)) (same-thing e) (ap suc l.0, (h from x mid q, l.1))
      more x mid q later (fails f) d e = absurd (no_read e)

      go : ((mid : ℕ) (ys : List A) (end : ℕ) → read_many one k mid ≡ read ys end → Held k ys)
          → (r : Read A) → one from ≡ r → and_then r (λ x mid. behind (x ∷ []) (read_many one k mid)) ≡ read xs next → Held (suc k) xs
      go later (read x mid) q e = more x mid q (later mid) (read_many one k mid) refl e
      go later (fails f) q e = absurd (no_read e)

-- Bytes that stand at a place, the first of two parts and the second.
pub stands-left : {t : List ℕ} {a : ℕ} (xs ys : List ℕ) → Stands t a (xs ++ ys) → Stands t a xs
stands-left {t} {a} xs ys s = subst (λ (n : ℕ). Stands t n xs) (omega arith) (stands-in s (stands-first xs ys))

pub stands-right : {t : List ℕ} {a : ℕ} (xs ys : List ℕ) → Stands t a (xs ++ ys) → Stands t (a + length xs) ys
stands-right xs ys s = stands-in s (stands-behind xs ys (length xs) refl)

-- Where one thing is read back from its bytes, things that were written one after the other are.
module _ {A : Type 0} (one : ℕ → Read A) (bytes : A → List ℕ) (t : List ℕ) (end : ℕ) (P : A → Type 0)
    (back : (x : A) (from : ℕ) → P x → Stands t from (bytes x) → from + length (bytes x) ≤ end → one from ≡ read x (from + length (bytes x))) where
  pub many-back : (xs : List A) (from : ℕ) → Each P xs → Stands t from (joined bytes xs) → from + length (joined bytes xs) ≤ end
      → read_many one (length xs) from ≡ read xs (from + length (joined bytes xs))
  unfolding joined
  many-back [] from h s l = let z : from + 0 ≡ from = omega arith in rw z (turn-done one from)
  many-back (x ∷ xs) from h s l =
      let w : length (bytes x ++ joined bytes xs) ≡ length (bytes x) + length (joined bytes xs) = length-append (bytes x) (joined bytes xs) in
      let e = back x from h.0 (stands-left (bytes x) (joined bytes xs) s) (omega arith) in
      let r = many-back xs (from + length (bytes x)) h.1 (stands-right (bytes x) (joined bytes xs) s) (omega arith) in
      let z : from + length (bytes x) + length (joined bytes xs) ≡ from + length (bytes x ++ joined bytes xs) = omega arith in
      turn-next one (length xs) from x (from + length (bytes x)) e ∙ ap (behind (x ∷ [])) r ∙ ap (λ (n : ℕ). read (x ∷ xs) n) z
