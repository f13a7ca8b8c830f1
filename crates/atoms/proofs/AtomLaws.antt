-- Which numbers are atoms: the test, and the atoms of one message.
use Rattle.std.proofs.Common.{◌≡◌, refl, sym, ap, subst, ◌∙◌, Bool, true, false, true≢false, ◌⊎◌, inl, inr, ⊎_elim, ◌↔◌, List, [], ◌∷◌, ℕ, ◌+◌, ◌-◌, ◌*◌, ◌/◌, ◌%◌, ◌^◌, ◌<◌, ◌≤◌, div-lt_iff_lt-mul, one-mul, arith, eqb, ltb, eqb-true, eq-eqb, ltb-true, ltb-false}
use lib.Bits.{bit_and, bit_or, and_mask, mask_lt, or_shifted}
use lib.Pow.{pow_mono, pow_pos, pow-lt, shl_exact}
use borrow.Author.Tests.{eqb-false}
use Rattle.common.specs.Choice.{if_true, if_eq}
use Rattle.common.proofs.BoolLaws.{either, clash}
use Rattle.common.proofs.ChoiceLaws.{true-then, true-else, true-cases, lt-then, lt-cases, eq-then, eq-else, eq-cases}
use Rattle.meaning.proofs.SendLaws.{Alone}
use Rattle.atoms.specs.Masks.{bit, star, has, meant, IsAtom, AtomOf, messages, atom_test, single_of, star_of, Atoms, AtomsOf}
use Rattle.atoms.proofs.BitLaws.{bit_high, bit-none, bit-shift, bit-low, bits-sub, sub-both, some-bit, power-bit, power-only, power-mask, mask-power}
use Rattle.atoms.proofs.MaskLaws.{has-bit, bit-cases}

-- ---- the message bits

messages-lt : (a : ℕ) → messages a < 2 ^ 15
messages-lt a = mask_lt a 15

-- A message is a bit of the message bits.
has-messages : (a m : ℕ) → (has a m ≡ true) ↔ (bit (messages a) m ≡ true)
has-messages a m = (
  λ h. let r = (has-bit a m).0 h in low m r.0 ∙ r.1,
  λ h. let l = below h in (has-bit a m).1 (l, sym (low m l) ∙ h),
)
  where
    low : (m : ℕ) → m < 15 → bit (messages a) m ≡ bit a m
    low m l = ap (λ (x : ℕ). bit x m) (and_mask a 15) ∙ bit-low a 15 m l

    below : bit (messages a) m ≡ true → m < 15
    below h = ⊎_elim (λ x. ltb-true m 15 x) (λ x. absurd (clash h (bit_high (messages a) 15 m (messages-lt a) (ltb-false m 15 x)))) (either (ltb m 15))

-- Without the star a number of sixteen bits is its message bits.
starless-messages : (a : ℕ) → a < 2 ^ 16 → star a ≡ false → messages a ≡ a
unfolding star bit
starless-messages a h s = and_mask a 15 ∙ omega (arith, eqb-false (a / 2 ^ 15 % 2) 1 s)

-- ---- the atoms of one message

pub single-star : (m : ℕ) → m < 15 → star (single_of m) ≡ false
unfolding star
single-star m h = ⊎_elim (λ e. absurd (go (power-only m 15 e))) (λ e. e) (either (bit (2 ^ m) 15))
  where
    go : 15 ≡ m → ⊥
    go e = omega arith

pub single-alone : (m : ℕ) → m < 15 → Alone m (meant (single_of m))
single-alone m h = record { has = (has-bit (2 ^ m) m).1 (h, power-bit m); only = λ n k. power-only m n ((has-bit (2 ^ m) n).0 k).1 }

star-messages : (m : ℕ) → m < 15 → messages (star_of m) ≡ 2 ^ m
star-messages m h = let l : 2 ^ m < 2 ^ 15 = pow-lt h in and_mask (2 ^ 15 + 2 ^ m) 15 ∙ omega arith

pub star-star : (m : ℕ) → m < 15 → star (star_of m) ≡ true
unfolding star bit
star-star m h = let l : 2 ^ m < 2 ^ 15 = pow-lt h in eq-eqb ((2 ^ 15 + 2 ^ m) / 2 ^ 15 % 2) 1 (omega arith)

pub star-alone : (m : ℕ) → m < 15 → Alone m (meant (star_of m))
star-alone m h =
    record {
      has = (has-messages (star_of m) m).1 (rw (star-messages m h) (power-bit m));
      only = λ n k. power-only m n (rw (star-messages m h) at ((has-messages (star_of m) n).0 k));
    }

-- An atom that has one message and no other is an atom of every table that has the message.
alone-atom : (n m a : ℕ) → a < 2 ^ 16 → m < n → Alone m (meant a) → AtomOf n a
alone-atom n m a s l al =
    record {
      atom = record { small = s; proper = record { message = m; some = al.has; only = λ t k h. al.only k h } };
      range = λ k h. subst (◌< n) (sym (al.only k h)) l;
    }

pub single-atom : (n m : ℕ) → m < n → n ≤ 15 → AtomOf n (single_of m)
single-atom n m l h = alone-atom n m (2 ^ m) (pow-lt {i = m} {j = 16} (omega arith)) l (single-alone m (omega arith))

pub star-atom : (n m : ℕ) → m < n → n ≤ 15 → AtomOf n (star_of m)
star-atom n m l h =
    let k : m < 15 = omega arith in
    let p : 2 ^ m < 2 ^ 15 = pow-lt k in
    alone-atom n m (2 ^ 15 + 2 ^ m) (omega arith) l (star-alone m k)

-- A single atom is the power of its message.
single-power : (a m : ℕ) → IsAtom a → star a ≡ false → has a m ≡ true → a ≡ 2 ^ m
unfolding star
single-power a m i s h = sub-both a (2 ^ m) (bits-sub a (2 ^ m) there) (bits-sub (2 ^ m) a back)
  where
    there : (n : ℕ) → bit a n ≡ true → bit (2 ^ m) n ≡ true
    there n k = go (bit-cases a n i.small k)
      where
        go : (has a n ≡ true) ⊎ (n ≡ 15) → bit (2 ^ m) n ≡ true
        go (inl x) = subst (λ (j : ℕ). bit (2 ^ m) j ≡ true) (i.proper.only s m h ∙ sym (i.proper.only s n x)) (power-bit m)
        go (inr x) = absurd (clash (subst (λ (j : ℕ). bit a j ≡ true) x k) s)

    back : (n : ℕ) → bit (2 ^ m) n ≡ true → bit a n ≡ true
    back n k = subst (λ (j : ℕ). bit a j ≡ true) (sym (power-only m n k)) ((has-bit a m).0 h).1

-- ---- the test

module _ (n a : ℕ) (small : a < 2 ^ 16) where
  -- No message from n on exactly when the message bits shifted by n are 0.
  range-mask : (messages a / 2 ^ n ≡ 0) ↔ ((m : ℕ) → has a m ≡ true → m < n)
  range-mask = (there, λ f. ⊎_elim (λ x. eqb-true _ _ x) (λ x. absurd (out f (some-bit _ (eqb-false _ _ x)))) (either (eqb (messages a / 2 ^ n) 0)))
    where
      there : messages a / 2 ^ n ≡ 0 → (m : ℕ) → has a m ≡ true → m < n
      there e m h =
          let l : messages a / 2 ^ n < 1 = omega arith in
          let s : messages a < 2 ^ n = omega (arith, (div-lt_iff_lt-mul (pow_pos n)).0 l) in
          ⊎_elim (λ x. ltb-true m n x) (λ x. absurd (clash ((has-messages a m).0 h) (bit_high (messages a) n m s (ltb-false m n x)))) (either (ltb m n))

      out : ((m : ℕ) → has a m ≡ true → m < n) → (m : ℕ) × (bit (messages a / 2 ^ n) m ≡ true) → ⊥
      out f r = let l = f (n + r.0) ((has-messages a (n + r.0)).1 (sym (bit-shift (messages a) n r.0) ∙ r.1)) in omega arith

  -- A number without the star is proper exactly when its message bits are a power of two.
  single-proper : star a ≡ false → (messages a ≡ 0 → ⊥) → (bit_and (messages a) (messages a - 1) ≡ 0) ↔ IsAtom a
  single-proper s z = (there, back)
    where
      there : bit_and (messages a) (messages a - 1) ≡ 0 → IsAtom a
      there e =
          let r = mask-power (messages a) (omega arith) e in
          let k : a ≡ 2 ^ r.0 = sym (starless-messages a small s) ∙ r.1 in
          rw k (single-atom 15 r.0 (lt15 r.0 r.1) (omega arith)).atom
        where
          lt15 : (m : ℕ) → messages a ≡ 2 ^ m → m < 15
          lt15 m e = ⊎_elim (λ x. ltb-true m 15 x) (λ x. absurd (over (pow_mono (ltb-false m 15 x)))) (either (ltb m 15))
            where
              over : 2 ^ 15 ≤ 2 ^ m → ⊥
              over l = omega (arith, messages-lt a)

      back : IsAtom a → bit_and (messages a) (messages a - 1) ≡ 0
      back i = rw (starless-messages a small s, single-power a i.proper.message i s i.proper.some) (power-mask i.proper.message)

  star-proper : star a ≡ true → (messages a ≡ 0 → ⊥) → IsAtom a
  star-proper s z =
      let r = some-bit (messages a) z in
      record { small = small; proper = record { message = r.0; some = (has-messages a r.0).1 r.1; only = λ t. absurd (clash s t) } }

-- The test for an atom of a table with n messages is true exactly of those.
pub atom-test : (n a : ℕ) → (atom_test n a ≡ true) ↔ AtomOf n a
unfolding atom_test
atom-test n a = (there, back)
  where
    alone : Bool
    alone = eqb (bit_and (messages a) (messages a - 1)) 0

    some : Bool
    some = if_eq (messages a) 0 false (if_eq (messages a / 2 ^ n) 0 (if_true (star a) true alone) false)

    there : atom_test n a ≡ true → AtomOf n a
    there h = small (lt-cases _ _ _ _ h)
      where
        kinds : a < 2 ^ 16 → (messages a ≡ 0 → ⊥) → messages a / 2 ^ n ≡ 0 → ((star a ≡ true) × (true ≡ true)) ⊎ ((star a ≡ false) × (alone ≡ true)) → AtomOf n a
        kinds l z e (inl r) = record { atom = star-proper n a l r.0 z; range = (range-mask n a l).0 e }
        kinds l z e (inr r) = record { atom = (single-proper n a l r.0 z).0 (eqb-true _ _ r.1); range = (range-mask n a l).0 e }

        ranged : a < 2 ^ 16 → (messages a ≡ 0 → ⊥) → ((messages a / 2 ^ n ≡ 0) × (if_true (star a) true alone ≡ true)) ⊎ ((messages a / 2 ^ n ≡ 0 → ⊥) × (false ≡ true)) → AtomOf n a
        ranged l z (inl r) = kinds l z r.0 (true-cases _ _ _ r.1)
        ranged l z (inr r) = absurd (true≢false (sym r.1))

        messaged : a < 2 ^ 16 → ((messages a ≡ 0) × (false ≡ true)) ⊎ ((messages a ≡ 0 → ⊥) × (if_eq (messages a / 2 ^ n) 0 (if_true (star a) true alone) false ≡ true)) → AtomOf n a
        messaged l (inl r) = absurd (true≢false (sym r.1))
        messaged l (inr r) = ranged l r.0 (eq-cases _ _ _ _ r.1)

        small : ((a < 2 ^ 16) × (some ≡ true)) ⊎ ((2 ^ 16 ≤ a) × (false ≡ true)) → AtomOf n a
        small (inl r) = messaged r.0 (eq-cases _ _ _ _ r.1)
        small (inr r) = absurd (true≢false (sym r.1))

    back : AtomOf n a → atom_test n a ≡ true
    back t = sym (lt-then _ _ _ _ l (eq-else _ _ _ _ z (eq-then _ _ _ _ ((range-mask n a l).1 t.range) (kinds (either (star a))))))
      where
        l : a < 2 ^ 16
        l = t.atom.small

        z : messages a ≡ 0 → ⊥
        z e = let p = t.atom.proper in clash ((has-messages a p.message).0 p.some) (rw e (bit-none p.message))

        kinds : (star a ≡ true) ⊎ (star a ≡ false) → true ≡ if_true (star a) true alone
        kinds (inl s) = true-then _ _ _ s refl
        kinds (inr s) = true-else _ _ _ s (sym (eq-eqb _ _ ((single-proper n a l s z).1 t.atom)))

-- ---- the atoms of one message, as the code makes them

pub shift_one : (m : ℕ) → m < 15 → (1 * 2 ^ m) % 2 ^ 16 ≡ single_of m
shift_one m h = shl_exact {a = 1} 1 m 16 (omega arith) (omega arith) ∙ one-mul (2 ^ m)

pub star-one : (m : ℕ) → m < 15 → bit_or 32768 ((1 * 2 ^ m) % 2 ^ 16) ≡ star_of m
star-one m h = ap (bit_or 32768) (shift_one m h) ∙ or_shifted 1 15 (2 ^ m) (pow-lt h)

-- Atoms of a table are atoms.
pub atoms-of : (n : ℕ) (p : List ℕ) → AtomsOf n p → Atoms p
atoms-of n [] h = tt
atoms-of n (a ∷ p) h = (h.0.atom, atoms-of n p h.1)

pub ruleset one_message = (shift_one, star-one)
