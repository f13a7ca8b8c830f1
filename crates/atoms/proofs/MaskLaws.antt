-- Masks and the sets they mean: message, star flag and subset as masks are those of the sets.
use Rattle.std.proofs.Common.{◌≡◌, sym, ap, subst, ◌∙◌, true, false, not, ◌⊎◌, inl, inr, ⊎_elim, ◌↔◌, ℕ, ◌/◌, ◌%◌, ◌*◌, ◌^◌, ◌<◌, arith, eqb, ltb, eqb-true, eq-eqb, ne_eqb, ltb-true, ltb-false, lt-ltb}
use lib.Bits.{bit_and, and_mask, and_high}
use borrow.Author.Tests.{eqb-false}
use Rattle.common.proofs.BoolLaws.{either, clash, and-true}
use Rattle.meaning.proofs.ContainmentLaws.{Below, Beyond, lacks, starless}
use Rattle.atoms.specs.Masks.{bit, star, has, meant, sub, absorbs, IsAtom}
use Rattle.atoms.proofs.BitLaws.{bit_high, sub-bit, sub-miss, sub-both, bits-sub}

-- ---- message and star flag

-- An atom has a message exactly when it is one of 15 and its bit is set.
pub has-bit : (a m : ℕ) → (has a m ≡ true) ↔ ((m < 15) × (bit a m ≡ true))
unfolding has
has-bit a m = (λ h. let r = and-true (ltb m 15) (bit a m) h in (ltb-true m 15 r.0, r.1), λ r. rw (lt-ltb m 15 r.0, r.1))

pub has-not : (a m : ℕ) → bit a m ≡ false → has a m ≡ false
has-not a m e = ⊎_elim (λ h. absurd (clash ((has-bit a m).0 h).1 e)) (λ h. h) (either (has a m))

pub has-over : (a m : ℕ) → 14 < m → has a m ≡ false
has-over a m l = ⊎_elim (λ h. absurd (over ((has-bit a m).0 h).0)) (λ h. h) (either (has a m))
  where
    over : m < 15 → ⊥
    over k = omega arith

-- `a & 32768 != 0` is the star flag.
pub star-mask : (a : ℕ) → not (eqb (bit_and a 32768) 0) ≡ star a
unfolding star bit
star-mask a = go (either (eqb (a / 2 ^ 15 % 2) 1))
  where
    h : bit_and a 32768 ≡ a / 2 ^ 15 % 2 * 32768
    h = and_high a 1 15

    go : (eqb (a / 2 ^ 15 % 2) 1 ≡ true) ⊎ (eqb (a / 2 ^ 15 % 2) 1 ≡ false) → not (eqb (bit_and a 32768) 0) ≡ eqb (a / 2 ^ 15 % 2) 1
    go (inl e) = ap not (ne_eqb (bit_and a 32768) 0 (omega (arith, h, eqb-true))) ∙ sym e
    go (inr e) = ap not (eq-eqb (bit_and a 32768) 0 (omega (arith, h, eqb-false))) ∙ sym e

-- `a >> m & 1 == 1` is the message.
pub has-mask : (a m : ℕ) → m < 15 → eqb (bit_and (a / 2 ^ m) 1) 1 ≡ has a m
unfolding has bit
has-mask a m l = rw (lt-ltb m 15 l) (ap (λ (x : ℕ). eqb x 1) (and_mask (a / 2 ^ m) 1))

-- ---- subset

-- A bit of sixteen is a message or the star.
pub bit-cases : (a m : ℕ) → a < 2 ^ 16 → bit a m ≡ true → (has a m ≡ true) ⊎ (m ≡ 15)
bit-cases a m s h = go (either (ltb m 15)) (either (ltb m 16))
  where
    go : (ltb m 15 ≡ true) ⊎ (ltb m 15 ≡ false) → (ltb m 16 ≡ true) ⊎ (ltb m 16 ≡ false) → (has a m ≡ true) ⊎ (m ≡ 15)
    go (inl x) y = inl ((has-bit a m).1 (ltb-true m 15 x, h))
    go (inr x) (inl y) = let l = ltb-false m 15 x in let k = ltb-true m 16 y in inr (omega arith)
    go (inr x) (inr y) = absurd (clash h (bit_high a 16 m s (ltb-false m 16 y)))

-- Subset as masks is subset as sets, with the flag.
pub sub-below : (a b : ℕ) → sub a b ≡ true → Below (meant a) (meant b)
unfolding star
sub-below a b e = record { star = sub-bit a b 15 e; has = λ m h. let r = (has-bit a m).0 h in (has-bit b m).1 (r.0, sub-bit a b m e r.1) }

pub below_sub : (a b : ℕ) → a < 2 ^ 16 → Below (meant a) (meant b) → sub a b ≡ true
unfolding star
below_sub a b s l = bits-sub a b (λ m h. go m h (bit-cases a m s h))
  where
    go : (m : ℕ) → bit a m ≡ true → (has a m ≡ true) ⊎ (m ≡ 15) → bit b m ≡ true
    go m h (inl k) = ((has-bit b m).0 (l.has m k)).1
    go m h (inr e) = subst (λ (n : ℕ). bit b n ≡ true) (sym e) (l.star (subst (λ (n : ℕ). bit a n ≡ true) e h))

-- Where a is no subset, b lacks a message of a or the star.
pub sub-beyond : (a b : ℕ) → a < 2 ^ 16 → sub a b ≡ false → Beyond (meant a) (meant b)
unfolding star
sub-beyond a b s e = go (sub-miss a b e)
  where
    go : (m : ℕ) × (bit a m ≡ true) × (bit b m ≡ false) → Beyond (meant a) (meant b)
    go r =
        ⊎_elim (λ h. lacks r.0 h (has-not b r.0 r.2))
        (λ e. starless (subst (λ (n : ℕ). bit a n ≡ true) e r.1) (subst (λ (n : ℕ). bit b n ≡ false) e r.2))
        (bit-cases a r.0 s r.1)

-- Each mask is within itself.
pub sub_self : (a : ℕ) → sub a a ≡ true
sub_self a = bits-sub a a (λ m h. h)

-- Two atoms with the same star flag and the same set are the same number.
pub same-atom : (a b : ℕ) → IsAtom a → IsAtom b → star a ≡ star b → ((m : ℕ) → has a m ≡ has b m) → a ≡ b
same-atom a b i j s h =
    sub-both a b
    (below_sub a b i.small record { star = λ e. sym s ∙ e; has = λ m e. sym (h m) ∙ e })
    (below_sub b a j.small record { star = λ e. s ∙ e; has = λ m e. h m ∙ e })

-- ---- absorbing

pub absorbs-parts : (b a : ℕ) → (absorbs b a ≡ true) ↔ ((star b ≡ true) × (sub a b ≡ true))
unfolding absorbs
absorbs-parts b a = (and-true (star b) (sub a b), λ r. rw (r.0, r.1))

pub ruleset mask_tells = (star-mask, has-mask)
