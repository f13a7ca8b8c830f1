-- The bits of a number: of its half, of a power of two, of a masked and of a shifted number.
use Rattle.std.proofs.Common.{◌≡◌, refl, sym, ap, ◌∙◌, true, false, true≢false, ◌⊎◌, inl, inr, ℕ, zero, suc, ◌+◌, ◌-◌, ◌*◌, ◌/◌, ◌%◌, ◌^◌, ◌<◌, ◌≤◌, min, mod-lt, zero-lt-suc, div-one, pow-suc, arith, eqb, eqb-true, eq-eqb, ne_eqb}
use native.Mathlib.Nat.{min-le_right, div-div-eq-div-mul, pow-succ', div-eq_of_lt, mod_self}
use lib.Arith.{bin_ind}
use lib.Bits.{bit_and, and_mask, and_step, and_shr, and_self, and_comm, and_zero_r}
use lib.Pow.{pow_mono, field, mod-mod-pow, shr-shr}
use borrow.Author.Tests.{eqb-false}
use Rattle.common.proofs.BoolLaws.{either, clash}
use Rattle.atoms.specs.Masks.{bit, sub}

pub digit : (x : ℕ) → x % 2 < 2
digit x = mod-lt x (zero-lt-suc 1)

-- Bit 0, and the others as bits of the half.
pub bit-zero : (a : ℕ) → bit a 0 ≡ eqb (a % 2) 1
unfolding bit
bit-zero a = ap (λ (x : ℕ). eqb (x % 2) 1) (div-one a)

pub bit-half : (a m : ℕ) → bit a (suc m) ≡ bit (a / 2) m
unfolding bit
bit-half a m = ap (λ (x : ℕ). eqb (x % 2) 1) (ap (a /◌) (pow-succ' 2 m) ∙ sym (div-div-eq-div-mul a 2 (2 ^ m)))

-- A number below 2 ^ k has no bit from k on.
pub bit_high : (a k m : ℕ) → a < 2 ^ k → k ≤ m → bit a m ≡ false
unfolding bit
bit_high a k m h l = let e : a / 2 ^ m ≡ 0 = div-eq_of_lt (omega (arith, pow_mono l)) in ne_eqb (a / 2 ^ m % 2) 1 (omega arith)

pub bit-none : (m : ℕ) → bit 0 m ≡ false
bit-none m = bit_high 0 0 m (omega arith) (omega arith)

-- A bit of a shifted number.
pub bit-shift : (a n m : ℕ) → bit (a / 2 ^ n) m ≡ bit a (n + m)
unfolding bit
bit-shift a n m = ap (λ (x : ℕ). eqb (x % 2) 1) (shr-shr a n m)

-- A bit below k of the lowest k bits.
pub bit-low : (a k m : ℕ) → m < k → bit (a % 2 ^ k) m ≡ bit a m
unfolding bit
bit-low a k m h =
    let e : k - 1 - m + 1 + m ≡ k = omega arith in
    ap (λ (x : ℕ). eqb x 1)
    (ap (λ (x : ℕ). a % 2 ^ x / 2 ^ m % 2) (sym e) ∙ ap (◌% 2) (field a (k - 1 - m + 1) m) ∙ mod-mod-pow (a / 2 ^ m) (k - 1 - m) 1)

-- ---- masks within masks

-- Each bit of a mask within b is one of b.
pub sub-bit : (a b m : ℕ) → sub a b ≡ true → bit a m ≡ true → bit b m ≡ true
unfolding sub bit
sub-bit a b m s h = eq-eqb (b / 2 ^ m % 2) 1 (omega (arith, both, eqb-true, digit (b / 2 ^ m), min-le_right (a / 2 ^ m % 2) (b / 2 ^ m % 2)))
  where
    both : a / 2 ^ m % 2 ≡ min (a / 2 ^ m % 2) (b / 2 ^ m % 2)
    both =
        ap (λ (x : ℕ). x / 2 ^ m % 2) (sym (eqb-true _ _ s)) ∙ ap (◌% 2) (and_shr a b m) ∙ ap (◌% 2) (and_step (a / 2 ^ m) (b / 2 ^ m))
        ∙ omega (arith, digit (a / 2 ^ m))

-- A mask that is not within b has a bit that b lacks.
pub sub-miss : (a b : ℕ) → sub a b ≡ false → (m : ℕ) × (bit a m ≡ true) × (bit b m ≡ false)
unfolding sub
sub-miss = bin_ind (λ (a : ℕ). (b : ℕ) → sub a b ≡ false → (m : ℕ) × (bit a m ≡ true) × (bit b m ≡ false)) (λ b e. absurd (true≢false e)) go
  where
    go : (a : ℕ) → ((b : ℕ) → eqb (bit_and (a / 2) b) (a / 2) ≡ false → (m : ℕ) × (bit (a / 2) m ≡ true) × (bit b m ≡ false))
        → (b : ℕ) → eqb (bit_and a b) a ≡ false → (m : ℕ) × (bit a m ≡ true) × (bit b m ≡ false)
    go a ih b e = by (either (eqb (a % 2) 1)) (either (eqb (b % 2) 1))
      where
        -- Where bit 0 is no such bit, one of the halves is.
        rest : a % 2 ≤ b % 2 → (m : ℕ) × (bit a m ≡ true) × (bit b m ≡ false)
        rest l =
            let r = ih (b / 2) (ne_eqb (bit_and (a / 2) (b / 2)) (a / 2) (λ q. eqb-false (bit_and a b) a e (and_step a b ∙ omega (arith, q, l)))) in
            (suc r.0, bit-half a r.0 ∙ r.1, bit-half b r.0 ∙ r.2)

        by : (eqb (a % 2) 1 ≡ true) ⊎ (eqb (a % 2) 1 ≡ false) → (eqb (b % 2) 1 ≡ true) ⊎ (eqb (b % 2) 1 ≡ false)
            → (m : ℕ) × (bit a m ≡ true) × (bit b m ≡ false)
        by (inl x) (inr y) = (0, bit-zero a ∙ x, bit-zero b ∙ y)
        by (inl x) (inl y) = rest (omega (arith, eqb-true))
        by (inr x) (inl y) = rest (omega (arith, digit a, eqb-true))
        by (inr x) (inr y) = rest (omega (arith, digit a, eqb-false))

-- Two masks that are each within the other are equal.
pub sub-both : (a b : ℕ) → sub a b ≡ true → sub b a ≡ true → a ≡ b
unfolding sub
sub-both a b x y = sym (eqb-true (bit_and a b) a x) ∙ and_comm a b ∙ eqb-true (bit_and b a) b y

-- A mask whose bits are all b's is within b.
pub bits-sub : (a b : ℕ) → ((m : ℕ) → bit a m ≡ true → bit b m ≡ true) → sub a b ≡ true
bits-sub a b f = go (either (sub a b))
  where
    go : (sub a b ≡ true) ⊎ (sub a b ≡ false) → sub a b ≡ true
    go (inl e) = e
    go (inr e) = let r = sub-miss a b e in absurd (clash (f r.0 r.1) r.2)

-- A number that is not 0 has a bit.
pub some-bit : (a : ℕ) → (a ≡ 0 → ⊥) → (m : ℕ) × (bit a m ≡ true)
unfolding sub
some-bit a n = let r = sub-miss a 0 (ne_eqb (bit_and a 0) a (λ e. n (sym e ∙ and_zero_r a))) in (r.0, r.1)

-- ---- powers of two

half-power : (m : ℕ) → 2 ^ suc m / 2 ≡ 2 ^ m
half-power m = ap (◌/ 2) (pow-suc 2 m) ∙ omega arith

-- A power of two has its own bit,
pub power-bit : (m : ℕ) → bit (2 ^ m) m ≡ true
power-bit zero = bit-zero 1
power-bit (suc m) = bit-half (2 ^ suc m) m ∙ ap (λ (x : ℕ). bit x m) (half-power m) ∙ power-bit m

-- and no other.
pub power-only : (m n : ℕ) → bit (2 ^ m) n ≡ true → n ≡ m
power-only zero zero h = refl
power-only zero (suc n) h = absurd (clash h (bit-half 1 n ∙ bit-none n))
power-only (suc m) zero h = absurd (clash h (bit-zero (2 ^ suc m) ∙ ne_eqb (2 ^ suc m % 2) 1 (omega (arith, pow-suc 2 m))))
power-only (suc m) (suc n) h = ap suc (power-only m n (ap (λ (x : ℕ). bit x n) (sym (half-power m)) ∙ sym (bit-half (2 ^ suc m) n) ∙ h))

-- `s & (s - 1) == 0` is true of a power of two,
pub power-mask : (m : ℕ) → bit_and (2 ^ m) (2 ^ m - 1) ≡ 0
power-mask m = and_mask (2 ^ m) m ∙ mod_self (2 ^ m)

-- and of no other number but 0.
pub mask-power : (s : ℕ) → 0 < s → bit_and s (s - 1) ≡ 0 → (m : ℕ) × (s ≡ 2 ^ m)
mask-power = bin_ind (λ (s : ℕ). 0 < s → bit_and s (s - 1) ≡ 0 → (m : ℕ) × (s ≡ 2 ^ m)) (λ h e. absurd (omega arith)) go
  where
    go : (s : ℕ) → (0 < s / 2 → bit_and (s / 2) (s / 2 - 1) ≡ 0 → (m : ℕ) × (s / 2 ≡ 2 ^ m)) → 0 < s → bit_and s (s - 1) ≡ 0 → (m : ℕ) × (s ≡ 2 ^ m)
    go s ih h e = by (either (eqb (s % 2) 1))
      where
        halves : bit_and (s / 2) ((s - 1) / 2) * 2 + min (s % 2) ((s - 1) % 2) ≡ 0
        halves = sym (and_step s (s - 1)) ∙ e

        by : (eqb (s % 2) 1 ≡ true) ⊎ (eqb (s % 2) 1 ≡ false) → (m : ℕ) × (s ≡ 2 ^ m)
        by (inl o) =
            let odd : s % 2 ≡ 1 = eqb-true (s % 2) 1 o in
            let g : (s - 1) / 2 ≡ s / 2 = omega arith in
            let k : bit_and (s / 2) (s / 2) * 2 + min (s % 2) ((s - 1) % 2) ≡ 0 = rw g at halves in
            (0, omega (arith, and_self (s / 2)))
        by (inr o) =
            let even : s % 2 ≡ 0 = omega (arith, eqb-false) in
            let g : (s - 1) / 2 ≡ s / 2 - 1 = omega arith in
            let k : bit_and (s / 2) (s / 2 - 1) * 2 + min (s % 2) ((s - 1) % 2) ≡ 0 = rw g at halves in
            let r = ih (omega arith) (omega arith) in
            (suc r.0, sym (pow-suc 2 r.0 ∙ omega (arith, r.1)))
