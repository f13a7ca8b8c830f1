-- Texts written one behind the other.
use Rattle.std.proofs.Common.{◌≡◌, refl, sym, ap, ◌∙◌, List, [], ◌∷◌, ◌++◌, ℕ, ◌+◌, ◌-◌, ◌/◌, ◌%◌, ◌<◌, ◌≤◌, length, take, drop, set, length-append, arith}
use Rattle.std.proofs.Math.Seq.{take-length}
use Rattle.std.proofs.lemmas.Slice.{put_mid-paste}
use borrow.Rule.Slice.PartMut.{put_mid}
use Rattle.common.specs.Store.{put_at}
use Rattle.common.proofs.StoreLaws.{put-none, put_one, put_then, put-length}
use Rattle.wording.specs.Numbers.{digit, number_text}
use Rattle.wording.specs.Written.{Written}
use Rattle.wording.proofs.NumberLaws.{number-one, number_more, number_length_more}

-- Nothing, a text behind another, and a byte behind a text.
pub written_none : (l : List ℕ) (a : ℕ) → a ≤ length l → Written l a [] l a
written_none l a h = record { holds = put-none l a; next = omega arith; inside = h }

pub written-length : (l : List ℕ) (a : ℕ) (xs m : List ℕ) (r : ℕ) → Written l a xs m r → length m ≡ length l
written-length l a xs m r w = ap length w.holds ∙ put-length l a xs (omega (arith, w.next, w.inside))

pub written_then : (l : List ℕ) (a : ℕ) (xs m : List ℕ) (b : ℕ) (ys n : List ℕ) (c : ℕ) → Written l a xs m b → Written m b ys n c → Written l a (xs ++ ys) n c
written_then l a xs m b ys n c v w = record {
  holds = w.holds ∙ ap (λ (z : List ℕ). put_at z b ys) v.holds ∙ put_then l a xs b ys (sym v.next) v.inside;
  next = omega (arith, v.next, w.next, length-append xs ys);
  inside = omega (arith, w.inside, written-length l a xs m b v);
}

pub written_one : (l : List ℕ) (a x : ℕ) → a < length l → Written l a (x ∷ []) (set l a x) (a + 1)
written_one l a x h = record { holds = put_one l a x h; next = refl; inside = omega arith }

-- A text copied over the places from a on.
pub written_over : (l : List ℕ) (a : ℕ) (text ys : List ℕ) → ys ≡ text → a + length text ≤ length l → Written l a text (put_mid a (a + length text - a) l ys) (a + length text)
unfolding put_at
written_over l a text ys e h = record {
  holds = put_mid-paste a (a + length text - a) l ys text (length text) e (omega arith) refl ∙ ap (λ (x : List ℕ). take a l ++ x ++ drop (a + length text) l) (take-length text);
  next = refl;
  inside = h;
}

-- ---- a number

-- A number of one digit, and one of more: the last digit fits behind those before it, and ends the number.
pub one_digit : (l : List ℕ) (a n : ℕ) → n < 10 → a + length (number_text n) ≤ length l
    → (a < length l) × Written l a (number_text n) (set l a (digit (n % 10))) (a + 1)
one_digit l a n h k =
    let e : n % 10 ≡ n = omega arith in
    let i : a < length l = omega (arith, ap length (number-one n h)) in
    (i, rw (number-one n h, e) (written_one l a (digit n) i))

pub more_digits : (l : List ℕ) (a n : ℕ) (m : List ℕ) (b : ℕ) → 10 ≤ n → Written l a (number_text (n / 10)) m b → a + length (number_text n) ≤ length l
    → (b < length m) × Written l a (number_text n) (set m b (digit (n % 10))) (b + 1)
more_digits l a n m b h w k =
    let i : b < length m = omega (arith, number_length_more n h, w.next, written-length _ _ _ _ _ w) in
    (i, rw (number_more n h) (written_then _ _ _ _ _ _ _ _ w (written_one m b (digit (n % 10)) i)))
