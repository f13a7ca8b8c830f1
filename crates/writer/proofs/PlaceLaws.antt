-- What is placed in the list: bytes, numbers, products, rows.
use Rattle.std.proofs.Common.{◌≡◌, sym, ap, ◌∙◌, List, [], ◌∷◌, ◌++◌, append_assoc, ℕ, ◌+◌, ◌-◌, ◌/◌, ◌%◌, ◌<◌, div-lt_iff_lt-mul, arith, length, get_or, w16, take, drop, drop-drop, mod-eq_of_lt}
use Rattle.std.specs.Int.{to_le_bytes}
use borrow.Rule.Slice.PartMut.{put_mid}
use Rattle.common.specs.Store.{put_at}
use Rattle.lists.specs.Format.{joined, number_bytes}
use Rattle.lists.proofs.BackLaws.{number-length}
use Rattle.lists.proofs.RowLaws.{listed-get}
use Rattle.writer.proofs.ManyLaws.{up_to}

-- ---- bytes, and a number

pub high_byte : (n : ℕ) → n < 65536 → n / 256 < 256
high_byte n h = (div-lt_iff_lt-mul {k = 256} {x = n} {y = 256} (omega arith)).1 h

-- A number's two bytes.
pub number-is : (n : ℕ) → n < 65536 → to_le_bytes w16 n ≡ number_bytes n
unfolding number_bytes
number-is n h = ap (λ (x : ℕ). n % 256 ∷ x ∷ []) (mod-eq_of_lt (high_byte n h))

pub put-part : (l : List ℕ) (a k : ℕ) (ys : List ℕ) → length ys ≡ k → put_mid a k l ys ≡ put_at l a ys
unfolding put_at
put-part l a k ys e =
    sym (append_assoc (take a l) ys (drop k (drop a l))) ∙ ap (λ (z : List ℕ). take a l ++ ys ++ z) (drop-drop k a l ∙ ap (λ (n : ℕ). drop (a + n) l) (sym e))

pub number-written : (l : List ℕ) (a n : ℕ) (ys : List ℕ) → n < 65536 → ys ≡ to_le_bytes w16 n → put_mid a (a + 2 - a) l ys ≡ put_at l a (number_bytes n)
number-written l a n ys h e =
    let d : ys ≡ number_bytes n = e ∙ number-is n h in
    put-part l a (a + 2 - a) ys (ap length d ∙ number-length n ∙ omega arith) ∙ ap (put_at l a) d

-- ---- atoms

-- A product's atoms, one by one.
pub atoms-are : (p : List ℕ) → up_to number_bytes (λ k. get_or p k 0) (length p) ≡ joined number_bytes p
atoms-are p = ap (joined number_bytes) (listed-get 0 p (λ k. get_or p k 0) 0 (λ j. ap (λ (i : ℕ). get_or p i 0) (omega arith)))
