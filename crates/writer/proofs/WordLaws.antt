-- A product's words, where they stand.
use Rattle.std.proofs.Common.{◌≡◌, sym, ap, ◌∙◌, List, ◌∷◌, ℕ, zero, suc, ◌+◌, ◌≤◌, arith, length, get_or}
use Rattle.common.specs.Part.{part}
use Rattle.common.proofs.PartLaws.{part_none, part-cons}
use Rattle.table.specs.Listing.{listed}
use Rattle.table.proofs.ListingLaws.{listed-length}
use Rattle.work.specs.Layout.{atoms_place}
use Rattle.writer.specs.Words.{word_from, count_in, product_in}

-- A range of words, listed one by one.
pub listed-part : (w : List ℕ) (from k j : ℕ) → from + j + k ≤ length w → listed (word_from w from) k j ≡ part (from + j) (from + j + k) w
unfolding listed word_from
listed-part w from zero j h = sym (part_none (from + j) (from + j + 0) w (omega arith))
listed-part w from (suc k) j h =
    let a : from + (j + 1) ≡ from + j + 1 = omega arith in
    let b : from + j + 1 + k ≡ from + j + suc k = omega arith in
    ap (λ (l : List ℕ). get_or w (from + j) 0 ∷ l) (listed-part w from k (j + 1) (omega arith) ∙ rw (a, b))
    ∙ sym (part-cons (from + j) (from + j + suc k) w (omega arith) (omega arith))

-- The words of a product, as a part of all.
pub product-is : (w : List ℕ) (i c : ℕ) → atoms_place i c + count_in w i c ≤ length w → part (atoms_place i c) (atoms_place i c + count_in w i c) w ≡ product_in w i c
unfolding product_in
product-is w i c h =
    let z : atoms_place i c + 0 ≡ atoms_place i c = omega arith in
    rw z at (sym (listed-part w (atoms_place i c) (count_in w i c) 0 (omega arith)))

pub product-many : (w : List ℕ) (i c : ℕ) → length (product_in w i c) ≡ count_in w i c
unfolding product_in
product-many w i c = listed-length (word_from w (atoms_place i c)) (count_in w i c) 0
