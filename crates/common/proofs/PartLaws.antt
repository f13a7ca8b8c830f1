-- Parts of a list: none, one element more in front or behind, all of them.
use Rattle.std.proofs.Common.{◌≡◌, refl, sym, ap, ◌∙◌, List, [], ◌∷◌, ◌++◌, ℕ, ◌+◌, ◌-◌, ◌<◌, ◌≤◌, arith, length, get_or, take, drop, set, length-take, drop_of_length-le}
use native.Mathlib.Numerals.{add-one}
use lib.Seq.{slice, slice-cons, length-slice, take-suc, take-suc-set, take-length, length-take-le, drop-append-le}
use Rattle.common.specs.Part.{part}

pub part_none : (f t : ℕ) (l : List ℕ) → t ≤ f → part f t l ≡ []
unfolding part
part_none f t l h = drop_of_length-le (take t l) {i = f} (omega (arith, length-take t l))

pub part-cons : (f t : ℕ) (l : List ℕ) → f < t → t ≤ length l → part f t l ≡ get_or l f 0 ∷ part (f + 1) t l
unfolding part
part-cons f t l h k = slice-cons f t l 0 h k ∙ ap (λ (n : ℕ). get_or l f 0 ∷ slice n t l) (sym (add-one f))

pub part-snoc : (f t : ℕ) (l : List ℕ) → f ≤ t → t < length l → part f (t + 1) l ≡ part f t l ++ (get_or l t 0 ∷ [])
unfolding part
part-snoc f t l h k =
    ap (λ (n : ℕ). drop f (take n l)) (add-one t) ∙ ap (drop f) (take-suc l t 0 k)
    ∙ drop-append-le f (take t l) (get_or l t 0 ∷ []) (let e = length-take-le t l (omega arith) in omega arith)

pub part_length : (f t : ℕ) (l : List ℕ) → t ≤ length l → length (part f t l) ≡ t - f
unfolding part
part_length f t l h = length-slice f t l h

pub part-take : (t : ℕ) (l : List ℕ) → part 0 t l ≡ take t l
unfolding part
part-take t l = refl

pub part-all : (l : List ℕ) → part 0 (length l) l ≡ l
unfolding part
part-all l = take-length l

-- A store behind the first k.
pub part-set : (k : ℕ) (l : List ℕ) (x : ℕ) → k < length l → part 0 (k + 1) (set l k x) ≡ part 0 k l ++ (x ∷ [])
unfolding part
part-set k l x h = ap (λ (n : ℕ). take n (set l k x)) (add-one k) ∙ take-suc-set l k x h
