-- What the library's slices, copies and fills leave, as `part`, `front` and `put_at` say it.
use Rattle.std.proofs.Common.{◌≡◌, ℕ, ◌+◌, ◌-◌, ◌≤◌, List, ◌++◌, length, take, drop, replicate, refl, sym, ap, ◌∙◌, append_assoc, arith, drop-drop, length-drop, length-take-le}
use Rattle.std.specs.List.{copy_within}
use Rattle.std.proofs.lemmas.List.{length-replicate}
use Rattle.std.proofs.lemmas.Slice.{between_is}
use borrow.Rule.Slice.PartMut.{put_mid}
use Rattle.common.specs.Front.{front}
use Rattle.common.specs.Part.{part}
use Rattle.common.specs.Store.{put_at}
use Rattle.common.proofs.PartLaws.{part_length, part-take}
use Rattle.common.proofs.StoreLaws.{put_first}

-- ---- reads: the part that a slice of l holds

-- `&l[f..t]`.
pub part-range : (f t : ℕ) (l : List ℕ) → take (t - f) (drop f l) ≡ part f t l
unfolding part
part-range f t l = between_is l f t

-- `&l[f..]`.
pub part-rest : (f : ℕ) (l : List ℕ) → take (length l - f) (drop f l) ≡ part f (length l) l
part-rest f l = part-range f (length l) l

-- `&l[..t]`.
pub part-first : (t : ℕ) (l : List ℕ) → take t l ≡ part 0 t l
part-first t l = sym (part-take t l)

-- The end of a part.
pub part-drop : (j f t : ℕ) (l : List ℕ) → drop j (part f t l) ≡ part (f + j) t l
unfolding part
part-drop j f t l = drop-drop j f (take t l)

-- ---- writes: `new` is what the written part of l holds then

module _ (l : List ℕ) {new : List ℕ} where
  -- `l[..n].copy_from_slice(ys)`, also where ys is a part of src.
  pub front-copy : (ys : List ℕ) (n : ℕ) → new ≡ ys → length ys ≡ n → new ++ drop n l ≡ front ys l
  unfolding front
  front-copy ys n e h = rw (e, h) refl

  pub front-copy_part : (src : List ℕ) (f t n : ℕ) → new ≡ part f t src → t ≤ length src → t - f ≡ n → new ++ drop n l ≡ front (part f t src) l
  front-copy_part src f t n e h k = front-copy (part f t src) n e (part_length f t src h ∙ k)

  -- `l[a..b].copy_from_slice(ys)`, where k is b - a.
  pub put-copy : (ys : List ℕ) (a k : ℕ) → new ≡ ys → length ys ≡ k → put_mid a k l new ≡ put_at l a ys
  unfolding put_at
  put-copy ys a k e h = rw (e, h, drop-drop k a l) (sym (append_assoc (take a l) ys (drop (a + k) l)))

  pub put-copy_part : (src : List ℕ) (f t a k : ℕ) → new ≡ part f t src → t ≤ length src → t - f ≡ k → put_mid a k l new ≡ put_at l a (part f t src)
  put-copy_part src f t a k e h i = put-copy (part f t src) a k e (part_length f t src h ∙ i)

  -- `l[..n].fill(v)`, and `l[a..b].fill(v)` of n places, where k is b - a.
  pub front-fill : (n v : ℕ) → new ≡ replicate (length (take n l)) v → n ≤ length l → new ++ drop n l ≡ front (replicate n v) l
  front-fill n v e h = front-copy (replicate n v) n (e ∙ ap (λ (i : ℕ). replicate i v) (length-take-le n l h)) (length-replicate n v)

  pub put-fill : (a k n v : ℕ) → new ≡ replicate (length (take k (drop a l))) v → k ≡ n → a + n ≤ length l → put_mid a k l new ≡ put_at l a (replicate n v)
  put-fill a k n v e i h = put-copy (replicate n v) a k (e ∙ ap (λ (j : ℕ). replicate j v) same) (length-replicate n v ∙ sym i)
    where
      same : length (take k (drop a l)) ≡ n
      same = length-take-le k (drop a l) (omega (arith, length-drop a l)) ∙ i

-- `l.copy_within(f..t, a)`, and to the first places.
pub put-within : (l : List ℕ) (f t a : ℕ) → t ≤ length l → copy_within l f t a ≡ put_at l a (part f t l)
unfolding put_at
put-within l f t a h = rw (part_length f t l h, part-range f t l) refl

pub front-within : (l : List ℕ) (f t : ℕ) → t ≤ length l → copy_within l f t 0 ≡ front (part f t l) l
front-within l f t h = put-within l f t 0 h ∙ put_first l (part f t l)
