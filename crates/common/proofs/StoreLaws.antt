-- A range of lent memory, written place by place: stores one behind the other are one, and all other places keep their words.
use Rattle.std.proofs.Common.{◌≡◌, refl, sym, ap, ◌∙◌, List, [], ◌∷◌, ◌++◌, append_assoc, append-nil, ℕ, ◌+◌, ◌-◌, ◌<◌, ◌≤◌, arith, length, get_or, take, drop, set, length-append, length-drop, take-append-drop}
use native.Mathlib.Numerals.{add-one}
use lib.ListN.{get_or-append}
use lib.Seq.{take_at, take-append-le, take-append-add, drop-append-add, drop-drop, take-take, get_or-take, set_split, length-take-le}
use Rattle.common.specs.Front.{front}
use Rattle.common.specs.Part.{part}
use Rattle.common.specs.Store.{put_at}

pub put-none : (l : List ℕ) (a : ℕ) → l ≡ put_at l a []
unfolding put_at
put-none l a =
    let e : a + 0 ≡ a = omega arith in
    rw (append-nil, e, take-append-drop)

pub put-length : (l : List ℕ) (a : ℕ) (ys : List ℕ) → a + length ys ≤ length l → length (put_at l a ys) ≡ length l
unfolding put_at
put-length l a ys h =
    let e : a ≤ length l = omega arith in
    simp (length-append, length-take-le a l e, length-drop) (omega arith)

-- A store.
pub put_one : (l : List ℕ) (a x : ℕ) → a < length l → set l a x ≡ put_at l a (x ∷ [])
unfolding put_at
put_one l a x h = set_split l a x h ∙ rw (append_assoc, add-one)

-- The place behind what is written.
seam : (l : List ℕ) (a : ℕ) (xs : List ℕ) (b : ℕ) → a + length xs ≡ b → b ≤ length l → length (take a l ++ xs) ≡ b
seam l a xs b e h =
    let f : a ≤ length l = omega arith in
    simp (length-append, length-take-le a l f) (omega arith)

-- Two ranges, one behind the other.
pub put_then : (l : List ℕ) (a : ℕ) (xs : List ℕ) (b : ℕ) (ys : List ℕ) → a + length xs ≡ b → b ≤ length l → put_at (put_at l a xs) b ys ≡ put_at l a (xs ++ ys)
unfolding put_at
put_then l a xs b ys e h =
    ap (λ (z : List ℕ). z ++ ys ++ drop (b + length ys) (q ++ rest)) (take_at q rest b s)
    ∙ ap (λ (z : List ℕ). q ++ ys ++ z) later
    ∙ ap (λ (z : List ℕ). z ++ drop (a + length (xs ++ ys)) l) (append_assoc (take a l) xs ys)
  where
    q : List ℕ
    q = take a l ++ xs

    rest : List ℕ
    rest = drop (a + length xs) l

    s : length q ≡ b
    s = seam l a xs b e h

    later : drop (b + length ys) (q ++ rest) ≡ drop (a + length (xs ++ ys)) l
    later =
        let k : a + length xs + length ys ≡ a + length (xs ++ ys) = omega (arith, length-append xs ys) in
        ap (λ (n : ℕ). drop (n + length ys) (q ++ rest)) (sym s) ∙ drop-append-add q rest (length ys)
        ∙ drop-drop (length ys) (a + length xs) l ∙ ap (λ (n : ℕ). drop n l) k

-- One store more.
pub put_next : (l : List ℕ) (a : ℕ) (xs : List ℕ) (b x : ℕ) → a + length xs ≡ b → b < length l → set (put_at l a xs) b x ≡ put_at l a (xs ++ (x ∷ []))
put_next l a xs b x e h =
    let n : length (put_at l a xs) ≡ length l = put-length l a xs (omega arith) in
    put_one (put_at l a xs) b x (omega arith) ∙ put_then l a xs b (x ∷ []) e (omega arith)

-- A part before what is written.
pub put-before : (l : List ℕ) (a : ℕ) (ys : List ℕ) (f t : ℕ) → t ≤ a → a ≤ length l → part f t (put_at l a ys) ≡ part f t l
unfolding part put_at
put-before l a ys f t h k =
    let e : length (take a l) ≡ a = length-take-le a l k in
    ap (λ (r : List ℕ). drop f (take t r)) (append_assoc (take a l) ys (drop (a + length ys) l))
    ∙ ap (drop f) (take-append-le t (take a l) (ys ++ drop (a + length ys) l) (omega arith) ∙ take-take t a l h)

-- A word before it.
pub put-get : (l : List ℕ) (a : ℕ) (ys : List ℕ) (i : ℕ) → i < a → a ≤ length l → get_or (put_at l a ys) i 0 ≡ get_or l i 0
unfolding put_at
put-get l a ys i h k =
    let e : length (take a l) ≡ a = length-take-le a l k in
    ap (λ (r : List ℕ). get_or r i 0) (append_assoc (take a l) ys (drop (a + length ys) l))
    ∙ get_or-append (take a l) (ys ++ drop (a + length ys) l) 0 i (omega arith) ∙ get_or-take a l i 0 h

-- The part from place b + f up to place b + t, where b places come first.
past : (q r : List ℕ) (b f t : ℕ) → length q ≡ b → part (b + f) (b + t) (q ++ r) ≡ drop f (take t r)
unfolding part
past q r b f t e = rw (← e, take-append-add q r t, drop-append-add q (take t r) f)

-- A part behind it.
pub put-behind : (l : List ℕ) (a : ℕ) (ys : List ℕ) (f t : ℕ) → a + length ys ≤ f → f ≤ t → a + length ys ≤ length l → part f t (put_at l a ys) ≡ part f t l
unfolding put_at
put-behind l a ys f t h m k =
    let b : ℕ = a + length ys in
    let x : f ≡ b + (f - b) = omega arith in
    let y : t ≡ b + (t - b) = omega arith in
    rw (x, y) (past (take a l ++ ys) (drop b l) b (f - b) (t - b) (seam l a ys b refl k)
    ∙ sym (past (take b l) (drop b l) b (f - b) (t - b) (length-take-le b l k)) ∙ ap (part (b + (f - b)) (b + (t - b))) (take-append-drop b l))

-- Behind the first places that are written.
pub put_front : (xs l ys : List ℕ) (a : ℕ) → length xs ≡ a → put_at (front xs l) a ys ≡ front (xs ++ ys) l
unfolding front put_at
put_front xs l ys a e =
    let k : length xs + length ys ≡ length (xs ++ ys) = sym (length-append xs ys) in
    ap (λ (r : List ℕ). r ++ ys ++ drop (a + length ys) (xs ++ drop (length xs) l)) (take_at xs (drop (length xs) l) a e)
    ∙ ap (λ (n : ℕ). xs ++ ys ++ drop (n + length ys) (xs ++ drop (length xs) l)) (sym e)
    ∙ ap (λ (r : List ℕ). xs ++ ys ++ r) (drop-append-add xs (drop (length xs) l) (length ys) ∙ drop-drop (length ys) (length xs) l ∙ ap (λ (n : ℕ). drop n l) k)

-- In the first places.
pub put_first : (l ys : List ℕ) → put_at l 0 ys ≡ front ys l
unfolding front put_at
put_first l ys = let e : 0 + length ys ≡ length ys = omega arith in rw e
