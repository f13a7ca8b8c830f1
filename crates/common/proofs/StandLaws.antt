-- Words that stand somewhere in a list.
use Rattle.std.proofs.Common.{◌≡◌, refl, sym, ap, ◌∙◌, List, [], ◌∷◌, ◌++◌, append_assoc, append-nil, ℕ, ◌+◌, ◌≤◌, arith, length, get_or, take, drop, length-append}
use lib.Seq.{take_at, drop_at, get_or_at}
use Rattle.common.specs.Front.{front}
use Rattle.common.specs.Part.{part}

-- The words xs stand in w from place a on.
pub record Stands (w : List ℕ) (a : ℕ) (xs : List ℕ) : Type 0 where
  pub before : List ℕ
  pub behind : List ℕ
  pub whole : w ≡ before ++ (xs ++ behind)
  pub place : length before ≡ a

pub stands-first : (xs ys : List ℕ) → Stands (xs ++ ys) 0 xs
stands-first xs ys = record { before = []; behind = ys; whole = refl; place = refl }

pub stands-behind : (xs ys : List ℕ) (a : ℕ) → length xs ≡ a → Stands (xs ++ ys) a ys
stands-behind xs ys a e = record { before = xs; behind = []; whole = ap (λ (r : List ℕ). xs ++ r) (sym (append-nil ys)); place = e }

-- What stands in words that stand somewhere.
pub stands-in : {w : List ℕ} {a : ℕ} {xs : List ℕ} {b : ℕ} {ys : List ℕ} → Stands w a xs → Stands xs b ys → Stands w (a + b) ys
stands-in s t =
    record {
      before = s.before ++ t.before;
      behind = t.behind ++ s.behind;
      whole = s.whole ∙ ap (λ (r : List ℕ). s.before ++ (r ++ s.behind)) t.whole ∙ simp append_assoc;
      place = length-append s.before t.before ∙ omega (arith, s.place, t.place);
    }

pub stands-front : {xs : List ℕ} {a : ℕ} {ys : List ℕ} (l : List ℕ) → Stands xs a ys → Stands (front xs l) a ys
unfolding front
stands-front {xs} l s =
    record {
      before = s.before;
      behind = s.behind ++ drop (length xs) l;
      whole = ap (λ (r : List ℕ). r ++ drop (length xs) l) s.whole ∙ simp append_assoc;
      place = s.place;
    }

pub stands-inside : {w : List ℕ} {a : ℕ} {xs : List ℕ} → Stands w a xs → a + length xs ≤ length w
stands-inside {w} {a} {xs} s =
    omega (arith, s.place, ap length s.whole, length-append s.before (xs ++ s.behind), length-append xs s.behind)

-- The first of them.
pub stands-get : {w : List ℕ} {a x : ℕ} {xs : List ℕ} → Stands w a (x ∷ xs) → get_or w a 0 ≡ x
stands-get {w} {a} {x} {xs} s = ap (λ (r : List ℕ). get_or r a 0) s.whole ∙ get_or_at s.before x (xs ++ s.behind) 0 a s.place

-- All of them.
pub stands-part : {w : List ℕ} {a : ℕ} {xs : List ℕ} (b : ℕ) → Stands w a xs → a + length xs ≡ b → part a b w ≡ xs
unfolding part
stands-part {w} {a} {xs} b s e =
    ap (λ (r : List ℕ). drop a (take b r)) (s.whole ∙ sym (append_assoc s.before xs s.behind))
    ∙ ap (drop a) (take_at (s.before ++ xs) s.behind b (length-append s.before xs ∙ omega (arith, s.place)))
    ∙ drop_at s.before xs a s.place
