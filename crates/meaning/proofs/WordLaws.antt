-- Losing messages of a word.
use mathlib.Core.Path.{◌≡◌, refl, sym, ap, subst}
use mathlib.Core.Logic.{◌⊎◌, inl, inr}
use mathlib.Core.List.{[], ◌∷◌, ◌++◌, append-nil}
use Prim.Native.Nat.{ℕ, zero, suc}
use lib.ListN.{replicate}
use Rattle.meaning.specs.Words.{Word, ◌⪯◌, done, keep, lose}
use Rattle.meaning.specs.Products.{Joined}

-- Nothing may be lost.
pub ⪯-refl : (w : Word) → w ⪯ w
⪯-refl [] = done
⪯-refl (m ∷ w) = keep (⪯-refl w)

pub ⪯-same : {v w : Word} → v ≡ w → v ⪯ w
⪯-same {v} e = subst (v ⪯◌) e (⪯-refl v)

-- What remains of what remains.
pub ⪯-trans : {u v w : Word} → u ⪯ v → v ⪯ w → u ⪯ w
⪯-trans l done = l
⪯-trans (keep l) (keep k) = keep (⪯-trans l k)
⪯-trans (lose l) (keep k) = lose (⪯-trans l k)
⪯-trans l (lose k) = lose (⪯-trans l k)

-- All may be lost.
pub ⪯-nil : (w : Word) → [] ⪯ w
⪯-nil [] = done
⪯-nil (m ∷ w) = lose (⪯-nil w)

-- Of nothing, nothing remains.
pub ⪯-of-nil : {v : Word} → v ⪯ [] → v ≡ []
⪯-of-nil done = refl

-- One message lost, wherever it stands.
pub ⪯-one : (u v : Word) (m : ℕ) → u ++ v ⪯ u ++ (m ∷ v)
⪯-one [] v m = lose (⪯-refl v)
⪯-one (a ∷ u) v m = keep (⪯-one u v m)

-- What remains of two words, joined, remains of the two joined.
pub ⪯-join : {u v x y : Word} → u ⪯ x → v ⪯ y → u ++ v ⪯ x ++ y
⪯-join done k = k
⪯-join (keep l) k = keep (⪯-join l k)
⪯-join (lose l) k = lose (⪯-join l k)

-- The front of a word, and its end.
pub ⪯-front : (u v : Word) → u ⪯ u ++ v
⪯-front u v = ⪯-trans (⪯-same (sym (append-nil u))) (⪯-join (⪯-refl u) (⪯-nil v))

pub ⪯-back : (u v : Word) → v ⪯ u ++ v
⪯-back u v = ⪯-join (⪯-nil u) (⪯-refl v)

-- Of one message, it or nothing remains.
pub ⪯-of-one : {m : ℕ} {v : Word} → v ⪯ m ∷ [] → (v ≡ m ∷ []) ⊎ (v ≡ [])
⪯-of-one {m} (keep l) = inl (ap (m ∷◌) (⪯-of-nil l))
⪯-of-one (lose l) = inr (⪯-of-nil l)

-- What remains of two words joined is joined of what remains of each.
pub ⪯-split : {w : Word} (x y : Word) → w ⪯ x ++ y → Joined (◌⪯ x) (◌⪯ y) w
⪯-split {w} [] y l = record { front = []; back = w; whole = refl; in_front = done; in_back = l }
⪯-split (m ∷ x) y (keep l) =
    let s = ⪯-split x y l in
    record { front = m ∷ s.front; back = s.back; whole = ap (m ∷◌) s.whole; in_front = keep s.in_front; in_back = s.in_back }
⪯-split (m ∷ x) y (lose l) =
    let s = ⪯-split x y l in
    record { front = s.front; back = s.back; whole = s.whole; in_front = lose s.in_front; in_back = s.in_back }

-- One more of the same message.
pub replicate-snoc : (m k : ℕ) → replicate k m ++ (m ∷ []) ≡ replicate (suc k) m
replicate-snoc m zero = refl
replicate-snoc m (suc k) = ap (m ∷◌) (replicate-snoc m k)
