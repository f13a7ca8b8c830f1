-- What remains of a configuration when messages are lost: exactly what loss steps leave.
use mathlib.Core.Path.{◌≡◌, refl, sym, ap, subst, ◌∙◌, fun_ext}
use mathlib.Core.Bool.{cond, true, false}
use mathlib.Core.Logic.{◌⊎◌, inl, inr}
use mathlib.Core.List.{[], ◌∷◌, ◌++◌, append_assoc}
use Prim.Native.Nat.{ℕ, zero, suc, ◌<◌, ◌≤◌}
use native.Mathlib.Omega.{arith}
use lib.Dec.{ltb}
use borrow.Author.Tests.{ltb-true, ltb-false, lt-ltb, le-ltb}
use Rattle.meaning.specs.Words.{Word, ◌⪯◌, done, keep, lose}
use Rattle.meaning.specs.Systems.{System, Contents, Config, put, Loses, Step, Run, stay}
use Rattle.meaning.specs.Outcomes.{Remains}
use Rattle.common.proofs.BoolLaws.{either}
use Rattle.meaning.proofs.WordLaws.{⪯-refl, ⪯-trans, ⪯-one}
use Rattle.meaning.proofs.PutLaws.{put_same, put-each, put-put, put_id}
use Rattle.meaning.proofs.RunLaws.{run-then, step_then}

pub remains-refl : (x : Config) → Remains x x
remains-refl x = record { state = refl; words = λ c. ⪯-refl (x.contents c) }

pub remains-trans : {x y z : Config} → Remains x y → Remains y z → Remains x z
remains-trans r s = record { state = s.state ∙ r.state; words = λ c. ⪯-trans (s.words c) (r.words c) }

-- A loss step leaves what remains.
pub loses-remains : {x y : Config} → Loses x y → Remains x y
loses-remains {x} l =
    record {
      state = l.stays;
      words = λ d. rw (ap (λ (f : Contents). f d) l.left) (put-each x.contents l.channel (l.before ++ l.behind) (λ e w. w ⪯ x.contents e)
          (rw l.held (⪯-one l.before l.behind l.message)) (λ e n. ⪯-refl (x.contents e)) d);
    }

-- A configuration with other contents.
abbrev with : Config → Contents → Config
with x f = record { state = x.state; contents = f }

-- In one channel, behind the word u, a part of the word remains: a run of losses takes the rest.
lose-behind : (S : System) (x : Config) (c : ℕ) (u : Word) {v w : Word} → v ⪯ w → Run S (with x (put x.contents c (u ++ w))) (with x (put x.contents c (u ++ v)))
lose-behind S x c u done = stay
lose-behind S x c u (keep {m = m} {v = v} {w = w} l) =
    rw (← append_assoc u (m ∷ []) v, ← append_assoc u (m ∷ []) w) (lose-behind S x c (u ++ (m ∷ [])) l)
lose-behind S x c u (lose {m = m} {w = w} l) =
    step_then
    (Step.loses record {
      channel = c;
      before = u;
      message = m;
      behind = w;
      held = put_same x.contents c (u ++ (m ∷ w));
      stays = refl;
      left = sym (put-put x.contents c (u ++ (m ∷ w)) (u ++ w));
    })
    (lose-behind S x c u l)

-- g in the channels below k, f in the others.
upto : ℕ → Contents → Contents → Contents
upto k f g d = cond (ltb d k) (g d) (f d)

module _ (f g : Contents) where
  upto-below : (k d : ℕ) → d < k → upto k f g d ≡ g d
  unfolding upto
  upto-below k d l = rw (lt-ltb d k l)

  upto-above : (k d : ℕ) → k ≤ d → upto k f g d ≡ f d
  unfolding upto
  upto-above k d l = rw (le-ltb d k l)

  upto_zero : upto 0 f g ≡ f
  upto_zero = fun_ext (λ d. upto-above 0 d (omega arith))

  upto_next : (k : ℕ) → put (upto k f g) k (g k) ≡ upto (suc k) f g
  upto_next k =
      fun_ext (put-each (upto k f g) k (g k) (λ d w. w ≡ upto (suc k) f g d) (sym (upto-below (suc k) k (omega arith))) (λ d n. other d n (either (ltb d k))))
    where
      other : (d : ℕ) → (d ≡ k → ⊥) → (ltb d k ≡ true) ⊎ (ltb d k ≡ false) → upto k f g d ≡ upto (suc k) f g d
      other d n (inl e) = let l = ltb-true d k e in upto-below k d l ∙ sym (upto-below (suc k) d (omega arith))
      other d n (inr e) = let l = ltb-false d k e in upto-above k d l ∙ sym (upto-above (suc k) d (omega arith))

  upto-same : (k : ℕ) → put (upto k f g) k (f k) ≡ upto k f g
  upto-same k = ap (put (upto k f g) k) (sym (upto-above k k (omega arith))) ∙ put_id (upto k f g) k

  upto_all : (n : ℕ) → ((d : ℕ) → n ≤ d → g d ≡ f d) → upto n f g ≡ g
  upto_all n same = fun_ext (λ d. each d (either (ltb d n)))
    where
      each : (d : ℕ) → (ltb d n ≡ true) ⊎ (ltb d n ≡ false) → upto n f g d ≡ g d
      each d (inl e) = upto-below n d (ltb-true d n e)
      each d (inr e) = let l = ltb-false d n e in upto-above n d l ∙ sym (same d l)

-- The losses of the channels below k, one channel after the other.
run-upto : (S : System) {x y : Config} (k : ℕ) → Remains x y → Run S x (with x (upto k x.contents y.contents))
run-upto S {x} {y} zero r = rw (upto_zero x.contents y.contents) stay
run-upto S {x} {y} (suc k) r =
    let u = upto k x.contents y.contents in
    let l = lose-behind S (with x u) k [] (r.words k) in
    run-then (run-upto S k r)
    (subst (λ (f : Contents). Run S (with x f) (with x (upto (suc k) x.contents y.contents))) (upto-same x.contents y.contents k)
    (subst (λ (f : Contents). Run S (with x (put u k (x.contents k))) (with x f)) (upto_next x.contents y.contents k) l))

-- What remains, where only the first n channels may differ, loss steps leave.
pub remains-run : (S : System) (n : ℕ) {x y : Config} → Remains x y → ((c : ℕ) → n ≤ c → y.contents c ≡ x.contents c) → Run S x y
remains-run S n {x} {y} r same =
    subst (λ (z : Config). Run S x z) (λ i. record { state = sym r.state i; contents = upto_all x.contents y.contents n same i }) (run-upto S n r)
