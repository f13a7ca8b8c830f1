-- The looks over the states of a list's rows.
use Rattle.std.proofs.Common.{◌≡◌, refl, ap, subst, ◌∙◌, Bool, true, false, cond, List, Option, Some, position, nat_eq, ◌∷◌, [], ◌||◌, ℕ, zero, suc, ◌+◌, arith, eqb, length, get_or}
use Rattle.std.proofs.Math.Option as math
use Rattle.std.specs.List.{list_any, position_from}
use Rattle.std.proofs.lemmas.Iterator.Adapters.{position_from-zero}
use Rattle.common.specs.Choice.{if_true, if_eq}
use Rattle.common.specs.First.{any_of, first_place, is_in}
use Rattle.table.specs.Systems.{bad_state, bads_of}
use Rattle.table.specs.declared.checks.Shape.{Shape}
use Rattle.judgement.specs.Judge.{has_start}
use Rattle.rows.specs.Look.{rows_from}
use Rattle.judge.specs.Look.{rows_at}
use Rattle.judge.specs.States.{any_state, first_bad, place_in}

-- It is the start that the judge looks for among the rows.
pub start-in : (s n : ℕ) (states starts atoms : List ℕ) (k i : ℕ) → any_state s states k i ≡ has_start s (rows_at n states starts atoms k i)
unfolding any_state rows_from any_of if_true if_eq
start-in s n states starts atoms zero i = refl
start-in s n states starts atoms (suc k) i = ap (λ (b : Bool). cond (eqb (get_or states i 0) s) true b) (start-in s n states starts atoms k (i + 1))

-- From place i on, the list l is the list m.
abbrev Rest : List ℕ → ℕ → List ℕ → Type 0
Rest l i m = (k : ℕ) → get_or l (i + k) 0 ≡ get_or m k 0

rest_all : (l : List ℕ) → Rest l 0 l
rest_all l k = let z : 0 + k ≡ k = omega arith in ap (λ (j : ℕ). get_or l j 0) z

rest-head : (l : List ℕ) (i x : ℕ) (m : List ℕ) → Rest l i (x ∷ m) → get_or l i 0 ≡ x
rest-head l i x m h = let z : i + 0 ≡ i = omega arith in subst (λ (j : ℕ). get_or l j 0 ≡ x) z (h 0)

rest-tail : (l : List ℕ) (i x : ℕ) (m : List ℕ) → Rest l i (x ∷ m) → Rest l (i + 1) m
rest-tail l i x m h = λ k. let z : i + suc k ≡ i + 1 + k = omega arith in subst (λ (j : ℕ). get_or l j 0 ≡ get_or m k 0) z (h (suc k))

-- It is what a slice's `contains` answers.
pub start_any : (s : ℕ) (l : List ℕ) → list_any (λ x. nat_eq x s) l ≡ any_state s l (length l) 0
unfolding any_state if_eq
start_any s l = go l 0 (rest_all l)
  where
    or-is : (a : Bool) {b c : Bool} → b ≡ c → (a || b) ≡ cond a true c
    or-is true e = refl
    or-is false e = e

    go : (m : List ℕ) (i : ℕ) → Rest l i m → list_any (λ x. nat_eq x s) m ≡ any_state s l (length m) i
    go [] i h = refl
    go (x ∷ m) i h = rw (rest-head l i x m h) (or-is (eqb x s) (go m (i + 1) (rest-tail l i x m h)))

-- ---- the lowest bad row

-- It is the row that the judge looks for.
pub bad-in : (t : List ℕ) (s : Shape) (n : ℕ) (states starts atoms : List ℕ) (k i : ℕ)
    → place_in (first_bad t s states k i) ≡ first_place (λ r. is_in r.state (bads_of t s)) (rows_at n states starts atoms k i) i
unfolding first_bad rows_from first_place bad_state if_true
bad-in t s n states starts atoms zero i = refl
bad-in t s n states starts atoms (suc k) i = go (is_in (get_or states i 0) (bads_of t s)) (first_bad t s states k (i + 1)) (bad-in t s n states starts atoms k (i + 1))
  where
    go : (b : Bool) (x : Option ℕ) {y : math.Option ℕ} → place_in x ≡ y → place_in (if_true b (Some i) x) ≡ if_true b (math.some i) y
    go true x e = refl
    go false x e = e

-- It is what an iterator's `position` answers.
pub bad_position : (t : List ℕ) (s : Shape) (l : List ℕ) → position (bad_state t s) l ≡ first_bad t s l (length l) 0
unfolding first_bad if_true
bad_position t s l = position_from-zero (bad_state t s) l ∙ go l 0 (rest_all l)
  where
    go : (m : List ℕ) (i : ℕ) → Rest l i m → position_from (bad_state t s) i m ≡ first_bad t s l (length m) i
    go [] i h = refl
    go (x ∷ m) i h = rw (rest-head l i x m h) (ap (cond (bad_state t s x) (Some i)) (go m (i + 1) (rest-tail l i x m h)))
