-- The loop over a row's moves, and the loop over the rows: the model from here on is the model from the start.
use Rattle.std.proofs.Common.{◌≡◌, refl, sym, ap, subst, ◌∙◌, List, Result, Ok, Err, ℕ, zero, suc, ◌+◌, ◌-◌, ◌*◌, ◌<◌, ◌≤◌, arith, length, get_or}
use Rattle.std.proofs.Math.Option.{Option, none, some}
use Rattle.std.proofs.Math.ListN.{get_elem?}
use Rattle.common.proofs.AtLaws.{past-at}
use Rattle.meaning.specs.Systems.{System}
use Rattle.rows.specs.Rows.{Row}
use Rattle.table.specs.Systems.{GoodTable, system_of}
use Rattle.table.specs.Transitions.{transition_at}
use Rattle.table.specs.declared.checks.Shape.{Shape}
use Rattle.table.proofs.SystemLaws.{moves-length}
use Rattle.work.specs.Room.{room_of}
use Rattle.explore.specs.Search.{Entry, safe, Visit, on, stop, tests, Pass, through, ended, pass, Found, walk}
use Rattle.findings.specs.Search.{frame_of, outcome_at}
use Rattle.outcome.specs.Look.{row_at}
use Rattle.search.specs.Standing.{entries, Grown}
use Rattle.search.specs.Visits.{Tests, goes, stops, Passes, all, cut, Walks, whole, short}
use Rattle.search.specs.declared.visits.Stop.{Stop}
use Rattle.search.specs.declared.passes.Ended.{Ended}
use Rattle.search.proofs.VisitLaws.{visit-elsewhere}
use Rattle.search.proofs.StandingLaws.{entries-count, entry-there, grown-there, grown-row, grown-then}

-- The pass and the walk end there.
abbrev ended_at : Stop → ℕ → ℕ → ℕ → Ended
ended_at y n i j = record { why = y; rows = n; row = i; transition = j }

module _ (S : System) (room : ℕ) (w : List ℕ) (rows : ℕ) where
  -- ---- the moves of row i: before move j the words are v, with n rows

  pub record Passing (i : ℕ) (v : List ℕ) (n j : ℕ) : Type 0 where
    pub below : j ≤ length S.moves
    pub grown : Grown S room w rows v n
    pub same : pass (frame_of S) room (length S.moves) (entries S w rows) (row_at w i) i 0 ≡ pass (frame_of S) room (length S.moves - j) (entries S v n) (row_at w i) i j

  module _ (i : ℕ) (v : List ℕ) (n j : ℕ) (k : Passing i v n j) (h : i < rows) where
    -- One move.
    turn : j < length S.moves → pass (frame_of S) room (length S.moves) (entries S w rows) (row_at w i) i 0
        ≡ elim (tests (frame_of S) room (entries S v n) i j (outcome_at S (row_at v i) j)) as (λ x. Pass (frame_of S)) [ on m ↦ pass (frame_of S) room (length S.moves - (j + 1)) m (row_at w i) i (j + 1) | stop y ↦ ended y (entries S v n) ]
    unfolding pass
    turn m =
        let z : length S.moves - j ≡ suc (length S.moves - (j + 1)) = omega arith in
        k.same ∙ ap (λ (x : ℕ). pass (frame_of S) room x (entries S v n) (row_at w i) i j) z
        ∙ ap (λ (x : Row). elim (tests (frame_of S) room (entries S v n) i j (outcome_at S x j)) as (λ y. Pass (frame_of S)) [ on m ↦ pass (frame_of S) room (length S.moves - (j + 1)) m (row_at w i) i (j + 1) | stop y ↦ ended y (entries S v n) ])
        (sym (grown-row S room w v rows n k.grown i h))

    -- What a visit leads to.
    abbrev Led : Result ℕ Stop → List ℕ → Type 0
    Led (Ok r) u = Passing i u r (j + 1)
    Led (Err y) u = Passes S room w rows i (Err (ended_at y n i j)) u

    led : (x : Result ℕ Stop) (u : List ℕ) → j < length S.moves → Tests S room v n i j (outcome_at S (row_at v i) j) x u → Led x u
    led x u m (goes {n = r} e g) =
        record {
          below = omega arith;
          grown = grown-then S room w v u rows n r k.grown g;
          same = turn m ∙ ap (λ (x : Visit (frame_of S)). elim x as (λ y. Pass (frame_of S)) [ on m ↦ pass (frame_of S) room (length S.moves - (j + 1)) m (row_at w i) i (j + 1) | stop y ↦ ended y (entries S v n) ]) e;
        }
    led x u m (stops e) = cut (turn m ∙ ap (λ (x : Visit (frame_of S)). elim x as (λ y. Pass (frame_of S)) [ on m ↦ pass (frame_of S) room (length S.moves - (j + 1)) m (row_at w i) i (j + 1) | stop y ↦ ended y (entries S v n) ]) e) k.grown

    ended_pass : length S.moves ≤ j → Passes S room w rows i (Ok n) v
    unfolding pass
    ended_pass m = let z : length S.moves - j ≡ 0 = omega arith in all (k.same ∙ ap (λ (x : ℕ). pass (frame_of S) room x (entries S v n) (row_at w i) i j) z) k.grown

  -- ---- the rows: before row i the words are v, with n rows

  pub record Walking (v : List ℕ) (n i : ℕ) : Type 0 where
    pub below : i ≤ n
    pub grown : Grown S room w rows v n
    pub same : walk (frame_of S) room room (entries S w rows) 0 ≡ walk (frame_of S) room (room - i) (entries S v n) i

  module _ (v : List ℕ) (n i : ℕ) (k : Walking v n i) where
    few : n ≤ room
    few = omega (arith, k.grown.standing.made.few, entries-count S v n)

    -- One row.
    row : i < n → walk (frame_of S) room room (entries S w rows) 0
        ≡ elim (pass (frame_of S) room (length S.moves) (entries S v n) (row_at v i) i 0) as (λ y. Found (frame_of S)) [ through m ↦ walk (frame_of S) room (room - (i + 1)) m (i + 1) | ended y m ↦ record { verdict = y; rows = m } ]
    unfolding walk
    row h =
        let z : room - i ≡ suc (room - (i + 1)) = omega (arith, few) in
        k.same ∙ ap (λ (x : ℕ). walk (frame_of S) room x (entries S v n) i) z
        ∙ ap (λ (x : Option (Entry (frame_of S))). elim x as (λ y. Found (frame_of S)) [ none ↦ record { verdict = safe; rows = entries S v n } | some e ↦ elim (pass (frame_of S) room (length S.moves) (entries S v n) e.row i 0) as (λ y. Found (frame_of S)) [ through m ↦ walk (frame_of S) room (room - (i + 1)) m (i + 1) | ended y m ↦ record { verdict = y; rows = m } ] ])
        (entry-there S v n i h)

    -- What a pass leads to.
    abbrev Gone : Result ℕ Ended → List ℕ → Type 0
    Gone (Ok r) u = Walking u r (i + 1)
    Gone (Err e) u = Walks S room w rows (Err e) u

    gone : (x : Result ℕ Ended) (u : List ℕ) → i < n → Passes S room v n i x u → Gone x u
    gone x u h (all {n = r} e g) =
        record {
          below = omega (arith, grown-there S room v u n r g i h);
          grown = grown-then S room w v u rows n r k.grown g;
          same = row h ∙ ap (λ (x : Pass (frame_of S)). elim x as (λ y. Found (frame_of S)) [ through m ↦ walk (frame_of S) room (room - (i + 1)) m (i + 1) | ended y m ↦ record { verdict = y; rows = m } ]) e;
        }
    gone x u h (cut {n = r} e g) = short (row h ∙ ap (λ (x : Pass (frame_of S)). elim x as (λ y. Found (frame_of S)) [ through m ↦ walk (frame_of S) room (room - (i + 1)) m (i + 1) | ended y m ↦ record { verdict = y; rows = m } ]) e) (grown-then S room w v u rows n r k.grown g)

    -- The pass had the room of the words v, which are as many.
    module _ (h : i < n) (x : Result ℕ Ended) (u : List ℕ) (d : Passes S (room_of (length v)) v n i x u) (z : room_of (length v) ≡ room) where
      gone_by : Gone x u
      gone_by = gone x u h (subst (λ (m : ℕ). Passes S m v n i x u) z d)

      pub walking_on : (r : ℕ) → x ≡ Ok r → Walking u r (i + 1)
      walking_on r e = subst (λ (y : Result ℕ Ended). Gone y u) e gone_by

      pub walking-cut : (end : Ended) → x ≡ Err end → Walks S room w rows (Err end) u
      walking-cut end e = subst (λ (y : Result ℕ Ended). Gone y u) e gone_by

    none-there : n ≤ i → get_elem? (entries S v n) i ≡ none
    none-there h = past-at (entries S v n) i (omega (arith, entries-count S v n))

    last : n ≤ i → (m : ℕ) → walk (frame_of S) room m (entries S v n) i ≡ record { verdict = safe; rows = entries S v n }
    unfolding walk
    last h zero = refl
    last h (suc m) =
        ap (λ (x : Option (Entry (frame_of S))). elim x as (λ y. Found (frame_of S)) [ none ↦ record { verdict = safe; rows = entries S v n } | some e ↦ elim (pass (frame_of S) room (length S.moves) (entries S v n) e.row i 0) as (λ y. Found (frame_of S)) [ through q ↦ walk (frame_of S) room m q (i + 1) | ended y q ↦ record { verdict = y; rows = q } ] ]) (none-there h)

    pub walking-ends : n ≤ i → Walks S room w rows (Ok n) v
    walking-ends h = whole (k.same ∙ last h (room - i)) k.grown

-- ---- the moves of row i, which are the table's transitions

module _ (t : List ℕ) (s : Shape) (g : GoodTable t s) (room : ℕ) (w : List ℕ) (rows i : ℕ) (v : List ℕ) (n j : ℕ) (k : Passing (system_of t) room w rows i v n j) (h : i < rows) where
  pub passing-ends : s.transitions ≤ j → Passes (system_of t) room w rows i (Ok n) v
  passing-ends m = ended_pass (system_of t) room w rows i v n j k h (omega (arith, moves-length t s g))

  module _ (m : j < s.transitions) where
    abbrev Visited : Result ℕ Stop → List ℕ → ℕ → Type 0
    Visited x u places = Tests (system_of t) places v n i j (outcome_at (system_of t) (row_at v i) j) x u

    -- The visit had the room of the words v, which are as many.
    module _ (x : Result ℕ Stop) (u : List ℕ) (d : Visited x u (room_of (length v))) (z : room_of (length v) ≡ room) where
      leads : Led (system_of t) room w rows i v n j k h x u
      leads = led (system_of t) room w rows i v n j k h x u (omega (arith, moves-length t s g)) (subst (Visited x u) z d)

      pub passing-on : (r : ℕ) → x ≡ Ok r → Passing (system_of t) room w rows i u r (j + 1)
      passing-on r e = subst (λ (y : Result ℕ Stop). Led (system_of t) room w rows i v n j k h y u) e leads

      pub passing-cut : (y : Stop) → x ≡ Err y → Passes (system_of t) room w rows i (Err (ended_at y n i j)) u
      passing-cut y e = subst (λ (y : Result ℕ Stop). Led (system_of t) room w rows i v n j k h y u) e leads

    -- A transition that comes from another state than that of row i is passed by: nothing would come of its visit.
    pub passing-by : (state source : ℕ) → state ≡ get_or w (103 * i) 0 → source ≡ (transition_at t j).source → (source ≡ state → ⊥) → Passing (system_of t) room w rows i v n (j + 1)
    passing-by state source a b c =
        led (system_of t) room w rows i v n j k h (Ok n) v (omega (arith, moves-length t s g))
        (visit-elsewhere t s g room v n k.grown.standing i j (grown-there (system_of t) room w v rows n k.grown i h) m (transition_at t j) refl
        (λ e. c (b ∙ sym e ∙ ap (λ (r : Row). r.state) (grown-row (system_of t) room w v rows n k.grown i h) ∙ sym a)))
