-- The search of a table: its first row, how it ends, and what it leaves.
use Rattle.std.proofs.Common.{◌≡◌, refl, sym, ap, subst, ◌∙◌, Bool, true, false, cond, List, [], ◌∷◌, ◌++◌, Ok, Err, ℕ, ◌+◌, ◌-◌, ◌*◌, ◌<◌, ◌≤◌, arith, ltb, length, drop, drop-drop}
use Rattle.std.proofs.Common as std
use Rattle.common.specs.Choice.{if_true, if_lt}
use Rattle.common.specs.First.{is_in}
use Rattle.common.specs.Front.{front}
use Rattle.common.proofs.ChoiceLaws.{true-then, true-else, lt-then, lt-else}
use Rattle.common.proofs.FrontLaws.{front-none}
use Rattle.meaning.specs.Systems.{System}
use Rattle.table.specs.Checking.{check_table}
use Rattle.table.specs.Systems.{GoodTable, system_of, bad_state}
use Rattle.table.specs.declared.checks.Shape.{Shape}
use Rattle.table.specs.declared.faults.Refusal.{Refusal}
use Rattle.table.proofs.SystemLaws.{start_is, bads-are, moves-length, well-made, few-channels, few-messages}
use Rattle.rows.proofs.CoverLaws.{covers_self}
use Rattle.work.specs.Layout.{Stored, all_words, start_stored}
use Rattle.work.specs.Room.{room_of}
use Rattle.work.proofs.RoomLaws.{room-one}
use Rattle.explore.specs.Search.{Entry, Verdict, Found, walk}
use Rattle.explore.specs.Search as explore
use Rattle.explore.specs.Found.{Says}
use Rattle.explore.proofs.WalkLaws.{search-right, rows-first, met-there}
use Rattle.findings.specs.Search.{frame_of, first_entry}
use Rattle.findings.specs.Rebuild.{run_of}
use Rattle.search.specs.Standing.{entries, stored, Standing, LeadBack, Grown}
use Rattle.search.specs.Visits.{verdict_of, Walks, whole, short}
use Rattle.search.specs.Searching.{Result, Answer, unwritten, concluded, found_by, search_system, search_with, search_of, Leaves, Concluded, Searches}
use Rattle.search.specs.declared.visits.Stop.{Stop}
use Rattle.search.specs.declared.visits.Stop.TheVariants as stop
use Rattle.search.specs.declared.passes.Ended.{Ended}
use Rattle.search.specs.declared.searches.Verdict.TheVariants as verdict
use Rattle.search.specs.declared.searches.Refused.TheVariants as refused
use Rattle.search.proofs.StandingLaws.{entries-count, leads_back, grown-there, Told, tells, words-length}

-- ---- row 0

module _ (t : List ℕ) (s : Shape) (g : GoodTable t s) (w v : List ℕ) (h : 103 ≤ length w) (a : ℕ) (e : a ≡ s.start) (k : v ≡ front (all_words (start_stored a ∷ [])) w) (z : length v ≡ length w) where
  abbrev S : System
  S = system_of t

  abbrev rows_fit : ℕ
  rows_fit = room_of (length v)

  one : 1 ≤ rows_fit
  one = room-one (length v) (omega (arith, z))

  first : Told S (well-made t s g) (few-messages t s g) (few-channels t s g) rows_fit (first_entry S ∷ []) (rows-first (frame_of S) rows_fit (first_entry S) one) w v 1
  first =
      tells S (well-made t s g) (few-messages t s g) (few-channels t s g) rows_fit (first_entry S ∷ []) (rows-first (frame_of S) rows_fit (first_entry S) one) w v 1
      (k ∙ ap (λ (x : ℕ). front (all_words (start_stored x ∷ [])) w) (e ∙ sym (start_is t s g))) refl

  pub start-stands : Standing S rows_fit v 1
  start-stands = first.standing

  -- ---- how the walk ends

  abbrev found : ℕ → Found (frame_of S)
  found n = explore.search (frame_of S) (room_of n) (first_entry S)

  walk_is : walk (frame_of S) rows_fit rows_fit (entries S v 1) 0 ≡ found (length v)
  unfolding explore.search
  walk_is = ap (λ (l : List (Entry (frame_of S))). walk (frame_of S) rows_fit rows_fit l 0) first.rows

  module _ (u : List ℕ) (n : ℕ) (b : Grown S rows_fit v 1 u n) where
    -- The rows stand in the first words, and behind them is what was there.
    laid : u ≡ front (all_words (stored S (entries S u n))) w
    unfolding front
    laid =
        let x : 103 * 1 + (103 * n - 103 * 1) ≡ 103 * n = omega (arith, grown-there S rows_fit v u 1 n b 0 (omega arith)) in
        let y : length (all_words (stored S (entries S u n))) ≡ 103 * n = words-length S (well-made t s g) (few-messages t s g) (few-channels t s g) rows_fit (entries S u n) b.standing.made ∙ ap (λ (x : ℕ). 103 * x) (entries-count S u n) in
        b.standing.laid
        ∙ ap (λ (x : List ℕ). all_words (stored S (entries S u n)) ++ x)
        (ap (λ (x : ℕ). drop x u) y ∙ b.behind
        ∙ subst (λ (m : ℕ). drop m v ≡ drop m w) x (sym (drop-drop (103 * n - 103 * 1) (103 * 1) v) ∙ ap (drop (103 * n - 103 * 1)) first.behind ∙ drop-drop (103 * n - 103 * 1) (103 * 1) w)
        ∙ ap (λ (x : ℕ). drop x w) (sym y))

  -- The rows found, and the verdict, are these.
  module _ (u : List ℕ) (n : ℕ) (y : Verdict) (q : walk (frame_of S) rows_fit rows_fit (entries S v 1) 0 ≡ record { verdict = y; rows = entries S u n }) where
    found-is : found (length v) ≡ record { verdict = y; rows = entries S u n }
    found-is = sym walk_is ∙ q

    says : Says (frame_of S) rows_fit (entries S u n) y
    says = subst (λ (x : Found (frame_of S)). Says (frame_of S) rows_fit x.rows x.verdict) found-is (search-right (frame_of S) (λ r. covers_self S.channels r) rows_fit (first_entry S) one).says

    leaves : Grown S rows_fit v 1 u n → (run : List ℕ) (r : Answer) (run' : List ℕ) → r ≡ (concluded S (entries S u n) y).answer → (concluded S (entries S u n) y).rows ≡ stored S (entries S u n)
        → run' ≡ front (concluded S (entries S u n) y).run run → Leaves (found_by S (found (length w))) w run r u run'
    leaves b run r run' c d f =
        subst (λ (x : Found (frame_of S)). Leaves (found_by S x) w run r u run') (sym found-is ∙ ap found z)
        (record { answer = c; rows = laid u n b ∙ ap (λ (x : List Stored). front (all_words x) w) (sym d); words = f })

  -- Where the walk ended: safe; or at a row's transition that are there, and the rest is to conclude.
  abbrev Finish : std.Result ℕ Ended → List ℕ → Type 0
  Finish (Ok n) u = (run : List ℕ) → Leaves (found_by S (found (length w))) w run (Ok (verdict.Safe n)) u run
  Finish (Err e) u = Standing S rows_fit u e.rows × (e.row < e.rows) × (e.transition < s.transitions)
      × ((run : List ℕ) (r : Answer) (run' : List ℕ) → Concluded S (entries S u e.rows) e.row e.transition e.why run r run' → Leaves (found_by S (found (length w))) w run r u run')

  -- The row and the transition that a verdict names are there.
  named : (l : List (Entry (frame_of S))) (y : Stop) (i j : ℕ) → Says (frame_of S) rows_fit l (verdict_of y i j) → (i < length l) × (j < length S.moves)
  named l stop.Unsafe i j m = met-there (frame_of S) m
  named l stop.AtomsFull i j m = met-there (frame_of S) m
  named l stop.RowsFull i j m = met-there (frame_of S) m

  same_rows : (l : List (Entry (frame_of S))) (y : Stop) (i j : ℕ) → (concluded S l (verdict_of y i j)).rows ≡ stored S l
  same_rows l stop.Unsafe i j = refl
  same_rows l stop.AtomsFull i j = refl
  same_rows l stop.RowsFull i j = refl

  finish : (x : std.Result ℕ Ended) (u : List ℕ) → Walks S rows_fit v 1 x u → Finish x u
  finish x u (whole {n = n} q b) = λ run. leaves u n explore.safe q b run (Ok (verdict.Safe n)) run (ap (λ (m : ℕ). Ok (verdict.Safe m)) (sym (entries-count S u n))) refl (front-none run)
  finish x u (short {y = y} {n = n} {i = i} {j = j} q b) =
      let m = named (entries S u n) y i j (says u n (verdict_of y i j) q) in
      (b.standing, omega (arith, entries-count S u n), omega (arith, moves-length t s g), λ run r run' c. leaves u n (verdict_of y i j) q b run r run' c.answer (same_rows (entries S u n) y i j) c.words)

  module _ (x : std.Result ℕ Ended) (u : List ℕ) (d : Walks S rows_fit v 1 x u) where
    pub leaves-safe : (n : ℕ) (run : List ℕ) → x ≡ Ok n → Leaves (found_by S (found (length w))) w run (Ok (verdict.Safe n)) u run
    leaves-safe n run c = subst (λ (y : std.Result ℕ Ended). Finish y u) c (finish x u d) run

    module _ (end : Ended) (c : x ≡ Err end) where
      at-end : Finish (Err end) u
      at-end = subst (λ (q : std.Result ℕ Ended). Finish q u) c (finish x u d)

      pub last-visit : length u ≡ length v → LeadBack S u end.rows × ((end.row < end.rows) × (end.transition < s.transitions))
      last-visit y = (leads_back S rows_fit u end.rows at-end.0 (ap room_of (sym y)), (at-end.1, at-end.2))

      pub leaves-ended : (run : List ℕ) (r : Answer) (run' : List ℕ) → Concluded S (entries S u end.rows) end.row end.transition end.why run r run' → Leaves (found_by S (found (length w))) w run r u run'
      leaves-ended = at-end.3

-- ---- the conclusion

module _ (S : System) (l : List (Entry (frame_of S))) (n : ℕ) (k : length l ≡ n) (i j : ℕ) (y : Stop) (run : List ℕ) where
  pub conclude-unsafe : (steps : ℕ) (run' : List ℕ) → y ≡ stop.Unsafe → steps ≡ length (run_of S l i j) → run' ≡ front (run_of S l i j) run → Concluded S l i j y run (Ok (verdict.Unsafe n steps)) run'
  conclude-unsafe steps run' z a b =
      record {
        answer = ap (λ (x : ℕ). Ok (verdict.Unsafe x steps)) (sym k) ∙ ap (λ (x : ℕ). Ok (verdict.Unsafe (length l) x)) a ∙ ap (λ (x : Stop). (concluded S l (verdict_of x i j)).answer) (sym z);
        words = b ∙ ap (λ (x : Stop). front (concluded S l (verdict_of x i j)).run run) (sym z);
      }

  pub conclude-atoms : y ≡ stop.AtomsFull → Concluded S l i j y run (Ok (verdict.AtomsFull n i j)) run
  conclude-atoms z =
      record {
        answer = ap (λ (x : ℕ). Ok (verdict.AtomsFull x i j)) (sym k) ∙ ap (λ (x : Stop). (concluded S l (verdict_of x i j)).answer) (sym z);
        words = front-none run ∙ ap (λ (x : Stop). front (concluded S l (verdict_of x i j)).run run) (sym z);
      }

  pub conclude-rows : y ≡ stop.RowsFull → Concluded S l i j y run (Ok (verdict.RowsFull n i j)) run
  conclude-rows z =
      record {
        answer = ap (λ (x : ℕ). Ok (verdict.RowsFull x i j)) (sym k) ∙ ap (λ (x : Stop). (concluded S l (verdict_of x i j)).answer) (sym z);
        words = front-none run ∙ ap (λ (x : Stop). front (concluded S l (verdict_of x i j)).run run) (sym z);
      }

-- ---- refusals, a bad start, and the search

leaves_none : (x : Answer) (work run : List ℕ) → Leaves (unwritten x) work run x work run
unfolding all_words
leaves_none x work run = record { answer = refl; rows = front-none work; words = front-none run }

leaves-as : (x y : Result) (work run : List ℕ) (r : Answer) (work' run' : List ℕ) → x ≡ y → Leaves x work run r work' run' → Leaves y work run r work' run'
leaves-as x y work run r work' run' e d = subst (λ (z : Result). Leaves z work run r work' run') e d

pub searches-refused : (t work run : List ℕ) (r : Refusal) → Err r ≡ check_table t → Searches t work run (Err (refused.Table r)) work run
unfolding search_of
searches-refused t work run r e = leaves-as _ _ work run _ work run (ap (search_with t (length work) (length run)) e) (leaves_none _ work run)

module _ (t : List ℕ) (s : Shape) (g : GoodTable t s) (work run : List ℕ) where
  -- By the tests of a good table.
  good : search_with t (length work) (length run) (Ok s) ≡ search_of t (length work) (length run)
  unfolding search_of
  good = ap (search_with t (length work) (length run)) (sym g)

  pub searches-small-work : length work < 103 → Searches t work run (Err (refused.SmallWork (length work))) work run
  searches-small-work h = leaves-as _ _ work run _ work run (lt-then _ _ _ _ h refl ∙ good) (leaves_none _ work run)

  module _ (h : 103 ≤ length work) where
    pub searches-small-run : length run < 2 * room_of (length work) → Searches t work run (Err (refused.SmallRun (length run))) work run
    searches-small-run k = leaves-as _ _ work run _ work run (lt-else _ _ _ _ h (lt-then _ _ _ _ k refl) ∙ good) (leaves_none _ work run)

    module _ (k : 2 * room_of (length work) ≤ length run) where
      start-bad : (b : Bool) → b ≡ bad_state t s s.start → is_in (system_of t).start (system_of t).bad ≡ b
      unfolding bad_state
      start-bad b e = rw (start_is t s g, bads-are t s g) (sym e)

      pub searches-bad : true ≡ bad_state t s s.start → Searches t work run (Ok (verdict.Unsafe 0 0)) work run
      unfolding search_system
      searches-bad b = leaves-as _ _ work run _ work run (lt-else _ _ _ _ h (lt-else _ _ _ _ k (true-then _ _ _ (start-bad true b) refl)) ∙ good) (leaves_none _ work run)

      pub searches-found : (r : Answer) (work' run' : List ℕ) → false ≡ bad_state t s s.start
          → Leaves (found_by (system_of t) (explore.search (frame_of (system_of t)) (room_of (length work)) (first_entry (system_of t)))) work run r work' run' → Searches t work run r work' run'
      unfolding search_system
      searches-found r work' run' b d = leaves-as _ _ work run r work' run' (lt-else _ _ _ _ h (lt-else _ _ _ _ k (true-else _ _ _ (start-bad false b) refl)) ∙ good) d

-- One answer and one content of lent memory: two that keep the promise are equal.
pub one-search : (t work run : List ℕ) (r r' : Answer) (w w' v v' : List ℕ) → Searches t work run r w v → Searches t work run r' w' v' → (r ≡ r') × (w ≡ w') × (v ≡ v')
one-search t work run r r' w w' v v' p p' = (p.answer ∙ sym p'.answer, p.rows ∙ sym p'.rows, p.words ∙ sym p'.words)

-- ---- the steps that unsafe tells are the words of its run

abbrev pub Counted : Result → Type 0
Counted x = counted x.answer x.run
  where
    counted : Answer → List ℕ → Type 0
    counted (Err e) us = Unit {0}
    counted (Ok (verdict.Safe n)) us = Unit {0}
    counted (Ok (verdict.Unsafe n k)) us = k ≡ length us
    counted (Ok (verdict.RowsFull n i j)) us = Unit {0}
    counted (Ok (verdict.AtomsFull n i j)) us = Unit {0}

concluded-counted : (S : System) (l : List (Entry (frame_of S))) (v : Verdict) → Counted (concluded S l v)
concluded-counted S l explore.safe = tt
concluded-counted S l (explore.unsafe i j) = refl
concluded-counted S l (explore.atoms_full i j) = tt
concluded-counted S l (explore.rows_full i j) = tt

either-below : (P : Result → Type 0) (a b : ℕ) (x y : Result) → P x → P y → P (if_lt a b x y)
unfolding if_lt
either-below P a b x y p q = go (ltb a b)
  where
    go : (c : Bool) → P (cond c x y)
    go true = p
    go false = q

either_true : (P : Result → Type 0) (b : Bool) (x y : Result) → P x → P y → P (if_true b x y)
unfolding if_true
either_true P true x y p q = p
either_true P false x y p q = q

pub search-counted : (t : List ℕ) (work run : ℕ) → Counted (search_of t work run)
unfolding search_of search_system
search-counted t work run = go (check_table t)
  where
    go : (c : std.Result Shape Refusal) → Counted (search_with t work run c)
    go (Err r) = tt
    go (Ok s) =
        either-below Counted work 103 _ _ tt
        (either-below Counted run (2 * room_of work) _ _ tt
        (either_true Counted (is_in (system_of t).start (system_of t).bad) _ _ refl
        (concluded-counted (system_of t) (explore.search (frame_of (system_of t)) (room_of work) (first_entry (system_of t))).rows (explore.search (frame_of (system_of t)) (room_of work) (first_entry (system_of t))).verdict)))
