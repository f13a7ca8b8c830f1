-- A search in the first of many words: the rows that stand there stand in all of them, and what is answered and left there is answered and left in all. So
-- a caller that allows fewer rows than its words have room for lends the first of them, and is promised the same.
use Rattle.std.proofs.Common.{◌≡◌, refl, sym, ap, subst, ◌∙◌, ◌⊎◌, inl, inr, List, ◌++◌, append_assoc, Result, ℕ, ◌*◌, ◌/◌, ◌<◌, ◌≤◌, arith, length, take, drop, take-append-drop, length-take-le}
use Rattle.std.proofs.lemmas.List.{take-append-le, drop-append-le}
use Rattle.std.proofs.Math.Nat.{mul-div_cancel_left}
use Rattle.std.proofs.Math.Option.{Option}
use Rattle.std.proofs.Math.Seq.{take-append_seam}
use Rattle.common.specs.Front.{front}
use Rattle.common.proofs.AtLaws.{At, at_same}
use Rattle.common.proofs.ChoiceLaws.{lt-cases}
use Rattle.meaning.specs.Systems.{System, WellMade}
use Rattle.rows.specs.Rows.{Row}
use Rattle.table.specs.Systems.{GoodTable, system_of}
use Rattle.table.specs.declared.checks.Shape.{Shape}
use Rattle.table.proofs.SystemLaws.{well-made, few-channels, few-messages}
use Rattle.work.specs.Layout.{all_words, Holds}
use Rattle.work.specs.Room.{room_of}
use Rattle.explore.specs.Search.{Entry, safe, on, tests, through, ended, pass, walk}
use Rattle.findings.specs.Search.{frame_of, outcome_at}
use Rattle.findings.specs.Rebuild.{run_of}
use Rattle.outcome.specs.Look.{row_at}
use Rattle.search.specs.Standing.{entry_at, entries, stored, Standing, Stands, LeadBack, Grown}
use Rattle.search.specs.Visits.{verdict_of, Tests, goes, stops, Passes, all, cut, Walks, whole, short}
use Rattle.search.specs.declared.visits.Stop.{Stop}
use Rattle.search.specs.declared.passes.Ended.{Ended}
use Rattle.search.proofs.StandingLaws.{leads_back, entries-count, entry-there, standing-there, words-length, Told, tells}

-- The words that so many rows take have room for just these.
room-words : (n room : ℕ) → n ≡ 103 * room → room ≤ 1024 → room_of n ≡ room
unfolding room_of
room-words n room e k = go (lt-cases (n / 103) 1024 (n / 103) 1024 refl)
  where
    same : n / 103 ≡ room
    same = ap (λ (x : ℕ). x / 103) e ∙ mul-div_cancel_left room (omega arith)

    go : {r : ℕ} → ((n / 103 < 1024) × (n / 103 ≡ r)) ⊎ ((1024 ≤ n / 103) × (1024 ≡ r)) → r ≡ room
    go (inl h) = sym h.1 ∙ same
    go (inr h) = omega (arith, h.0, h.1, same)

-- ---- words f, and more words b behind them: what is written in the first of f

module _ (xs f b : List ℕ) (h : length xs ≤ length f) where
  written-all : f ≡ front xs f → f ++ b ≡ front xs (f ++ b)
  unfolding front
  written-all e = ap (λ (x : List ℕ). x ++ b) e ∙ append_assoc xs (drop (length xs) f) b ∙ ap (λ (x : List ℕ). xs ++ x) (sym (drop-append-le (length xs) f b h))

  written-front : f ++ b ≡ front xs (f ++ b) → f ≡ front xs f
  unfolding front
  written-front e =
      let z : take (length xs) f ≡ xs = sym (take-append-le (length xs) f b h) ∙ ap (take (length xs)) e ∙ take-append_seam xs _ in
      sym (take-append-drop (length xs) f) ∙ ap (λ (x : List ℕ). x ++ drop (length xs) f) z

module _ (S : System) (wm : WellMade S) (k15 : S.messages ≤ 15) (c4 : S.channels ≤ 4) (room : ℕ) where
  -- The rows that the words v tell are told by the words u too, and stand there.
  abbrev Retold : (v u : List ℕ) (n : ℕ) → Standing S room v n → Type 0
  Retold v u n st = Told S wm k15 c4 room (entries S v n) st.made u u n

  module _ (v : List ℕ) (n : ℕ) (st : Standing S room v n) where
    abbrev words : List ℕ
    words = all_words (stored S (entries S v n))

    words-few : length words ≡ 103 * n
    words-few = words-length S wm k15 c4 room (entries S v n) st.made ∙ ap (λ (x : ℕ). 103 * x) (entries-count S v n)

    retold : (u : List ℕ) → Holds u (stored S (entries S v n)) u → Retold v u n st
    retold u h = tells S wm k15 c4 room (entries S v n) st.made u u n h (entries-count S v n)

    -- They stand with more words b behind them.
    in-all : (b : List ℕ) → Retold v (v ++ b) n st
    in-all b = retold (v ++ b) (written-all words v b (omega (arith, words-few, standing-there S wm k15 c4 room v n st)) st.laid)

  -- ---- the first words of w, as many as the room takes

  module _ (w : List ℕ) (h : 103 * room ≤ length w) where
    abbrev f : List ℕ
    f = take (103 * room) w

    abbrev b : List ℕ
    b = drop (103 * room) w

    both : f ++ b ≡ w
    both = take-append-drop (103 * room) w

    front-length : length f ≡ 103 * room
    front-length = length-take-le (103 * room) w h

    pub front-room : room ≤ 1024 → room_of (length f) ≡ room
    front-room k = room-words (length f) room front-length k

    module _ (rows : ℕ) (st : Standing S room w rows) where
      fits : 103 * rows ≤ length f
      fits = omega (arith, st.made.few, entries-count S w rows, front-length)

      in-front : Retold w f rows st
      in-front =
          retold w rows st f
          (written-front (words w rows st) f b (omega (arith, fits, words-few w rows st))
          (subst (λ (x : List ℕ). Holds x (stored S (entries S w rows)) x) (sym both) st.laid))

      pub front-stands : room ≤ 1024 → Stands S f rows
      front-stands k = rw (front-room k) in-front.standing

      pub front-rows : entries S f rows ≡ entries S w rows
      front-rows = in-front.rows

      pub front-row : (i : ℕ) → i < rows → row_at f i ≡ row_at w i
      front-row i k =
          ap (λ (e : Entry (frame_of S)). e.row)
          (at_same (entries S w rows) i (entry_at S f i) (entry_at S w i)
          (subst (λ (l : List (Entry (frame_of S))). At l i (entry_at S f i)) front-rows (entry-there S f rows i k)) (entry-there S w rows i k))

      -- What grew in the front grew in all the words.
      module _ (v : List ℕ) (n : ℕ) (g : Grown S room f rows v n) where
        grown-told : entries S (v ++ b) n ≡ entries S v n
        grown-told = (in-all v n g.standing b).rows

        front-grown : Grown S room w rows (v ++ b) n
        front-grown =
            let few : n ≤ room = omega (arith, g.standing.made.few, entries-count S v n) in
            record {
              standing = (in-all v n g.standing b).standing;
              grows = rw (grown-told, ← front-rows) g.grows;
              behind =
                  drop-append-le (103 * n) v b (standing-there S wm k15 c4 room v n g.standing) ∙ ap (λ (x : List ℕ). x ++ b) g.behind
                  ∙ sym (drop-append-le (103 * n) f b (omega (arith, few, front-length))) ∙ ap (drop (103 * n)) both;
            }

      pub front-tests : (i j : ℕ) (o : Option Row) (r : Result ℕ Stop) (v : List ℕ) → Tests S room f rows i j o r v → Tests S room w rows i j o r (v ++ b)
      front-tests i j o r v (goes {n} e g) =
          goes (ap (λ (l : List (Entry (frame_of S))). tests (frame_of S) room l i j o) (sym front-rows) ∙ e ∙ ap on (sym (grown-told v n g))) (front-grown v n g)
      front-tests i j o r v (stops {y} e) =
          subst (Tests S room w rows i j o r) (sym both)
          (stops {y = y} (ap (λ (l : List (Entry (frame_of S))). tests (frame_of S) room l i j o) (sym front-rows) ∙ e))

      same-pass : (i : ℕ) → i < rows
          → pass (frame_of S) room (length S.moves) (entries S w rows) (row_at w i) i 0 ≡ pass (frame_of S) room (length S.moves) (entries S f rows) (row_at f i) i 0
      same-pass i k = rw (front-rows, front-row i k)

      same-walk : walk (frame_of S) room room (entries S w rows) 0 ≡ walk (frame_of S) room room (entries S f rows) 0
      same-walk = rw front-rows

      pub front-passes : (i : ℕ) → i < rows → (r : Result ℕ Ended) (v : List ℕ) → Passes S room f rows i r v → Passes S room w rows i r (v ++ b)
      front-passes i k r v (all {n} e g) = all (same-pass i k ∙ e ∙ ap through (sym (grown-told v n g))) (front-grown v n g)
      front-passes i k r v (cut {y} {n} {j} e g) = cut (same-pass i k ∙ e ∙ ap (ended (verdict_of y i j)) (sym (grown-told v n g))) (front-grown v n g)

      pub front-walks : (r : Result ℕ Ended) (v : List ℕ) → Walks S room f rows r v → Walks S room w rows r (v ++ b)
      front-walks r v (whole {n} e g) =
          whole (same-walk ∙ e ∙ ap (λ (l : List (Entry (frame_of S))). record { verdict = safe; rows = l }) (sym (grown-told v n g))) (front-grown v n g)
      front-walks r v (short {y} {n} {i} {j} e g) =
          short (same-walk ∙ e ∙ ap (λ (l : List (Entry (frame_of S))). record { verdict = verdict_of y i j; rows = l }) (sym (grown-told v n g))) (front-grown v n g)

-- ---- the promises

-- Where the first words of w are lent, as many as `room` rows take, the visit of a move, the pass over a row's moves and the walk over the rows ask and
-- promise of w with that room what they ask and promise of the words that are lent: those behind them are kept.
module _ (t : List ℕ) (s : Shape) (g : GoodTable t s) (w : List ℕ) (room : ℕ) (h : 103 * room ≤ length w) (k : room ≤ 1024) where
  abbrev S : System
  S = system_of t

  abbrev lent : List ℕ
  lent = take (103 * room) w

  abbrev kept : List ℕ
  kept = drop (103 * room) w

  lent-room : room_of (length lent) ≡ room
  lent-room = front-room S (well-made t s g) (few-messages t s g) (few-channels t s g) room w h k

  module _ (rows : ℕ) (st : Standing S room w rows) where
    pub lent-stands : Stands S lent rows
    lent-stands = front-stands S (well-made t s g) (few-messages t s g) (few-channels t s g) room w h rows st k

    pub lent-visit : (i j : ℕ) → i < rows → (r : Result ℕ Stop) (v : List ℕ) → Tests S (room_of (length lent)) lent rows i j (outcome_at S (row_at lent i) j) r v
        → Tests S room w rows i j (outcome_at S (row_at w i) j) r (v ++ kept)
    lent-visit i j m r v d =
        front-tests S (well-made t s g) (few-messages t s g) (few-channels t s g) room w h rows st i j (outcome_at S (row_at w i) j) r v
        (rw (lent-room, front-row S (well-made t s g) (few-messages t s g) (few-channels t s g) room w h rows st i m) at d)

    pub lent-pass : (i : ℕ) → i < rows → (r : Result ℕ Ended) (v : List ℕ) → Passes S (room_of (length lent)) lent rows i r v → Passes S room w rows i r (v ++ kept)
    lent-pass i m r v d = front-passes S (well-made t s g) (few-messages t s g) (few-channels t s g) room w h rows st i m r v (rw lent-room at d)

    pub lent-walk : (r : Result ℕ Ended) (v : List ℕ) → Walks S (room_of (length lent)) lent rows r v → Walks S room w rows r (v ++ kept)
    lent-walk r v d = front-walks S (well-made t s g) (few-messages t s g) (few-channels t s g) room w h rows st r v (rw lent-room at d)

-- A run is written from the words of the rows alone: where these are lent, it needs no longer a buffer than the room did, and is the run that all of w tell.
module _ (t : List ℕ) (s : Shape) (g : GoodTable t s) (w : List ℕ) (room rows : ℕ) (k : room ≤ 1024) (st : Standing (system_of t) room w rows) where
  abbrev rows_alone : List ℕ
  rows_alone = take (103 * rows) w

  few-rows : rows ≤ room
  few-rows = omega (arith, st.made.few, entries-count (system_of t) w rows)

  full : Standing (system_of t) rows w rows
  full =
      record {
        made = record { starts = st.made.starts; few = omega (arith, entries-count (system_of t) w rows); linked = st.made.linked };
        laid = st.laid;
      }

  there : 103 * rows ≤ length w
  there = standing-there (system_of t) (well-made t s g) (few-messages t s g) (few-channels t s g) room w rows st

  pub alone-length : length rows_alone ≡ 103 * rows
  alone-length = length-take-le (103 * rows) w there

  pub alone-room : room_of (length rows_alone) ≤ room
  alone-room = omega (arith, few-rows, lent-room t s g w rows there (omega (arith, few-rows)))

  pub alone-leads : LeadBack (system_of t) rows_alone rows
  alone-leads = leads_back (system_of t) _ rows_alone rows (lent-stands t s g w rows there (omega (arith, few-rows)) rows full) refl

  pub alone-run : (i j : ℕ) → run_of (system_of t) (entries (system_of t) rows_alone rows) i j ≡ run_of (system_of t) (entries (system_of t) w rows) i j
  alone-run i j = rw (front-rows (system_of t) (well-made t s g) (few-messages t s g) (few-channels t s g) rows w there rows full)
