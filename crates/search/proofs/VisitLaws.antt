-- The six tests of an outcome, on the words of the work table.
use Rattle.std.proofs.Common.{◌≡◌, refl, sym, ap, subst, ◌∙◌, Bool, true, false, ◌⊎◌, inl, inr, List, [], ◌∷◌, ◌++◌, Result, Ok, Err, ℕ, ◌+◌, ◌*◌, ◌<◌, ◌≤◌, arith, ltb, eqb, length, get_or, take, length-append, ltb-true, ltb-false}
use mathlib.Core.List.{map-append}
use Rattle.std.proofs.Math.Option.{Option, none, some, map}
use Rattle.std.proofs.Common as std
use Rattle.std.proofs.Math.ListN.{length-map}
use Rattle.common.specs.Part.{part}
use Rattle.common.specs.Store.{put_at}
use Rattle.common.proofs.AtLaws.{At, at_map, Grows}
use Rattle.common.proofs.BoolLaws.{either}
use Rattle.common.proofs.ChoiceLaws.{true-then, true-else, lt-then, lt-else}
use Rattle.meaning.specs.Systems.{Move, System}
use Rattle.meaning.proofs.PutLaws.{put_same, put-each}
use Rattle.rows.specs.Rows.{Row, RowOf, normal_row}
use Rattle.rows.specs.Outcomes.{normal_after, outcome}
use Rattle.rows.proofs.NormalLaws.{Normals, arrived, outcome-elsewhere, outcome-here}
use Rattle.table.specs.Systems.{GoodTable, system_of, bad_state}
use Rattle.table.specs.Transitions.{operation_of, move_of, transition_at}
use Rattle.table.specs.declared.checks.Shape.{Shape}
use Rattle.table.specs.declared.transitions.Transition.{Transition}
use Rattle.table.proofs.SystemLaws.{channels-are, moves-length, move-at, bads-are, well-made, few-channels, few-messages}
use Rattle.work.specs.Layout.{Stored, Holds}
use Rattle.work.specs.Append.{next_row}
use Rattle.work.proofs.AppendLaws.{append-holds}
use Rattle.explore.specs.Search.{Entry, covered, on, tests}
use Rattle.explore.proofs.WalkLaws.{Kept, tests-kept}
use Rattle.findings.specs.Search.{is_too_wide, frame_of, first_entry, outcome_at, bad_row}
use Rattle.findings.proofs.RowLaws.{wide-one, wide-none, outcome-row-of, entry-row-of, entry-narrow}
use Rattle.outcome.specs.Look.{row_at, outcome_row, covered_in, Sized, product_at}
use Rattle.search.specs.Standing.{entry_at, entries, stored_of, stored, Standing}
use Rattle.search.specs.Visits.{Tests, goes, stops}
use Rattle.rows.specs.Changes.{changed_in, FewChanged}
use Rattle.rows.specs.declared.changes.Changed.{Changed}
use Rattle.search.specs.declared.visits.Stop.TheVariants.{Unsafe, AtomsFull, RowsFull}
use Rattle.search.specs.declared.visits.Stop.{Stop}
use Rattle.search.proofs.StandingLaws.{entries-count, entry-there, grown-none, look_is, narrow-rows, tells, standing-sized, standing-normal}

pub few-changed : (r : std.Option Changed) (d : Changed) → r ≡ std.Some d → FewChanged r → d.count ≤ 25
few-changed r d e f = (subst FewChanged e f).1

module _ (t : List ℕ) (s : Shape) (g : GoodTable t s) where
  abbrev S : System
  S = system_of t

  module _ (room : ℕ) (w : List ℕ) (rows : ℕ) (st : Standing S room w rows) where
    pub sized : Sized w rows
    sized = standing-sized S (well-made t s g) (few-messages t s g) (few-channels t s g) room w rows st

    pub normals : (i : ℕ) → i < rows → Normals (product_at w i)
    normals i h = standing-normal S (well-made t s g) (few-messages t s g) (few-channels t s g) room w rows st i h

    module _ (i j target channel : ℕ) (q : List ℕ) (h : i < rows) (m : j < s.transitions) (comes : outcome_at S (row_at w i) j ≡ some (outcome_row w target i channel q)) where
      abbrev o : Row
      o = outcome_row w target i channel q

      move : j < length S.moves
      move = rw (moves-length t s g) m

      -- The tests of the move's outcome, which is that one.
      abbrev Goal : Result ℕ Stop → List ℕ → Type 0
      Goal r v = Tests S room w rows i j (outcome_at S (row_at w i) j) r v

      tested : (r : Result ℕ Stop) (v : List ℕ) → Tests S room w rows i j (some o) r v → Goal r v
      tested r v d = subst (λ (x : Option Row). Tests S room w rows i j x r v) (sym comes) d

      -- Row i, from which the outcome comes.
      there : At (entries S w rows) i (entry_at S w i)
      there = entry-there S w rows i h

      -- It is a row of the table; so the channel that changed is one of the table's, if it has atoms.
      fits : RowOf S.channels S.messages o
      fits =
          outcome-row-of S (well-made t s g) (few-messages t s g) (row_at w i) j o
          (entry-row-of S (well-made t s g) (few-messages t s g) room (entries S w rows) st.made i (entry_at S w i) there) comes

      changed-in : 24 < length q → channel < S.channels
      changed-in k = go (either (ltb channel S.channels))
        where
          go : (ltb channel S.channels ≡ true) ⊎ (ltb channel S.channels ≡ false) → channel < S.channels
          go (inl y) = ltb-true channel S.channels y
          go (inr y) =
              let e : q ≡ [] = sym (put_same (product_at w i) channel q) ∙ fits.none_past channel (ltb-false channel S.channels y) in
              let d : length q ≡ 0 = ap length e in
              absurd (omega arith)

      wide_is : 24 < length q → is_too_wide S.channels o.products ≡ true
      wide_is k =
          wide-one S.channels o.products channel (changed-in k)
          (subst (λ (x : List ℕ). 24 < length x) (sym (put_same (product_at w i) channel q)) k)

      narrow-is : length q ≤ 24 → is_too_wide S.channels o.products ≡ false
      narrow-is k =
          wide-none S.channels o.products
          (put-each (product_at w i) channel q (λ d x. length x ≤ 24) k
          (λ d n. entry-narrow S (well-made t s g) (few-messages t s g) room (entries S w rows) st.made i (entry_at S w i) there d))

      -- What the look for a bad state says.
      module _ (b : Bool) (bad : b ≡ bad_state t s target) where
        bad-is : bad_row S o ≡ b
        unfolding bad_state
        bad-is = rw (bads-are t s g) (sym bad)

        pub test-bad : b ≡ true → Goal (Err Unsafe) w
        unfolding tests
        test-bad y = tested _ w (stops {y = Unsafe} (sym (true-then _ _ _ (bad-is ∙ y) refl)))

        -- What the look for a row that contains the outcome says.
        module _ (y : b ≡ false) (c : Bool) (looked : c ≡ covered_in s.channels w rows o) where
          covered-is : covered (frame_of S) (entries S w rows) o ≡ c
          covered-is = sym (look_is S w rows o) ∙ ap (λ (n : ℕ). covered_in n w rows o) (channels-are t s g) ∙ sym looked

          pub test-covered : c ≡ true → Goal (Ok rows) w
          unfolding tests
          test-covered z = tested _ w (goes (sym (true-else _ _ _ (bad-is ∙ y) (true-then _ _ _ (covered-is ∙ z) refl))) (grown-none S room w rows st))

          module _ (z : c ≡ false) where
            pub test-wide : 24 < length q → Goal (Err AtomsFull) w
            unfolding tests
            test-wide k = tested _ w (stops {y = AtomsFull} (sym (true-else _ _ _ (bad-is ∙ y) (true-else _ _ _ (covered-is ∙ z) (true-then _ _ _ (wide_is k) refl)))))

            module _ (k : length q ≤ 24) where
              pub test-full : room ≤ rows → Goal (Err RowsFull) w
              unfolding tests
              test-full f =
                  tested _ w
                  (stops {y = RowsFull}
                  (sym (true-else _ _ _ (bad-is ∙ y) (true-else _ _ _ (covered-is ∙ z) (true-else _ _ _ (narrow-is k) (lt-else _ _ _ _ (omega (arith, entries-count S w rows)) refl))))))

              module _ (f : rows < room) where
                abbrev new : Entry (frame_of S)
                new = record { row = o; parent = i; move = j }

                abbrev grown : List (Entry (frame_of S))
                grown = entries S w rows ++ (new ∷ [])

                goes_on : tests (frame_of S) room (entries S w rows) i j (some o) ≡ on grown
                unfolding tests
                goes_on =
                    sym (true-else _ _ _ (bad-is ∙ y) (true-else _ _ _ (covered-is ∙ z) (true-else _ _ _ (narrow-is k)
                    (lt-then _ _ _ _ (omega (arith, entries-count S w rows)) refl))))

                kept : Kept (frame_of S) room (first_entry S) (entries S w rows) (on grown)
                kept =
                    subst (Kept (frame_of S) room (first_entry S) (entries S w rows)) (ap (tests (frame_of S) room (entries S w rows) i j) comes ∙ goes_on)
                    (tests-kept (frame_of S) room (first_entry S) (entries S w rows) (entry_at S w i) i j st.made there move)

                pub test-append : (v : List ℕ) (a b : ℕ) → a ≡ target → b ≡ j → v ≡ put_at w (103 * rows) (next_row w a i b channel q) → Goal (Ok (rows + 1)) v
                test-append v a b x y e =
                    let a : Holds v (stored S grown) w =
                    subst (λ (x : List Stored). Holds v x w) (sym (map-append (stored_of S) (entries S w rows) (new ∷ [])))
                    (append-holds w (stored S (entries S w rows)) w i (stored_of S (entry_at S w i)) st.laid
                    (narrow-rows S (well-made t s g) (few-messages t s g) (few-channels t s g) room (entries S w rows) st.made)
                    ((at_map (stored_of S) (entries S w rows) i _).1 (entry_at S w i, there, refl))
                    channel q target j rows v (length-map (entries S w rows) (stored_of S) ∙ entries-count S w rows) (e ∙ ap (λ (z : ℕ). put_at w (103 * rows) (next_row w z i b channel q)) x ∙ ap (λ (z : ℕ). put_at w (103 * rows) (next_row w target i z channel q)) y)) in
                    let n : length grown ≡ rows + 1 = length-append (entries S w rows) (new ∷ []) ∙ ap (λ (x : ℕ). x + 1) (entries-count S w rows) in
                    let d = tells S (well-made t s g) (few-messages t s g) (few-channels t s g) room grown kept.0 w v (rows + 1) a n in
                    tested _ v (goes (goes_on ∙ ap on (sym d.rows)) (record { standing = d.standing; grows = subst (Grows (entries S w rows)) (sym d.rows) kept.1; behind = d.behind }))

    -- ---- the outcome of move j of row i, which transition u is

    module _ (i j : ℕ) (h : i < rows) (m : j < s.transitions) (u : Transition) (e : u ≡ transition_at t j) where
      at-move : outcome_at S (row_at w i) j ≡ map normal_row (outcome (move_of u) (row_at w i))
      at-move =
          ap (λ (x : Option Move). elim x as (λ y. Option Row) [ none ↦ none | some a ↦ map normal_row (outcome a (row_at w i)) ])
          (move-at t s g j m ∙ ap (λ (x : Transition). some (move_of x)) (sym e))

      -- What the tests of an impossible outcome say.
      test-none : outcome_at S (row_at w i) j ≡ none → Tests S room w rows i j (outcome_at S (row_at w i) j) (Ok rows) w
      unfolding tests
      test-none z = subst (λ (x : Option Row). Tests S room w rows i j x (Ok rows) w) (sym z) (goes refl (grown-none S room w rows st))

      pub visit-elsewhere : (get_or w (103 * i) 0 ≡ u.source → ⊥) → Tests S room w rows i j (outcome_at S (row_at w i) j) (Ok rows) w
      visit-elsewhere n = test-none (at-move ∙ outcome-elsewhere (move_of u) (row_at w i) n)

      module _ (z : get_or w (103 * i) 0 ≡ u.source) (b : List ℕ) (r : std.Option Changed)
          (says : changed_in r (product_at w i) b ≡ normal_after (eqb u.source u.target) (operation_of u.operation) (product_at w i)) where
        comes-is : outcome_at S (row_at w i) j ≡ map (arrived (move_of u)) (changed_in r (product_at w i) b)
        comes-is =
            at-move ∙ outcome-here (move_of u) (row_at w i) z (normals i h)
            ∙ ap (map (arrived (move_of u))) (sym says)

        pub visit-impossible : r ≡ std.None → Tests S room w rows i j (outcome_at S (row_at w i) j) (Ok rows) w
        visit-impossible k = test-none (comes-is ∙ ap (λ (x : std.Option Changed). map (arrived (move_of u)) (changed_in x (product_at w i) b)) k)

        pub visit-comes : (d : Changed) → r ≡ std.Some d → outcome_at S (row_at w i) j ≡ some (outcome_row w u.target i d.channel (take d.count b))
        unfolding part
        visit-comes d k = comes-is ∙ ap (λ (x : std.Option Changed). map (arrived (move_of u)) (changed_in x (product_at w i) b)) k
