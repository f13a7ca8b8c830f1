-- Where the search says safe, the judge accepts its rows; so the system is safe.
use Rattle.std.proofs.Common.{◌≡◌, refl, sym, ap, subst, ◌∙◌, true, false, List, map, ℕ, zero, suc, ◌≤◌, arith}
use Rattle.std.proofs.Math.Option
use Rattle.std.proofs.Math.Option.{Option, none, some, none-ne-some, some-injective}
use Rattle.common.specs.First.{is_in}
use Rattle.common.proofs.AtLaws.{At, at-below, at_same, at_map, mem-at}
use Rattle.common.proofs.BoolLaws.{clash}
use Rattle.common.proofs.FirstLaws.{in-iff}
use Rattle.meaning.specs.Systems.{Move, System, MoveOf, WellMade, Config, start_of, Safe}
use Rattle.meaning.proofs.RowLaws.{lowest-in}
use Rattle.atoms.proofs.NormalLaws.{normal-words}
use Rattle.rows.specs.Rows.{Row, meant_row, RowOf, normal_row, covers}
use Rattle.rows.specs.Outcomes.{outcome, InOutcome}
use Rattle.rows.proofs.CoverLaws.{covers-iff}
use Rattle.rows.proofs.OutcomeLaws.{outcome-iff, impossible-iff}
use Rattle.rows.proofs.RowOfLaws.{outcome-of}
use Rattle.explore.specs.Search.{Entry, safe}
use Rattle.explore.proofs.TestLaws.{covered-iff}
use Rattle.explore.specs.Found.{Settled, never, within, Rows, Says}
use Rattle.findings.specs.Search.{outcome_at, bad_row, frame_of, first_entry}
use Rattle.judgement.specs.Judge.{accepted, judge}
use Rattle.judgement.proofs.SettledLaws.{In, Held, Kept, empty, inside}
use Rattle.judgement.proofs.ExactLaws.{NoBad, AllKept, accepted-iff}
use Rattle.judgement.proofs.SoundLaws.{judge-sound}
use Rattle.findings.proofs.RowLaws.{normal-row-of, entry-row-of}

module _ (S : System) where
  -- The rows of the search, as the judge sees them.
  abbrev pub rows_of : List (Entry (frame_of S)) → List Row
  rows_of l = map (λ e. e.row) l

  module _ (wm : WellMade S) (k15 : S.messages ≤ 15) (room : ℕ) (l : List (Entry (frame_of S))) (rs : Rows (frame_of S) room (first_entry S) l) where
    each_row : (n : ℕ) (r : Row) → At (rows_of l) n r → RowOf S.channels S.messages r
    each_row n r h = let e = (at_map (λ (e : Entry (frame_of S)). e.row) l n r).0 h in subst (RowOf S.channels S.messages) e.2 (entry-row-of S wm k15 room l rs n e.0 e.1)

    -- A move that is settled in the search is kept by the rows.
    kept : (n : ℕ) (e : Entry (frame_of S)) → At l n e → (j : ℕ) (t : Move) → At S.moves j t → Settled (frame_of S) l e.row j → Kept (rows_of l) e.row t
    kept n e h j t a s = go s
      where
        to : MoveOf S t
        to = wm.moves t ((mem-at S.moves t).1 (j, a))

        at-move : outcome_at S e.row j ≡ Option.map normal_row (outcome t e.row)
        at-move = ap (λ (u : Option Move). elim u as (λ x. Option Row) [ none ↦ none | some t ↦ Option.map normal_row (outcome t e.row) ]) a

        go : Settled (frame_of S) l e.row j → Kept (rows_of l) e.row t
        go (never q) = empty ((impossible-iff S.channels S.messages t e.row to.operation k15).0 (none_left (outcome t e.row) refl (sym at-move ∙ q)))
          where
            none_left : (u : Option Row) → outcome t e.row ≡ u → Option.map normal_row u ≡ none → outcome t e.row ≡ none
            none_left none x y = x
            none_left (some o) x y = absurd (none-ne-some (normal_row o) (sym y))
        go (within o q b c) = in_one (outcome t e.row) refl (sym at-move ∙ q)
          where
            cover : (m : ℕ) × (d : Entry (frame_of S)) × At l m d × (covers S.channels d.row o ≡ true)
            cover = (covered-iff (frame_of S) l o).0 c

            in_one : (u : Option Row) → outcome t e.row ≡ u → Option.map normal_row u ≡ some o → Kept (rows_of l) e.row t
            in_one none x y = absurd (none-ne-some o y)
            in_one (some raw) x y =
                let d = cover.1 in
                let tidy : normal_row raw ≡ o = some-injective _ _ y in
                let ro = outcome-of S.channels S.messages t e.row raw to.operation k15 (entry-row-of S wm k15 room l rs n e h) x in
                let oo = subst (RowOf S.channels S.messages) tidy (normal-row-of S.channels S.messages raw ro) in
                inside cover.0 d.row ((at_map (λ (e : Entry (frame_of S)). e.row) l cover.0 d.row).1 (d, cover.2, refl))
                (λ z u.
                (covers-iff S.channels S.messages o d.row oo (entry-row-of S wm k15 room l rs cover.0 d cover.2)).0 cover.3 z
                (subst (λ (r : Row). In r z) tidy (tidied raw z (subst (λ (v : Option Row). InOutcome v z) x ((outcome-iff S.channels S.messages t e.row to.operation k15 z).1 u)))))
              where
                tidied : (r : Row) (z : Config) → In r z → In (normal_row r) z
                tidied r z i = record { state = i.state; words = λ c. (normal-words (r.products c) (z.contents c)).0 (i.words c) }

    -- AGREEMENT: rows of which the search says safe, from a start that is not bad, are accepted.
    pub safe-accepted : is_in S.start S.bad ≡ false → Says (frame_of S) room l safe → judge S (rows_of l) ≡ accepted
    safe-accepted fine done = (accepted-iff S (rows_of l) wm k15 each_row).1 (start, no-bad, all-kept)
      where
        start : Held (rows_of l) (start_of S)
        start =
            record {
              place = 0;
              row = (first_entry S).row;
              stands = (at_map (λ (e : Entry (frame_of S)). e.row) l 0 (first_entry S).row).1 (first_entry S, rs.starts, refl);
              inside = lowest-in (meant_row (first_entry S).row);
            }

        harmless : (n : ℕ) (e : Entry (frame_of S)) → At l n e → bad_row S e.row ≡ false
        harmless zero e h = subst (λ (x : Entry (frame_of S)). bad_row S x.row ≡ false) (at_same l 0 (first_entry S) e rs.starts h) fine
        harmless (suc n) e h = (rs.linked (suc n) e (omega arith) h).harmless

        no-bad : NoBad S (rows_of l)
        no-bad n r h m =
            let e = (at_map (λ (e : Entry (frame_of S)). e.row) l n r).0 h in
            clash ((in-iff r.state S.bad).1 m) (subst (λ (q : Row). bad_row S q ≡ false) e.2 (harmless n e.0 e.1))

        all-kept : AllKept S (rows_of l)
        all-kept n r h t m =
            let e = (at_map (λ (e : Entry (frame_of S)). e.row) l n r).0 h in
            let a = (mem-at S.moves t).0 m in
            subst (λ (q : Row). Kept (rows_of l) q t) e.2 (kept n e.0 e.1 a.0 t a.1 (done n e.0 e.1 a.0 (at-below S.moves a.0 t a.1)))

    -- So no run reaches a bad state.
    pub safe-safe : is_in S.start S.bad ≡ false → Says (frame_of S) room l safe → Safe S
    safe-safe fine done = judge-sound S (rows_of l) wm k15 each_row (safe-accepted fine done)
