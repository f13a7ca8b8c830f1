-- What the search finds for a system: its rows are rows of the table, and with unsafe the rebuilt run plays to a bad state.
use mathlib.Core.Path.{◌≡◌, refl, sym, ap, subst, ◌∙◌, fun_ext}
use mathlib.Core.Bool.{true, false}
use mathlib.Core.Logic.{◌⊎◌, inl, inr}
use mathlib.Core.List.{List, [], ◌++◌}
use mathlib.Core.Option.{Option, none, some, map, none-ne-some, some-injective}
use Prim.Native.Nat.{ℕ, zero, suc, ◌<◌, ◌≤◌}
use native.Mathlib.Omega.{arith}
use lib.Dec.{eqb}
use lib.ListN.{length, get_elem?}
use borrow.Author.Tests.{eqb-true, eqb-false}
use Rattle.common.proofs.AtLaws.{At, at-below, at_same, mem-at}
use Rattle.common.proofs.BoolLaws.{either}
use Rattle.common.proofs.ChoiceLaws.{eq-then, eq-else, true-then}
use Rattle.meaning.specs.Words.{Word}
use Rattle.meaning.specs.Systems.{Move, System, MoveOf, WellMade, Contents, Config, start_of}
use Rattle.meaning.specs.Outcomes.{self_loop_send}
use Rattle.meaning.specs.Products.{ProductWord, end}
use Rattle.meaning.proofs.ProductLaws.{product-nil}
use Rattle.atoms.specs.Products.{product, WordOf}
use Rattle.atoms.proofs.NormalLaws.{normal-words}
use Rattle.rows.specs.Rows.{Row, normal_row}
use Rattle.rows.specs.Outcomes.{outcome}
use Rattle.rows.proofs.OutcomeLaws.{Holds, HoldsIn, outcome-parts}
use Rattle.explore.specs.Search.{Entry}
use Rattle.explore.specs.Found.{Linked, Rows, Met}
use Rattle.playing.specs.Play.{reaches_bad, judge_end, replay}
use Rattle.playing.proofs.PlayLaws.{Plays, plays-then}
use Rattle.findings.specs.Search.{outcome_at, bad_row, frame_of, first_entry}
use Rattle.findings.specs.Rebuild.{Back, back, back_over, rebuilt, run_of}
use Rattle.findings.proofs.BackLaws.{back-needs, back-plays}

module _ (S : System) where
  -- The outcome of a move that is there, taken apart: the move, and the outcome before it was brought to normal form.
  pub record Made (r : Row) (j : ℕ) (o : Row) : Type 0 where
    pub move : Move
    pub stands : At S.moves j move
    pub raw : Row
    pub comes : outcome move r ≡ some raw
    pub tidy : normal_row raw ≡ o

  pub outcome-made : (r : Row) (j : ℕ) (o : Row) → outcome_at S r j ≡ some o → Made r j o
  outcome-made r j o e = there (get_elem? S.moves j) refl e
    where
      tidied : (t : Move) → At S.moves j t → (u : Option Row) → outcome t r ≡ u → map normal_row u ≡ some o → Made r j o
      tidied t h none a e = absurd (none-ne-some o e)
      tidied t h (some q) a e = record { move = t; stands = h; raw = q; comes = a; tidy = some-injective _ _ e }

      there : (u : Option Move) → get_elem? S.moves j ≡ u → elim u as (λ x. Option Row) [ none ↦ none | some t ↦ map normal_row (outcome t r) ] ≡ some o → Made r j o
      there none a e = absurd (none-ne-some o e)
      there (some t) a e = tidied t a (outcome t r) refl e

  -- Going back over a move that is there.
  over-there : (j : ℕ) (t : Move) (f : Contents) → At S.moves j t → back (self_loop_send t) t.operation j f ≡ back_over S j f
  over-there j t f h = ap (λ (u : Option Move). elim u as (λ x. Back) [ none ↦ record { words = []; before = f } | some t ↦ back (self_loop_send t) t.operation j f ]) (sym h)

  module _ (wm : WellMade S) (k15 : S.messages ≤ 15) (few : length S.moves < 32768) where
    move-of : (j : ℕ) (t : Move) → At S.moves j t → MoveOf S t
    move-of j t h = wm.moves t ((mem-at S.moves t).1 (j, h))

    -- Going back over a move from the row r to its outcome o, where f is needed: what is needed before is in r, and the words play.
    pub record Goes (r : Row) (j : ℕ) (o : Row) (f : Contents) : Type 0 where
      pub needs : Holds r.products (back_over S j f).before
      pub plays : Plays S (back_over S j f).words (record { state = r.state; contents = (back_over S j f).before }) (record { state = o.state; contents = f })

    pub goes_back : (r : Row) (j : ℕ) (o : Row) (f : Contents) → outcome_at S r j ≡ some o → Holds o.products f → Goes r j o f
    goes_back r j o f e h = go (outcome-made r j o e)
      where
        go : Made r j o → Goes r j o f
        go m =
            let t = m.move in
            let u = outcome-parts t r m.raw m.comes in
            let raw : Holds u.1 f = λ c. (normal-words (u.1 c) (f c)).1 (subst (λ (q : Row). WordOf (q.products c) (f c)) (sym (ap normal_row u.3 ∙ m.tidy)) (h c)) in
            let b = over-there j t f m.stands in
            record {
              needs = subst (λ (x : Back). Holds r.products x.before) b
                  (back-needs S.channels S.messages (self_loop_send t) t.operation j r.products f (move-of j t m.stands).operation k15
                  (subst (λ (x : Option (ℕ → List ℕ)). HoldsIn x f) (sym u.2) raw));
              plays = subst (λ (x : Back). Plays S x.words (record { state = r.state; contents = x.before }) (record { state = o.state; contents = f })) b
                  (subst (λ (s : ℕ). Plays S (back (self_loop_send t) t.operation j f).words (record { state = s; contents = (back (self_loop_send t) t.operation j f).before }) (record { state = o.state; contents = f })) (sym u.0)
                  (subst (λ (s : ℕ). Plays S (back (self_loop_send t) t.operation j f).words (record { state = t.source; contents = (back (self_loop_send t) t.operation j f).before }) (record { state = s; contents = f }))
                  (ap (λ (q : Row). q.state) (ap normal_row u.3 ∙ m.tidy))
                  (back-plays S j (small j t m.stands) t.source t.target t.operation f m.stands)));
            }
          where
            small : (j : ℕ) (t : Move) → At S.moves j t → j < 32768
            small j t a = let l = at-below S.moves j t a in omega arith

    -- ---- the whole run

    module _ (room : ℕ) (l : List (Entry (frame_of S))) (rs : Rows (frame_of S) room (first_entry S) l) where
      -- In row 0 nothing is needed.
      first-empty : (e : Entry (frame_of S)) (f : Contents) → At l 0 e → Holds e.row.products f → record { state = e.row.state; contents = f } ≡ start_of S
      first-empty e f h i = go (at_same l 0 (first_entry S) e rs.starts h)
        where
          none-there : {w : Word} → ProductWord [] w → w ≡ []
          none-there end = refl

          go : first_entry S ≡ e → record { state = e.row.state; contents = f } ≡ start_of S
          go q =
              let s : e.row.state ≡ S.start = ap (λ (x : Entry (frame_of S)). x.row.state) (sym q) in
              let g : f ≡ (λ c. []) = fun_ext (λ c. none-there (subst (λ (x : Entry (frame_of S)). WordOf (x.row.products c) (f c)) (sym q) (i c))) in
              λ k. record { state = s k; contents = g k }

      -- From row i back to row 0: what plays on from row i plays from the start.
      pub rebuilt-plays : (k i : ℕ) (e : Entry (frame_of S)) (f : Contents) (ws : List ℕ) (y : Config) → i ≤ k → At l i e → Holds e.row.products f
          → Plays S ws (record { state = e.row.state; contents = f }) y → Plays S (rebuilt S k l i f ws) (start_of S) y
      unfolding rebuilt
      rebuilt-plays zero i e f ws y b h n p =
          let z : i ≡ 0 = omega arith in
          subst (λ (x : Config). Plays S ws x y) (first-empty e f (subst (λ (q : ℕ). At l q e) z h) n) p
      rebuilt-plays (suc k) i e f ws y b h n p = go (λ d g us. rebuilt-plays k e.parent d g us y) (either (eqb i 0))
        where
          Goal : List ℕ → Type 0
          Goal us = Plays S us (start_of S) y

          parent : (rest : (d : Entry (frame_of S)) (g : Contents) (us : List ℕ) → e.parent ≤ k → At l e.parent d → Holds d.row.products g
              → Plays S us (record { state = d.row.state; contents = g }) y → Plays S (rebuilt S k l e.parent g us) (start_of S) y)
              → Linked (frame_of S) l i e → Goal (rebuilt S k l e.parent (back_over S e.move f).before ((back_over S e.move f).words ++ ws))
          parent rest q =
              let d = q.source in
              let o = goes_back d.row e.move e.row f q.comes n in
              rest d (back_over S e.move f).before ((back_over S e.move f).words ++ ws) (omega (arith, q.earlier)) q.stands o.needs
              (plays-then S (back_over S e.move f).words ws (record { state = d.row.state; contents = (back_over S e.move f).before }) (record { state = e.row.state; contents = f }) y o.plays p)

          there : (u : Option (Entry (frame_of S))) → get_elem? l i ≡ u → Goal (rebuilt S k l e.parent (back_over S e.move f).before ((back_over S e.move f).words ++ ws))
              → Goal (elim u as (λ x. List ℕ) [ none ↦ ws | some e ↦ rebuilt S k l e.parent (back_over S e.move f).before ((back_over S e.move f).words ++ ws) ])
          there none a g = absurd (none-ne-some e (sym a ∙ h))
          there (some d) a g =
              subst (λ (x : Entry (frame_of S)). Goal (rebuilt S k l x.parent (back_over S x.move f).before ((back_over S x.move f).words ++ ws))) (at_same l i e d h a) g

          go : ((d : Entry (frame_of S)) (g : Contents) (us : List ℕ) → e.parent ≤ k → At l e.parent d → Holds d.row.products g
              → Plays S us (record { state = d.row.state; contents = g }) y → Plays S (rebuilt S k l e.parent g us) (start_of S) y)
              → (eqb i 0 ≡ true) ⊎ (eqb i 0 ≡ false) → Goal (rebuilt S (suc k) l i f ws)
          go rest (inl q) =
              let z = eqb-true i 0 q in
              subst Goal (eq-then _ _ _ _ z refl) (subst (λ (x : Config). Plays S ws x y) (first-empty e f (subst (λ (q : ℕ). At l q e) z h) n) p)
          go rest (inr q) =
              let z = eqb-false i 0 q in
              subst Goal (eq-else _ _ _ _ z refl) (there (get_elem? l i) refl (parent rest (rs.linked i e (omega arith) h)))

      -- THE RUN: where move j of row i is bad, the run rebuilt from there plays from the start with empty channels to a bad state.
      pub run-reaches : (i j : ℕ) → Met (frame_of S) l i j (λ o. bad_row S o ≡ true) → replay S (run_of S l i j) ≡ reaches_bad (length (run_of S l i j))
      unfolding replay
      run-reaches i j m =
          let e = m.source in
          let o = m.outcome in
          let g = goes_back e.row j o (λ c. []) m.comes (λ c. product-nil (product (o.products c))) in
          let p = rebuilt-plays i i e (back_over S j (λ c. [])).before (back_over S j (λ c. [])).words (record { state = o.state; contents = λ c. [] }) (omega arith) m.stands g.needs g.plays in
          ap (judge_end S (length (run_of S l i j))) (p 0) ∙ sym (true-then _ _ _ m.meets refl)
