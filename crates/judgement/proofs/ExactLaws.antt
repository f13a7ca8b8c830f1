-- The judge is exact: its answer is the first that holds of no start, bad row, not closed, accepted, each said of configurations.
use mathlib.Core.Path.{◌≡◌, refl, sym, subst}
use mathlib.Core.Bool.{Bool, true, false, not}
use mathlib.Core.Logic.{◌⊎◌, inl, inr, ◌↔◌}
use mathlib.Core.List.{List, Memᴰ}
use mathlib.Core.Option.{Option, none, some}
use Prim.Native.Nat.{ℕ, ◌+◌, ◌<◌, ◌≤◌}
use native.Mathlib.Omega.{arith}
use borrow.Author.Tests.{not-false}
use Rattle.common.specs.First.{is_in}
use Rattle.common.proofs.AtLaws.{At, mem-at}
use Rattle.common.proofs.BoolLaws.{either, clash}
use Rattle.common.proofs.ChoiceLaws.{true-then, true-else}
use Rattle.common.proofs.FirstLaws.{first_some, first-none, IsFirst, with-some, with_none, IsFirstWith, in-iff}
use Rattle.meaning.specs.Systems.{Move, System, WellMade, start_of}
use Rattle.rows.specs.Rows.{Row, RowOf}
use Rattle.rows.specs.Outcomes.{outcome}
use Rattle.judgement.specs.Judge.{Judgement, accepted, no_start, bad_row, not_closed, has_start, lowest_bad, settled, open_move, open_row, judge}
use Rattle.judgement.proofs.SettledLaws.{Held, Kept, start-iff, settled-iff}

module _ (S : System) (l : List Row) where
  -- No row's state is bad.
  abbrev pub NoBad : Type 0
  NoBad = (n : ℕ) (r : Row) → At l n r → Memᴰ r.state S.bad → ⊥

  -- The outcome of each move from each row is empty or lies wholly in one row.
  abbrev pub AllKept : Type 0
  AllKept = (n : ℕ) (r : Row) → At l n r → (t : Move) → Memᴰ t S.moves → Kept l r t

  -- Row i is the lowest whose state is bad.
  pub record LowestBad (i : ℕ) : Type 0 where
    pub row : Row
    pub stands : At l i row
    pub bad : Memᴰ row.state S.bad
    pub lower : (m : ℕ) (s : Row) → m < i → At l m s → Memᴰ s.state S.bad → ⊥

  -- Row i is the lowest with a move whose outcome is not so kept, and move j the lowest such move of it.
  pub record LowestOpen (i j : ℕ) : Type 0 where
    pub row : Row
    pub stands : At l i row
    pub move : Move
    pub moves : At S.moves j move
    pub open_there : Kept l row move → ⊥
    pub lower_rows : (m : ℕ) (s : Row) → m < i → At l m s → (t : Move) → Memᴰ t S.moves → Kept l s t
    pub lower_moves : (m : ℕ) (t : Move) → m < j → At S.moves m t → Kept l row t

  -- What each answer says; each says also that no earlier one holds.
  abbrev pub Says : Judgement → Type 0
  Says no_start = Held l (start_of S) → ⊥
  Says (bad_row i) = Held l (start_of S) × LowestBad i
  Says (not_closed i j) = Held l (start_of S) × NoBad × LowestOpen i j
  Says accepted = Held l (start_of S) × NoBad × AllKept

  module _ (wm : WellMade S) (k15 : S.messages ≤ 15) (rows : (n : ℕ) (r : Row) → At l n r → RowOf S.channels S.messages r) where
    -- Move t of row r, by the test.
    kept-iff : (n : ℕ) (r : Row) → At l n r → (m : ℕ) (t : Move) → At S.moves m t → (not (settled S.channels l (outcome t r)) ≡ false) ↔ Kept l r t
    kept-iff n r h m t a =
        let q = settled-iff S k15 l rows r (rows n r h) t (wm.moves t ((mem-at S.moves t).1 (m, a))) in
        (λ e. q.0 (not-false _ e), λ k. subst (λ (b : Bool). not b ≡ false) (sym (q.1 k)) refl)

    -- No open move of r.
    no-open : (n : ℕ) (r : Row) → At l n r → open_move S l r ≡ none → (t : Move) → Memᴰ t S.moves → Kept l r t
    no-open n r h e t m =
        let a = (mem-at S.moves t).0 m in
        (kept-iff n r h a.0 t a.1).0 ((first-none (λ (t : Move). not (settled S.channels l (outcome t r))) S.moves 0).0 e a.0 t a.1)

    no-bad : lowest_bad S.bad l ≡ none → NoBad
    no-bad e n r h m = clash ((in-iff r.state S.bad).1 m) ((first-none (λ (r : Row). is_in r.state S.bad) l 0).0 e n r h)

    lowest-bad : (i : ℕ) → lowest_bad S.bad l ≡ some i → LowestBad i
    lowest-bad i e = go (first_some (λ (r : Row). is_in r.state S.bad) l 0 i e)
      where
        go : (n : ℕ) × (i ≡ 0 + n) × IsFirst (λ (r : Row). is_in r.state S.bad) l n → LowestBad i
        go q =
            let z : q.0 ≡ i = omega (arith, q.1) in
            let f = subst (IsFirst (λ (r : Row). is_in r.state S.bad) l) z q.2 in
            record {
              row = f.element;
              stands = f.stands;
              bad = (in-iff _ _).0 f.passes;
              lower = λ m s b h k. clash ((in-iff _ _).1 k) (f.before m s b h);
            }

    lowest-open : (p : ℕ × ℕ) → open_row S l ≡ some p → LowestOpen p.0 p.1
    lowest-open p e = go (with-some (open_move S l) l 0 p e)
      where
        move-of : (i j : ℕ) (r : Row) → At l i r → ((m : ℕ) (s : Row) → m < i → At l m s → open_move S l s ≡ none)
            → (n : ℕ) × (j ≡ 0 + n) × IsFirst (λ (t : Move). not (settled S.channels l (outcome t r))) S.moves n → LowestOpen i j
        move-of i j r h lower q =
            let z : q.0 ≡ j = omega (arith, q.1) in
            let f = subst (IsFirst (λ (t : Move). not (settled S.channels l (outcome t r))) S.moves) z q.2 in
            record {
              row = r;
              stands = h;
              move = f.element;
              moves = f.stands;
              open_there = λ k. clash f.passes ((kept-iff i r h j f.element f.stands).1 k);
              lower_rows = λ m s b a t d. no-open m s a (lower m s b a) t d;
              lower_moves = λ m t b a. (kept-iff i r h m t a).0 (f.before m t b a);
            }

        go : (n : ℕ) × (p.0 ≡ 0 + n) × IsFirstWith (open_move S l) l n p.1 → LowestOpen p.0 p.1
        go q =
            let z : q.0 ≡ p.0 = omega (arith, q.1) in
            let f = subst (λ (n : ℕ). IsFirstWith (open_move S l) l n p.1) z q.2 in
            move-of p.0 p.1 f.element f.stands f.before (first_some (λ (t : Move). not (settled S.channels l (outcome t f.element))) S.moves 0 p.1 f.gives)

    -- THE JUDGE: its answer is so, for a good table and a good list.
    pub judge-says : Says (judge S l)
    unfolding judge
    judge-says = go (either (has_start S.start l))
      where
        closed : Held l (start_of S) → NoBad → (u : Option (ℕ × ℕ)) → open_row S l ≡ u → Says (elim u [ none ↦ accepted | some p ↦ not_closed p.0 p.1 ])
        closed s b none e = (s, b, λ n r h. no-open n r h ((with_none (open_move S l) l 0).0 e n r h))
        closed s b (some p) e = (s, b, lowest-open p e)

        bads : Held l (start_of S) → (u : Option ℕ) → lowest_bad S.bad l ≡ u
            → Says (elim u [ none ↦ elim (open_row S l) [ none ↦ accepted | some p ↦ not_closed p.0 p.1 ] | some i ↦ bad_row i ])
        bads s none e = closed s (no-bad e) (open_row S l) refl
        bads s (some i) e = (s, lowest-bad i e)

        go : (has_start S.start l ≡ true) ⊎ (has_start S.start l ≡ false) → Says (judge S l)
        go (inl h) = subst Says (true-then _ _ _ h refl) (bads ((start-iff S l).0 h) (lowest_bad S.bad l) refl)
        go (inr h) = subst Says (true-else _ _ _ h refl) (λ s. clash ((start-iff S l).1 s) h)

    -- EXACTNESS: accepted exactly when the start is in some row, no row's state is bad, and each outcome is empty or lies wholly in one row.
    pub accepted-iff : (judge S l ≡ accepted) ↔ (Held l (start_of S) × NoBad × AllKept)
    accepted-iff = (λ e. subst Says e judge-says, λ h. go (judge S l) refl judge-says h)
      where
        go : (j : Judgement) → judge S l ≡ j → Says j → Held l (start_of S) × NoBad × AllKept → judge S l ≡ accepted
        go accepted e s h = e
        go no_start e s h = absurd (s h.0)
        go (bad_row i) e s h = absurd (h.1 i s.1.row s.1.stands s.1.bad)
        go (not_closed i j) e s h = absurd (s.2.open_there (h.2 i s.2.row s.2.stands s.2.move ((mem-at S.moves _).1 (j, s.2.moves))))
