-- What the search finds: with safe the rows are closed, with any other verdict the move that it names met what it says; and each row but the first
-- came from an earlier one by a move.
use mathlib.Core.Path.{◌≡◌, refl, sym, subst}
use mathlib.Core.Bool.{true, false}
use mathlib.Core.Logic.{◌⊎◌, inl, inr}
use mathlib.Core.List.{List, [], ◌∷◌, ◌++◌}
use mathlib.Core.Option.{Option, none, some}
use Prim.Native.Nat.{ℕ, zero, suc, ◌+◌, ◌<◌, ◌≤◌}
use native.Mathlib.Omega.{arith}
use lib.Dec.{eqb}
use lib.ListN.{length, get_elem?, length-append}
use borrow.Author.Tests.{eqb-true, eqb-false}
use Rattle.common.proofs.AtLaws.{At, at-below, at_some, at-past, at_same, at-grown, at-cases, Grows, grows_none, grows_one, grows_then, grows_at}
use Rattle.common.proofs.BoolLaws.{either}
use Rattle.explore.specs.Frame.{Frame}
use Rattle.explore.specs.Search.{Entry, Verdict, safe, unsafe, atoms_full, rows_full, Visit, on, stop, tests, Pass, through, ended, pass, Found, walk, search}
use Rattle.explore.specs.Found.{Settled, never, within, Done, Linked, Rows, Met, Says}
use Rattle.explore.proofs.TestLaws.{Tested, impossible, is_bad, inside, too_wide, no_room, appended, tested, covered-grown, covered-end}

module _ (F : Frame) where
  -- ---- rows that grow

  settled-grows : {l m : List (Entry F)} (r : F.Row) (n : ℕ) → Grows l m → Settled F l r n → Settled F m r n
  settled-grows r n g (never e) = never e
  settled-grows {l} r n g (within o e b c) = within o e b (rw g.whole (covered-grown F l g.more o c))

  linked-grows : {l m : List (Entry F)} (n : ℕ) (e : Entry F) → Grows l m → Linked F l n e → Linked F m n e
  linked-grows n e g k =
      record {
        earlier = k.earlier;
        source = k.source;
        stands = grows_at e.parent k.source g k.stands;
        move = k.move;
        comes = k.comes;
        harmless = k.harmless;
        narrow = k.narrow;
      }

  -- One more, from row i, which stands there.
  rows_more : (room : ℕ) (first : Entry F) (l : List (Entry F)) (i j : ℕ) (d : Entry F) (o : F.Row) → Rows F room first l → At l i d → j < F.moves → F.outcome d.row j ≡ some o
      → F.bad o ≡ false → F.wide o ≡ false → length l < room → Rows F room first (l ++ (record { row = o; parent = i; move = j } ∷ []))
  rows_more room first l i j d o rs h m c b w f =
      record {
        starts = at-grown l _ 0 first rs.starts;
        few = omega (arith, length-append l (record { row = o; parent = i; move = j } ∷ []));
        linked = λ n e p k. go n e p (at-cases l (record { row = o; parent = i; move = j }) n e k);
      }
    where
      new : Entry F
      new = record { row = o; parent = i; move = j }

      here : Linked F (l ++ (record { row = o; parent = i; move = j } ∷ [])) (length l) (record { row = o; parent = i; move = j })
      here = record { earlier = at-below l i d h; source = d; stands = at-grown l _ i d h; move = m; comes = c; harmless = b; narrow = w }

      go : (n : ℕ) (e : Entry F) → 0 < n → At l n e ⊎ ((n ≡ length l) × (record { row = o; parent = i; move = j } ≡ e)) → Linked F (l ++ (record { row = o; parent = i; move = j } ∷ [])) n e
      go n e p (inl k) = linked-grows n e (grows_one l _) (rs.linked n e p k)
      go n e p (inr k) = subst (λ (x : ℕ). Linked F (l ++ (record { row = o; parent = i; move = j } ∷ [])) x e) (sym k.0) (subst (Linked F (l ++ (record { row = o; parent = i; move = j } ∷ [])) (length l)) k.1 here)

  -- What the tests of an outcome of row i go on with.
  abbrev pub Kept : ℕ → Entry F → List (Entry F) → Visit F → Type 0
  Kept room first l (on m) = Rows F room first m × Grows l m
  Kept room first l (stop v) = Unit {0}

  pub tests-kept : (room : ℕ) (first : Entry F) (l : List (Entry F)) (d : Entry F) (i j : ℕ) → Rows F room first l → At l i d → j < F.moves
      → Kept room first l (tests F room l i j (F.outcome d.row j))
  tests-kept room first l d i j rs h m = go (F.outcome d.row j) refl (tests F room l i j (F.outcome d.row j)) (tested F room l i j (F.outcome d.row j))
    where
      go : (u : Option F.Row) → F.outcome d.row j ≡ u → (v : Visit F) → Tested F room l i j u v → Kept room first l v
      go none c v impossible = (rs, grows_none l)
      go (some o) c v (is_bad b) = tt
      go (some o) c v (inside b x) = (rs, grows_none l)
      go (some o) c v (too_wide b x w) = tt
      go (some o) c v (no_room b x w n) = tt
      go (some o) c v (appended b x w n) = (rows_more room first l i j d o rs h m c b w n, grows_one l _)

  -- The first row alone.
  pub rows-first : (room : ℕ) (first : Entry F) → 0 < room → Rows F room first (first ∷ [])
  rows-first room first h = record { starts = refl; few = omega arith; linked = none-else }
    where
      none-else : (n : ℕ) (e : Entry F) → 0 < n → At (first ∷ []) n e → Linked F (first ∷ []) n e
      none-else n e p k = let b = at-below (first ∷ []) n e k in absurd (omega arith)

  -- A verdict that names a row and a move names one that is there.
  pub met-there : {l : List (Entry F)} {i j : ℕ} {P : F.Row → Type 0} → Met F l i j P → (i < length l) × (j < F.moves)
  met-there {l} {i} m = (at-below l i m.source m.stands, m.move)

  -- ---- the moves of a row

  -- One move more is settled.
  done_more : (l : List (Entry F)) (r : F.Row) (j : ℕ) → Done F l r j → Settled F l r j → Done F l r (j + 1)
  done_more l r j f s m h = go (either (eqb m j))
    where
      go : (eqb m j ≡ true) ⊎ (eqb m j ≡ false) → Settled F l r m
      go (inl e) = subst (Settled F l r) (sym (eqb-true m j e)) s
      go (inr e) = let n = eqb-false m j e in f m (omega arith)

  done-grows : {l m : List (Entry F)} (r : F.Row) (j : ℕ) → Grows l m → Done F l r j → Done F m r j
  done-grows r j g f n h = settled-grows r n g (f n h)

  -- What a pass over the moves of r leaves.
  data Passed (room : ℕ) (first : Entry F) (l : List (Entry F)) (r : F.Row) : Pass F → Type 0 where
    went : {m : List (Entry F)} → Rows F room first m → Grows l m → Done F m r F.moves → Passed room first l r (through m)
    met : {v : Verdict} {m : List (Entry F)} → Rows F room first m → Grows l m → Says F room m v → Passed room first l r (ended v m)

  passed_on : {room : ℕ} {first : Entry F} {k l : List (Entry F)} {r : F.Row} {p : Pass F} → Grows k l → Passed room first l r p → Passed room first k r p
  passed_on g (went rs h d) = went rs (grows_then g h) d
  passed_on g (met rs h s) = met rs (grows_then g h) s

  module _ (self : (r : F.Row) → F.contains r r ≡ true) where
    passed : (room : ℕ) (first : Entry F) (k : ℕ) (l : List (Entry F)) (d : Entry F) (i j : ℕ) → Rows F room first l → At l i d → Done F l d.row j → j + k ≡ F.moves
        → Passed room first l d.row (pass F room k l d.row i j)
    unfolding pass
    passed room first zero l d i j rs h f e = let z : j ≡ F.moves = omega arith in went rs (grows_none l) (subst (Done F l d.row) z f)
    passed room first (suc k) l d i j rs h f e =
        go (λ m. passed room first k m d i (j + 1)) (F.outcome d.row j) refl (tests F room l i j (F.outcome d.row j)) (tested F room l i j (F.outcome d.row j))
      where
        lt : j < F.moves
        lt = omega arith

        next : j + 1 + k ≡ F.moves
        next = omega arith

        go : ((m : List (Entry F)) → Rows F room first m → At m i d → Done F m d.row (j + 1) → j + 1 + k ≡ F.moves → Passed room first m d.row (pass F room k m d.row i (j + 1)))
            → (u : Option F.Row) → F.outcome d.row j ≡ u → (v : Visit F) → Tested F room l i j u v
            → Passed room first l d.row (elim v [ on m ↦ pass F room k m d.row i (j + 1) | stop w ↦ ended w l ])
        go rest none c v impossible = rest l rs h (done_more l d.row j f (never c)) next
        go rest (some o) c v (is_bad b) = met {v = unsafe i j} rs (grows_none l) (record { source = d; stands = h; move = lt; outcome = o; comes = c; meets = b })
        go rest (some o) c v (inside b x) = rest l rs h (done_more l d.row j f (within o c b x)) next
        go rest (some o) c v (too_wide b x w) = met {v = atoms_full i j} rs (grows_none l) (record { source = d; stands = h; move = lt; outcome = o; comes = c; meets = (b, x, w) })
        go rest (some o) c v (no_room b x w n) =
            met {v = rows_full i j} rs (grows_none l) (record { source = d; stands = h; move = lt; outcome = o; comes = c; meets = (b, x, w, omega (arith, rs.few)) })
        go rest (some o) c v (appended b x w n) =
            let new : Entry F = record { row = o; parent = i; move = j } in
            let g = grows_one l new in
            passed_on g (rest (l ++ (new ∷ [])) (rows_more room first l i j d o rs h lt c b w n) (at-grown l (new ∷ []) i d h)
            (done_more (l ++ (new ∷ [])) d.row j (done-grows d.row j g f) (within o c b (covered-end F l new (self o)))) next)

    -- ---- the rows

    -- The rows before i are settled.
    abbrev Past : List (Entry F) → ℕ → Type 0
    Past l i = (n : ℕ) (e : Entry F) → n < i → At l n e → Done F l e.row F.moves

    -- What holds of what the search finds.
    pub record Right (room : ℕ) (first : Entry F) (l : List (Entry F)) (f : Found F) : Type 0 where
      pub rows : Rows F room first f.rows
      pub grows : Grows l f.rows
      pub says : Says F room f.rows f.verdict

    past_more : (l m : List (Entry F)) (i : ℕ) (d : Entry F) → At l i d → Grows l m → Past l i → Done F m d.row F.moves → Past m (i + 1)
    past_more l m i d h g p f n e b k = go (either (eqb n i))
      where
        go : (eqb n i ≡ true) ⊎ (eqb n i ≡ false) → Done F m e.row F.moves
        go (inl x) = subst (λ (y : Entry F). Done F m y.row F.moves) (at_same m n d e (subst (λ (y : ℕ). At m y d) (sym (eqb-true n i x)) (grows_at i d g h)) k) f
        go (inr x) =
            let y = eqb-false n i x in
            let z = at-below l i d h in
            let q = at_some l n (omega arith) in
            subst (λ (y : Entry F). Done F m y.row F.moves) (at_same m n q.0 e (grows_at n q.0 g q.1) k) (done-grows q.0.row F.moves g (p n q.0 (omega arith) q.1))

    walked : (room : ℕ) (first : Entry F) (k : ℕ) (l : List (Entry F)) (i : ℕ) → Rows F room first l → Past l i → room ≤ i + k → Right room first l (walk F room k l i)
    unfolding walk
    walked room first zero l i rs p e = record { rows = rs; grows = grows_none l; says = λ n d h. let b = at-below l n d h in p n d (omega (arith, rs.few)) h }
    walked room first (suc k) l i rs p e = row (λ m. walked room first k m (i + 1)) (get_elem? l i) refl
      where
        next : room ≤ i + 1 + k
        next = omega arith

        after : ((m : List (Entry F)) → Rows F room first m → Past m (i + 1) → room ≤ i + 1 + k → Right room first m (walk F room k m (i + 1)))
            → (d : Entry F) → At l i d → (q : Pass F) → Passed room first l d.row q
            → Right room first l (elim q [ through m ↦ walk F room k m (i + 1) | ended v m ↦ record { verdict = v; rows = m } ])
        after rest d h q (went {m = m} rs g f) =
            let r = rest m rs (past_more l m i d h g p f) next in
            record { rows = r.rows; grows = grows_then g r.grows; says = r.says }
        after rest d h q (met rs g s) = record { rows = rs; grows = g; says = s }

        row : ((m : List (Entry F)) → Rows F room first m → Past m (i + 1) → room ≤ i + 1 + k → Right room first m (walk F room k m (i + 1)))
            → (u : Option (Entry F)) → get_elem? l i ≡ u
            → Right room first l (elim u [ none ↦ record { verdict = safe; rows = l } | some d ↦ elim (pass F room F.moves l d.row i 0) [ through m ↦ walk F room k m (i + 1) | ended v m ↦ record { verdict = v; rows = m } ] ])
        row rest none c =
            let b = at-past l i c in
            record { rows = rs; grows = grows_none l; says = λ n d h. let z = at-below l n d h in p n d (omega arith) h }
        row rest (some d) c =
            after rest d c (pass F room F.moves l d.row i 0) (passed room first F.moves l d i 0 rs c (λ m h. absurd (omega arith)) (omega arith))

    -- THE SEARCH: what it finds from a first row is right.
    pub search-right : (room : ℕ) (first : Entry F) → 0 < room → Right room first (first ∷ []) (search F room first)
    unfolding search
    search-right room first h = walked room first room (first ∷ []) 0 (rows-first room first h) (λ n e b. absurd (omega arith)) (omega arith)
