-- The rows that the words of the work table tell: each is a row of the table, in normal form and with at most 24 atoms in a product; and words that hold
-- rows tell just these.
use Rattle.std.proofs.Common.{◌≡◌, refl, sym, ap, subst, ◌∙◌, true, false, ◌⊎◌, inl, inr, List, [], ◌∷◌, ◌++◌, ℕ, zero, suc, ◌+◌, ◌-◌, ◌*◌, ◌<◌, ◌≤◌, arith, ltb, length, get_or, drop, length-append, drop-drop, ltb-true, ltb-false}
use Rattle.std.proofs.Math.Path.{fun_ext}
use Rattle.std.proofs.Math.ListN.{length-map}
use Rattle.common.specs.Front.{front}
use Rattle.common.specs.First.{any_of}
use Rattle.common.proofs.AtLaws.{At, at-below, at_map, at_same, grows_none, grows_at, grows_then}
use Rattle.common.proofs.BoolLaws.{either}
use Rattle.common.proofs.ChoiceLaws.{lt-else}
use Rattle.common.proofs.EachLaws.{at_each}
use Rattle.common.proofs.FrontLaws.{front-behind, front-again}
use Rattle.meaning.specs.Systems.{System, WellMade}
use Rattle.rows.specs.Rows.{Row, covers}
use Rattle.rows.specs.Look as look
use Rattle.rows.proofs.NormalLaws.{Normals}
use Rattle.work.specs.Layout.{Stored, all_words, count_place, Narrow, NarrowRows, Holds}
use Rattle.work.specs.Room.{room_of}
pub use Rattle.work.proofs.RoomLaws.{room_fits, room-few}
use Rattle.work.proofs.LayoutLaws.{all-length, held-state, held-parent, held_move, held-count, held-atoms}
use Rattle.explore.specs.Search.{Entry, covered}
use Rattle.explore.specs.Found.{Rows}
use Rattle.findings.specs.Search.{frame_of, first_entry}
use Rattle.findings.proofs.RowLaws.{entry-row-of, entry-normal, entry-narrow}
use Rattle.outcome.specs.Look.{product_at, row_at, rows_at, covered_in, Sized}
use Rattle.outcome.proofs.LookLaws.{product-there}
use Rattle.search.specs.Standing.{entry_at, entries_at, entries, stored_of, stored, Standing, LeadBack, Grown}

module _ (S : System) where
  entries-length : (w : List ℕ) (k i : ℕ) → length (entries_at S w k i) ≡ k
  unfolding entries_at
  entries-length w zero i = refl
  entries-length w (suc k) i = ap suc (entries-length w k (i + 1))

  entries-at : (w : List ℕ) (k i m n : ℕ) → m < k → i + m ≡ n → At (entries_at S w k i) m (entry_at S w n)
  unfolding entries_at
  entries-at w zero i m n h e = absurd (omega arith)
  entries-at w (suc k) i zero n h e = let z : i ≡ n = omega arith in rw z
  entries-at w (suc k) i (suc m) n h e = entries-at w k (i + 1) m n (omega arith) (omega arith)

  pub entries-count : (w : List ℕ) (rows : ℕ) → length (entries S w rows) ≡ rows
  entries-count w rows = entries-length w rows 0

  -- How many rows stand, and that they fit.
  pub ruleset row_counts = (entries-count, room_fits, room-few)

  pub entry-there : (w : List ℕ) (rows i : ℕ) → i < rows → At (entries S w rows) i (entry_at S w i)
  entry-there w rows i h = entries-at w rows 0 i i h (omega arith)

  -- Rows that stand lead back to row 0.
  pub leads_back : (room : ℕ) (w : List ℕ) (rows : ℕ) → Standing S room w rows → room ≡ room_of (length w) → LeadBack S w rows
  leads_back room w rows st e =
      record {
        few = omega (arith, st.made.few, entries-count w rows);
        earlier = λ n z h. (st.made.linked n (entry_at S w n) z (entry-there w rows n h)).earlier;
        moves = λ n z h. (st.made.linked n (entry_at S w n) z (entry-there w rows n h)).move;
      }

  -- The look over the words is the look over the rows that they tell.
  looked : (w : List ℕ) (o : Row) (k i : ℕ) → any_of (λ s. covers S.channels s o) (rows_at w k i) ≡ any_of (λ e. covers S.channels e.row o) (entries_at S w k i)
  unfolding look.rows_from entries_at any_of
  looked w o zero i = refl
  looked w o (suc k) i = rw (looked w o k (i + 1))

  pub look_is : (w : List ℕ) (rows : ℕ) (o : Row) → covered_in S.channels w rows o ≡ covered (frame_of S) (entries S w rows) o
  unfolding look.covered_in covered
  look_is w rows o = looked w o rows 0

  -- A list is told by words that tell each of its rows.
  all_told : (w : List ℕ) (l : List (Entry (frame_of S))) (i : ℕ) → ((n : ℕ) (e : Entry (frame_of S)) → At l n e → entry_at S w (i + n) ≡ e) → entries_at S w (length l) i ≡ l
  unfolding entries_at
  all_told w [] i f = refl
  all_told w (e ∷ l) i f =
      let z : i + 0 ≡ i = omega arith in
      let a : entry_at S w i ≡ e = ap (entry_at S w) (sym z) ∙ f zero e refl in
      rw (a, all_told w l (i + 1) (λ n d h. let y : i + 1 + n ≡ i + suc n = omega arith in ap (entry_at S w) y ∙ f (suc n) d h))

  entry-is : (e : Entry (frame_of S)) (s : ℕ) (p : ℕ → List ℕ) (a m : ℕ) → s ≡ e.row.state → p ≡ e.row.products → a ≡ e.parent → m ≡ e.move
      → record { row = record { state = s; products = p }; parent = a; move = m } ≡ e
  entry-is e s p a m h i j k = rw (h, i, j, k)

  -- Nothing was appended.
  pub grown-none : (room : ℕ) (w : List ℕ) (rows : ℕ) → Standing S room w rows → Grown S room w rows w rows
  grown-none room w rows st = record { standing = st; grows = grows_none (entries S w rows); behind = refl }

  -- A row that was there is there still, and so is their number.
  module _ (room : ℕ) (w v : List ℕ) (rows n : ℕ) (g : Grown S room w rows v n) where
    pub grown-there : (i : ℕ) → i < rows → i < n
    grown-there i h = omega (arith, at-below (entries S v n) i (entry_at S w i) (grows_at i (entry_at S w i) g.grows (entry-there w rows i h)), entries-count v n)

    pub grown-row : (i : ℕ) → i < rows → row_at v i ≡ row_at w i
    grown-row i h =
        ap (λ (e : Entry (frame_of S)). e.row)
        (at_same (entries S v n) i (entry_at S v i) (entry_at S w i) (entry-there v n i (grown-there i h)) (grows_at i (entry_at S w i) g.grows (entry-there w rows i h)))

  -- Rows that grew twice.
  module _ (room : ℕ) (w v u : List ℕ) (rows n k : ℕ) (g : Grown S room w rows v n) (f : Grown S room v n u k) where
    more : n ≤ k
    more =
        let a : length (entries S u k) ≡ length (entries S v n ++ f.grows.more) = ap length f.grows.whole in
        omega (arith, length-append (entries S v n) f.grows.more, entries-count v n, entries-count u k)

    pub grown-then : Grown S room w rows u k
    grown-then =
        let z : 103 * n + (103 * k - 103 * n) ≡ 103 * k = omega (arith, more) in
        record {
          standing = f.standing;
          grows = grows_then g.grows f.grows;
          behind =
              f.behind
              ∙ subst (λ (m : ℕ). drop m v ≡ drop m w) z
              (sym (drop-drop (103 * k - 103 * n) (103 * n) v) ∙ ap (drop (103 * k - 103 * n)) g.behind ∙ drop-drop (103 * k - 103 * n) (103 * n) w);
        }

  product-past : (w : List ℕ) (i c : ℕ) → 4 ≤ c → product_at w i c ≡ []
  unfolding product_at
  product-past w i c h = sym (lt-else _ _ _ _ h refl)

  module _ (wm : WellMade S) (k15 : S.messages ≤ 15) (c4 : S.channels ≤ 4) (room : ℕ) where
    -- ---- rows of the search, as the work table stores them

    module _ (l : List (Entry (frame_of S))) (rs : Rows (frame_of S) room (first_entry S) l) where
      pub narrow-rows : NarrowRows (stored S l)
      narrow-rows =
          at_each (λ (x : Stored). Narrow x.row) (stored S l)
          (λ n x h. let a = (at_map (stored_of S) l n x).0 h in subst (λ (y : Stored). Narrow y.row) a.2 (entry-narrow S wm k15 room l rs n a.0 a.1))

      -- In words that hold them, row n is told.
      module _ (v z : List ℕ) (h : Holds v (stored S l) z) (n : ℕ) (e : Entry (frame_of S)) (a : At l n e) where
        there : At (stored S l) n (stored_of S e)
        there = (at_map (stored_of S) l n (stored_of S e)).1 (e, a, refl)

        pub count-is : (c : ℕ) → c < 4 → get_or v (count_place n c) 0 ≡ length (e.row.products c)
        count-is c k = held-count v (stored S l) z n (stored_of S e) h narrow-rows there c k

        product_is : (c : ℕ) → product_at v n c ≡ e.row.products c
        product_is c = go (either (ltb c 4))
          where
            go : (ltb c 4 ≡ true) ⊎ (ltb c 4 ≡ false) → product_at v n c ≡ e.row.products c
            go (inl q) =
                let k = ltb-true c 4 q in
                sym (product-there v n c (length (e.row.products c)) k (sym (count-is c k))) ∙ held-atoms v (stored S l) z n (stored_of S e) h narrow-rows there c k
            go (inr q) =
                let k = ltb-false c 4 q in
                product-past v n c k ∙ sym ((entry-row-of S wm k15 room l rs n e a).none_past c (omega arith))

        told : entry_at S v n ≡ e
        told =
            entry-is e _ _ _ _
            (held-state v (stored S l) z n (stored_of S e) h narrow-rows there)
            (fun_ext product_is)
            (held-parent v (stored S l) z n (stored_of S e) h narrow-rows there)
            (held_move v (stored S l) z n (stored_of S e) h narrow-rows there)

      pub words-length : length (all_words (stored S l)) ≡ 103 * length l
      words-length = all-length (stored S l) narrow-rows ∙ ap (λ (n : ℕ). 103 * n) (length-map l (stored_of S))

      -- Words v that hold the rows l in front of what w has tell them, and stand.
      pub record Told (w v : List ℕ) (n : ℕ) : Type 0 where
        pub rows : entries S v n ≡ l
        pub standing : Standing S room v n
        pub behind : drop (103 * n) v ≡ drop (103 * n) w

      pub tells : (w v : List ℕ) (n : ℕ) → Holds v (stored S l) w → length l ≡ n → Told w v n
      tells w v n h k =
          record {
            rows = same;
            standing = record { made = subst (Rows (frame_of S) room (first_entry S)) (sym same) rs; laid = subst (λ (x : List (Entry (frame_of S))). Holds v (stored S x) v) (sym same) again };
            behind = subst (λ (x : ℕ). drop x v ≡ drop x w) (words-length ∙ ap (λ (m : ℕ). 103 * m) k) (ap (drop (length (all_words (stored S l)))) h ∙ front-behind (all_words (stored S l)) w);
          }
        where
          same : entries S v n ≡ l
          same = ap (entries S v) (sym k) ∙ all_told v l 0 (λ m e a. let z : 0 + m ≡ m = omega arith in ap (entry_at S v) z ∙ told v w h m e a)

          again : Holds v (stored S l) v
          again = h ∙ sym (front-again (all_words (stored S l)) w) ∙ ap (front (all_words (stored S l))) (sym h)

    -- ---- words that stand

    module _ (w : List ℕ) (rows : ℕ) (st : Standing S room w rows) where
      pub standing-there : 103 * rows ≤ length w
      unfolding front
      standing-there =
          let xs = all_words (stored S (entries S w rows)) in
          let a : length xs ≡ 103 * length (entries S w rows) = words-length (entries S w rows) st.made in
          let c : length w ≡ length (xs ++ drop (length xs) w) = ap length st.laid in
          omega (arith, entries-count w rows, length-append xs (drop (length xs) w))

      pub standing-sized : Sized w rows
      standing-sized =
          record {
            there = standing-there;
            counts = λ i c h k.
                let e = entry-there w rows i h in
                let a = count-is (entries S w rows) st.made w w st.laid i (entry_at S w i) e c k in
                let b = entry-narrow S wm k15 room (entries S w rows) st.made i (entry_at S w i) e c in
                omega arith;
          }

      pub standing-normal : (i : ℕ) → i < rows → Normals (product_at w i)
      standing-normal i h = entry-normal S wm k15 room (entries S w rows) st.made i (entry_at S w i) (entry-there w rows i h)
