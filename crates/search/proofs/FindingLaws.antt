-- What the search of a good table finds, in the words of the meaning.
use Rattle.std.proofs.Common.{◌≡◌, refl, sym, ap, subst, ◌∙◌, true, false, ◌⊎◌, inl, inr, List, Ok, ℕ, zero, suc, ◌*◌, ◌<◌, ◌≤◌, arith, length}
use Rattle.common.specs.First.{is_in}
use Rattle.common.proofs.AtLaws.{At, at_same}
use Rattle.common.proofs.BoolLaws.{either}
use Rattle.common.proofs.ChoiceLaws.{true-then, true-else, lt-else}
use Rattle.common.proofs.FirstLaws.{in-iff}
use Rattle.meaning.specs.Systems.{System, Config, start_of, Reachable, Bad}
use Rattle.table.specs.Systems.{GoodTable, system_of}
use Rattle.table.specs.declared.checks.Shape.{Shape}
use Rattle.table.proofs.GoodLaws.{few-transitions}
use Rattle.table.proofs.SystemLaws.{moves-length, well-made, few-messages}
use Rattle.rows.proofs.CoverLaws.{covers_self}
use Rattle.work.specs.Room.{room_of}
use Rattle.work.proofs.RoomLaws.{room-one}
use Rattle.explore.specs.Search.{Entry, Verdict, safe, unsafe, atoms_full, rows_full}
use Rattle.explore.specs.Search as explore
use Rattle.explore.specs.Found.{Rows, Says}
use Rattle.explore.proofs.WalkLaws.{search-right}
use Rattle.playing.specs.Play.{reaches_bad, replay}
use Rattle.playing.proofs.PlayLaws.{replay-bad}
use Rattle.findings.specs.Search.{frame_of, first_entry, bad_row}
use Rattle.findings.specs.Rebuild.{run_of}
use Rattle.findings.proofs.FindLaws.{run-reaches}
use Rattle.findings.proofs.LengthLaws.{run_short}
use Rattle.search.specs.Searching.{Result, unwritten, concluded, search_system, search_with, search_of}
use Rattle.search.specs.declared.searches.Verdict.TheVariants as verdict

module _ (t : List ℕ) (s : Shape) (g : GoodTable t s) where
  abbrev S : System
  S = system_of t

  -- No row is bad.
  abbrev NoneBad : List (Entry (frame_of S)) → Type 0
  NoneBad l = (n : ℕ) (e : Entry (frame_of S)) → At l n e → bad_row S e.row ≡ false

  -- What a result means, with room for so many rows. The rows are those made so far: row 0 is the start with empty channels, each other came from an
  -- earlier one by a move, and none is bad.
  pub data Finding (room : ℕ) : Result → Type 0 where
    -- The start is bad.
    bad_start : Bad S (start_of S) → Finding room (unwritten (Ok (verdict.Unsafe 0 0)))
    -- Safe: each move of each row is impossible, or its outcome is inside one row.
    closed : (l : List (Entry (frame_of S))) → Rows (frame_of S) room (first_entry S) l → NoneBad l → Says (frame_of S) room l safe → Finding room (concluded S l safe)
    -- Unsafe: the run, played by the plain rule from the start with empty channels, ends in a bad state, and it is no longer than it may be.
    reached : (l : List (Entry (frame_of S))) (i j : ℕ) → Rows (frame_of S) room (first_entry S) l → NoneBad l → replay S (run_of S l i j) ≡ reaches_bad (length (run_of S l i j))
        → length (run_of S l i j) ≤ 2 * room → (x : Config) × Reachable S x × Bad S x → Finding room (concluded S l (unsafe i j))
    -- The outcome of move j of row i is in no row, and too wide or without room.
    too_wide : (l : List (Entry (frame_of S))) (i j : ℕ) → Rows (frame_of S) room (first_entry S) l → NoneBad l → Says (frame_of S) room l (atoms_full i j) → Finding room (concluded S l (atoms_full i j))
    no_room : (l : List (Entry (frame_of S))) (i j : ℕ) → Rows (frame_of S) room (first_entry S) l → NoneBad l → Says (frame_of S) room l (rows_full i j) → Finding room (concluded S l (rows_full i j))

  few-moves : length S.moves < 32768
  few-moves = omega (arith, moves-length t s g, few-transitions t s g)

  none-bad : (room : ℕ) (l : List (Entry (frame_of S))) → is_in S.start S.bad ≡ false → Rows (frame_of S) room (first_entry S) l → NoneBad l
  none-bad room l b rs zero e a = subst (λ (x : Entry (frame_of S)). bad_row S x.row ≡ false) (at_same l 0 (first_entry S) e rs.starts a) b
  none-bad room l b rs (suc n) e a = (rs.linked (suc n) e (omega arith) a).harmless

  found-means : (room : ℕ) (l : List (Entry (frame_of S))) (v : Verdict) → is_in S.start S.bad ≡ false → Rows (frame_of S) room (first_entry S) l → Says (frame_of S) room l v
      → Finding room (concluded S l v)
  found-means room l safe b rs y = closed l rs (none-bad room l b rs) y
  found-means room l (unsafe i j) b rs y =
      let r = run-reaches S (well-made t s g) (few-messages t s g) few-moves room l rs i j y in
      reached l i j rs (none-bad room l b rs) r (run_short S (well-made t s g) room l rs i j y) (replay-bad S (run_of S l i j) (length (run_of S l i j)) r)
  found-means room l (atoms_full i j) b rs y = too_wide l i j rs (none-bad room l b rs) y
  found-means room l (rows_full i j) b rs y = no_room l i j rs (none-bad room l b rs) y

  system-means : (room : ℕ) → 0 < room → Finding room (search_system S room)
  unfolding search_system
  system-means room h = go (either (is_in S.start S.bad))
    where
      go : (is_in S.start S.bad ≡ true) ⊎ (is_in S.start S.bad ≡ false) → Finding room (search_system S room)
      go (inl b) = subst (Finding room) (true-then _ _ _ b refl) (bad_start ((in-iff S.start S.bad).0 b))
      go (inr b) =
          let r = search-right (frame_of S) (covers_self S.channels) room (first_entry S) h in
          let f = explore.search (frame_of S) room (first_entry S) in
          subst (Finding room) (true-else _ _ _ b refl) (found-means room f.rows f.verdict b r.rows r.says)

  -- THE SEARCH OF A GOOD TABLE, with enough words lent.
  pub search-means : (work run : ℕ) → 103 ≤ work → 2 * room_of work ≤ run → Finding (room_of work) (search_of t work run)
  unfolding search_of
  search-means work run h k =
      subst (Finding (room_of work)) (lt-else _ _ _ _ h (lt-else _ _ _ _ k refl) ∙ ap (search_with t work run) (sym g)) (system-means (room_of work) (room-one work h))
