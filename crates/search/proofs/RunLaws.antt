-- The run, rebuilt from its end: the model from here on is the model from the start.
use Rattle.std.proofs.Common.{◌≡◌, refl, sym, ap, ◌∙◌, true, false, ◌⊎◌, inl, inr, List, [], ◌++◌, append-nil, ℕ, zero, suc, ◌+◌, ◌-◌, ◌*◌, ◌<◌, ◌≤◌, arith, ltb, length, drop, get_or, length-append, ltb-true, ltb-false}
pub use Rattle.std.proofs.Common.{length-take-le}
use Rattle.std.proofs.Math.Path.{fun_ext}
use Rattle.std.proofs.Math.Option.{Option, none, some}
use Rattle.common.specs.Front.{front}
use Rattle.common.proofs.BoolLaws.{either}
use Rattle.common.proofs.ChoiceLaws.{eq-then, eq-else}
use Rattle.common.proofs.PartLaws.{part_none, part_length}
use Rattle.meaning.specs.Systems.{System, Contents}
use Rattle.table.proofs.SystemLaws.{moves-length, well-made}
use Rattle.channels.proofs.ContentsLaws.{contents-at, contents-past}
use Rattle.work.specs.Room.{room_of}
use Rattle.work.proofs.RoomLaws.{room-few}
use Rattle.explore.specs.Search.{Entry}
use Rattle.findings.specs.Search.{frame_of}
use Rattle.findings.specs.Rebuild.{Back, back_over, rebuilt}
use Rattle.findings.proofs.LengthLaws.{size, size_none, over-small}
use Rattle.back.specs.declared.moves.Rebuilding.{Rebuilding}
use Rattle.back.specs.declared.needs.Needs.{Needs}
use Rattle.back.specs.declared.tails.Tail.{Tail}
use Rattle.back.specs.Needs.{needed, Needed, standing, Went}
use Rattle.back.proofs.MoveLaws.{needed-more}
use Rattle.search.specs.Runs.{system_at, rows_at, run_to}
use Rattle.search.specs.declared.runs.LastVisit.{LastVisit}
use Rattle.search.proofs.StandingLaws.{entry-there}

-- ---- nothing is needed at first

needed-empty : (q : Needs) → Needed 0 q → needed q ≡ (λ c. [])
needed-empty q k = fun_ext (λ c. go c (either (ltb c 4)))
  where
    go : (c : ℕ) → (ltb c 4 ≡ true) ⊎ (ltb c 4 ≡ false) → needed q c ≡ []
    go c (inl h) =
        let l = ltb-true c 4 h in
        let a = k.high c l in
        let b = k.low c l in
        contents-at q.store q.ends c l ∙ part_none _ _ q.store (omega arith)
    go c (inr h) = contents-past q.store q.ends c (ltb-false c 4 h)

pub standing-length : (v : Tail) → length (standing v) ≡ 2048 - v.at
standing-length v = part_length v.at 2048 v.words (omega (arith, v.full))

-- How long the words that stand are, and a part of the run buffer that is as long.
pub ruleset run_lengths = (standing-length, length-take-le)

-- ---- from the row of the last visit back to row 0

module _ (x : LastVisit) where
  abbrev S : System
  S = system_at x

  abbrev l : List (Entry (frame_of S))
  l = rows_at x

  -- Before row n the run of a is rebuilt as far as r.
  pub record Backing (a r : Rebuilding) (n : ℕ) : Type 0 where
    pub fuel : ℕ
    pub enough : n ≤ fuel
    pub few : fuel ≤ x.end.row
    pub few_needed : Needed (1 + (x.end.row - fuel)) r.needs
    pub room_left : 2048 + size S.channels (needed r.needs) + 2 * n ≤ r.run.at + 2 * room_of (length x.words.now)
    pub same : rebuilt S x.end.row l x.end.row (needed a.needs) (standing a.run) ≡ rebuilt S fuel l n (needed r.needs) (standing r.run)

  -- What a turn asks of move j.
  pub record Turn (r : Rebuilding) (j : ℕ) : Type 0 where
    pub move : j < x.table.now.shape.transitions
    pub few_needed : Needed 2047 r.needs
    pub room : length (back_over S j (needed r.needs)).words ≤ r.run.at

  module _ (a r : Rebuilding) (n : ℕ) (k : Backing a r n) where
    there : n < x.end.rows
    there = omega (arith, k.enough, k.few, x.there.0)

    module _ (z : 0 < n) where
      earlier : (m : ℕ) → m ≡ get_or x.words.now (103 * n + 1) 0 → m < n
      earlier m y = omega (arith, y, x.leads_back.earlier n z there)

      module _ (j : ℕ) (moved : j ≡ get_or x.words.now (103 * n + 2) 0) where
        abbrev over : Back
        over = back_over S j (needed r.needs)

        small : length over.words + size S.channels over.before ≤ size S.channels (needed r.needs) + 2
        small = over-small S (well-made x.table.now.bytes.now x.table.now.shape x.table.now.good) j (needed r.needs)

        pub turn : Turn r j
        turn =
            let u = room-few (length x.words.now) in
            let d = x.leads_back.few in
            let e = there in
            record {
              move = omega (arith, moved, x.leads_back.moves n z there, moves-length x.table.now.bytes.now x.table.now.shape x.table.now.good);
              few_needed = needed-more (1 + (x.end.row - k.fuel)) 2047 r.needs k.few_needed (omega arith);
              room = omega (arith, small, k.room_left);
            }

        module _ (r' : Rebuilding) (m : ℕ) (y : m ≡ get_or x.words.now (103 * n + 1) 0) (d : Went over r r') where
          -- As many places are left as the words leave.
          places : r'.run.at + length over.words ≡ r.run.at
          places =
              let b : length (standing r'.run) ≡ length (over.words ++ standing r.run) = ap length d.words in
              omega (arith, length-append over.words (standing r.run), standing-length r.run, standing-length r'.run, d.place, r.run.within)

          -- One move more is rebuilt.
          gone_back : rebuilt S k.fuel l n (needed r.needs) (standing r.run) ≡ rebuilt S (k.fuel - 1) l m (needed r'.needs) (standing r'.run)
          unfolding rebuilt
          gone_back =
              let b : k.fuel ≡ suc (k.fuel - 1) = omega (arith, k.enough) in
              ap (λ (i : ℕ). rebuilt S i l n (needed r.needs) (standing r.run)) b
              ∙ sym (eq-else _ _ _ _ (λ i. omega arith) refl)
              ∙ ap (λ (e : Option (Entry (frame_of S))). elim e as (λ d. List ℕ) [ none ↦ standing r.run | some d ↦ rebuilt S (k.fuel - 1) l d.parent (back_over S d.move (needed r.needs)).before ((back_over S d.move (needed r.needs)).words ++ standing r.run) ])
              (entry-there S x.words.now x.end.rows n there)
              ∙ ap (λ (i : ℕ). rebuilt S (k.fuel - 1) l (get_or x.words.now (103 * n + 1) 0) (back_over S i (needed r.needs)).before ((back_over S i (needed r.needs)).words ++ standing r.run)) (sym moved)
              ∙ ap (λ (i : ℕ). rebuilt S (k.fuel - 1) l i over.before (over.words ++ standing r.run)) (sym y)
              ∙ ap (λ (f : Contents). rebuilt S (k.fuel - 1) l m f (over.words ++ standing r.run)) (sym d.before)
              ∙ ap (rebuilt S (k.fuel - 1) l m (needed r'.needs)) (sym d.words)

          pub backing-on : Backing a r' m
          backing-on =
              let b = k.enough in
              let c = k.few in
              let e = earlier m y in
              record {
                fuel = k.fuel - 1;
                enough = omega arith;
                few = omega arith;
                few_needed = needed-more (1 + (x.end.row - k.fuel) + 1) (1 + (x.end.row - (k.fuel - 1))) r'.needs (d.keeps (1 + (x.end.row - k.fuel)) k.few_needed) (omega arith);
                room_left = omega (arith, small, places, k.room_left, ap (size S.channels) d.before);
                same = k.same ∙ gone_back;
              }

    -- Row 0: nothing is left to go back over.
    pub backing-ends : n ≤ 0 → standing r.run ≡ rebuilt S x.end.row l x.end.row (needed a.needs) (standing a.run)
    unfolding rebuilt
    backing-ends z = sym (k.same ∙ go k.fuel)
      where
        go : (i : ℕ) → rebuilt S i l n (needed r.needs) (standing r.run) ≡ standing r.run
        go zero = refl
        go (suc i) = sym (eq-then _ _ _ _ (omega arith) refl)

  -- ---- the last move, before which every channel is empty

  module _ (r : Rebuilding) (k : Needed 0 r.needs) (e : r.run.at ≡ 2048) where
    abbrev final : Back
    final = back_over S x.end.transition (needed r.needs)

    -- Its words and what is needed before it are at most two.
    last-small : length final.words + size S.channels final.before ≤ 2
    last-small =
        let a = over-small S (well-made x.table.now.bytes.now x.table.now.shape x.table.now.good) x.end.transition (needed r.needs) in
        let b : size S.channels (needed r.needs) ≡ 0 = ap (size S.channels) (needed-empty r.needs k) ∙ size_none S.channels in
        omega arith

    pub last-room : length final.words ≤ r.run.at
    last-room = omega (arith, last-small)

    module _ (r' : Rebuilding) (d : Went final r r') where
      last-words : standing r'.run ≡ final.words
      last-words = d.words ∙ ap (final.words ++◌) (part_none r.run.at 2048 r.run.words (omega arith)) ∙ append-nil final.words

      pub last-left : 2048 + size S.channels (needed r'.needs) + 2 * x.end.row ≤ r'.run.at + 2 * room_of (length x.words.now)
      last-left =
          let a : length (standing r'.run) ≡ length final.words = ap length last-words in
          omega (arith, standing-length r'.run, last-small, ap (size S.channels) d.before, r'.run.within, x.there.0, x.leads_back.few)

      pub last-run : rebuilt S x.end.row l x.end.row (needed r'.needs) (standing r'.run) ≡ run_to x
      last-run =
          ap (λ (f : Contents). rebuilt S x.end.row l x.end.row f (standing r'.run)) d.before ∙ ap (rebuilt S x.end.row l x.end.row final.before) last-words
          ∙ ap (λ (f : Contents). rebuilt S x.end.row l x.end.row (back_over S x.end.transition f).before (back_over S x.end.transition f).words) (needed-empty r.needs k)

-- ---- the run in the run buffer

pub run-written : (xs us run ys : List ℕ) → xs ≡ us → ys ≡ xs → ys ++ drop (length xs) run ≡ front us run
unfolding front
run-written xs us run ys e f = rw (f, e)
