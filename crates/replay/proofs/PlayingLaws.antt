-- All words, played on a good table: what the words play to from here is what they play to from the start.
use Rattle.std.proofs.Common.{◌≡◌, refl, sym, ap, ◌∙◌, Bool, true, false, List, ℕ, ◌+◌, ◌<◌, ◌≤◌, length, get_or, drop}
use Rattle.std.specs.Prelude.{Option, Some, None}
use Rattle.std.proofs.Math.Option.{none, some}
use Rattle.std.proofs.lemmas.List.{drop_more, drop_all}
use Rattle.common.specs.First.{is_in}
use Rattle.common.proofs.ChoiceLaws.{true-then, true-else}
use Rattle.meaning.specs.Systems.{Config, start_of}
use Rattle.table.specs.Systems.{GoodTable, bad_state, system_of}
use Rattle.table.proofs.SystemLaws.{start_is, bads-are}
use Rattle.table.specs.declared.checks.Shape.{Shape}
use Rattle.playing.specs.Play.{Played, stuck_at, ends_in, play, judge_end, replay}
use Rattle.replay.specs.Queues.{Queues}
use Rattle.replay.specs.Turns.{config_in, arrived, Turned}
use Rattle.replay.specs.Replaying.{found}
use Rattle.replay.specs.declared.queues.Memory.{Memory}
use Rattle.replay.specs.declared.replays.Ending.TheVariants.{Stuck, Elsewhere, Bad}
use Rattle.replay.proofs.QueueLaws.{queues-empty}

-- The table's test for bad is that of the system.
bad-same : (t : List ℕ) (h : Shape) (g : GoodTable t h) (q : ℕ) → is_in q (system_of t).bad ≡ bad_state t h q
unfolding bad_state
bad-same t h g q = rw (bads-are t h g) refl

-- ---- the loop

-- The words before number `step` are played: they lead to state q and these contents.
pub record Playing (t run : List ℕ) (x : Memory) (q step : ℕ) : Type 0 where
  pub queues : Queues step x
  pub same : play (system_of t) run (start_of (system_of t)) 0 ≡ play (system_of t) (drop step run) (config_in q x) step

pub playing-starts : (t : List ℕ) (h : Shape) (run : List ℕ) (x : Memory) → GoodTable t h → Queues 0 x → Playing t run x h.start 0
playing-starts t h run x g q =
    record {
      queues = q;
      same = ap (λ (y : Config). play (system_of t) run y 0) (λ i. record { state = start_is t h g i; contents = sym (queues-empty x q) i });
    }

module _ (t run : List ℕ) (x : Memory) (q step : ℕ) (p : Playing t run x q step) where
  module _ (l : step < length run) (y : Memory) (r : Option ℕ) (d : Turned t (get_or run step 0) q x y r) where
    -- By where the next word leads.
    next : play (system_of t) run (start_of (system_of t)) 0
        ≡ (elim (arrived r y) as (λ o. Played) [ none ↦ stuck_at step | some z ↦ play (system_of t) (drop (step + 1) run) z (step + 1) ])
    unfolding play
    next = p.same ∙ ap (λ (ws : List ℕ). play (system_of t) ws (config_in q x) step) (drop_more run step 0 l) ∙ rw (← d.makes, play) refl

    pub playing-on : (q' : ℕ) → r ≡ Some q' → Playing t run y q' (step + 1)
    playing-on q' z = record { queues = d.queues step p.queues; same = rw z at next }

    pub playing-stuck : r ≡ None → Stuck step ≡ found (replay (system_of t) run)
    unfolding replay
    playing-stuck z = ap (λ (o : Played). found (judge_end (system_of t) (length run) o)) (sym (rw z at next))

  module _ (h : Shape) (g : GoodTable t h) (l : length run ≤ step) where
    ended : replay (system_of t) run ≡ judge_end (system_of t) (length run) (ends_in (config_in q x))
    unfolding replay play
    ended = ap (judge_end (system_of t) (length run)) (p.same ∙ ap (λ (ws : List ℕ). play (system_of t) ws (config_in q x) step) (drop_all step run l))

    pub playing-bad : (b : Bool) → b ≡ bad_state t h q → b ≡ true → Bad (length run) ≡ found (replay (system_of t) run)
    playing-bad b k z = ap found (true-then _ _ _ (bad-same t h g q ∙ sym k ∙ z) refl ∙ sym ended)

    pub playing-elsewhere : (b : Bool) → b ≡ bad_state t h q → b ≡ false → Elsewhere q ≡ found (replay (system_of t) run)
    playing-elsewhere b k z = ap found (true-else _ _ _ (bad-same t h g q ∙ sym k ∙ z) refl ∙ sym ended)
