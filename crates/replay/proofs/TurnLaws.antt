-- One move made, and one run word played on a good table.
use Rattle.std.proofs.Common.{◌≡◌, refl, ap, ◌∙◌, Bool, true, false, List, ℕ, ◌<◌, ◌≤◌, arith}
use Rattle.std.specs.Prelude.{Some, None}
use Rattle.std.specs.Prelude as std
use Rattle.std.proofs.Math.Option.{map}
use Rattle.common.proofs.AtLaws.{past-at}
use Rattle.common.proofs.ChoiceLaws.{eq-then, eq-else}
use Rattle.meaning.specs.Systems.{Move}
use Rattle.table.specs.Transitions.{transition_at, move_of}
use Rattle.table.specs.Systems.{GoodTable, system_of}
use Rattle.table.proofs.SystemLaws.{moves-length, move-at}
use Rattle.table.specs.declared.checks.Shape.{Shape}
use Rattle.table.specs.declared.transitions.Transition.{Transition}
use Rattle.playing.specs.Play.{number, lost, play_move, play_word}
use Rattle.replay.specs.Queues.{held, given, Done}
use Rattle.replay.specs.Turns.{arrived, Moved, Turned}
use Rattle.replay.specs.declared.queues.Memory.{Memory}
use Rattle.replay.proofs.QueueLaws.{stays}

-- ---- a move

module _ (g : Bool) (m : Move) (q : ℕ) (x : Memory) where
  -- It starts in another state.
  pub move-elsewhere : (q ≡ m.source → ⊥) → Moved g m q x x None
  unfolding play_move
  move-elsewhere n = record { makes = eq-else _ _ _ _ n refl; queues = stays x }

  module _ {y : Memory} {b : Bool} (d : Done g m.operation x y b) (a : q ≡ m.source) where
    -- By what its operation makes.
    move-made : (r : std.Option ℕ) → arrived r y ≡ map (λ f. record { state = m.target; contents = f }) (given b (held y)) → Moved g m q x y r
    unfolding play_move
    move-made r e = record { makes = eq-then _ _ _ _ a (e ∙ ap (map (λ f. record { state = m.target; contents = f })) d.makes); queues = d.queues }

    -- Its operation can be done, or not.
    pub move-to : b ≡ true → Moved g m q x y (Some m.target)
    move-to z = move-made (Some m.target) (rw z refl)

    pub move-stuck : b ≡ false → Moved g m q x y None
    move-stuck z = move-made None (rw z refl)

-- ---- a word

module _ (t : List ℕ) (h : Shape) (w q : ℕ) (x : Memory) (g : GoodTable t h) {i : ℕ} where
  -- There is no such transition.
  pub turn-past : i ≡ number w → h.transitions ≤ i → Turned t w q x x None
  unfolding play_word
  turn-past e l = record { makes = rw (past-at (system_of t).moves (number w) (let z = moves-length t h g in omega arith), play_word) refl; queues = stays x }

  -- There is one.
  pub turn-there : {y : Memory} {r : Transition} {u : std.Option ℕ} {b : Bool} → (i ≡ number w) × (b ≡ lost w) → i < h.transitions
      → r ≡ transition_at t i → Moved b (move_of r) q x y u → Turned t w q x y u
  unfolding play_word
  turn-there e l k m = record { makes = rw (← e.0, move-at t h g i l, ← e.1, ← k, play_word) m.makes; queues = m.queues }
