-- One move made, and one run word played.
use Rattle.std.specs.Prelude.{◌≡◌, Bool, List, ℕ, ◌+◌, Option, Some, None}
use Rattle.std.proofs.Math.Option as math
use Rattle.std.proofs.Math.Option.{none, some}
use Rattle.meaning.specs.Systems.{Move, Config}
use Rattle.table.specs.Systems.{system_of}
use Rattle.playing.specs.Play.{play_move, play_word}
use Rattle.replay.specs.Queues.{Queues, held}
use Rattle.replay.specs.declared.queues.Memory.{Memory}

-- The configuration in a state whose contents a memory holds.
abbrev pub config_in : ℕ → Memory → Config
config_in q x = record { state = q; contents = held x }

-- Where a word leads, with the contents it leaves.
abbrev pub arrived : Option ℕ → Memory → math.Option Config
arrived (Some q) x = some (config_in q x)
arrived None x = none

-- The move m, played from state q, has made the memory y of x.
pub record Moved (gone : Bool) (m : Move) (q : ℕ) (x y : Memory) (r : Option ℕ) : Type 0 where
  pub makes : arrived r y ≡ play_move gone m (config_in q x)
  pub queues : (n : ℕ) → Queues n x → Queues (n + 1) y

-- The word w, played from state q, has made the memory y of x.
pub record Turned (t : List ℕ) (w q : ℕ) (x y : Memory) (r : Option ℕ) : Type 0 where
  pub makes : arrived r y ≡ play_word (system_of t) w (config_in q x)
  pub queues : (n : ℕ) → Queues n x → Queues (n + 1) y
