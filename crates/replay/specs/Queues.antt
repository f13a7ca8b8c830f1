-- The channels' contents as local memory holds them.
use Rattle.std.specs.Prelude.{◌≡◌, Bool, true, false, ℕ, ◌+◌, ◌<◌, ◌≤◌, length}
use Rattle.std.proofs.Math.Option.{Option, none, some}
use Rattle.meaning.specs.Systems.{Contents, Operation, quiet, send, receive}
use Rattle.channels.specs.Contents.{head_of, tail_of, contents_in}
use Rattle.playing.specs.Play.{operated}
use Rattle.replay.specs.declared.queues.Memory.{Memory}

-- The memory is as long as it must be, and each channel has had at most n messages.
pub record Queues (n : ℕ) (x : Memory) : Type 0 where
  pub room : length x.store ≡ 8192
  pub pairs : length x.ends ≡ 8
  pub order : (c : ℕ) → c < 4 → head_of x.ends c ≤ tail_of x.ends c
  pub few : (c : ℕ) → c < 4 → tail_of x.ends c ≤ n

-- The contents that a memory holds.
abbrev pub held : Memory → Contents
held x = contents_in x.store x.ends

-- The contents where the operation can be done, nothing where it can't.
abbrev pub given : Bool → Contents → Option Contents
given true f = some f
given false f = none

-- Whether an operation's message can be marked lost.
abbrev pub can_lose : Operation → Bool
can_lose quiet = false
can_lose (send c m) = true
can_lose (receive c m) = false

-- An operation, done or not, has made the memory y of x.
pub record Done (gone : Bool) (o : Operation) (x y : Memory) (r : Bool) : Type 0 where
  pub makes : given r (held y) ≡ operated gone o (held x)
  pub queues : (n : ℕ) → Queues n x → Queues (n + 1) y
