-- Runs whose losses happen only at sends: a message is lost at once, or it stays until it is received. These are the runs that run words tell.
use Rattle.std.specs.Prelude.{◌≡◌, ℕ, zero, suc}
use mathlib.Core.List.{[], Memᴰ}
use Rattle.meaning.specs.Systems.{send, Move, System, Config, Moves, Loses}

-- The move t sends a message behind all that its channel holds, and that message is lost at once.
pub record LostAtOnce (t : Move) (x y : Config) : Type 0 where
  pub channel : ℕ
  pub message : ℕ
  pub sends : t.operation ≡ send channel message
  pub between : Config
  pub moves : Moves t x between
  pub loses : Loses between y
  pub there : loses.channel ≡ channel
  pub others : loses.before ≡ x.contents channel
  pub last : loses.behind ≡ []

-- n moves of the system from x, each plain or a send whose message is lost at once.
pub data SendRun (S : System) (x : Config) : ℕ → Config → Type 0 where
  stay : SendRun S x zero x
  moves : {n : ℕ} {y z : Config} → SendRun S x n y → (t : Move) → Memᴰ t S.moves → Moves t y z → SendRun S x (suc n) z
  loses : {n : ℕ} {y z : Config} → SendRun S x n y → (t : Move) → Memᴰ t S.moves → LostAtOnce t y z → SendRun S x (suc n) z
