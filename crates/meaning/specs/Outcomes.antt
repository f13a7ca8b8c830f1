-- The outcome of a move from a set of configurations (000, sections 2 and 6).
use Rattle.std.specs.Prelude.{◌≡◌, Bool, true, false, ℕ, eqb}
use Rattle.meaning.specs.Words.{◌⪯◌}
use Rattle.meaning.specs.Systems.{Operation, quiet, send, receive, Move, Config, Moves}

-- y remains of x when messages are lost: the same state, and in each channel a part of its word (004, section 5: ⪯ of global states).
pub record Remains (x y : Config) : Type 0 where
  pub state : y.state ≡ x.state
  pub words : (c : ℕ) → y.contents c ⪯ x.contents c

-- One round of a move: losses, the move, losses (000, section 2: the relation ⟹).
pub record Round (t : Move) (x y : Config) : Type 0 where
  pub ready : Config
  pub moved : Config
  pub early : Remains x ready
  pub moves : Moves t ready moved
  pub late : Remains moved y

-- Any number of rounds, from the move's source (000, corollary 6.4: the union over all j of j rounds).
pub data Rounds (t : Move) (x : Config) : Config → Type 0 where
  none : x.state ≡ t.source → Rounds t x x
  more : {y z : Config} → Rounds t x y → Round t y z → Rounds t x z

-- A send that stays in its state.
abbrev pub self_loop_send : Move → Bool
self_loop_send t = sends t.operation
  where
    sends : Operation → Bool
    sends quiet = false
    sends (send c m) = eqb t.source t.target
    sends (receive c m) = false

-- What a move takes x to: any number of rounds of a self-loop send, one round of any other.
pub data Leaves (t : Move) (x y : Config) : Type 0 where
  once : self_loop_send t ≡ false → Round t x y → Leaves t x y
  rounds : self_loop_send t ≡ true → Rounds t x y → Leaves t x y

-- The outcome of a move from a set of configurations (000, section 6.1: post, and section 6.2 for the self-loop send).
pub record Outcome (t : Move) (K : Config → Type 0) (y : Config) : Type 0 where
  pub from : Config
  pub inside : K from
  pub leaves : Leaves t from y
