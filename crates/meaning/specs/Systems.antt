-- Systems with lossy channels, their steps and their runs (004, section 2).
use Rattle.std.specs.Prelude.{◌≡◌, cond, ℕ, ◌<◌, eqb}
use mathlib.Core.List.{List, [], ◌∷◌, ◌++◌, Memᴰ}
use Rattle.meaning.specs.Words.{Word}

-- What a move does: nothing to the channels, a send on a channel of a message, or a receive (004, definition 2.1: a, c!m, c?m).
pub data Operation : Type 0 where
  quiet : Operation
  send : ℕ → ℕ → Operation
  receive : ℕ → ℕ → Operation

-- A move from a control state to a control state (004, definition 2.1: ⟨s₁, op, s₂⟩).
pub record Move : Type 0 where
  pub source : ℕ
  pub target : ℕ
  pub operation : Operation

-- A system: how many control states, channels and messages it has, its start state, its moves, and the states that must not be reached
-- (004, definition 2.1; bad states: section 4).
pub record System : Type 0 where
  pub states : ℕ
  pub channels : ℕ
  pub messages : ℕ
  pub start : ℕ
  pub moves : List Move
  pub bad : List ℕ

-- The operation's channel and message are among n channels and k messages.
abbrev pub Ranged : ℕ → ℕ → Operation → Type 0
Ranged n k quiet = Unit {0}
Ranged n k (send c m) = (c < n) × (m < k)
Ranged n k (receive c m) = (c < n) × (m < k)

-- The move goes from one of the system's states to another, on one of its channels, with one of its messages.
pub record MoveOf (S : System) (t : Move) : Type 0 where
  pub source : t.source < S.states
  pub target : t.target < S.states
  pub operation : Ranged S.channels S.messages t.operation

-- Start, moves and bad states are the system's own (004, definition 2.1: s₀ ∈ S, c ∈ C, m ∈ M).
pub record WellMade (S : System) : Type 0 where
  pub start : S.start < S.states
  pub moves : (t : Move) → Memᴰ t S.moves → MoveOf S t
  pub bad : (s : ℕ) → Memᴰ s S.bad → s < S.states

-- What the channels hold: a word for each (004, section 2: a string vector).
abbrev pub Contents : Type 0
Contents = ℕ → Word

-- f with v at c, all else as it was (004, section 2: w[c := x]).
unfoldable pub put : {A : Type 0} → (ℕ → A) → ℕ → A → ℕ → A
put f c v d = cond (eqb d c) v (f d)

-- A configuration: a control state and the channels' contents (004, section 2: a global state).
pub record Config : Type 0 where
  pub state : ℕ
  pub contents : Contents

-- The operation makes g of f: a send appends, a receive needs its message at the head and takes it (004, section 2, cases 1, 2, 4).
abbrev pub Operates : Operation → Contents → Contents → Type 0
Operates quiet f g = g ≡ f
Operates (send c m) f g = g ≡ put f c (f c ++ (m ∷ []))
Operates (receive c m) f g = f ≡ put g c (m ∷ g c)

-- The move t takes x to y.
pub record Moves (t : Move) (x y : Config) : Type 0 where
  pub source : x.state ≡ t.source
  pub target : y.state ≡ t.target
  pub operates : Operates t.operation x.contents y.contents

-- One message of one channel is lost, wherever it stands, and all else stays (004, section 2, case 3).
pub record Loses (x y : Config) : Type 0 where
  pub channel : ℕ
  pub before : Word
  pub message : ℕ
  pub behind : Word
  pub held : x.contents channel ≡ before ++ (message ∷ behind)
  pub stays : y.state ≡ x.state
  pub left : y.contents ≡ put x.contents channel (before ++ behind)

-- A step: one of the system's moves, or a loss (004, section 2: the relation ⟶).
pub data Step (S : System) (x y : Config) : Type 0 where
  moves : (t : Move) → Memᴰ t S.moves → Moves t x y → Step S x y
  loses : Loses x y → Step S x y

-- A run: any finite number of steps (004, section 2).
pub data Run (S : System) (x : Config) : Config → Type 0 where
  stay : Run S x x
  step : {y z : Config} → Run S x y → Step S y z → Run S x z

-- The start state with every channel empty (004, section 2: the initial global state).
abbrev pub start_of : System → Config
start_of S = record { state = S.start; contents = λ c. [] }

-- Some run from the start ends in x.
abbrev pub Reachable : System → Config → Type 0
Reachable S x = Run S (start_of S) x

-- The control state is one of the bad ones, whatever the channels hold (004, section 4).
abbrev pub Bad : System → Config → Type 0
Bad S x = Memᴰ x.state S.bad

-- No run from the start reaches a bad state.
abbrev pub Safe : System → Type 0
Safe S = (x : Config) → Reachable S x → Bad S x → ⊥
