-- Run words, played by the plain rule.
use Rattle.std.specs.Prelude.{Bool, true, false, List, [], ◌∷◌, ◌++◌, ℕ, ◌+◌, ◌%◌, ltb, length}
use Rattle.std.proofs.Math.Option.{Option, none, some, map}
use Rattle.std.proofs.Math.ListN.{get_elem?}
use Rattle.common.specs.Choice.{if_true, if_eq}
use Rattle.common.specs.First.{is_in}
use Rattle.meaning.specs.Words.{Word}
use Rattle.meaning.specs.Systems.{Operation, quiet, send, Move, System, Contents, Config, put, start_of}

-- A run word is the transition's number, plus 32,768 where the message was lost.
abbrev pub number : ℕ → ℕ
number w = w % 32768

abbrev pub lost : ℕ → Bool
lost w = ltb 32767 w

-- The word of a step with the transition numbered n, whose message is lost where b says so.
abbrev pub word_of : ℕ → Bool → ℕ
word_of n true = n % 32768 + 32768
word_of n false = n % 32768

-- The word with m taken from its head, if it stands there.
abbrev pub taken : ℕ → Word → Option Word
taken m [] = none
taken m (x ∷ w) = if_eq x m (some w) none

-- What an operation makes of the contents, `gone` where its message is marked lost: only a send's message can be, and it is gone at once.
unfoldable pub operated : Bool → Operation → Contents → Option Contents
operated true quiet f = none
operated true (send c m) f = some f
operated true (Operation.receive c m) f = none
operated false quiet f = some f
operated false (send c m) f = some (put f c (f c ++ (m ∷ [])))
operated false (Operation.receive c m) f = map (put f c) (taken m (f c))

-- One word played: its transition is there, starts in the present state, and its operation can be done.
unfoldable pub play_move : Bool → Move → Config → Option Config
play_move gone t x =
    if_eq x.state t.source (map (λ f. record { state = t.target; contents = f }) (operated gone t.operation x.contents)) none

unfoldable pub play_word : System → ℕ → Config → Option Config
play_word S w x = elim (get_elem? S.moves (number w)) [ none ↦ none | some t ↦ play_move (lost w) t x ]

-- All words played: the first step that is stuck, where the steps are numbered from n, or the configuration at the end.
pub data Played : Type 0 where
  stuck_at : ℕ → Played
  ends_in : Config → Played

unfoldable pub play : System → List ℕ → Config → ℕ → Played
play S [] x n = ends_in x
play S (w ∷ ws) x n = elim (play_word S w x) [ none ↦ stuck_at n | some y ↦ play S ws y (n + 1) ]

-- What replay answers: stuck at a step, ends elsewhere in a state, or reaches bad in so many steps. The last state decides.
pub data Replayed : Type 0 where
  stuck : ℕ → Replayed
  ends_elsewhere : ℕ → Replayed
  reaches_bad : ℕ → Replayed

abbrev pub judge_end : System → ℕ → Played → Replayed
judge_end S n (stuck_at i) = stuck i
judge_end S n (ends_in x) = if_true (is_in x.state S.bad) (reaches_bad n) (ends_elsewhere x.state)

unfoldable pub replay : System → List ℕ → Replayed
replay S ws = judge_end S (length ws) (play S ws (start_of S) 0)
