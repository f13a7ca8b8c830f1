-- The system that a good table means: its numbers, its moves, its bad states, and that it is well made.
use Rattle.std.proofs.Common.{◌≡◌, ap, sym, ◌∙◌, subst, List, ◌↔◌, ℕ, ◌+◌, ◌<◌, ◌≤◌, arith, length}
use mathlib.Core.List.Memᴰ
use mathlib.Core.List.{Memᴰ}
use mathlib.Core.Option.{some}
use lib.ListN.{get_elem?}
use Rattle.meaning.specs.Systems.{Operation, quiet, send, receive, System, Move, MoveOf, WellMade, Ranged}
use Rattle.table.specs.Transitions.{transition_at, operation_of, move_of}
use Rattle.table.specs.Systems.{GoodTable, bad_at, moves_of, bads_of, system_with, system_from, system_of}
use Rattle.table.proofs.ListingLaws.{listed-length, listed_at, listed-member, member-listed}
use Rattle.table.proofs.GoodLaws.{ranges, entry-ranges, bad-range}
use Rattle.table.specs.declared.checks.Shape.{Shape}
use Rattle.table.specs.declared.transitions.Transition.{Transition}

module _ (t : List ℕ) (s : Shape) where
  -- What transition i is, as a move.
  abbrev move_at : ℕ → Move
  move_at i = move_of (transition_at t i)

  -- A move is one of the listed ones exactly when it is that of some transition.
  moves-listed : (m : Move) → Memᴰ m (moves_of t s) ↔ ((i : ℕ) × (i < s.transitions) × (m ≡ move_at i))
  moves-listed m = (
    (λ h. let l = listed-member move_at s.transitions 0 m h in (l.0, omega arith, l.1.2)),
    (λ h. Memᴰ.cast h.2 (member-listed move_at s.transitions 0 h.0 (omega arith) (let l = h.1 in omega arith))),
  )

  bads-listed : (x : ℕ) → Memᴰ x (bads_of t s) ↔ ((i : ℕ) × (i < s.bads) × (x ≡ bad_at t s i))
  bads-listed x = (
    (λ h. let l = listed-member (bad_at t s) s.bads 0 x h in (l.0, omega arith, l.1.2)),
    (λ h. Memᴰ.cast h.2 (member-listed (bad_at t s) s.bads 0 h.0 (omega arith) (let l = h.1 in omega arith))),
  )

-- An operation on n channels with k messages, where these are no more than 4 and 15.
ranged-within : (n k : ℕ) (o : Operation) → n ≤ 4 → k ≤ 15 → Ranged n k o → Ranged 4 15 o
ranged-within n k quiet a b h = tt
ranged-within n k (send c m) a b h = (omega arith, omega arith)
ranged-within n k (receive c m) a b h = (omega arith, omega arith)

module _ (t : List ℕ) (s : Shape) (g : GoodTable t s) where
  -- The system of a good table, in its parts.
  pub system-is : system_of t ≡ system_with t s
  unfolding system_of
  system-is = ap (system_from t) g

  pub states_are : (system_of t).states ≡ s.states
  states_are = ap (λ (S : System). S.states) system-is

  pub channels-are : (system_of t).channels ≡ s.channels
  channels-are = ap (λ (S : System). S.channels) system-is

  pub messages-are : (system_of t).messages ≡ s.messages
  messages-are = ap (λ (S : System). S.messages) system-is

  pub start_is : (system_of t).start ≡ s.start
  start_is = ap (λ (S : System). S.start) system-is

  pub moves-are : (system_of t).moves ≡ moves_of t s
  moves-are = ap (λ (S : System). S.moves) system-is

  pub bads-are : (system_of t).bad ≡ bads_of t s
  bads-are = ap (λ (S : System). S.bad) system-is

  -- As many moves as transitions, as many bad states as their records.
  pub moves-length : length (system_of t).moves ≡ s.transitions
  moves-length = rw moves-are (listed-length (move_at t s) s.transitions 0)

  pub bads-length : length (system_of t).bad ≡ s.bads
  bads-length = rw bads-are (listed-length (bad_at t s) s.bads 0)

  -- The i-th move is transition i.
  pub move-at : (i : ℕ) → i < s.transitions → get_elem? (system_of t).moves i ≡ some (move_of (transition_at t i))
  move-at i h =
      let z : 0 + i ≡ i = omega arith in
      rw moves-are (listed_at (move_at t s) s.transitions 0 i h ∙ rw z)

  -- The i-th bad state is what its record holds.
  pub bad-at : (i : ℕ) → i < s.bads → get_elem? (system_of t).bad i ≡ some (bad_at t s i)
  bad-at i h =
      let z : 0 + i ≡ i = omega arith in
      rw bads-are (listed_at (bad_at t s) s.bads 0 i h ∙ rw z)

  -- The moves are the transitions, and nothing else; so with the bad states.
  pub move-member : (m : Move) → Memᴰ m (system_of t).moves ↔ ((i : ℕ) × (i < s.transitions) × (m ≡ move_of (transition_at t i)))
  move-member m = rw moves-are (moves-listed t s m)

  pub bad-member : (x : ℕ) → Memᴰ x (system_of t).bad ↔ ((i : ℕ) × (i < s.bads) × (x ≡ bad_at t s i))
  bad-member x = rw bads-are (bads-listed t s x)

  -- Each transition's states, channel and message are the system's.
  pub move-of : (i : ℕ) → i < s.transitions → MoveOf (system_of t) (move_of (transition_at t i))
  unfolding transition_at
  move-of i h =
      let e = entry-ranges t s g i h in
      subst (λ (S : System). MoveOf S (move_of (transition_at t i))) (sym system-is)
      (record { source = e.source; target = e.target; operation = e.operation })

  pub well-made : WellMade (system_of t)
  well-made = record {
    start = rw (start_is, states_are) (ranges t s g).start;
    moves = λ m h. let i = (move-member m).0 h in subst (MoveOf (system_of t)) (sym i.2) (move-of i.0 i.1);
    bad = λ x h. let i = (bad-member x).0 h in rw (states_are, i.2) (bad-range t s g i.0 i.1);
  }

  -- At most 4 channels and 15 messages.
  pub few-channels : (system_of t).channels ≤ 4
  few-channels = rw channels-are (ranges t s g).channels

  pub few-messages : (system_of t).messages ≤ 15
  few-messages = rw messages-are (ranges t s g).messages

  -- So the numbers of transition i are within these, and its target fits a word.
  module _ (i : ℕ) (u : Transition) (e : u ≡ transition_at t i) (h : i < s.transitions) where
    pub transition-ranged : Ranged 4 15 (operation_of u.operation)
    transition-ranged =
        ranged-within (system_of t).channels (system_of t).messages (operation_of u.operation) few-channels few-messages
        (subst (λ (x : Transition). Ranged (system_of t).channels (system_of t).messages (operation_of x.operation)) (sym e) (move-of i h).operation)

    pub transition-target : u.target < 65536
    transition-target =
        let a = subst (λ (x : Transition). x.target < (system_of t).states) (sym e) (move-of i h).target in
        omega (arith, states_are, (ranges t s g).states)
