-- Transitions that have the move of an earlier one.
use Rattle.std.specs.Prelude.{◌≡◌, ◌≢◌, List, ℕ, ◌+◌, ◌*◌, ◌<◌, get_or}
use Rattle.table.specs.Transitions.{move_of, transition_at}
use Rattle.table.specs.declared.transitions.Operation.{Operation}
use Rattle.table.specs.declared.transitions.Operation.TheVariants.{Quiet, Send, Receive}
use Rattle.table.specs.declared.transitions.Transition.{Transition}

-- One of 121 numbers for what is done on 4 channels with 15 messages.
abbrev pub operation_number : Operation → ℕ
operation_number Quiet = 0
operation_number (Send c m) = 1 + 15 * c + m
operation_number (Receive c m) = 61 + 15 * c + m

-- The number of a transition's move, among 4,096 states. Its label is free.
unfoldable pub move_number : Transition → ℕ
move_number u = (u.source * 4096 + u.target) * 121 + operation_number u.operation

-- An earlier transition has the move of transition j.
abbrev pub Repeats : List ℕ → ℕ → Type 0
Repeats t j = ∥ ((k : ℕ) × (k < j) × (move_of (transition_at t k) ≡ move_of (transition_at t j))) ∥₁

-- Where each of the first n transitions comes from; or 4096, which is no state, where it has the move of an earlier one.
abbrev pub Sources : List ℕ → ℕ → List ℕ → Type 0
Sources t n l = (j : ℕ) → j < n → get_or l j 0 ≢ (transition_at t j).source → (get_or l j 0 ≡ 4096) × Repeats t j
