-- The outcome of a move from a row.
use Rattle.std.specs.Prelude.{Bool, cond, List, [], ◌∷◌, ◌++◌, ℕ}
use Rattle.std.proofs.Math.Option.{Option, none, some, map}
use Rattle.common.specs.Choice.{if_eq}
use Rattle.meaning.specs.Systems.{Operation, quiet, send, Move, Config, put}
use Rattle.meaning.specs.Rows.{InRow}
use Rattle.meaning.specs.Outcomes.{self_loop_send}
use Rattle.atoms.specs.Masks.{single_of, star_of}
use Rattle.atoms.specs.Normal.{normal}
use Rattle.atoms.specs.Receive.{received}
use Rattle.rows.specs.Rows.{Row, meant_row}

-- The atom that a send of m adds: of a self-loop send the star of m, of another the single.
abbrev pub sent_atom : Bool → ℕ → ℕ
sent_atom loop m = cond loop (star_of m) (single_of m)

-- The products after an operation, `loop` where it is a self-loop send's; none where the operation is impossible.
unfoldable pub after : Bool → Operation → (ℕ → List ℕ) → Option (ℕ → List ℕ)
after loop quiet p = some p
after loop (send c m) p = some (put p c (p c ++ (sent_atom loop m ∷ [])))
after loop (Operation.receive c m) p = map (put p c) (received m (p c))

-- What an operation leaves of products in normal form, in normal form: only the product that it changes must be brought to it, and what a receive leaves
-- already is.
unfoldable pub normal_after : Bool → Operation → (ℕ → List ℕ) → Option (ℕ → List ℕ)
normal_after loop quiet p = some p
normal_after loop (send c m) p = some (put p c (normal (p c ++ (sent_atom loop m ∷ []))))
normal_after loop (Operation.receive c m) p = map (put p c) (received m (p c))

-- The outcome of a move from a row, as a row; none where the move is impossible.
unfoldable pub outcome : Move → Row → Option Row
outcome t r =
    if_eq r.state t.source
    (map (λ p. record { state = t.target; products = p }) (after (self_loop_send t) t.operation r.products))
    none

-- The configurations of an outcome.
abbrev pub InOutcome : Option Row → Config → Type 0
InOutcome none x = ⊥
InOutcome (some r) x = InRow (meant_row r) x
