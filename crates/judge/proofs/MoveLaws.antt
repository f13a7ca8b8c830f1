-- A move from a row: what its operation makes of the products settles it, or the row is not in its source.
use Rattle.std.proofs.Common.{◌≡◌, refl, sym, ap, ◌∙◌, Bool, true, List, Option, Some, None, ℕ, ◌<◌, ◌≤◌, arith, eqb, length, get_or, take}
use Rattle.std.proofs.Math.Option.{map}
use Rattle.std.proofs.Math.Option as math
use Rattle.common.proofs.ChoiceLaws.{eq-then, eq-else}
use Rattle.common.proofs.PartLaws.{part-take}
use Rattle.meaning.specs.Systems.{Operation, quiet, send, receive, Ranged, Move, put}
use Rattle.meaning.specs.Outcomes.{self_loop_send}
use Rattle.rows.specs.Changes.{changed_in}
use Rattle.rows.specs.Rows.{Row}
use Rattle.rows.specs.Look.{covered_in}
use Rattle.rows.specs.Outcomes.{after, outcome}
use Rattle.rows.specs.declared.changes.Changed.{Changed}
use Rattle.table.specs.Systems.{GoodTable, system_of}
use Rattle.table.specs.Transitions.{operation_of, transition_at}
use Rattle.table.specs.declared.checks.Shape.{Shape}
use Rattle.table.specs.declared.transitions.Transition.{Transition}
use Rattle.table.proofs.SystemLaws.{channels-are, few-messages, move-of}
use Rattle.judgement.specs.Judge.{settled}
use Rattle.judge.specs.Memory.{product_in, row_in, rows_in}
use Rattle.judge.specs.declared.memory.Rows.{Rows}
use Rattle.judge.specs.Moves.{settled_at}

-- The state of a self-loop matters only to a send.
loop-after : (a b : ℕ) (o : Operation) (p : ℕ → List ℕ) → after (eqb a b) o p ≡ after (self_loop_send (record { source = a; target = b; operation = o })) o p
unfolding after
loop-after a b quiet p = refl
loop-after a b (send c m) p = refl
loop-after a b (receive c m) p = refl

-- Row i and a move.
module _ (m : Rows) (i : ℕ) (u : Move) where
  abbrev is_settled : math.Option Row → Bool
  is_settled o = settled m.products.channels (rows_in m) o

  pub settled-elsewhere : (get_or m.states.now i 0 ≡ u.source → ⊥) → true ≡ settled_at m i u
  unfolding outcome settled_at
  settled-elsewhere h = ap is_settled (eq-else _ _ _ _ h refl)

  module _ (h : get_or m.states.now i 0 ≡ u.source) (b : List ℕ) (r : Option Changed)
      (e : changed_in r (product_in m.products i) b ≡ after (eqb u.source u.target) u.operation (product_in m.products i)) where
    -- The row that the products make.
    abbrev arrived : Option Changed → math.Option Row
    arrived x = map (λ (p : ℕ → List ℕ). record { state = u.target; products = p }) (changed_in x (product_in m.products i) b)

    comes : arrived r ≡ outcome u (row_in m i)
    unfolding outcome
    comes =
        eq-then _ _ _ _ h
        (ap (map (λ (p : ℕ → List ℕ). record { state = u.target; products = p })) (e ∙ loop-after u.source u.target u.operation (product_in m.products i)))

    pub settled-impossible : r ≡ None → true ≡ settled_at m i u
    unfolding settled_at
    settled-impossible k = ap (λ (x : Option Changed). is_settled (arrived x)) (sym k) ∙ ap is_settled comes

    pub settled-covered : (x : Changed) {a : Bool} → r ≡ Some x
        → a ≡ covered_in m.products.channels (row_in m) (length m.states.now) (record { state = u.target; products = put (product_in m.products i) x.channel (take x.count b) })
        → a ≡ settled_at m i u
    unfolding covered_in settled_at
    settled-covered x z q =
        q ∙ ap (λ (p : List ℕ). is_settled (math.some (record { state = u.target; products = put (product_in m.products i) x.channel p }))) (sym (part-take x.count b))
        ∙ ap (λ (y : Option Changed). is_settled (arrived y)) (sym z) ∙ ap is_settled comes

-- ---- transition j of a good table

ranged-more : (n k : ℕ) (o : Operation) → k ≤ 15 → Ranged n k o → Ranged n 15 o
ranged-more n k quiet b h = tt
ranged-more n k (send c m) b h = (h.0, omega (arith, h.1))
ranged-more n k (receive c m) b h = (h.0, omega (arith, h.1))

-- It names channels of the table, and messages below 15.
pub transition-in : (t : List ℕ) (s : Shape) → GoodTable t s → (n : ℕ) → n ≡ s.channels → (j : ℕ) (u : Transition) → u ≡ transition_at t j → j < s.transitions
    → Ranged n 15 (operation_of u.operation)
transition-in t s g n k j u e h =
    rw (k, ← channels-are t s g, e)
    (ranged-more (system_of t).channels (system_of t).messages (operation_of (transition_at t j).operation) (few-messages t s g) (move-of t s g j h).operation)
