-- The judge's answer to rows in memory: the first that holds.
use Rattle.std.proofs.Common.{◌≡◌, refl, sym, ap, ◌∙◌, Bool, true, false, List, Option, Some, None, ℕ, length}
use Rattle.std.proofs.Math.Option as math
use Rattle.common.proofs.ChoiceLaws.{true-then, true-else}
use Rattle.meaning.specs.Systems.{System}
use Rattle.rows.specs.Rows.{Row}
use Rattle.table.specs.Systems.{GoodTable, system_of}
use Rattle.table.specs.declared.checks.Shape.{Shape}
use Rattle.table.proofs.SystemLaws.{start_is, bads-are}
use Rattle.judgement.specs.Judge.{accepted, bad_row, not_closed, has_start, lowest_bad, open_row, judge}
use Rattle.judgement.specs.Judge as says
use Rattle.judge.specs.Memory.{rows_in}
use Rattle.judge.specs.States.{any_state, first_bad, place_in}
use Rattle.judge.specs.Moves.{first_open_row, open_in}
use Rattle.judge.specs.Judging.{found, closed_answer, judged_at}
use Rattle.judge.specs.declared.memory.Rows.{Rows}
use Rattle.judge.specs.declared.moves.Open.{Open}
use Rattle.judge.specs.declared.judging.Judgement.{Judgement}
use Rattle.judge.specs.declared.judging.Judgement.TheVariants.{NoStart, BadRow}
use Rattle.judge.proofs.StateLaws.{start-in, bad-in}
use Rattle.judge.proofs.OpenLaws.{closed_in}

module _ (t : List ℕ) (s : Shape) (g : GoodTable t s) (m : Rows) where
  abbrev S : System
  S = system_of t

  abbrev l : List Row
  l = rows_in m

  abbrev start_found : Bool
  start_found = any_state s.start m.states.now (length m.states.now) 0

  abbrev bad_found : Option ℕ
  bad_found = first_bad t s m.states.now (length m.states.now) 0

  start-is-in : has_start S.start l ≡ start_found
  start-is-in = ap (λ (x : ℕ). has_start x l) (start_is t s g) ∙ sym (start-in s.start m.products.channels m.states.now m.products.starts.now m.products.atoms.now (length m.states.now) 0)

  bad-is-in : place_in bad_found ≡ lowest_bad S.bad l
  bad-is-in = bad-in t s m.products.channels m.states.now m.products.starts.now m.products.atoms.now (length m.states.now) 0 ∙ ap (λ (x : List ℕ). lowest_bad x l) (sym (bads-are t s g))

  -- What the judge says of rows with a start.
  abbrev with_moves : math.Option (ℕ × ℕ) → says.Judgement
  with_moves o = elim o as (λ x. says.Judgement) [ math.none ↦ accepted | math.some p ↦ not_closed p.0 p.1 ]

  abbrev with_bad : math.Option ℕ → says.Judgement
  with_bad b = elim b as (λ x. says.Judgement) [ math.none ↦ with_moves (open_row S l) | math.some i ↦ bad_row i ]

  moves-found : (o : Option Open) → closed_answer o ≡ found (with_moves (open_in o))
  moves-found None = refl
  moves-found (Some o) = refl

  module _ {b : Bool} (tells : b ≡ start_found) where
    pub judged-no-start : b ≡ false → NoStart ≡ judged_at t s m
    unfolding judged_at judge
    judged-no-start e = ap found (true-else _ _ _ (start-is-in ∙ sym tells ∙ e) refl)

    module _ (e : b ≡ true) (r : Option ℕ) (finds : r ≡ bad_found) where
      started : (v : Option ℕ) → r ≡ v → found (with_bad (place_in v)) ≡ judged_at t s m
      unfolding judged_at judge
      started v k = ap found (true-then _ _ _ (start-is-in ∙ sym tells ∙ e) (ap with_bad (ap place_in (sym k ∙ finds) ∙ bad-is-in)))

      pub judged-bad : (i : ℕ) → r ≡ Some i → BadRow i ≡ judged_at t s m
      judged-bad i k = started (Some i) k

      pub judged-moves : {a : Judgement} → m.products.channels ≡ s.channels → r ≡ None → a ≡ closed_answer (first_open_row t s m (length m.states.now) 0) → a ≡ judged_at t s m
      judged-moves same k q =
          q ∙ moves-found (first_open_row t s m (length m.states.now) 0) ∙ ap (λ (o : math.Option (ℕ × ℕ)). found (with_moves o)) (closed_in t s m same g)
          ∙ started None k
