-- The look over rows and moves for an outcome that is open: what `find` and `find_map` answer of it, and that it is the judge's.
use Rattle.std.proofs.Common.{◌≡◌, refl, sym, ap, ◌∙◌, Bool, true, false, not, cond, find, option_map, List, Option, Some, None, ℕ, zero, suc, ◌+◌, length}
use Rattle.std.proofs.Math.Option as math
use Rattle.std.specs.List.{range_with_len}
use Rattle.common.specs.Choice.{if_true}
use Rattle.common.specs.First.{first_place, first_with}
use Rattle.meaning.specs.Systems.{System, Move}
use Rattle.rows.specs.Look.{rows_from}
use Rattle.rows.specs.Rows.{Row}
use Rattle.rows.specs.Outcomes.{outcome}
use Rattle.table.specs.Listing.{listed}
use Rattle.table.specs.Systems.{GoodTable, system_of, system_with}
use Rattle.table.specs.Transitions.{move_of, transition_at}
use Rattle.table.specs.declared.checks.Shape.{Shape}
use Rattle.table.proofs.SystemLaws.{system-is}
use Rattle.judgement.specs.Judge.{settled, open_move, open_row}
use Rattle.judge.specs.Look.{rows_at}
use Rattle.judge.specs.Memory.{row_in, rows_in}
use Rattle.judge.specs.Moves.{settled_at, first_open, first_open_row, open_in}
use Rattle.judge.specs.States.{place_in}
use Rattle.judge.specs.declared.memory.Rows.{Rows}
use Rattle.judge.specs.declared.moves.Open.{Open}
use Rattle.judge.proofs.FirstLaws.{first_some}

-- The open move of row i, else what follows.
abbrev one : ℕ → Option Open → Option ℕ → Option Open
one i rest x = elim x as (λ y. Option Open) [ None ↦ rest | Some j ↦ Some (record { row = i; transition = j }) ]

module _ (t : List ℕ) (s : Shape) (m : Rows) where
  -- ---- the moves of row i

  abbrev pub open_here : ℕ → Option ℕ
  open_here i = first_open t s m i s.transitions 0

  module _ (i : ℕ) where
    -- The outcome of transition j is not settled.
    abbrev pub is_open : ℕ → Bool
    is_open j = not (settled_at m i (move_of (transition_at t j)))

    -- The first of k transitions that is open.
    pub open-range : (k j : ℕ) → find is_open (range_with_len j k) ≡ first_open t s m i k j
    unfolding first_open if_true
    open-range zero j = refl
    open-range (suc k) j =
        elim (settled_at m i (move_of (transition_at t j))) as (λ b. cond (not b) (Some j) (find is_open (range_with_len (j + 1) k)) ≡ cond b (first_open t s m i k (j + 1)) (Some j)) [
          | true ↦ open-range k (j + 1)
          | false ↦ refl
        ]

  -- ---- the rows

  -- The open move of row i.
  abbrev pub open_in_row : ℕ → Option Open
  open_in_row i = option_map (λ j. record { row = i; transition = j }) (open_here i)

  -- The first of k rows that has one.
  pub open-rows : (k i : ℕ) → first_some open_in_row (range_with_len i k) ≡ first_open_row t s m k i
  unfolding first_open_row first_some
  open-rows zero i = refl
  open-rows (suc k) i = go (open-rows k (i + 1)) (open_here i)
    where
      go : {x y : Option Open} → x ≡ y → (r : Option ℕ)
          → elim (option_map {U = Open} (λ j. record { row = i; transition = j }) r) as (λ q. Option Open) [ None ↦ x | Some o ↦ Some o ] ≡ one i y r
      go e None = e
      go e (Some j) = refl

  abbrev count : ℕ
  count = length m.states.now

  abbrev pub closed : Option Open
  closed = first_open_row t s m count 0

  -- ---- it is the row and the move that the judge looks for

  abbrev l : List Row
  l = rows_in m

  -- The first move of row i in a list, from move j on, whose outcome is neither, for n channels.
  abbrev move_in : ℕ → List Move → ℕ → ℕ → math.Option ℕ
  move_in n moves i j = first_place (λ u. not (settled n l (outcome u (row_in m i)))) moves j

  moves-in : (i k j : ℕ) → place_in (first_open t s m i k j) ≡ move_in m.products.channels (listed (λ n. move_of (transition_at t n)) k j) i j
  unfolding first_open settled_at listed first_place if_true
  moves-in i zero j = refl
  moves-in i (suc k) j = go (settled m.products.channels l (outcome (move_of (transition_at t j)) (row_in m i))) (first_open t s m i k (j + 1)) (moves-in i k (j + 1))
    where
      go : (b : Bool) (x : Option ℕ) {y : math.Option ℕ} → place_in x ≡ y → place_in (if_true b x (Some j)) ≡ if_true (not b) (math.some j) y
      go true x e = e
      go false x e = refl

  module _ (same : m.products.channels ≡ s.channels) where
    -- The judge's choice, as `one`.
    abbrev with_move : ℕ → math.Option (ℕ × ℕ) → math.Option ℕ → math.Option (ℕ × ℕ)
    with_move i rest x = elim x as (λ y. math.Option (ℕ × ℕ)) [ math.none ↦ rest | math.some j ↦ math.some (i, j) ]

    one-in : (i : ℕ) (rest : Option Open) (x : Option ℕ) → open_in (one i rest x) ≡ with_move i (open_in rest) (place_in x)
    one-in i rest None = refl
    one-in i rest (Some j) = refl

    rows-in : (k i : ℕ) → open_in (first_open_row t s m k i) ≡ first_with (open_move (system_with t s) l) (rows_at m.products.channels m.states.now m.products.starts.now m.products.atoms.now k i) i
    unfolding first_open_row rows_from first_with
    rows-in zero i = refl
    rows-in (suc k) i =
        one-in i (first_open_row t s m k (i + 1)) (first_open t s m i s.transitions 0)
        ∙ ap (with_move i (open_in (first_open_row t s m k (i + 1))))
        (moves-in i s.transitions 0 ∙ ap (λ (n : ℕ). move_in n (system_with t s).moves i 0) same)
        ∙ ap (λ (p : math.Option (ℕ × ℕ)). with_move i p (open_move (system_with t s) l (row_in m i))) (rows-in k (i + 1))

    pub closed_in : GoodTable t s → open_in closed ≡ open_row (system_of t) l
    closed_in g = rows-in count 0 ∙ ap (λ (S : System). open_row S l) (sym (system-is t s g))
