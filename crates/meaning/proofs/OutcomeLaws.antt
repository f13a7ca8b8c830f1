-- Rounds of a move, and its outcome from a set of configurations.
use mathlib.Core.Path.{◌≡◌, ◌∙◌}
use mathlib.Core.Logic.{◌↔◌}
use Rattle.meaning.specs.Systems.{Move, Config, Moves}
use Rattle.meaning.specs.Outcomes.{Remains, Round, Rounds, none, more, Leaves, once, rounds, Outcome}
use Rattle.meaning.proofs.LossLaws.{remains-refl, remains-trans}

-- What remains of each configuration of the set is in the set (000, definition 3.2: downward closed).
abbrev pub Closed : (Config → Type 0) → Type 0
Closed K = (x y : Config) → Remains x y → K x → K y

-- From a closed set, losses before the move add nothing: a round leaves just what remains of what the move makes
-- (000, section 6.1: the smallest closed set that has all that the move makes).
pub round-closed : (t : Move) (K : Config → Type 0) (y : Config) → Closed K → ((x : Config) × K x × Round t x y) ↔ ((x : Config) × (z : Config) × K x × Moves t x z × Remains z y)
round-closed t K y closed = (
  λ r. (r.2.ready, r.2.moved, closed r.0 r.2.ready r.2.early r.1, r.2.moves, r.2.late),
  λ s. (s.0, s.2, record { ready = s.0; moved = s.1; early = remains-refl s.0; moves = s.3; late = s.4 }),
)

-- A round, and what remains of its end.
pub round-remains : {t : Move} {x y z : Config} → Round t x y → Remains y z → Round t x z
round-remains r l = record { ready = r.ready; moved = r.moved; early = r.early; moves = r.moves; late = remains-trans r.late l }

-- Rounds begin in the move's source.
pub rounds-source : {t : Move} {x y : Config} → Rounds t x y → x.state ≡ t.source
rounds-source (none e) = e
rounds-source (more r s) = rounds-source r

-- The outcome from a closed set is closed.
pub outcome-closed : (t : Move) (K : Config → Type 0) → Closed K → Closed (Outcome t K)
outcome-closed t K closed y z l o = go o.inside o.leaves l
  where
    go : {x y z : Config} → K x → Leaves t x y → Remains y z → Outcome t K z
    go {x} k (once e r) l = record { from = x; inside = k; leaves = once e (round-remains r l) }
    go {x} {y} {z} k (rounds e (none s)) l = record { from = z; inside = closed x z l k; leaves = rounds e (none (l.state ∙ s)) }
    go {x} k (rounds e (more r s)) l = record { from = x; inside = k; leaves = rounds e (more r (round-remains s l)) }
