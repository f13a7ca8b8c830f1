-- The run, rebuilt from the end with every channel empty.
use Rattle.std.specs.Prelude.{Bool, true, false, List, [], ◌∷◌, ◌++◌, ℕ, zero, suc, ◌+◌, ◌-◌, eqb, length, replicate}
use Rattle.std.proofs.Math.Option.{none, some}
use Rattle.std.proofs.Math.ListN.{get_elem?}
use Rattle.common.specs.Choice.{if_true, if_eq}
use Rattle.meaning.specs.Words.{Word}
use Rattle.meaning.specs.Systems.{Operation, quiet, send, System, Contents, put}
use Rattle.meaning.specs.Outcomes.{self_loop_send}
use Rattle.explore.specs.Search.{Entry}
use Rattle.findings.specs.Search.{frame_of}

-- The word ends in m.
unfoldable pub ends_with : ℕ → Word → Bool
ends_with m [] = false
ends_with m (x ∷ []) = eqb x m
ends_with m (x ∷ y ∷ w) = ends_with m (y ∷ w)

-- The word without its last message.
unfoldable pub all_but_last : Word → Word
all_but_last [] = []
all_but_last (x ∷ []) = []
all_but_last (x ∷ y ∷ w) = x ∷ all_but_last (y ∷ w)

-- The word without all the m at its end.
unfoldable pub stripped : ℕ → Word → Word
stripped m [] = []
stripped m (x ∷ w) = elim (stripped m w) [ [] ↦ if_eq x m [] (x ∷ []) | y ∷ v ↦ x ∷ y ∷ v ]

-- What a move becomes, going back: run words, and what the channels must hold before it.
pub record Back : Type 0 where
  pub words : List ℕ
  pub before : Contents

-- Going back over move j, where f is needed after it: a receive puts its message in front; a send drops it from the end if it stands there (kept), else
-- the message was lost; a self-loop send strips all that stand at the end, and becomes as many kept sends.
unfoldable pub back : Bool → Operation → ℕ → Contents → Back
back loop quiet j f = record { words = j ∷ []; before = f }
back loop (Operation.receive c m) j f = record { words = j ∷ []; before = put f c (m ∷ f c) }
back true (send c m) j f = record { words = replicate (length (f c) - length (stripped m (f c))) j; before = put f c (stripped m (f c)) }
back false (send c m) j f =
    if_true (ends_with m (f c))
    (record { words = j ∷ []; before = put f c (all_but_last (f c)) })
    (record { words = (j + 32768) ∷ []; before = f })

-- Going back over the move with number j.
abbrev pub back_over : System → ℕ → Contents → Back
back_over S j f = elim (get_elem? S.moves j) [ none ↦ record { words = []; before = f } | some t ↦ back (self_loop_send t) t.operation j f ]

-- From row i back to row 0, at most k rows, where f is needed in row i and the words ws come behind.
unfoldable pub rebuilt : (S : System) → ℕ → List (Entry (frame_of S)) → ℕ → Contents → List ℕ → List ℕ
rebuilt S zero l i f ws = ws
rebuilt S (suc k) l i f ws =
    if_eq i 0 ws
    (elim (get_elem? l i) [ none ↦ ws | some e ↦ rebuilt S k l e.parent (back_over S e.move f).before ((back_over S e.move f).words ++ ws) ])

-- The run whose last move is move j of row i: it ends with every channel empty.
abbrev pub run_of : (S : System) → List (Entry (frame_of S)) → ℕ → ℕ → List ℕ
run_of S l i j = let b = back_over S j (λ c. []) in rebuilt S i l i b.before b.words
