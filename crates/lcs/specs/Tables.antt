-- The call on tables: what it answers, and what it fills `out` with.
use Rattle.std.specs.Prelude.{List, [], ◌∷◌, ℕ}
use Rattle.table.specs.Answers.{Answer, good, refused}

-- 0 for a good table, 4 for a refused one.
abbrev pub table_code : Answer → ℕ
table_code (good s) = 0
table_code (refused r) = 4

-- Of a good table how many states, transitions and bad states it has; of a refusal its number, the input and the place.
abbrev pub table_out : Answer → List ℕ
table_out (good s) = s.states ∷ s.transitions ∷ s.bads ∷ []
table_out (refused r) = r.number ∷ r.input ∷ r.place ∷ []
