-- The call that searches: what it answers, and what it fills `out` with.
use Rattle.std.specs.Prelude.{List, [], ◌∷◌, ℕ, length}
use Rattle.search.specs.Searching.{Result, search_of, Said, refused, safe, unsafe, rows_full, atoms_full, said}

-- What the search of a table finds with a work table and a run buffer; of these only the lengths count.
abbrev pub searched : List ℕ → List ℕ → List ℕ → Result
searched t work run = search_of t (length work) (length run)

-- 0 safe, 1 unsafe, 2 rows full, 3 atoms full, 4 refused.
abbrev pub code_of : Said → ℕ
code_of (safe n) = 0
code_of (unsafe n k) = 1
code_of (rows_full n i j) = 2
code_of (atoms_full n i j) = 3
code_of (refused r) = 4

-- The rows made; with unsafe the steps; where rows or atoms are full, the row and transition that met it. Of a refusal its number, the input and the place.
abbrev pub numbers_of : Said → List ℕ
numbers_of (safe n) = n ∷ 0 ∷ 0 ∷ []
numbers_of (unsafe n k) = n ∷ k ∷ 0 ∷ []
numbers_of (rows_full n i j) = n ∷ i ∷ j ∷ []
numbers_of (atoms_full n i j) = n ∷ i ∷ j ∷ []
numbers_of (refused r) = r.number ∷ r.input ∷ r.place ∷ []

abbrev pub search_code : Result → ℕ
search_code x = code_of (said x.answer)

abbrev pub search_out : Result → List ℕ
search_out x = numbers_of (said x.answer)
