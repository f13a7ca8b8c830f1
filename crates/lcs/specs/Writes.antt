-- The call that writes a list: what it answers, and what it fills `out` with.
use Rattle.std.specs.Prelude.{List, [], ◌∷◌, ℕ}
use Rattle.writer.specs.Answers.{WriteAnswer, bytes, refused}

-- 0 written, 4 refused.
abbrev pub write_code : WriteAnswer → ℕ
write_code (bytes n) = 0
write_code (refused r) = 4

-- How many bytes the list has. Of a refusal its number, the input and the place.
abbrev pub write_out : WriteAnswer → List ℕ
write_out (bytes n) = n ∷ 0 ∷ 0 ∷ []
write_out (refused r) = r.number ∷ r.input ∷ r.place ∷ []
