-- The call that judges a list: what it answers, and what it fills `out` with.
use Rattle.std.specs.Prelude.{List, [], ◌∷◌, ℕ}
use Rattle.judgement.specs.Judge.{accepted, no_start, bad_row, not_closed}
use Rattle.judge.specs.Judging.{JudgeAnswer, refused, says}

-- 0 accepted, 1 no start, 2 bad row, 3 not closed, 4 refused.
abbrev pub judge_code : JudgeAnswer → ℕ
judge_code (says accepted) = 0
judge_code (says no_start) = 1
judge_code (says (bad_row i)) = 2
judge_code (says (not_closed i j)) = 3
judge_code (refused r) = 4

-- The lowest bad row; or the lowest row that is not closed, and its lowest transition. Of a refusal its number, the input and the place.
abbrev pub judge_out : JudgeAnswer → List ℕ
judge_out (says accepted) = 0 ∷ 0 ∷ 0 ∷ []
judge_out (says no_start) = 0 ∷ 0 ∷ 0 ∷ []
judge_out (says (bad_row i)) = i ∷ 0 ∷ 0 ∷ []
judge_out (says (not_closed i j)) = i ∷ j ∷ 0 ∷ []
judge_out (refused r) = r.number ∷ r.input ∷ r.place ∷ []
