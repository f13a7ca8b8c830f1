-- The call that replays a run: what it answers, and what it fills `out` with.
use Rattle.std.specs.Prelude.{List, [], ◌∷◌, ℕ}
use Rattle.playing.specs.Play.{stuck, ends_elsewhere, reaches_bad}
use Rattle.replay.specs.Replaying.{ReplayAnswer, refused, says}

-- 0 reaches bad, 1 ends elsewhere, 2 stuck, 4 refused.
abbrev pub replay_code : ReplayAnswer → ℕ
replay_code (says (reaches_bad n)) = 0
replay_code (says (ends_elsewhere q)) = 1
replay_code (says (stuck n)) = 2
replay_code (refused r) = 4

-- The steps to a bad state, the state it ends in, or the step that is stuck. Of a refusal its number, the input and the place.
abbrev pub replay_out : ReplayAnswer → List ℕ
replay_out (says (reaches_bad n)) = n ∷ 0 ∷ 0 ∷ []
replay_out (says (ends_elsewhere q)) = q ∷ 0 ∷ 0 ∷ []
replay_out (says (stuck n)) = n ∷ 0 ∷ 0 ∷ []
replay_out (refused r) = r.number ∷ r.input ∷ r.place ∷ []
