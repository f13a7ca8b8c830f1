-- What is said of a text, and the room for it.
use Rattle.std.proofs.Common.{◌≡◌, sym, ap, subst, ◌∙◌, List, ℕ, take}
use Rattle.std.specs.Prelude.{Result, Ok}
use Rattle.common.proofs.PartLaws.{part-take}
use Rattle.replay.specs.Replaying.{ReplayAnswer, answer_of, Replays}
use Rattle.replay.specs.declared.replays.Ending.{Ending}
use Rattle.replay.specs.declared.replays.Refused.{Refused}
use Rattle.steps.specs.Runs.{Told, run, run_in, told_by, Tells}
use Rattle.steps.specs.declared.runs.NoRun.{NoRun}
use Rattle.wording.proofs.LineLaws.{one-room, refusal-room}
use Rattle.wording.specs.Written.{Written}
use Rattle.replayer.specs.Output.{line_of, told_text}

-- The words that a text says are those that are replayed.
pub a-run : (l m : List ℕ) (r : ℕ) (t text : List ℕ) (q : Result ℕ NoRun) (words : List ℕ) → Tells (run_in text) q words
    → (n : ℕ) (a : Result Ending Refused) → q ≡ Ok n → Replays t (take n words) a → Written l 0 (line_of (answer_of a)) m r → Written l 0 (told_text t (run_in text)) m r
a-run l m r t text q words x n a e p w =
    subst (λ (y : Told). Written l 0 (told_text t y) m r) (ap run (sym (part-take n words)) ∙ ap (λ (y : Result ℕ NoRun). told_by y words) (sym e) ∙ x.says)
    (subst (λ (y : ReplayAnswer). Written l 0 (line_of y) m r) p.says w)

-- The lines that are written have room.
pub ruleset rooms = (one-room, refusal-room)
