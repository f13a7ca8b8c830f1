-- The replay's answer: what it says, and that there is one for each table and run.
use Rattle.std.proofs.Common.{◌≡◌, refl, sym, ap, ◌∙◌, inl, inr, List, ℕ, ◌<◌, ◌≤◌, length}
use Rattle.std.proofs.lemmas.Bool.{cases_lt}
use Rattle.std.specs.Prelude.{Result, Ok, Err}
use Rattle.common.specs.Choice.{if_lt}
use Rattle.common.proofs.ChoiceLaws.{lt-then, lt-else}
use Rattle.table.specs.Checking.{check_table}
use Rattle.table.specs.Systems.{system_of}
use Rattle.table.specs.declared.checks.Shape.{Shape}
use Rattle.table.specs.declared.faults.Refusal as table
use Rattle.playing.specs.Play.{Replayed, stuck, ends_elsewhere, reaches_bad, replay}
use Rattle.replay.specs.Replaying.{says, answer_with, replay_answer, answer_of, found, replay_with, replay_of, Replays}
use Rattle.replay.specs.declared.replays.Ending.{Ending}
use Rattle.replay.specs.declared.replays.Refused.{Refused}
use Rattle.replay.specs.declared.replays.Refused.TheVariants.{Table, TooLong}

-- What the words played say is what the answer says.
found-says : (p : Replayed) → answer_of (Ok (found p)) ≡ says p
found-says (stuck n) = refl
found-says (ends_elsewhere q) = refl
found-says (reaches_bad n) = refl

-- The call's one answer says what the rules say.
pub replay-says : (t run : List ℕ) → answer_of (replay_of t run) ≡ replay_answer t run
unfolding replay_of replay_answer
replay-says t run = go (check_table t)
  where
    go : (c : Result Shape table.Refusal) → answer_of (replay_with t run c) ≡ answer_with t run c
    go (Err r) = refl
    go (Ok s) =
        elim (cases_lt 2048 (length run)) [
          | inl l ↦ ap answer_of (sym (lt-then _ _ _ _ l refl)) ∙ lt-then _ _ _ _ l refl
          | inr l ↦ ap answer_of (sym (lt-else _ _ _ _ l refl)) ∙ lt-else _ _ _ _ l (found-says (replay (system_of t) run))
        ]

pub replays : (t run : List ℕ) (r : Result Ending Refused) → r ≡ replay_of t run → Replays t run r
replays t run r e = record { says = ap answer_of e ∙ replay-says t run; exact = e }

-- The table's refusal, a run that is too long, and the words played.
pub replays-refused : (t run : List ℕ) (r : table.Refusal) → Err r ≡ check_table t → Replays t run (Err (Table r))
unfolding replay_of
replays-refused t run r e = replays t run (Err (Table r)) (ap (replay_with t run) e)

module _ (t run : List ℕ) (s : Shape) (e : Ok s ≡ check_table t) where
  good : if_lt 2048 (length run) (Err TooLong) (Ok (found (replay (system_of t) run))) ≡ replay_of t run
  unfolding replay_of
  good = ap (replay_with t run) e

  pub replays-long : 2048 < length run → Replays t run (Err TooLong)
  replays-long l = replays t run (Err TooLong) (lt-then _ _ _ _ l refl ∙ good)

  pub replays-played : (r : Result Ending Refused) → length run ≤ 2048 → r ≡ Ok (found (replay (system_of t) run)) → Replays t run r
  replays-played r l k = replays t run r (lt-else _ _ _ _ l k ∙ good)

-- One answer: two that keep the promise are equal.
pub one-replay : (t run : List ℕ) (r r' : Result Ending Refused) → Replays t run r → Replays t run r' → r ≡ r'
one-replay t run r r' p p' = p.exact ∙ sym p'.exact
