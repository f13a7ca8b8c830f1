use Rattle.std.proofs.Common.{ap, sym, length-take-le, Ok}
use Rattle.cautious.proofs.ReplayedLaws.{run-there, replays-unsafe}
use Rattle.cautious.proofs.replayed.search_and_replay.Goals as goal

pub slice_bounds-replay_words-end : goal.slice_bounds-replay_words-end
slice_bounds-replay_words-end c = run-there _ _ _ _ _ _ c.in-Ok-Unsafe.ensures _ _ (ap Ok c.in-Ok-Unsafe.field-0-is)

pub slice_bounds-replay_words-end-in-Ok-Unsafe : goal.slice_bounds-replay_words-end-in-Ok-Unsafe
slice_bounds-replay_words-end-in-Ok-Unsafe c =
    sym (length-take-le c.in-Ok-Unsafe.steps c.search.new.run (run-there _ _ _ _ _ _ c.in-Ok-Unsafe.ensures _ _ (ap Ok c.in-Ok-Unsafe.field-0-is)))

pub returns-in-Ok-Unsafe : goal.returns-in-Ok-Unsafe
returns-in-Ok-Unsafe c = replays-unsafe _ _ _ _ _ _ c.in-Ok-Unsafe.ensures _ _ (ap Ok c.in-Ok-Unsafe.field-0-is) _ c.replay_words.ensures
