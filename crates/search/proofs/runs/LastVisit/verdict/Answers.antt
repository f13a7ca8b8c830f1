use Rattle.search.proofs.SearchLaws.{conclude-unsafe, conclude-atoms, conclude-rows}
use Rattle.search.proofs.StandingLaws.{entries-count}
use Rattle.search.proofs.runs.LastVisit.verdict.Goals as goal

pub returns-in-Unsafe : goal.returns-in-Unsafe
returns-in-Unsafe c = conclude-unsafe _ _ _ (entries-count _ _ _) _ _ _ _ _ _ c.in-Unsafe.is c.write_run-steps.ensures.steps c.write_run-steps.ensures.words

pub returns-in-AtomsFull : goal.returns-in-AtomsFull
returns-in-AtomsFull c = conclude-atoms _ _ _ (entries-count _ _ _) _ _ _ _ c.in-AtomsFull.is

pub returns-in-RowsFull : goal.returns-in-RowsFull
returns-in-RowsFull c = conclude-rows _ _ _ (entries-count _ _ _) _ _ _ _ c.in-RowsFull.is
