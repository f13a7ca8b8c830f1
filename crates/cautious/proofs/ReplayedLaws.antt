-- The answer of search and replay in a row: how it comes about.
use Rattle.std.proofs.Common.{◌≡◌, refl, sym, ap, subst, ◌∙◌, List, ℕ, ◌≤◌, arith, length, take, drop, length-append, Ok}
use Rattle.common.specs.Front.{front}
use Rattle.common.specs.Part.{part}
use Rattle.common.proofs.FrontLaws.{front-part}
use Rattle.common.proofs.PartLaws.{part-take}
use Rattle.search.specs.Searching.{Result, Searches}
use Rattle.search.specs.Searching as search
use Rattle.search.specs.declared.searches.Verdict.TheVariants as verdict
use Rattle.search.proofs.SearchLaws.{Counted, search-counted}
use Rattle.replay.specs.Replaying.{replay_of}
use Rattle.cautious.specs.Judged.{result_of, work_left}
use Rattle.cautious.specs.Replayed.{Replayed, by_replay, run_said, ReplaysSearch}

-- ---- the call

front-holds : (xs l : List ℕ) → length xs ≤ length (front xs l)
unfolding front
front-holds xs l = omega (arith, length-append xs (drop (length xs) l))

module _ (t work run : List ℕ) (a : search.Answer) (work' run' : List ℕ) (d : Searches t work run a work' run') where
  abbrev x : Result
  x = result_of t work run

  -- The run is as long as is said, and it is the words that are replayed.
  module _ (n k : ℕ) (e : a ≡ Ok (verdict.Unsafe n k)) where
    count : k ≡ length x.run
    count = subst (λ (y : search.Answer). Counted (record { answer = y; rows = x.rows; run = x.run })) (sym d.answer ∙ e) (search-counted t (length work) (length run))

    pub run-there : k ≤ length run'
    run-there = omega (arith, count, ap length d.words, front-holds x.run run)

    run-part : part 0 k (front x.run run) ≡ x.run
    run-part = front-part x.run run k (sym count)

    run_is : take k run' ≡ x.run
    run_is = ap (take k) d.words ∙ sym (part-take k (front x.run run)) ∙ run-part

    pub replays-unsafe : (r : Replayed) → r ≡ by_replay n (replay_of t (take k run')) → ReplaysSearch t work run r work' run'
    replays-unsafe r q =
        record { answer = q ∙ ap (λ (us : List ℕ). by_replay n (replay_of t us)) run_is ∙ ap (run_said t x.run) (sym e ∙ d.answer); rows = d.rows; words = d.words }

-- The first words of the run buffer, where the search says unsafe.
pub run-words : (t work run : List ℕ) (n k : ℕ) → (result_of t work run).answer ≡ Ok (verdict.Unsafe n k) → part 0 k (front (result_of t work run).run run) ≡ (result_of t work run).run
run-words t work run n k e =
    run-part t work run (result_of t work run).answer (work_left t work run) (front (result_of t work run).run run) (record { answer = refl; rows = refl; words = refl }) n k e

-- One answer and one content of lent memory: two that keep the promise are equal.
pub one-replayed-search : (t work run : List ℕ) (r r' : Replayed) (w w' v v' : List ℕ) → ReplaysSearch t work run r w v → ReplaysSearch t work run r' w' v' → (r ≡ r') × (w ≡ w') × (v ≡ v')
one-replayed-search t work run r r' w w' v v' p q = (p.answer ∙ sym q.answer, p.rows ∙ sym q.rows, p.words ∙ sym q.words)
