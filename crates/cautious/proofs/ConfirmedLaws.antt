-- What the cautious functions' answers mean. Safe comes only with bytes that the judge accepts, unsafe only with words that the replay plays to a bad state, and
-- neither judge nor replay ever denies what the search says.
use Rattle.std.proofs.Common.{◌≡◌, refl, sym, ap, subst, ◌∙◌, List, ℕ, length, Ok, Err}
use Rattle.std.proofs.Common as std
use Rattle.common.specs.Front.{front}
use Rattle.common.specs.Part.{part}
use Rattle.common.proofs.FrontLaws.{front-part}
use Rattle.meaning.specs.Systems as meaning
use Rattle.table.specs.Systems.{system_of}
use Rattle.search.specs.Searching.{Result, Searches}
use Rattle.search.specs.Searching as search
use Rattle.search.specs.declared.searches.Verdict.TheVariants as verdict
use Rattle.writer.specs.Writing.{Written, written, left_by, bytes_of}
use Rattle.judge.specs.Judging.{judge_of, Judges}
use Rattle.judge.proofs.AnswerLaws.{judges}
use Rattle.judge.specs.declared.judging.Judgement.{Judgement}
use Rattle.judge.specs.declared.judging.Judgement.TheVariants as judgement
use Rattle.judge.specs.declared.judging.Refused as judge
use Rattle.replay.specs.Replaying.{replay_of, Replays}
use Rattle.replay.proofs.AnswerLaws.{replays}
use Rattle.replay.specs.declared.replays.Ending.{Ending}
use Rattle.replay.specs.declared.replays.Ending.TheVariants as ending
use Rattle.replay.specs.declared.replays.Refused as replay
use Rattle.agreement.proofs.CallLaws.{safe-call, unsafe-replays, unsafe-call}
use Rattle.agreement.proofs.JudgedLaws.{safe-judged}
use Rattle.cautious.specs.Judged.{Judged, by_judge, by_writer, by_search, list_left, result_of, work_left, JudgesSearch}
use Rattle.cautious.specs.Replayed.{Replayed, by_replay, run_said, ReplaysSearch}
use Rattle.cautious.specs.declared.judged.Accepted.{Accepted}
use Rattle.cautious.specs.declared.judged.NotAccepted.TheVariants.{Unwritten, NotSafe}
use Rattle.cautious.specs.declared.judged.NotAccepted.TheVariants as judged
use Rattle.cautious.specs.declared.replayed.Reached.{Reached}
use Rattle.cautious.specs.declared.replayed.NotReached.TheVariants.{NotUnsafe}
use Rattle.cautious.specs.declared.replayed.NotReached.TheVariants as replayed
use Rattle.cautious.proofs.JudgedLaws.{wrote-fits}
use Rattle.cautious.proofs.ReplayedLaws.{run-words}

module _ (t work run : List ℕ) where
  abbrev x : Result
  x = result_of t work run

  abbrev w : List ℕ
  w = work_left t work run

  abbrev v : List ℕ
  v = front x.run run

  searches : Searches t work run x.answer w v
  searches = record { answer = refl; rows = refl; words = refl }

  -- ---- the judge

  module _ (list : List ℕ) where
    -- The list's first bytes, where it was written, are the rows' list, and the judge accepts them.
    front_bytes : (n k : ℕ) → written t w n (length list) ≡ Ok k → part 0 k (front (bytes_of t w n) list) ≡ bytes_of t w n
    front_bytes n k e = front-part (bytes_of t w n) list k (wrote-fits t w n (length list) k (sym e)).length_is

    accepts : (n k : ℕ) → x.answer ≡ Ok (verdict.Safe n) → written t w n (length list) ≡ Ok k → judge_of t (bytes_of t w n) ≡ Ok judgement.Accepted
    accepts n k a e =
        ap (judge_of t) (sym (front_bytes n k e))
        ∙ safe-judged t work run x.answer w v searches n a list (front (bytes_of t w n) list) k (sym e) refl _ (judges t (part 0 k (front (bytes_of t w n) list)) _ refl)

    -- What each answer tells of the search and the writer.
    abbrev Tells : Judged → Type 0
    Tells (Ok a) = (x.answer ≡ Ok (verdict.Safe a.rows)) × (written t w a.rows (length list) ≡ Ok a.bytes)
    Tells (Err (Unwritten y)) = (n : ℕ) × (x.answer ≡ Ok (verdict.Safe n)) × (written t w n (length list) ≡ Err y)
    Tells (Err (judged.Denied a)) = ⊥
    Tells (Err (NotSafe a)) = x.answer ≡ a

    by-writer : (n : ℕ) → x.answer ≡ Ok (verdict.Safe n) → (y : Written) → written t w n (length list) ≡ y → Tells (by_writer t n (bytes_of t w n) y)
    by-writer n a (Err r) e = (n, a, e)
    by-writer n a (Ok k) e = subst (λ (q : std.Result Judgement judge.Refused). Tells (by_judge n k q)) (sym (accepts n k a e)) (a, e)

    by-search : (a : search.Answer) → x.answer ≡ a → Tells (by_search t w (length list) a)
    by-search (Err r) e = e
    by-search (Ok (verdict.Safe n)) e = by-writer n e (written t w n (length list)) refl
    by-search (Ok (verdict.Unsafe n k)) e = e
    by-search (Ok (verdict.RowsFull n i j)) e = e
    by-search (Ok (verdict.AtomsFull n i j)) e = e

    module _ (r : Judged) (work' run' list' : List ℕ) (p : JudgesSearch t work run list r work' run' list') where
      tells : Tells r
      tells = subst Tells (sym p.answer) (by-search x.answer refl)

      -- ACCEPTED: the search said safe, the judge accepts the first bytes of the list buffer, and no run reaches a bad state.
      pub accepted-only : (a : Accepted) → r ≡ Ok a
          → Searches t work run (Ok (verdict.Safe a.rows)) work' run' × Judges t (part 0 a.bytes list') (Ok judgement.Accepted) × meaning.Safe (system_of t)
      accepted-only a e =
          let n = a.rows in
          let k = a.bytes in
          let q = subst Tells e tells in
          let bytes : part 0 k list' ≡ bytes_of t w n =
          ap (part 0 k) (p.bytes ∙ ap (list_left t w list) q.0 ∙ ap (λ (y : Written). left_by y (bytes_of t w n) list) q.1) ∙ front_bytes n k q.1 in (
            record { answer = sym q.0; rows = p.rows; words = p.words },
            judges t (part 0 k list') (Ok judgement.Accepted) (sym (ap (judge_of t) bytes ∙ accepts n k q.0 q.1)),
            safe-call t work run x.answer w v searches n q.0,
          )

      -- The judge never denies a list that was written of a safe search's rows.
      pub never-denied : (a : std.Result Judgement judge.Refused) → r ≡ Err (judged.Denied a) → ⊥
      never-denied a e = subst Tells e tells

  -- ---- the replay

  reaches : (n k : ℕ) → x.answer ≡ Ok (verdict.Unsafe n k) → replay_of t x.run ≡ Ok (ending.Bad k)
  reaches n k a =
      ap (replay_of t) (sym (run-words t work run n k a))
      ∙ unsafe-replays t work run x.answer w v searches n k a _ (replays t (part 0 k v) _ refl)

  abbrev Shows : Replayed → Type 0
  Shows (Ok a) = x.answer ≡ Ok (verdict.Unsafe a.rows a.steps)
  Shows (Err (replayed.Denied a)) = ⊥
  Shows (Err (NotUnsafe a)) = x.answer ≡ a

  by-run : (a : search.Answer) → x.answer ≡ a → Shows (run_said t x.run a)
  by-run (Err r) e = e
  by-run (Ok (verdict.Safe n)) e = e
  by-run (Ok (verdict.Unsafe n k)) e = subst (λ (q : std.Result Ending replay.Refused). Shows (by_replay n q)) (sym (reaches n k e)) e
  by-run (Ok (verdict.RowsFull n i j)) e = e
  by-run (Ok (verdict.AtomsFull n i j)) e = e

  module _ (r : Replayed) (work' run' : List ℕ) (p : ReplaysSearch t work run r work' run') where
    shows : Shows r
    shows = subst Shows (sym p.answer) (by-run x.answer refl)

    -- REACHED: the search said unsafe, the replay of the run buffer's first words reaches bad in as many steps, and a run of the system reaches a bad state.
    pub reached-only : (a : Reached) → r ≡ Ok a
        → Searches t work run (Ok (verdict.Unsafe a.rows a.steps)) work' run' × Replays t (part 0 a.steps run') (Ok (ending.Bad a.steps)) × ((y : meaning.Config) × meaning.Reachable (system_of t) y × meaning.Bad (system_of t) y)
    reached-only c e =
        let n = c.rows in
        let k = c.steps in
        let a = subst Shows e shows in (
          record { answer = sym a; rows = p.rows; words = p.words },
          replays t (part 0 k run') (Ok (ending.Bad k)) (sym (ap (λ (us : List ℕ). replay_of t (part 0 k us)) p.words ∙ ap (replay_of t) (run-words t work run n k a) ∙ reaches n k a)),
          unsafe-call t work run x.answer w v searches n k a,
        )

    -- The replay never denies the search's run.
    pub run-never-denied : (a : std.Result Ending replay.Refused) → r ≡ Err (replayed.Denied a) → ⊥
    run-never-denied a e = subst Shows e shows
