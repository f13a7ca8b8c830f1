-- Search, writer and judge in a row: the answer, and what is left in lent memory.
use Rattle.std.specs.Prelude.{◌≡◌, List, ℕ, length, Ok, Err}
use Rattle.std.specs.Prelude as std
use Rattle.common.specs.Front.{front}
use Rattle.work.specs.Layout.{all_words}
use Rattle.search.specs.Searching.{Result, search_of}
use Rattle.search.specs.Searching as search
use Rattle.search.specs.declared.searches.Verdict.TheVariants as verdict
use Rattle.writer.specs.Writing.{Written, written, left_by, bytes_of}
use Rattle.judge.specs.Judging.{judge_of}
use Rattle.judge.specs.declared.judging.Judgement.{Judgement}
use Rattle.judge.specs.declared.judging.Judgement.TheVariants as judgement
use Rattle.judge.specs.declared.judging.Refused as judge
use Rattle.cautious.specs.declared.judged.Accepted.{Accepted}
use Rattle.cautious.specs.declared.judged.NotAccepted.{NotAccepted}
use Rattle.cautious.specs.declared.judged.NotAccepted.TheVariants.{Unwritten, Denied, NotSafe}

-- What the call answers.
abbrev pub Judged : Type 0
Judged = std.Result Accepted NotAccepted

-- By what the judge says of n rows in k bytes.
abbrev pub by_judge : ℕ → ℕ → std.Result Judgement judge.Refused → Judged
by_judge n k (Err r) = Err (Denied (Err r))
by_judge n k (Ok judgement.NoStart) = Err (Denied (Ok judgement.NoStart))
by_judge n k (Ok (judgement.BadRow i)) = Err (Denied (Ok (judgement.BadRow i)))
by_judge n k (Ok (judgement.NotClosed i j)) = Err (Denied (Ok (judgement.NotClosed i j)))
by_judge n k (Ok judgement.Accepted) = Ok (record { rows = n; bytes = k })

-- By what the writer says of n rows, whose list is these bytes.
abbrev pub by_writer : List ℕ → ℕ → List ℕ → Written → Judged
by_writer t n bytes (Err r) = Err (Unwritten r)
by_writer t n bytes (Ok k) = by_judge n k (judge_of t bytes)

-- By what the search says and leaves in the work table w, with so many bytes for the list.
abbrev pub by_search : List ℕ → List ℕ → ℕ → search.Answer → Judged
by_search t w size (Err r) = Err (NotSafe (Err r))
by_search t w size (Ok (verdict.Safe n)) = by_writer t n (bytes_of t w n) (written t w n size)
by_search t w size (Ok (verdict.Unsafe n k)) = Err (NotSafe (Ok (verdict.Unsafe n k)))
by_search t w size (Ok (verdict.RowsFull n i j)) = Err (NotSafe (Ok (verdict.RowsFull n i j)))
by_search t w size (Ok (verdict.AtomsFull n i j)) = Err (NotSafe (Ok (verdict.AtomsFull n i j)))

-- The list's bytes are written only with safe.
abbrev pub list_left : List ℕ → List ℕ → List ℕ → search.Answer → List ℕ
list_left t w list (Err r) = list
list_left t w list (Ok (verdict.Safe n)) = left_by (written t w n (length list)) (bytes_of t w n) list
list_left t w list (Ok (verdict.Unsafe n k)) = list
list_left t w list (Ok (verdict.RowsFull n i j)) = list
list_left t w list (Ok (verdict.AtomsFull n i j)) = list

-- What the search finds, and the work table that it leaves.
abbrev pub result_of : List ℕ → List ℕ → List ℕ → Result
result_of t work run = search_of t (length work) (length run)

abbrev pub work_left : List ℕ → List ℕ → List ℕ → List ℕ
work_left t work run = front (all_words (result_of t work run).rows) work

-- The promise of the call: answer and lent memory are those of the search, the writer and the judge.
pub record JudgesSearch (t work run list : List ℕ) (r : Judged) (work' run' list' : List ℕ) : Type 0 where
  pub answer : r ≡ by_search t (work_left t work run) (length list) (result_of t work run).answer
  pub rows : work' ≡ work_left t work run
  pub words : run' ≡ front (result_of t work run).run run
  pub bytes : list' ≡ list_left t (work_left t work run) list (result_of t work run).answer
