-- What is made of a table, case by case.
use Rattle.std.proofs.Common.{◌≡◌, refl, sym, ap, subst, ◌∙◌, Bool, true, false, cond, List, Option, Some, None, IfSome, Ok, Err, ℕ, ◌+◌, ◌<◌, ◌≤◌, ◌^◌, ltb, length, arith}
use Rattle.common.specs.Choice.{if_lt}
use Rattle.common.specs.Front.{front}
use Rattle.common.proofs.ChoiceLaws.{choices}
use Rattle.table.specs.Systems.{system_of}
use Rattle.work.specs.Layout.{all_words}
use Rattle.search.specs.Searching as search
use Rattle.search.specs.Searching.{search_with, search_of, Leaves, Searches}
use Rattle.search.specs.declared.searches.Verdict.TheVariants.{Safe, Unsafe, RowsFull, AtomsFull}
use Rattle.search.proofs.SearchLaws.{search-counted}
use Rattle.writer.specs.Writing.{written, written_for, written_with, bytes_for, after_look, bytes_of, left_by}
use Rattle.writer.specs.Answers.{answer}
use Rattle.writer.specs.Writing as writer
use Rattle.writer.specs.declared.calls.Refused.TheVariants.{Table, BadRow, TooSmall}
use Rattle.wording.specs.Written.{Written}
use Rattle.wording.specs.Lines.{safe_line}
use Rattle.wording.specs.Answers.{bytes_line, long_table_line}
use Rattle.wording.specs.Steps.{Answer, answer_text}
use Rattle.wording.proofs.LineLaws.{refusal-room, safe-length, one-length, counted-length, long-number}
use Rattle.wording.proofs.WrittenLaws.{written-length, written_then}
use Rattle.verdicts.specs.Said.{said_by}
use Rattle.verdicts.proofs.SaidLaws.{left-says}
use Rattle.prover.specs.Output.{safe_rows, list_line, Made, only_text, listed, made_by, searched, found, made, Tells, Makes, Inside}
use Rattle.prover.specs.declared.answers.Output.{Output}

-- A text with no list.
abbrev text_alone : ℕ → Output
text_alone n = record { text = n; list = None }

pub bytes-room : (n a m : ℕ) → n < 2 ^ 64 → a + 80 ≤ m → a + length (bytes_line n) ≤ m
bytes-room n a m h k = let x = safe-length n h in let e = long-number n h in simp (one-length, counted-length) (omega arith)

pub safe-room : (n m : ℕ) → n < 2 ^ 64 → 28732 ≤ m → 0 + length (safe_line n) ≤ m
safe-room n m h k = let x = safe-length n h in omega arith

-- Behind the line of a safe table there is room for another.
pub safe-next : (l : List ℕ) (n : ℕ) (m : List ℕ) (r k : ℕ) → n < 2 ^ 64 → 28732 ≤ k → Written l 0 (safe_line n) m r → r + 80 ≤ k
safe-next l n m r k h i w = let x = safe-length n h in let e = w.next in omega arith

-- Text and list of a safe table.
pub safe-listed : (t w old l m list : List ℕ) (rows : ℕ) (a : writer.Written) (o : List ℕ) (b : ℕ) (r : Output) → length old ≡ 206848 → a ≡ written t w rows (length old)
    → list ≡ left_by a (bytes_of t w rows) old → Written l 0 (safe_line rows) o b → Tells (answer a) o b m r
    → Makes (listed (written t w rows 206848) (bytes_of t w rows) rows old) l m list r
safe-listed t w old l m list rows a o b r n f g y z =
    subst (λ (c : writer.Written). Makes (listed c (bytes_of t w rows) rows old) l m list r) (f ∙ ap (written t w rows) n)
    (record { written = written_then l 0 (safe_line rows) o b (list_line (answer a)) m r.text y z.written; size = z.size; held = g })

-- ---- by what the search leaves

-- A verdict that is not safe has no rows.
no-rows : (v : search.Answer) → ((n : ℕ) → v ≡ Ok (Safe n) → ⊥) → safe_rows v ≡ None
no-rows (Ok (Safe n)) h = absurd (h n refl)
no-rows (Ok (Unsafe n k)) h = refl
no-rows (Ok (RowsFull n i j)) h = refl
no-rows (Ok (AtomsFull n i j)) h = refl
no-rows (Err e) h = refl

module _ (t w old : List ℕ) (x : search.Result) (run : List ℕ) (v : search.Answer) (w' run' : List ℕ) (d : Leaves x w run v w' run') (l m list : List ℕ) where
  decided : (p : Option ℕ) (r : Output) → safe_rows v ≡ p → Makes (made_by t w old x p) l m list r → Makes (made_by t w old x (safe_rows x.answer)) l m list r
  decided p r e z = subst (λ (y : Option ℕ). Makes (made_by t w old x y) l m list r) (sym e ∙ ap safe_rows d.answer) z

  pub safe-made : (rows : ℕ) (r : Output) → v ≡ Ok (Safe rows) → Makes (listed (written t w' rows 206848) (bytes_of t w' rows) rows old) l m list r
      → Makes (made_by t w old x (safe_rows x.answer)) l m list r
  safe-made rows r e z =
      decided (Some rows) r (ap safe_rows e) (subst (λ (u : List ℕ). Makes (listed (written t u rows 206848) (bytes_of t u rows) rows old) l m list r) d.rows z)

  pub other-made : (r : ℕ) → ((n : ℕ) → v ≡ Ok (Safe n) → ⊥) → said_by v run' ≡ said_by x.answer x.run → list ≡ old → Written l 0 (answer_text (system_of t) (said_by v run')) m r
      → Makes (made_by t w old x (safe_rows x.answer)) l m list (text_alone r)
  other-made r e f g y =
      decided None (text_alone r) (no-rows v e) (record { written = subst (λ (z : Answer). Written l 0 (answer_text (system_of t) z) m r) f y; size = refl; held = g })

-- ---- a good table

module _ (t w old run : List ℕ) (a : length w ≡ 105472) (b : length run ≡ 2048) (l m list : List ℕ) where
  at_room : (r : Output) → Makes (made_by t w old (search_of t (length w) (length run)) (safe_rows (search_of t (length w) (length run)).answer)) l m list r → Makes (found t w old) l m list r
  unfolding found searched
  at_room r z =
      subst (λ (n : ℕ). Makes (made_by t w old (search_of t 105472 n) (safe_rows (search_of t 105472 n).answer)) l m list r) b
      (subst (λ (n : ℕ). Makes (made_by t w old (search_of t n (length run)) (safe_rows (search_of t n (length run)).answer)) l m list r) a z)

  module _ (v : search.Answer) (w' run' : List ℕ) (d : Searches t w run v w' run') where
    pub safe-found : (rows : ℕ) (r : Output) → v ≡ Ok (Safe rows) → Makes (listed (written t w' rows 206848) (bytes_of t w' rows) rows old) l m list r → Makes (found t w old) l m list r
    safe-found rows r e z = at_room r (safe-made t w old (search_of t (length w) (length run)) run v w' run' d l m list rows r e z)

    pub other-found : (r : ℕ) → ((n : ℕ) → v ≡ Ok (Safe n) → ⊥) → list ≡ old → Written l 0 (answer_text (system_of t) (said_by v run')) m r → Makes (found t w old) l m list (text_alone r)
    other-found r e g y =
        at_room (text_alone r)
        (other-made t w old (search_of t (length w) (length run)) run v w' run' d l m list r e
        (left-says (search_of t (length w) (length run)) w run v w' run' d (search-counted t (length w) (length run))) g y)

-- ---- what is told is there

-- A list that is written fits.
written-fits : (t w : List ℕ) (rows size n : ℕ) → written t w rows size ≡ Ok n → n ≤ size
unfolding written written_for
written-fits t w rows size n e = grind (arith, choices)

-- What is made has no larger list than there is room for.
abbrev Few : Made → Type 0
Few x = IfSome x.size (λ k. k ≤ 206848)

listed-few : (t w old : List ℕ) (rows : ℕ) (a : writer.Written) → written t w rows 206848 ≡ a → Few (listed a (bytes_of t w rows) rows old)
listed-few t w old rows (Ok n) e = written-fits t w rows 206848 n e
listed-few t w old rows (Err (Table r)) e = tt
listed-few t w old rows (Err (BadRow i)) e = tt
listed-few t w old rows (Err (TooSmall n)) e = tt

by-few : (t w old : List ℕ) (x : search.Result) (q : Option ℕ) → Few (made_by t w old x q)
by-few t w old x (Some rows) = listed-few t (front (all_words x.rows) w) old rows (written t (front (all_words x.rows) w) rows 206848) refl
by-few t w old x None = tt

made-few : (t w old : List ℕ) → Few (made t w old)
unfolding made found if_lt
made-few t w old = go (ltb 36874 (length t))
  where
    go : (b : Bool) → Few (cond b (only_text long_table_line old) (made_by t w old (searched t) (safe_rows (searched t).answer)))
    go true = tt
    go false = by-few t w old (searched t) (safe_rows (searched t).answer)

pub made_inside : (t w old l m list : List ℕ) (r : Output) → Makes (made t w old) l m list r → length list ≡ 206848 → Inside r list m
made_inside t w old l m list r z h =
    let e = written-length l 0 (made t w old).text m r.text z.written in
    let i = z.written.inside in
    (omega arith, rw (z.size, h) (made-few t w old))

pub ruleset rooms = (bytes-room, safe-room, refusal-room)

pub ruleset inside = (made_inside)
