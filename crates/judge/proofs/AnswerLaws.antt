-- The judge's answer to a table and a list: what it says, and that there is one for each.
use Rattle.std.proofs.Common.{◌≡◌, refl, sym, ap, subst, ◌∙◌, List, ℕ, ◌≤◌, arith, length, take, length-take-le, Result, Ok, Err}
use Rattle.rows.specs.Rows.{Row}
use Rattle.table.specs.Checking.{check_table}
use Rattle.table.specs.Systems.{system_of}
use Rattle.table.specs.declared.checks.Shape.{Shape}
use Rattle.table.specs.declared.faults.Refusal.{Refusal}
use Rattle.lists.specs.Reading.{ListChecked, check_list, rows_of}
use Rattle.lists.specs.Loading.{Memory, ListTold, Decoded}
use Rattle.lists.proofs.DecodedLaws.{loaded-decoded}
use Rattle.lists.proofs.GoodLaws.{rows-fit-all, few_rows, good-count}
use Rattle.judgement.specs.Judge.{accepted, no_start, bad_row, not_closed, judge}
use Rattle.judgement.specs.Judge as judgement
use Rattle.judge.specs.Look.{rows_at, Sized}
use Rattle.judge.specs.Memory.{rows_in}
use Rattle.judge.specs.Judging.{says, answer_for, answer_with, judge_answer, answer_of, found, judged_at, judge_for, judge_good, judge_with, judge_of, Judges}
use Rattle.judge.specs.declared.memory.Rows.{Rows}
use Rattle.judge.specs.declared.judging.Judgement.{Judgement}
use Rattle.judge.specs.declared.judging.Refused.{Refused}
use Rattle.judge.specs.declared.judging.Refused.TheVariants as refused_by
use Rattle.judge.proofs.MemoryLaws.{loaded-sized, loaded-rows, taken-rows}

-- What is said of a good list's rows.
abbrev pub said : Judgement → Result Judgement Refused
said j = Ok j

-- ---- a list that was read

module _ (s : Shape) (list : List ℕ) (r : ListChecked) (e : r ≡ check_list s list) where
  pub list-refused : (t : List ℕ) (f : Refusal) → r ≡ Err f → Err (refused_by.List f) ≡ judge_good t s list
  unfolding judge_good
  list-refused t f k = ap (judge_for t s list) (sym k ∙ e)

  module _ (old new : Memory) (told : ListTold r s list old new) (n : ℕ) (k : r ≡ Ok n) where
    decoded : Decoded s.channels (rows_of s list) new
    decoded = loaded-decoded s.channels (rows_of s list) old new (subst (λ (x : ListChecked). ListTold x s list old new) k told)

    count : length (rows_of s list) ≡ n
    count = good-count s list n (sym e ∙ k)

    -- Its rows stand in the memory.
    there : n ≤ length new.states
    there = omega (arith, count, decoded.states_there)

    pub list-few : n ≤ 1024
    list-few = subst (λ (k : ℕ). k ≤ 1024) count (few_rows s list)

    pub list-taken : n ≡ length (take n new.states)
    list-taken = sym (length-take-le n new.states there)

    pub list-sized : s.channels ≤ 4 → Sized s.channels new.products.starts new.products.atoms n
    list-sized h =
        subst (Sized s.channels new.products.starts new.products.atoms) count
        (loaded-sized s (rows_of s list) new decoded (rows-fit-all s list) h (few_rows s list))

    -- The memory m has just these.
    module _ (m : Rows) (channels : m.products.channels ≡ s.channels) (states : m.states.now ≡ take n new.states) (starts : m.products.starts.now ≡ new.products.starts) (atoms : m.products.atoms.now ≡ new.products.atoms) where
      same_rows : rows_in m ≡ rows_of s list
      same_rows =
          rw (channels, states, starts, atoms)
          (taken-rows s.channels new.states new.products.starts new.products.atoms n there
          ∙ ap (λ (k : ℕ). rows_at s.channels new.states new.products.starts new.products.atoms k 0) (sym count)
          ∙ loaded-rows s (rows_of s list) new decoded (rows-fit-all s list))

      pub list-judged : (t : List ℕ) {a : Judgement} → a ≡ judged_at t s m → Ok a ≡ judge_good t s list
      unfolding judged_at judge_good
      list-judged t q = ap said (q ∙ ap (λ (l : List Row). found (judge (system_of t) l)) same_rows) ∙ ap (judge_for t s list) (sym k ∙ e)

-- ---- the call

-- What is said of the rows is what the answer says.
found-says : (j : judgement.Judgement) → answer_of (Ok (found j)) ≡ says j
found-says accepted = refl
found-says no_start = refl
found-says (bad_row i) = refl
found-says (not_closed i j) = refl

-- The call's one answer says what the rules say.
pub judge-says : (t list : List ℕ) → answer_of (judge_of t list) ≡ judge_answer t list
unfolding judge_of judge_answer judge_good
judge-says t list = go (check_table t)
  where
    of-list : (s : Shape) (c : ListChecked) → answer_of (judge_for t s list c) ≡ answer_for t s list c
    of-list s (Err f) = refl
    of-list s (Ok n) = found-says (judge (system_of t) (rows_of s list))

    go : (c : Result Shape Refusal) → answer_of (judge_with t list c) ≡ answer_with t list c
    go (Err f) = refl
    go (Ok s) = of-list s (check_list s list)

pub judges : (t list : List ℕ) (r : Result Judgement Refused) → r ≡ judge_of t list → Judges t list r
judges t list r e = record { says = ap answer_of e ∙ judge-says t list; exact = e }

-- The table's refusal, and the answer for a good table.
pub judges-refused : (t list : List ℕ) (f : Refusal) → check_table t ≡ Err f → Judges t list (Err (refused_by.Table f))
unfolding judge_of
judges-refused t list f e = judges t list (Err (refused_by.Table f)) (ap (judge_with t list) (sym e))

pub judges-good : (t list : List ℕ) (s : Shape) (r : Result Judgement Refused) → check_table t ≡ Ok s → r ≡ judge_good t s list → Judges t list r
unfolding judge_of
judges-good t list s r e k = judges t list r (k ∙ ap (judge_with t list) (sym e))

-- One answer: two that keep the promise are equal.
pub one-judge : (t list : List ℕ) (r r' : Result Judgement Refused) → Judges t list r → Judges t list r' → r ≡ r'
one-judge t list r r' p p' = p.exact ∙ sym p'.exact
