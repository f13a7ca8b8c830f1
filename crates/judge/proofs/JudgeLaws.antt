-- What the call's answers mean for the system's runs. For a good table and a good list each answer is the first that holds; accepted means that the list's
-- rows are an invariant that rules out every run to a bad state.
use Rattle.std.proofs.Common.{◌≡◌, refl, sym, ap, subst, ◌∙◌, ◌↔◌, List, ℕ, Result, Ok, Err}
use Rattle.common.proofs.AtLaws.{At}
use Rattle.common.proofs.EachLaws.{each_at}
use Rattle.meaning.specs.Systems.{System, start_of, Safe}
use Rattle.rows.specs.Rows.{Row, RowOf}
use Rattle.table.specs.Checking.{check_table}
use Rattle.table.specs.Systems.{GoodTable, system_of}
use Rattle.table.specs.declared.checks.Shape.{Shape}
use Rattle.table.specs.declared.faults.Refusal.{Refusal}
use Rattle.table.proofs.SystemLaws.{channels-are, messages-are, well-made, few-messages}
use Rattle.lists.specs.Format.{RowFits}
use Rattle.lists.specs.Reading.{ListChecked, check_list, rows_of}
use Rattle.lists.proofs.GoodLaws.{rows-fit-all}
use Rattle.judgement.specs.Judge.{accepted, no_start, bad_row, not_closed, judge}
use Rattle.judgement.specs.Judge as judgement
use Rattle.judgement.proofs.SettledLaws.{Held}
use Rattle.judgement.proofs.ExactLaws.{NoBad, AllKept, Says, judge-says, accepted-iff}
use Rattle.judgement.proofs.SoundLaws.{judge-sound}
use Rattle.judgement.proofs.InvariantLaws.{Invariant, invariant-iff}
use Rattle.judge.specs.Judging.{found, judge_for, judge_good, judge_with, judge_of, Judges}
use Rattle.judge.specs.declared.judging.Judgement.{Judgement}
use Rattle.judge.specs.declared.judging.Judgement.TheVariants.{NoStart, BadRow, NotClosed, Accepted}
use Rattle.judge.specs.declared.judging.Refused.{Refused}
use Rattle.judge.proofs.AnswerLaws.{said}

-- The list is good for tables of that shape.
abbrev pub GoodList : Shape → List ℕ → Type 0
GoodList s list = (n : ℕ) × (check_list s list ≡ Ok n)

-- What each answer says of a good table's system and a good list's rows; a refusal is none.
abbrev pub Means : System → List Row → Result Judgement Refused → Type 0
Means S l (Ok NoStart) = Says S l no_start
Means S l (Ok (BadRow i)) = Says S l (bad_row i)
Means S l (Ok (NotClosed i j)) = Says S l (not_closed i j)
Means S l (Ok Accepted) = Says S l accepted
Means S l (Err e) = ⊥

found-means : (S : System) (l : List Row) (j : judgement.Judgement) → Says S l j → Means S l (Ok (found j))
found-means S l accepted h = h
found-means S l no_start h = h
found-means S l (bad_row i) h = h
found-means S l (not_closed i j) h = h

-- Only what is accepted is told so.
found-accepted : (j : judgement.Judgement) → said Accepted ≡ said (found j) → j ≡ accepted
found-accepted accepted e = refl
found-accepted no_start e = absurd (cc)
found-accepted (bad_row i) e = absurd (cc)
found-accepted (not_closed i j) e = absurd (cc)

module _ (t : List ℕ) (s : Shape) (g : GoodTable t s) (list : List ℕ) where
  abbrev S : System
  S = system_of t

  abbrev l : List Row
  l = rows_of s list

  -- The list's rows are rows of the table.
  each_row : (n : ℕ) (r : Row) → At l n r → RowOf S.channels S.messages r
  each_row n r a = rw (channels-are t s g, messages-are t s g) (each_at (RowFits s) l n r (rows-fit-all s list) a).row_of

  module _ (h : GoodList s list) (r : Result Judgement Refused) (p : Judges t list r) where
    told : r ≡ Ok (found (judge S l))
    unfolding judge_of judge_good
    told = p.exact ∙ ap (judge_with t list) g ∙ ap (judge_for t s list) h.1

    -- THE ANSWERS: of no start, bad row (the lowest), not closed (the lowest row, then its lowest transition) and accepted the call gives the first that
    -- holds, each said of configurations.
    pub answer-means : Means S l r
    answer-means = subst (Means S l) (sym told) (found-means S l (judge S l) (judge-says S l (well-made t s g) (few-messages t s g) each_row))

    accepts : (r ≡ Ok Accepted) ↔ (judge S l ≡ accepted)
    accepts = (λ e. found-accepted (judge S l) (sym e ∙ told), λ e. told ∙ ap (λ (j : judgement.Judgement). said (found j)) e)

    -- EXACTNESS: accepted exactly when the start configuration is in some row, no row's state is bad, and the outcome of each move from each row is, as a
    -- set of configurations, empty or wholly in one row.
    pub accepted-exactly : (r ≡ Ok Accepted) ↔ (Held l (start_of S) × NoBad S l × AllKept S l)
    accepted-exactly =
        let q = accepted-iff S l (well-made t s g) (few-messages t s g) each_row in
        (λ e. q.0 (accepts.0 e), λ k. accepts.1 (q.1 k))

    -- THE INVARIANT: accepted exactly when the configurations of all rows have the start, have none in a bad state, and every step (send, receive, quiet,
    -- loss) from one of them stays among them.
    pub accepted-invariant : (r ≡ Ok Accepted) ↔ Invariant S l
    accepted-invariant =
        let q = invariant-iff S l (well-made t s g) (few-messages t s g) each_row in
        (λ e. q.0 (accepts.0 e), λ k. accepts.1 (q.1 k))

  accepted-no-run : GoodList s list → Judges t list (Ok Accepted) → Safe S
  accepted-no-run h p = judge-sound S l (well-made t s g) (few-messages t s g) each_row ((accepts h (Ok Accepted) p).0 refl)

-- SOUNDNESS: where the call answers accepted, table and list are good, and no finite run of the table's system from the start with empty channels, with any
-- sends, receives and losses, reaches a bad state.
pub accepted-sound : (t list : List ℕ) → Judges t list (Ok Accepted) → (s : Shape) × GoodTable t s × GoodList s list × Safe (system_of t)
unfolding judge_of judge_good
accepted-sound t list p = go (check_table t) refl p.exact
  where
    of-list : (s : Shape) → GoodTable t s → (c : ListChecked) → check_list s list ≡ c → said Accepted ≡ judge_for t s list c → (s : Shape) × GoodTable t s × GoodList s list × Safe (system_of t)
    of-list s g (Err f) k e = absurd (cc)
    of-list s g (Ok n) k e = (s, g, (n, k), accepted-no-run t s g list (n, k) p)

    go : (c : Result Shape Refusal) → check_table t ≡ c → said Accepted ≡ judge_with t list c → (s : Shape) × GoodTable t s × GoodList s list × Safe (system_of t)
    go (Err f) g e = absurd (cc)
    go (Ok s) g e = of-list s g (check_list s list) refl e
