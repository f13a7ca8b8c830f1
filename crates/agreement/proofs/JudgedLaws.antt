-- Where the search says safe and the writer writes, the judge accepts the bytes; and what is accepted is not unsafe.
use Rattle.std.proofs.Common.{◌≡◌, sym, ap, subst, ◌∙◌, List, map, ℕ, ◌≤◌, length, Ok, Err}
use Rattle.std.proofs.Common as std
use mathlib.Core.List.{map-map}
use Rattle.std.proofs.Math.ListN.{length-map}
use Rattle.common.specs.Each.{Each}
use Rattle.common.specs.Part.{part}
use Rattle.common.proofs.AtLaws.{at_map}
use Rattle.common.proofs.EachLaws.{at_each}
use Rattle.common.proofs.FrontLaws.{front-part}
use Rattle.meaning.specs.Systems.{System}
use Rattle.rows.specs.Rows.{Row, RowOf}
use Rattle.table.specs.Systems.{GoodTable, system_of}
use Rattle.table.specs.declared.checks.Shape.{Shape}
use Rattle.table.proofs.SystemLaws.{channels-are, messages-are, well-made, few-messages, few-channels}
use Rattle.work.specs.Layout.{Stored, NarrowRows}
use Rattle.work.specs.Room.{room_of}
use Rattle.explore.specs.Search.{Entry}
use Rattle.explore.specs.Found.{Rows}
use Rattle.findings.specs.Search.{frame_of, first_entry}
use Rattle.findings.proofs.RowLaws.{entry-row-of}
use Rattle.search.specs.Standing.{stored, stored_of}
use Rattle.search.specs.Searching.{Result, Answer, search_of, Searches}
use Rattle.search.specs.declared.searches.Verdict.TheVariants.{Safe, Unsafe, RowsFull, AtomsFull}
use Rattle.search.proofs.FindingLaws.{Finding, bad_start, closed, reached, too_wide, no_room}
use Rattle.search.proofs.StandingLaws.{narrow-rows}
use Rattle.writer.specs.Words.{rows_in}
use Rattle.writer.specs.Writing.{bytes_for, bytes_with, bytes_of, left_by, written_with, written}
use Rattle.writer.proofs.BackLaws.{WrittenBack, written-for-back, rows-held}
use Rattle.judgement.specs.Judge.{accepted, judge}
use Rattle.judge.specs.Judging.{found, judge_for, judge_good, judge_with, judge_of, Judges}
use Rattle.judge.specs.declared.judging.Judgement.{Judgement}
use Rattle.judge.specs.declared.judging.Judgement.TheVariants.{Accepted}
use Rattle.judge.specs.declared.judging.Refused as judge_refused
use Rattle.judge.proofs.JudgeLaws.{accepted-sound}
use Rattle.replay.specs.Replaying.{Replays}
use Rattle.replay.specs.declared.replays.Ending.TheVariants as ending
use Rattle.replay.proofs.ReplayLaws.{reaches-bad}
use Rattle.agreement.proofs.SafeLaws as agreed
use Rattle.agreement.proofs.SafeLaws.{safe-accepted}
use Rattle.agreement.proofs.CallLaws.{every-result, unsafe-call}

module _ (t : List ℕ) where
  abbrev S : System
  S = system_of t

  -- Rows of a good table, n of them, that the judge accepts.
  record Accepts (n : ℕ) (l : List Stored) : Type 0 where
    shape : Shape
    good : GoodTable t shape
    count : length l ≡ n
    narrow : NarrowRows l
    rows_of : Each (λ (e : Stored). RowOf shape.channels shape.messages e.row) l
    accepts : judge S (map (λ (e : Stored). e.row) l) ≡ accepted

  -- What an answer says of the rows that were made.
  abbrev Right : Answer → List Stored → Type 0
  Right (Err r) l = Unit {0}
  Right (Ok (Safe n)) l = Accepts n l
  Right (Ok (Unsafe n k)) l = Unit {0}
  Right (Ok (RowsFull n i j)) l = Unit {0}
  Right (Ok (AtomsFull n i j)) l = Unit {0}

  module _ (s : Shape) (g : GoodTable t s) (room : ℕ) where
    closed-accepts : (l : List (Entry (frame_of S))) (rs : Rows (frame_of S) room (first_entry S) l) → judge S (agreed.rows_of S l) ≡ accepted → Accepts (length l) (stored S l)
    closed-accepts l rs e =
        record {
          shape = s;
          good = g;
          count = length-map l (stored_of S);
          narrow = narrow-rows S (well-made t s g) (few-messages t s g) (few-channels t s g) room l rs;
          rows_of =
              at_each (λ (e : Stored). RowOf s.channels s.messages e.row) (stored S l)
              (λ n x h. let a = (at_map (stored_of S) l n x).0 h in
              subst (λ (y : Stored). RowOf s.channels s.messages y.row) a.2
              (rw (← channels-are t s g, ← messages-are t s g) (entry-row-of S (well-made t s g) (few-messages t s g) room l rs n a.0 a.1)));
          accepts = ap (judge S) (map-map (λ (e : Stored). e.row) (stored_of S) l) ∙ e;
        }

    finding-right : (x : Result) → Finding t s g room x → Right x.answer x.rows
    finding-right x (bad_start b) = tt
    finding-right x (closed l rs n y) = closed-accepts l rs (safe-accepted S (well-made t s g) (few-messages t s g) room l rs (n 0 (first_entry S) rs.starts) y)
    finding-right x (reached l i j rs n p k c) = tt
    finding-right x (too_wide l i j rs n y) = tt
    finding-right x (no_room l i j rs n y) = tt

  search-right : (work run : ℕ) → Right (search_of t work run).answer (search_of t work run).rows
  search-right work run = every-result t (λ x. Right x.answer x.rows) work run (λ r. tt) tt tt (λ s g x d. finding-right s g (room_of work) x d)

  -- ---- the bytes of such rows

  module _ (s : Shape) (g : GoodTable t s) (w : List ℕ) (n k size : ℕ) (e : Ok k ≡ written t w n size) where
    back : WrittenBack s w n k
    unfolding written
    back = written-for-back s w n size k (sym (e ∙ ap (written_with w n size) g))

    bytes-are : bytes_of t w n ≡ bytes_for s w n
    unfolding bytes_of
    bytes-are = ap (bytes_with w n) g

    -- The first k bytes of the list's buffer.
    front-is : (list list' : List ℕ) → list' ≡ left_by (Ok k) (bytes_of t w n) list → part 0 k list' ≡ bytes_for s w n
    front-is list list' d = ap (part 0 k) d ∙ front-part (bytes_of t w n) list k (ap length bytes-are ∙ sym back.length_is) ∙ bytes-are

    accepted-bytes : (l : List Row) → rows_in s.channels w n ≡ l → judge S l ≡ accepted → (bytes : List ℕ) → bytes ≡ bytes_for s w n → (q : std.Result Judgement judge_refused.Refused) → Judges t bytes q → q ≡ Ok Accepted
    unfolding judge_of judge_good
    accepted-bytes l r a bytes b q p =
        p.exact
        ∙ ap (judge_of t) b
        ∙ ap (judge_with t (bytes_for s w n)) g
        ∙ ap (judge_for t s (bytes_for s w n)) back.good
        ∙ ap (λ (m : List Row). Ok (found (judge S m))) (back.back ∙ r)
        ∙ ap (λ j. Ok (found j)) a

-- SAFE IS ACCEPTED: where the search says safe with n rows and the writer writes the first n rows of that work table, the judge accepts the bytes written.
pub safe-judged : (t work run : List ℕ) (r : Answer) (work' run' : List ℕ) → Searches t work run r work' run' → (n : ℕ) → r ≡ Ok (Safe n)
    → (list list' : List ℕ) (k : ℕ) → Ok k ≡ written t work' n (length list) → list' ≡ left_by (Ok k) (bytes_of t work' n) list
    → (q : std.Result Judgement judge_refused.Refused) → Judges t (part 0 k list') q → q ≡ Ok Accepted
safe-judged t work run r work' run' d n e list list' k w f q p =
    accepted-bytes t c.shape c.good work' n k (length list) w (map (λ (e : Stored). e.row) x.rows) rows_are c.accepts
    (part 0 k list') (front-is t c.shape c.good work' n k (length list) w list list' f) q p
  where
    x : Result
    x = search_of t (length work) (length run)

    c : Accepts t n x.rows
    c = subst (λ (a : Answer). Right t a x.rows) (sym d.answer ∙ e) (search-right t (length work) (length run))

    few : c.shape.channels ≤ 4
    few = rw (← channels-are t c.shape c.good) (few-channels t c.shape c.good)

    rows_are : rows_in c.shape.channels work' n ≡ map (λ (e : Stored). e.row) x.rows
    rows_are =
        ap (rows_in c.shape.channels work') (sym c.count)
        ∙ rows-held work' x.rows work d.rows c.narrow c.shape.channels few c.shape.messages c.rows_of

-- ACCEPTED RULES OUT UNSAFE: a list that the judge accepts rules out every run that the replay plays to a bad state, and that the search says unsafe.
pub accepted-no-bad-run : (t list run : List ℕ) (n : ℕ) → Judges t list (Ok Accepted) → Replays t run (Ok (ending.Bad n)) → ⊥
accepted-no-bad-run t list run n p q =
    let x = (reaches-bad t run n q).2 in
    (accepted-sound t list p).3 x.0 x.1 x.2

pub accepted-not-unsafe : (t list work run : List ℕ) (r : Answer) (work' run' : List ℕ) (n k : ℕ) → Judges t list (Ok Accepted) → Searches t work run r work' run' → r ≡ Ok (Unsafe n k) → ⊥
accepted-not-unsafe t list work run r work' run' n k p d e =
    let x = unsafe-call t work run r work' run' d n k e in
    (accepted-sound t list p).3 x.0 x.1 x.2
