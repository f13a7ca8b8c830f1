-- The answer of search, writer and judge in a row: how it comes about, and that accepted is said only of lists that the judge accepts.
use Rattle.std.proofs.Common.{◌≡◌, sym, ap, ◌∙◌, List, ℕ, ◌≤◌, arith, length, take, Ok}
use Rattle.common.specs.Front.{front}
use Rattle.common.proofs.ChoiceLaws.{choices}
use Rattle.common.proofs.FrontLaws.{front-part}
use Rattle.common.proofs.PartLaws.{part-take}
use Rattle.writer.specs.Writing.{Written, written, written_for, left_by, bytes_of}
use Rattle.judge.specs.Judging.{judge_of}
use Rattle.cautious.specs.Judged.{Judged, by_judge, by_writer, JudgesSearch}

-- ---- a list that was written

-- It is as long as is said, and fits.
pub record Fits (t w : List ℕ) (n size k : ℕ) : Type 0 where
  pub length_is : length (bytes_of t w n) ≡ k
  pub fits : k ≤ size

pub wrote-fits : (t w : List ℕ) (n size k : ℕ) → Ok k ≡ written t w n size → Fits t w n size k
unfolding written written_for bytes_of
wrote-fits t w n size k e = grind (arith, choices)

module _ (t w : List ℕ) (n : ℕ) (list list' : List ℕ) (x : Written) (says : x ≡ written t w n (length list)) (left : list' ≡ left_by x (bytes_of t w n) list) where
  -- The bytes that are judged are those that were written.
  module _ (k : ℕ) (is : x ≡ Ok k) where
    fit : Fits t w n (length list) k
    fit = wrote-fits t w n (length list) k (sym is ∙ says)

    pub list-there : length list' ≡ length list → k ≤ length list'
    list-there e = omega (arith, fit.fits)

    written-front : take k list' ≡ bytes_of t w n
    written-front =
        ap (take k) (left ∙ ap (λ (y : Written). left_by y (bytes_of t w n) list) is) ∙ sym (part-take k (front (bytes_of t w n) list)) ∙ front-part (bytes_of t w n) list k fit.length_is

    pub counted : k ≡ length (take k list')
    counted = sym (ap length written-front ∙ fit.length_is)

    pub by_bytes : {r : Judged} → r ≡ by_judge n (length (take k list')) (judge_of t (take k list')) → r ≡ by_writer t n (bytes_of t w n) (written t w n (length list))
    by_bytes q =
        q ∙ ap (λ (j : ℕ). by_judge n j (judge_of t (take k list'))) (sym counted) ∙ ap (λ (b : List ℕ). by_judge n k (judge_of t b)) written-front
        ∙ ap (by_writer t n (bytes_of t w n)) (sym is ∙ says)

-- One answer and one content of lent memory: two that keep the promise are equal.
pub one-judged-search : (t work run list : List ℕ) (r r' : Judged) (w w' v v' b b' : List ℕ) → JudgesSearch t work run list r w v b → JudgesSearch t work run list r' w' v' b'
    → (r ≡ r') × (w ≡ w') × (v ≡ v') × (b ≡ b')
one-judged-search t work run list r r' w w' v v' b b' p q = (p.answer ∙ sym q.answer, p.rows ∙ sym q.rows, p.words ∙ sym q.words, p.bytes ∙ sym q.bytes)

pub ruleset list_tells = (list-there, counted, by_bytes)
