-- Step lines: how long they are, and that their parts, written one behind the other, make them.
use Rattle.std.proofs.Common.{◌≡◌, refl, sym, ap, subst, ◌∙◌, Bool, true, false, List, [], ◌∷◌, ◌++◌, append_assoc, append-nil, ℕ, zero, suc, ◌+◌, ◌*◌, ◌<◌, ◌≤◌, length, get_or, take, length-append, add-one, arith}
use Rattle.std.proofs.Math.Option.{Option, none, some}
use Rattle.std.proofs.Math.ListN.{get_elem?}
use Rattle.std.proofs.Math.Seq.{take-suc}
use Rattle.meaning.specs.Systems as meaning
use Rattle.meaning.specs.Systems.{System, Move}
use Rattle.table.specs.Transitions.{transition_at, operation_of, move_of}
use Rattle.table.specs.Systems.{GoodTable, system_of}
use Rattle.table.proofs.SystemLaws.{moves-length, move-at}
use Rattle.table.specs.declared.checks.Shape.{Shape}
use Rattle.table.specs.declared.transitions.Transition.{Transition}
use Rattle.playing.specs.Play.{number, lost}
use Rattle.wording.specs.Words.{end_word}
use Rattle.wording.specs.Numbers.{number_text}
use Rattle.wording.specs.Lines.{unsafe_line}
use Rattle.wording.specs.Steps.{happened, happened_to, step_line, run_lines, unsafe_text}
use Rattle.wording.specs.Written.{Written}
use Rattle.wording.proofs.NumberLaws.{number_short}
use Rattle.wording.proofs.WrittenLaws.{written_none, written-length, written_then}

-- ---- what became of a message

pub happened-short : (g : Bool) (o : meaning.Operation) → length (happened g o) ≤ 8
unfolding happened
happened-short g meaning.quiet = omega arith
happened-short g (meaning.receive c m) = omega arith
happened-short true (meaning.send c m) = omega arith
happened-short false (meaning.send c m) = omega arith

happened-to-short : (g : Bool) (o : Option Move) → length (happened_to g o) ≤ 8
happened-to-short g none = omega arith
happened-to-short g (some t) = happened-short g t.operation

-- Nothing stands behind a list's end.
none_past : {A : Type 0} (l : List A) (n : ℕ) → length l ≤ n → get_elem? l n ≡ none
none_past [] n h = refl
none_past (x ∷ l) zero h = absurd (omega arith)
none_past (x ∷ l) (suc n) h = none_past l n (omega arith)

module _ (t : List ℕ) (s : Shape) (g : GoodTable t s) (gone : Bool) (i : ℕ) (l : List ℕ) (a : ℕ) where
  pub move-told : (m : List ℕ) (r : ℕ) (x : Transition) → i < s.transitions → x ≡ transition_at t i → Written l a (happened gone (operation_of x.operation)) m r
      → Written l a (happened_to gone (get_elem? (system_of t).moves i)) m r
  move-told m r x h e w = subst (λ (o : Option Move). Written l a (happened_to gone o) m r) (ap (λ (y : Transition). some (move_of y)) e ∙ sym (move-at t s g i h)) w

  pub move-absent : s.transitions ≤ i → a ≤ length l → Written l a (happened_to gone (get_elem? (system_of t).moves i)) l a
  move-absent h k =
      let e : get_elem? (system_of t).moves i ≡ none = none_past (system_of t).moves i (let n = moves-length t s g in omega arith) in
      subst (λ (o : Option Move). Written l a (happened_to gone o) l a) (sym e) (written_none l a k)

-- ---- a step

-- A run word's number has at most 5 digits.
pub word_number : (w n : ℕ) → n ≡ number w → length (number_text n) ≤ 5
word_number w n e = number_short 4 n (omega arith)

-- What a move's word takes.
pub move-short : (S : System) (g : Bool) (i : ℕ) → length (happened_to g (get_elem? S.moves i)) ≤ 8
move-short S g i = happened-to-short g (get_elem? S.moves i)

pub step-length : (S : System) (w : ℕ) → length (step_line S w) ≤ 14
unfolding step_line
step-length S w =
    let k = word_number w (number w) refl in
    let h = move-short S (lost w) (number w) in
    simp length-append (omega arith)

pub step-written : (S : System) (w : ℕ) (l : List ℕ) (a : ℕ) (l₁ : List ℕ) (b : ℕ) (l₂ : List ℕ) (c : ℕ) (l₃ : List ℕ) (d : ℕ) (n : ℕ) (g : Bool) → n ≡ number w → g ≡ lost w
    → Written l a (number_text n) l₁ b → Written l₁ b (happened_to g (get_elem? S.moves n)) l₂ c → Written l₂ c end_word l₃ d
    → Written l a (step_line S w) l₃ d
unfolding step_line
step-written S w l a l₁ b l₂ c l₃ d n g e f x y z = rw (← e, ← f) (
    written_then l a (number_text n ++ happened_to g (get_elem? S.moves n)) l₂ c end_word l₃ d
    (written_then l a (number_text n) l₁ b (happened_to g (get_elem? S.moves n)) l₂ c x y) z
    )

-- ---- all steps

-- The lines of a run with one word more.
runs_on : (S : System) (ws : List ℕ) (w : ℕ) → run_lines S (ws ++ (w ∷ [])) ≡ run_lines S ws ++ step_line S w
unfolding run_lines
runs_on S [] w = append-nil (step_line S w)
runs_on S (x ∷ ws) w = ap (λ (r : List ℕ). step_line S x ++ r) (runs_on S ws w) ∙ sym (append_assoc (step_line S x) (run_lines S ws) (step_line S w))

-- The lines of the first i words are written, and b is the place behind them.
pub record Telling (S : System) (ws l : List ℕ) (a : ℕ) (d : List ℕ) (b i : ℕ) : Type 0 where
  pub low : b ≤ a + 14 * i
  pub same : length d ≡ length l
  pub written : Written l a (run_lines S (take i ws)) d b

pub telling-starts : (S : System) (ws l : List ℕ) (a : ℕ) → a ≤ length l → Telling S ws l a l a 0
unfolding run_lines
telling-starts S ws l a h = record { low = omega arith; same = refl; written = written_none l a h }

pub telling-on : (S : System) (ws l : List ℕ) (a : ℕ) (d : List ℕ) (b i : ℕ) (e : List ℕ) (c : ℕ) → Telling S ws l a d b i → i < length ws
    → Written d b (step_line S (get_or ws i 0)) e c → Telling S ws l a e c (i + 1)
telling-on S ws l a d b i e c w h x =
    let z = step-length S (get_or ws i 0) in
    record {
      low = omega (arith, w.low, x.next);
      same = written-length d b (step_line S (get_or ws i 0)) e c x ∙ w.same;
      written = rw (add-one, take-suc ws i 0, runs_on) (written_then l a (run_lines S (take i ws)) d b (step_line S (get_or ws i 0)) e c w.written x);
    }

-- ---- an unsafe table

pub unsafe-written : (S : System) (rows : ℕ) (run l : List ℕ) (a : ℕ) (m : List ℕ) (b : ℕ) (k : List ℕ) (c : ℕ) → Written l a (unsafe_line rows (length run)) m b
    → Written m b (run_lines S run) k c → Written l a (unsafe_text S rows run) k c
unfolding unsafe_text
unsafe-written S rows run l a m b k c x y = written_then l a (unsafe_line rows (length run)) m b (run_lines S run) k c x y

-- How long the parts of a step's line are, for `grind`.
pub ruleset step_lengths = (happened-short, word_number, move-short)
