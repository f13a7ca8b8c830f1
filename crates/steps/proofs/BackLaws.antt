-- What is written of an unsafe table is read back: its lines say the words of the run.
use Rattle.std.proofs.Common.{◌≡◌, refl, sym, ap, ◌∙◌, Bool, true, false, ◌⊎◌, inl, inr, List, [], ◌∷◌, ◌++◌, append_assoc, append-nil, ℕ, zero, suc, ◌+◌, ◌*◌, ◌-◌, ◌/◌, ◌%◌, ◌<◌, ◌≤◌, length, arith, ltb-true, ltb-false}
use Rattle.std.specs.Prelude.{Some, None}
use Rattle.std.proofs.Math.Option.{Option, some}
use Rattle.std.proofs.Math.Decide.{dec_le}
use Rattle.std.proofs.Math.ListN.{get_elem?}
use Rattle.common.specs.Each.{Each}
use Rattle.common.specs.Choice.{if_eq}
use Rattle.common.proofs.ChoiceLaws.{lt-then, lt-else, eq-then}
use Rattle.meaning.specs.Systems as meaning
use Rattle.meaning.specs.Systems.{Move, System}
use Rattle.playing.specs.Play.{number, lost}
use Rattle.wording.specs.Words.{unsafe_word, steps_word, end_word}
use Rattle.wording.specs.Numbers.{digit, number_text}
use Rattle.wording.specs.Lines.{counted, unsafe_line}
use Rattle.wording.specs.Steps.{happened, happened_to, step_line, run_lines, unsafe_text}
use Rattle.wording.proofs.NumberLaws.{number-one, number_more}
use Rattle.steps.specs.Texts.{Read, read, nothing, behind, next, digit_of, digits_in, number_in, counted_in}
use Rattle.steps.specs.Runs.{ending_in, step_in, first_in, run, not_at, steps_in, run_in}
use Rattle.steps.proofs.TextLaws.{digits-stop, digits-on, number-zero, number-digits}

-- ---- words

-- A word is read where it stands.
word_back : (v : ℕ) (w l : List ℕ) → behind v w (w ++ l) ≡ read v l
unfolding behind
word_back v [] l = refl
word_back v (x ∷ w) l = sym (eq-then x x (behind v w (w ++ l)) nothing refl (sym (word_back v w l)))

-- ---- numbers

-- What stands behind a number is no digit.
abbrev pub NoDigit : List ℕ → Type 0
NoDigit l = (n : ℕ) → digits_in n l ≡ read n l

digit-back : (d : ℕ) → d < 10 → digit_of (digit d) ≡ Some d
unfolding digit_of
digit-back d h =
    let e : 48 + d - 48 ≡ d = omega arith in
    sym (lt-else _ _ _ _ (omega arith) (lt-else _ _ _ _ (omega arith) (ap Some (sym e))))

-- One digit more.
digit-on : (n d : ℕ) (l : List ℕ) → d < 10 → 10 * n + d < 32768 → digits_in n (digit d ∷ l) ≡ digits_in (10 * n + d) l
digit-on n d l h k = digits-on n (digit d) l d (digit-back d h) (omega arith)

-- A number of one digit, or one that has digits before its last.
below : (n : ℕ) → (n < 10) ⊎ (10 ≤ n)
below n = elim (dec_le 10 n) [ yes h ↦ inr h | no h ↦ inl (omega arith) ]

-- A number that is not 0 is read back; k bounds its digits.
digits-back : (k n : ℕ) → n ≤ k → 0 < n → n < 32768 → (l : List ℕ) → number_in (number_text n ++ l) ≡ digits_in n l
digits-back zero n h p b l = absurd (omega arith)
digits-back (suc k) n h p b l = go (below n) (digits-back k (n / 10))
  where
    one : n < 10 → number_in (digit n ∷ l) ≡ digits_in n l
    one s = number-digits (digit n) l n (digit-back n s) (λ z. omega arith)

    go : (n < 10) ⊎ (10 ≤ n) → (n / 10 ≤ k → 0 < n / 10 → n / 10 < 32768 → (r : List ℕ) → number_in (number_text (n / 10) ++ r) ≡ digits_in (n / 10) r) → number_in (number_text n ++ l) ≡ digits_in n l
    go (inl s) same = ap (λ (x : List ℕ). number_in (x ++ l)) (number-one n s) ∙ one s
    go (inr s) same =
        let z : 10 * (n / 10) + n % 10 ≡ n = omega arith in
        ap (λ (x : List ℕ). number_in (x ++ l)) (number_more n s) ∙ ap number_in (append_assoc (number_text (n / 10)) (digit (n % 10) ∷ []) l)
        ∙ same (omega arith) (omega arith) (omega arith) (digit (n % 10) ∷ l) ∙ digit-on (n / 10) (n % 10) l (omega arith) (omega arith)
        ∙ ap (λ (x : ℕ). digits_in x l) z

no_digit : (c : ℕ) (l : List ℕ) → c < 48 → NoDigit (c ∷ l)
unfolding digit_of
no_digit c l h n = digits-stop n c l (sym (lt-then c 48 None _ h refl))

-- The digits of a number are read back, up to something else.
number-back : (n : ℕ) → n < 32768 → (l : List ℕ) → NoDigit l → number_in (number_text n ++ l) ≡ read n l
number-back zero h l e = ap (λ (x : List ℕ). number_in (x ++ l)) (number-one 0 (omega arith)) ∙ number-zero (digit 0) l (digit-back 0 (omega arith))
number-back (suc n) h l e = digits-back (suc n) (suc n) (omega arith) (omega arith) h l ∙ e (suc n)

counted_back : (w : List ℕ) (n : ℕ) → n < 32768 → (l : List ℕ) → NoDigit l → counted_in w (counted w n ++ l) ≡ read n l
unfolding counted_in counted
counted_back w n h l e =
    ap (λ (x : List ℕ). next (behind 0 w x) (λ v r. number_in r)) (append_assoc w (number_text n) l)
    ∙ ap (λ (x : Read). next x (λ v r. number_in r)) (word_back 0 w (number_text n ++ l)) ∙ number-back n h l e

-- ---- the first line

first_back : (rows steps : ℕ) → rows < 32768 → steps < 32768 → (l : List ℕ) → first_in (unsafe_line rows steps ++ l) ≡ read steps l
unfolding first_in counted
first_back rows steps h k l =
    ap (λ (x : List ℕ). next (counted_in unsafe_word x) after) (append_assoc (counted unsafe_word rows) (counted steps_word steps ++ end_word) l ∙ ap (λ (y : List ℕ). counted unsafe_word rows ++ y) (append_assoc (counted steps_word steps) end_word l))
    ∙ ap (λ (x : Read). next x after) (counted_back unsafe_word rows h (counted steps_word steps ++ (end_word ++ l)) gap)
    ∙ ap (λ (x : Read). next x (λ n s. behind n end_word s)) (counted_back steps_word steps k (end_word ++ l) (no_digit 10 l (omega arith)))
    ∙ word_back steps end_word l
  where
    after : ℕ → List ℕ → Read
    after n r = next (counted_in steps_word r) (λ m s. behind m end_word s)

    gap : NoDigit (counted steps_word steps ++ (end_word ++ l))
    gap = no_digit 32 _ (omega arith)

-- ---- a step

-- What a line can say: only of a send that its message was lost.
abbrev pub Sayable : Bool → meaning.Operation → Type 0
Sayable true meaning.quiet = ⊥
Sayable true (meaning.receive c m) = ⊥
Sayable true (meaning.send c m) = Unit {0}
Sayable false o = Unit {0}

-- A run word whose move is there, with a flag that its line can say.
pub record Tellable (S : System) (w : ℕ) : Type 0 where
  pub small : w < 65536
  pub move : Move
  pub there : get_elem? S.moves (number w) ≡ some move
  pub sayable : Sayable (lost w) move.operation

-- What the flag adds to the number.
abbrev flag : Bool → ℕ
flag true = 32768
flag false = 0

happened-back : (g : Bool) (o : meaning.Operation) → Sayable g o → (n : ℕ) (l : List ℕ) → ending_in n (happened g o ++ (end_word ++ l)) ≡ read (n + flag g) l
unfolding ending_in behind if_eq happened
happened-back true meaning.quiet h n l = absurd h
happened-back true (meaning.receive c m) h n l = absurd h
happened-back true (meaning.send c m) h n l = refl
happened-back false meaning.quiet h n l = let e : n + 0 ≡ n = omega arith in rw e
happened-back false (meaning.receive c m) h n l = let e : n + 0 ≡ n = omega arith in rw e
happened-back false (meaning.send c m) h n l = let e : n + 0 ≡ n = omega arith in rw e

happened-gap : (g : Bool) (o : meaning.Operation) (l : List ℕ) → NoDigit (happened g o ++ l)
unfolding happened
happened-gap g meaning.quiet l = no_digit 32 _ (omega arith)
happened-gap g (meaning.receive c m) l = no_digit 32 _ (omega arith)
happened-gap true (meaning.send c m) l = no_digit 32 _ (omega arith)
happened-gap false (meaning.send c m) l = no_digit 32 _ (omega arith)

-- Number and flag are the word.
flagged : (w : ℕ) → w < 65536 → number w + flag (lost w) ≡ w
flagged w h = go (lost w) refl
  where
    go : (g : Bool) → lost w ≡ g → number w + flag g ≡ w
    go true e = let k = ltb-true 32767 w e in omega arith
    go false e = let k = ltb-false 32767 w e in omega arith

step_back : (S : System) (w : ℕ) → Tellable S w → (l : List ℕ) → step_in (step_line S w ++ l) ≡ read w l
unfolding step_in step_line
step_back S w t l =
    ap (λ (o : Option Move). next (number_in ((number_text (number w) ++ happened_to (lost w) o ++ end_word) ++ l)) ending_in) t.there
    ∙ ap (λ (x : List ℕ). next (number_in x) ending_in) (append_assoc (number_text (number w) ++ said) end_word l ∙ append_assoc (number_text (number w)) said (end_word ++ l))
    ∙ ap (λ (x : Read). next x ending_in) (number-back (number w) (omega arith) (said ++ (end_word ++ l)) (happened-gap (lost w) t.move.operation (end_word ++ l)))
    ∙ happened-back (lost w) t.move.operation t.sayable (number w) l ∙ ap (λ (n : ℕ). read n l) (flagged w t.small)
  where
    said : List ℕ
    said = happened (lost w) t.move.operation

-- ---- all steps

steps_back : (S : System) (ws us : List ℕ) (line : ℕ) → Each (Tellable S) ws → steps_in (length ws) us (run_lines S ws) line ≡ run (us ++ ws)
unfolding steps_in run_lines
steps_back S [] us line h = ap run (sym (append-nil us))
steps_back S (w ∷ ws) us line h =
    ap (λ (m : Read). elim m [ nothing ↦ not_at line | read v r ↦ steps_in (length ws) (us ++ (v ∷ [])) r (line + 1) ]) (step_back S w h.0 (run_lines S ws))
    ∙ steps_back S ws (us ++ (w ∷ [])) (line + 1) h.1 ∙ ap run (append_assoc us (w ∷ []) ws)

-- The text of an unsafe table says the words of its run.
pub unsafe-back : (S : System) (rows : ℕ) (ws : List ℕ) → rows < 32768 → length ws < 32768 → Each (Tellable S) ws → run_in (unsafe_text S rows ws) ≡ run ws
unfolding run_in unsafe_text
unsafe-back S rows ws h k t =
    ap (λ (m : Read). elim m [ nothing ↦ not_at 1 | read steps r ↦ steps_in steps [] r 2 ]) (first_back rows (length ws) h k (run_lines S ws)) ∙ steps_back S ws [] 2 t
