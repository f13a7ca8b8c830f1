-- Words and numbers at the front of a text: what is read where the code's tests say so, and how much of the text it leaves.
use Rattle.std.proofs.Common.{◌≡◌, refl, sym, ap, ◌∙◌, subst, Bool, true, false, ◌&&◌, cond, ◌⊎◌, inl, inr, List, [], ◌∷◌, ℕ, ◌+◌, ◌*◌, ◌-◌, ◌<◌, ◌≤◌, length, take, drop, get_or, eqb, arith}
use Rattle.std.specs.Prelude.{Option, Some, None}
use Rattle.std.specs.Cmp.Lexicographic.{pointwise}
use Rattle.std.proofs.lemmas.List.{drop_more, take_rest, drop_all}
use Rattle.common.specs.Choice.{if_lt, if_eq}
use Rattle.common.proofs.ChoiceLaws.{choices, lt-then, lt-else, lt-cases, eq-then, eq-else, eq-cases}
use Rattle.steps.specs.Texts.{Read, read, nothing, behind, next, either, digit_of, digits_in, number_in, counted_in, read_as}
use Rattle.steps.specs.declared.texts.Found.{Found}

-- ---- a word

-- The text begins with it, or it doesn't.
pub word-there : (v : ℕ) (w l : List ℕ) → pointwise eqb (take (length w) l) w ≡ true → behind v w l ≡ read v (drop (length w) l)
unfolding behind if_eq
word-there v [] l e = refl
word-there v (x ∷ w) [] e = cc
word-there v (x ∷ w) (y ∷ l) e = go (eqb y x) e (word-there v w l)
  where
    go : (b : Bool) → (b && pointwise eqb (take (length w) l) w) ≡ true → (pointwise eqb (take (length w) l) w ≡ true → behind v w l ≡ read v (drop (length w) l))
        → cond b (behind v w l) nothing ≡ read v (drop (length w) l)
    go true e h = h e
    go false e h = cc

pub word-other : (v : ℕ) (w l : List ℕ) → pointwise eqb (take (length w) l) w ≡ false → behind v w l ≡ nothing
unfolding behind if_eq
word-other v [] l e = cc
word-other v (x ∷ w) [] e = refl
word-other v (x ∷ w) (y ∷ l) e = go (eqb y x) e (word-other v w l)
  where
    go : (b : Bool) → (b && pointwise eqb (take (length w) l) w) ≡ false → (pointwise eqb (take (length w) l) w ≡ false → behind v w l ≡ nothing)
        → cond b (behind v w l) nothing ≡ nothing
    go true e h = h e
    go false e h = refl

-- ---- digits and numbers, by the digit at the front

pub digit_tells : (c : ℕ) → (digit_of c ≡ None) ⊎ ((d : ℕ) × (digit_of c ≡ Some d) × (d < 10))
unfolding digit_of
digit_tells c = grind (arith, choices)

module _ (n c : ℕ) (l : List ℕ) where
  pub digits-stop : digit_of c ≡ None → digits_in n (c ∷ l) ≡ read n (c ∷ l)
  unfolding digits_in
  digits-stop e = rw (e, digits_in) refl

  module _ (d : ℕ) (e : digit_of c ≡ Some d) where
    pub digits-over : 32767 < 10 * n + d → digits_in n (c ∷ l) ≡ nothing
    unfolding digits_in
    digits-over h = rw (e, digits_in) (sym (lt-then _ _ _ _ h refl))

    pub digits-on : 10 * n + d ≤ 32767 → digits_in n (c ∷ l) ≡ digits_in (10 * n + d) l
    unfolding digits_in
    digits-on h = rw (e, digits_in) (sym (lt-else _ _ _ _ h refl))

module _ (c : ℕ) (l : List ℕ) where
  pub number-zero : digit_of c ≡ Some 0 → number_in (c ∷ l) ≡ read 0 l
  unfolding number_in
  number-zero e = rw (e, number_in) (sym (eq-then _ _ _ _ refl refl))

  pub number-digits : (d : ℕ) → digit_of c ≡ Some d → (d ≡ 0 → ⊥) → number_in (c ∷ l) ≡ digits_in d l
  unfolding number_in
  number-digits d e h = rw (e, number_in) (sym (eq-else _ _ _ _ h refl))

-- ---- what is left

-- The number that is read is below a bound, and at least so many bytes of the text are behind.
abbrev pub Within : ℕ → ℕ → List ℕ → Read → Type 0
Within bound used l (read v r) = (v < bound) × (used + length r ≤ length l)
Within bound used l nothing = Unit {0}

pub next-within : (b u b' u' b'' u'' : ℕ) (l : List ℕ) (m : Read) (f : ℕ → List ℕ → Read) → b'' ≤ b' → u' ≤ u + u'' → Within b u l m
    → ((v : ℕ) (r : List ℕ) → v < b → Within b'' u'' r (f v r)) → Within b' u' l (next m f)
next-within b u b' u' b'' u'' l nothing f h k w g = tt
next-within b u b' u' b'' u'' l (read v r) f h k w g = go (f v r) (g v r w.0)
  where
    go : (m : Read) → Within b'' u'' r m → Within b' u' l m
    go nothing x = tt
    go (read v' r') x = (omega (arith, x.0), omega (arith, x.1, w.1))

-- What is within narrower limits is within wider ones.
pub wider : (b u b' u' : ℕ) (l : List ℕ) (m : Read) → b ≤ b' → u' ≤ u → Within b u l m → Within b' u' l m
wider b u b' u' l nothing h k w = tt
wider b u b' u' l (read v r) h k w = (omega (arith, w.0), omega (arith, w.1))

pub either-within : (b u : ℕ) (l : List ℕ) (m m' : Read) → Within b u l m → Within b u l m' → Within b u l (either m m')
either-within b u l nothing m' w w' = w'
either-within b u l (read v r) m' w w' = w

-- A choice is within what both of its parts are.
if_lt-within : (b u : ℕ) (l : List ℕ) (x y : ℕ) (m m' : Read) → (x < y → Within b u l m) → (y ≤ x → Within b u l m') → Within b u l (if_lt x y m m')
if_lt-within b u l x y m m' w w' = elim (lt-cases x y m m' refl) [ inl r ↦ subst (Within b u l) r.1 (w r.0) | inr r ↦ subst (Within b u l) r.1 (w' r.0) ]

if_eq-within : (b u : ℕ) (l : List ℕ) (x y : ℕ) (m m' : Read) → Within b u l m → Within b u l m' → Within b u l (if_eq x y m m')
if_eq-within b u l x y m m' w w' = elim (eq-cases x y m m' refl) [ inl r ↦ subst (Within b u l) r.1 w | inr r ↦ subst (Within b u l) r.1 w' ]

pub word-within : (b v : ℕ) (w l : List ℕ) → v < b → Within b (length w) l (behind v w l)
unfolding behind if_eq
word-within b v [] l h = (h, omega arith)
word-within b v (x ∷ w) [] h = tt
word-within b v (x ∷ w) (y ∷ l) h = go (eqb y x) (behind v w l) (word-within b v w l h)
  where
    go : (t : Bool) (m : Read) → Within b (length w) l m → Within b (length (x ∷ w)) (y ∷ l) (cond t m nothing)
    go false m i = tt
    go true nothing i = tt
    go true (read n r) i = (i.0, omega (arith, i.1))

longer : (b c : ℕ) (l : List ℕ) (m : Read) → Within b 0 l m → Within b 0 (c ∷ l) m
longer b c l nothing i = tt
longer b c l (read v r) i = (i.0, omega (arith, i.1))

pub digits-within : (n : ℕ) (l : List ℕ) → n < 32768 → Within 32768 0 l (digits_in n l)
unfolding digits_in
digits-within n [] h = (h, omega arith)
digits-within n (c ∷ l) h = go (digit_of c) (λ d. digits-within (10 * n + d) l)
  where
    go : (o : Option ℕ) → ((d : ℕ) → 10 * n + d < 32768 → Within 32768 0 l (digits_in (10 * n + d) l))
        → Within 32768 0 (c ∷ l) (elim o [ None ↦ read n (c ∷ l) | Some d ↦ if_lt 32767 (10 * n + d) nothing (digits_in (10 * n + d) l) ])
    go None g = (h, omega arith)
    go (Some d) g = if_lt-within 32768 0 (c ∷ l) 32767 (10 * n + d) nothing (digits_in (10 * n + d) l) (λ k. tt) (λ k. longer 32768 c l (digits_in (10 * n + d) l) (g d (omega arith)))

pub number-within : (l : List ℕ) → Within 32768 0 l (number_in l)
unfolding number_in
number-within [] = tt
number-within (c ∷ l) = go (digit_of c) refl
  where
    go : (o : Option ℕ) → digit_of c ≡ o → Within 32768 0 (c ∷ l) (elim o [ None ↦ nothing | Some d ↦ if_eq d 0 (read 0 l) (digits_in d l) ])
    go None e = tt
    go (Some d) e =
        let k : d < 10 = grind (arith, digit_tells) in
        if_eq-within 32768 0 (c ∷ l) d 0 (read 0 l) (digits_in d l) (omega arith, omega arith) (longer 32768 c l (digits_in d l) (digits-within d l (omega arith)))

pub counted-within : (w l : List ℕ) → Within 32768 0 l (counted_in w l)
unfolding counted_in
counted-within w l =
    next-within 32768 (length w) 32768 0 32768 0 l (behind 0 w l) (λ v r. number_in r) (omega arith) (omega arith) (word-within 32768 0 w l (omega arith)) (λ v r k. number-within r)

-- ---- what a call found

pub found-within : (r : Option Found) {m : Read} → read_as r ≡ m → (b u : ℕ) (l : List ℕ) (x : Found) → r ≡ Some x → Within b u l m → (x.value < b) × (u + length x.rest.now ≤ length l)
found-within r e b u l x z w = subst (Within b u l) (sym e ∙ ap read_as z) w

-- ---- the digits, one by one

-- The digits from place i on are still to be read, behind the number n.
module _ (text : List ℕ) (n i : ℕ) {m : Read} (e : digits_in n (drop i text) ≡ m) (h : i < length text) where
  here : digits_in n (get_or text i 0 ∷ drop (i + 1) text) ≡ m
  here = ap (digits_in n) (sym (drop_more text i 0 h)) ∙ e

  pub digit-stops : digit_of (get_or text i 0) ≡ None → read n (take (length text - i) (drop i text)) ≡ m
  digit-stops z =
      ap (read n) (take_rest text i ∙ drop_more text i 0 h) ∙ sym (digits-stop n (get_or text i 0) (drop (i + 1) text) z) ∙ here

  pub digit-over : (d : ℕ) → digit_of (get_or text i 0) ≡ Some d → 32767 < 10 * n + d → nothing ≡ m
  digit-over d z k = sym (digits-over n (get_or text i 0) (drop (i + 1) text) d z k) ∙ here

  pub digit-goes_on : (d : ℕ) → digit_of (get_or text i 0) ≡ Some d → 10 * n + d ≤ 32767 → digits_in (10 * n + d) (drop (i + 1) text) ≡ m
  digit-goes_on d z k = sym (digits-on n (get_or text i 0) (drop (i + 1) text) d z k) ∙ here

pub digits_end : (text : List ℕ) (n i : ℕ) {m : Read} → digits_in n (drop i text) ≡ m → i ≡ length text → read n (take (length text - length text) (drop (length text) text)) ≡ m
unfolding digits_in
digits_end text n i e h =
    let z : drop (length text) text ≡ [] = drop_all (length text) text (omega arith) in
    ap (read n) (take_rest text (length text) ∙ z) ∙ ap (digits_in n) (sym z ∙ ap (λ (k : ℕ). drop k text) (sym h)) ∙ e

pub ruleset digit_turns = (digit_tells, digit-stops, digit-over, digit-goes_on, digits_end)

pub ruleset word_tells = (word-there, word-other)
