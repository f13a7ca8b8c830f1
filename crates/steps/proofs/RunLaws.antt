-- Lines of a run, read one after the other.
use Rattle.std.proofs.Common.{◌≡◌, refl, sym, ap, ◌∙◌, List, [], ◌∷◌, ◌++◌, ℕ, suc, ◌+◌, ◌-◌, ◌<◌, ◌≤◌, length, set, arith, length-set, length-append}
use Rattle.std.specs.Prelude.{Option, Some, None, Ok, Err}
use Rattle.common.specs.Part.{part}
use Rattle.common.proofs.PartLaws.{part_none, part-set}
use Rattle.wording.specs.Words.{unsafe_word, steps_word, kept_word, lost_word, receive_word, quiet_word, end_word}
use Rattle.steps.specs.Texts.{Read, read, nothing, behind, number_in, read_as}
use Rattle.steps.specs.Runs.{ending_in, step_in, first_in, run, not_at, steps_in, Tells}
use Rattle.steps.specs.declared.texts.Found.{Found}
use Rattle.steps.proofs.TextLaws.{Within, next-within, wider, either-within, word-within, number-within, counted-within, found-within}

-- ---- what is left behind a line

ending-within : (n : ℕ) (l : List ℕ) → n < 32768 → Within 65536 1 l (ending_in n l)
unfolding ending_in
ending-within n l h =
    either-within 65536 1 l _ _ (word n kept_word (omega arith))
    (either-within 65536 1 l _ _ (word (n + 32768) lost_word (omega arith)) (either-within 65536 1 l _ _ (word n receive_word (omega arith)) (word n quiet_word (omega arith))))
  where
    word : (v : ℕ) (w : List ℕ) → v < 65536 → Within 65536 1 l (behind v (w ++ end_word) l)
    word v w k = wider 65536 (length (w ++ end_word)) 65536 1 l _ (omega arith) (omega (arith, length-append w end_word)) (word-within 65536 v (w ++ end_word) l k)

pub step-within : (l : List ℕ) → Within 65536 1 l (step_in l)
unfolding step_in
step-within l = next-within 32768 0 65536 1 65536 1 l (number_in l) ending_in (omega arith) (omega arith) (number-within l) (λ v r h. ending-within v r h)

pub first-within : (l : List ℕ) → Within 32768 0 l (first_in l)
unfolding first_in
first-within l =
    next-within 32768 0 32768 0 32768 0 l _ _ (omega arith) (omega arith) (counted-within unsafe_word l)
    (λ rows r h. next-within 32768 0 32768 0 32768 1 r _ _ (omega arith) (omega arith) (counted-within steps_word r) (λ steps s k. word-within 32768 steps end_word s k))

-- ---- all steps

-- So many steps are read, and the rest of the text is left.
pub record Stepping (text : List ℕ) (steps : ℕ) (words₀ words rest : List ℕ) (i : ℕ) : Type 0 where
  pub inside : i + length rest ≤ length text
  pub room : length words ≡ length words₀
  pub same : steps_in (steps - i) (part 0 i words) rest (i + 2) ≡ steps_in steps [] text 2

module _ (text : List ℕ) (steps : ℕ) (words₀ : List ℕ) where
  pub stepping-starts : Stepping text steps words₀ words₀ text 0
  stepping-starts = record {
    inside = omega arith;
    room = refl;
    same =
        let e : steps - 0 ≡ steps = omega arith in
        ap (λ (n : ℕ). steps_in n (part 0 0 words₀) text 2) e ∙ ap (λ (ws : List ℕ). steps_in steps ws text 2) (part_none 0 0 words₀ (omega arith));
  }

  module _ (words rest : List ℕ) (i : ℕ) (s : Stepping text steps words₀ words rest i) where
    module _ (r : Option Found) (x : read_as r ≡ step_in rest) (h : i < steps) where
      -- The next line decides.
      line-next : elim (read_as r) [ nothing ↦ not_at (i + 2) | read w l ↦ steps_in (steps - (i + 1)) (part 0 i words ++ (w ∷ [])) l (i + 2 + 1) ] ≡ steps_in steps [] text 2
      unfolding steps_in
      line-next =
          let z : suc (steps - (i + 1)) ≡ steps - i = omega arith in
          ap (λ (m : Read). elim m [ nothing ↦ not_at (i + 2) | read w l ↦ steps_in (steps - (i + 1)) (part 0 i words ++ (w ∷ [])) l (i + 2 + 1) ]) x
          ∙ ap (λ (k : ℕ). steps_in k (part 0 i words) rest (i + 2)) z ∙ s.same

      pub stepping-fails : r ≡ None → Tells (steps_in steps [] text 2) (Err (record { line = i + 2 })) words
      stepping-fails e = record { says = rw e at line-next; fits = tt }

      pub stepping-on : (f : Found) → r ≡ Some f → length text ≤ length words₀ → Stepping text steps words₀ (set words i f.value) f.rest.now (i + 1)
      stepping-on f e k =
          let g = found-within r x 65536 1 rest f e (step-within rest) in
          let a = g.1 in
          let b : i + length rest ≤ length text = s.inside in
          let c : length words ≡ length words₀ = s.room in
          let d : i + 1 + 2 ≡ i + 2 + 1 = omega arith in
          record {
            inside = omega arith;
            room = length-set words i f.value ∙ c;
            same = ap (λ (ws : List ℕ). steps_in (steps - (i + 1)) ws f.rest.now (i + 1 + 2)) (part-set i words f.value (omega arith))
                ∙ ap (steps_in (steps - (i + 1)) (part 0 i words ++ (f.value ∷ [])) f.rest.now) d ∙ rw e at line-next;
          }

  module _ (words rest : List ℕ) (i : ℕ) (s : Stepping text steps words₀ words rest i) (e : i ≡ steps) where
    none_left : steps_in 0 (part 0 steps words) rest (steps + 2) ≡ steps_in steps [] text 2
    none_left =
        let z : 0 ≡ steps - i = omega arith in
        ap (λ (k : ℕ). steps_in 0 (part 0 k words) rest (k + 2)) (sym e) ∙ ap (λ (k : ℕ). steps_in k (part 0 i words) rest (i + 2)) z ∙ s.same

    pub stepping-over : 0 < length rest → Tells (steps_in steps [] text 2) (Err (record { line = steps + 2 })) words
    unfolding steps_in
    stepping-over h = record { says = over rest h ∙ none_left; fits = tt }
      where
        over : (l : List ℕ) → 0 < length l → not_at (steps + 2) ≡ steps_in 0 (part 0 steps words) l (steps + 2)
        over [] k = absurd (omega arith)
        over (x ∷ l) k = refl

    pub stepping-ends : length rest ≡ 0 → length text ≤ length words₀ → Tells (steps_in steps [] text 2) (Ok steps) words
    unfolding steps_in
    stepping-ends h m =
        let a = s.room in
        let b = s.inside in
        record { says = ends rest h ∙ none_left; fits = omega arith }
      where
        ends : (l : List ℕ) → length l ≡ 0 → run (part 0 steps words) ≡ steps_in 0 (part 0 steps words) l (steps + 2)
        ends [] k = refl
        ends (x ∷ l) k = absurd (omega arith)

pub ruleset run_turns = (stepping-starts, stepping-fails, stepping-over, stepping-ends)
