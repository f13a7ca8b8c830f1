-- First lines have room, and what is said of what the search leaves.
use Rattle.std.proofs.Common.{◌≡◌, refl, sym, ap, subst, ◌∙◌, List, ◌++◌, Ok, Err, ℕ, ◌+◌, ◌<◌, ◌≤◌, ◌^◌, length, drop, length-append, arith}
use Rattle.common.specs.Front.{front}
use Rattle.common.specs.Part.{part}
use Rattle.common.proofs.FrontLaws.{front-part}
use Rattle.common.proofs.PartLaws.{part-all}
use Rattle.wording.specs.Lines.{refused_line, safe_line, rows_full_line, atoms_full_line}
use Rattle.wording.specs.Steps.{unsafe}
use Rattle.wording.proofs.LineLaws.{refused-length, safe-length, rows-full-length, atoms-full-length}
use Rattle.verdicts.specs.Said.{said_by, StepsFit}
use Rattle.search.specs.Searching as searching
use Rattle.search.specs.Searching.{Result, Leaves}
use Rattle.search.specs.declared.searches.Verdict.TheVariants.{Safe, Unsafe, RowsFull, AtomsFull}
use Rattle.search.proofs.SearchLaws.{Counted}

-- Every first line has room.
module _ (n m : ℕ) (h : n < 2 ^ 64) (r : 60 ≤ m) where
  pub safe-room : 0 + length (safe_line n) ≤ m
  safe-room = let k = safe-length n h in omega arith

  module _ (i : ℕ) (g : i < 2 ^ 64) where
    pub refused-room : 0 + length (refused_line n i) ≤ m
    refused-room = let k = refused-length n h i g in omega arith

    pub rows-full-room : 0 + length (rows_full_line n i) ≤ m
    rows-full-room = let k = rows-full-length n h i g in omega arith

    pub atoms-full-room : 0 + length (atoms_full_line n i) ≤ m
    atoms-full-room = let k = atoms-full-length n h i g in omega arith

-- ---- what the search leaves

run-there : (us run run' : List ℕ) → run' ≡ front us run → run' ≡ us ++ drop (length us) run
unfolding front
run-there us run run' e = e

-- What the search leaves says what it finds.
module _ (x : Result) (work run : List ℕ) (r : searching.Answer) (work' run' : List ℕ) (d : Leaves x work run r work' run') (k : Counted x) where
  -- The run stands in the first words.
  abbrev Stood : searching.Answer → Type 0
  Stood v = (said_by v run' ≡ said_by v x.run) × StepsFit v run'

  stood : (v : searching.Answer) → v ≡ x.answer → Stood v
  stood (Err r) e = (refl, tt)
  stood (Ok (Safe n)) e = (refl, tt)
  stood (Ok (RowsFull n i j)) e = (refl, tt)
  stood (Ok (AtomsFull n i j)) e = (refl, tt)
  stood (Ok (Unsafe n m)) e =
      let z : m ≡ length x.run = subst (λ (v : searching.Answer). Counted (record { answer = v; rows = x.rows; run = x.run })) (sym e) k in
      let y : length run' ≡ length (x.run ++ drop (length x.run) run) = ap length (run-there x.run run run' d.words) in
      (ap (unsafe n) (ap (part 0 m) d.words ∙ front-part x.run run m (sym z) ∙ sym (ap (λ (i : ℕ). part 0 i x.run) z ∙ part-all x.run)), omega (arith, length-append x.run (drop (length x.run) run)))

  pub left-says : said_by r run' ≡ said_by x.answer x.run
  left-says = (stood r d.answer).0 ∙ ap (λ (v : searching.Answer). said_by v x.run) d.answer

  pub left-fits : StepsFit r run'
  left-fits = (stood r d.answer).1

pub ruleset first_rooms = (safe-room, refused-room, rows-full-room, atoms-full-room)
