-- What is said of a verdict is what the search finds.
use Rattle.std.proofs.Common.{◌≡◌, refl, sym, ap, subst, ◌∙◌, List, Result, Err, ℕ, ◌<◌, ◌≤◌, length}
use Rattle.common.proofs.ChoiceLaws.{lt-then, lt-else}
use Rattle.table.specs.Answers.{number_of, place_of}
use Rattle.table.specs.Checking.{check_table}
use Rattle.table.specs.Systems.{system_of}
use Rattle.table.specs.declared.faults.Refusal.{Refusal}
use Rattle.table.specs.declared.checks.Shape.{Shape}
use Rattle.wording.specs.Written.{Written}
use Rattle.wording.specs.Lines.{too_long_line, refused_line}
use Rattle.wording.specs.Steps.{Answer, answer_text}
use Rattle.verdicts.specs.Said.{said_by}
use Rattle.verdicts.proofs.SaidLaws.{left-says}
use Rattle.checker.specs.Output.{found, found_text, output_of}
use Rattle.search.specs.Searching as search
use Rattle.search.specs.Searching.{search_with, search_of, Searches}
use Rattle.search.proofs.SearchLaws.{search-counted}

module _ (t l m : List ℕ) (r : ℕ) where
  pub found-told : (work run : List ℕ) (v : search.Answer) (work' run' : List ℕ) → length work ≡ 26368 → length run ≡ 512 → Searches t work run v work' run'
      → Written l 0 (answer_text (system_of t) (said_by v run')) m r → Written l 0 (found_text t) m r
  unfolding found
  found-told work run v work' run' a b d w =
      subst (λ (x : Answer). Written l 0 (answer_text (system_of t) x) m r)
      (left-says (search_of t (length work) (length run)) work run v work' run' d (search-counted t (length work) (length run)) ∙ ap (λ (n : ℕ). said_by (search_of t n (length run)).answer (search_of t n (length run)).run) a
      ∙ ap (λ (n : ℕ). said_by (search_of t 26368 n).answer (search_of t 26368 n).run) b) w
