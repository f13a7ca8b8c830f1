-- What the program writes for its input's bytes.
use Rattle.std.specs.Prelude.{List, ℕ, length}
use Rattle.common.specs.Choice.{if_lt}
use Rattle.table.specs.Systems.{system_of}
use Rattle.search.specs.Searching.{Result, search_of}
use Rattle.wording.specs.Steps.{too_long, answer_text}
use Rattle.verdicts.specs.Said.{said_by}

-- What the search finds of a table with room for 256 rows: 26,368 work words and 512 run words.
unfoldable pub found : List ℕ → Result
found t = search_of t 26368 512

abbrev pub found_text : List ℕ → List ℕ
found_text t = answer_text (system_of t) (said_by (found t).answer (found t).run)

-- The whole output: the longest legal table has 36,874 bytes.
unfoldable pub output_of : List ℕ → List ℕ
output_of t = answer_text (system_of t) (if_lt 36874 (length t) too_long (said_by (found t).answer (found t).run))
