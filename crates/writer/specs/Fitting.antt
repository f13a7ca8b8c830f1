-- Which rows of the work table can be written.
use Rattle.std.specs.Prelude.{Bool, false, List, ℕ, zero, suc, ◌+◌, ◌*◌, get_or, Option, Some, None, is_none}
use Rattle.common.specs.Choice.{if_lt, if_true}
use Rattle.atoms.specs.Masks.{atom_test}
use Rattle.table.specs.declared.checks.Shape.{Shape}
use Rattle.work.specs.Layout.{atoms_place}
use Rattle.writer.specs.Words.{word_from, count_in}

-- The first of k numbers from i on that does not pass a test, if there is one.
unfoldable pub first_not : (ℕ → Bool) → ℕ → ℕ → Option ℕ
first_not test zero i = None
first_not test (suc k) i = if_true (test i) (first_not test k (i + 1)) (Some i)

-- Each of the first k numbers passes the test.
unfoldable pub all_pass : (ℕ → Bool) → ℕ → Bool
all_pass test k = is_none (first_not test k 0)

-- Word number k from a place on is an atom of a table with so many messages.
abbrev pub atom_passes : ℕ → List ℕ → ℕ → ℕ → Bool
atom_passes messages w from k = atom_test messages (word_from w from k)

-- The count of channel c of row i is at most 24, and each counted word is an atom.
unfoldable pub channel_passes : ℕ → List ℕ → ℕ → ℕ → Bool
channel_passes messages w i c = if_lt 24 (count_in w i c) false (all_pass (atom_passes messages w (atoms_place i c)) (count_in w i c))

-- The state of row i is one of the table's, and each of the table's channels passes.
unfoldable pub row_passes : Shape → List ℕ → ℕ → Bool
row_passes s w i = if_lt (get_or w (103 * i) 0) s.states (all_pass (channel_passes s.messages w i) s.channels) false
