-- Worked examples: the list of example B, and each refusal.
use Rattle.std.proofs.Common.{◌≡◌, refl, List, [], ◌∷◌, ◌++◌, ℕ, take, Ok}
use Rattle.common.specs.Choice.{if_lt, if_eq, if_true}
use Rattle.atoms.specs.Masks.{atom_test, star, bit}
use Rattle.rows.specs.Rows.{Row}
use Rattle.reader.specs.Bytes.{number_at}
use Rattle.table.specs.Listing.{listed}
use Rattle.table.specs.declared.faults.Fault.TheVariants.{Count}
use Rattle.table.specs.declared.checks.Shape.{Shape}
use Rattle.lists.specs.Format.{joined, number_bytes, product_bytes, payload_bytes, row_bytes, list_bytes}
use Rattle.lists.specs.Reading.{fails, read_many, read_atom, read_product, read_payload, frame_at, read_row, read_rows, read_list, check_list, rows_of, row_with}
use Rattle.lists.specs.Answers.{ListAnswer, refused, list_answer}

-- Table B's shape: 3 states, 1 channel, 2 messages.
abbrev shape_b : Shape
shape_b = record { states = 3; channels = 1; messages = 2; start = 0; transitions = 3; bads = 1 }

-- Records of list B: a row with no atoms, and rows with {0}*.
abbrev empty_row : List ℕ
empty_row = 3 ∷ 0 ∷ 16 ∷ 0 ∷ 0 ∷ 0 ∷ 0 ∷ []

abbrev star_row : ℕ → List ℕ
star_row state = 5 ∷ 0 ∷ 16 ∷ 0 ∷ state ∷ 0 ∷ 1 ∷ 1 ∷ 128 ∷ []

abbrev pub list_b : List ℕ
list_b = empty_row ++ star_row 0 ++ star_row 1

-- Its rows.
abbrev rows_b : List Row
rows_b = row_with 0 ([] ∷ []) ∷ row_with 0 ((32769 ∷ []) ∷ []) ∷ row_with 1 ((32769 ∷ []) ∷ []) ∷ []

-- The refusal of a list, in numbers.
abbrev refused_at : ℕ → ℕ → ListAnswer
refused_at number place = refused (record { number = number; input = 1; place = place })

-- A record of kind 16 with a payload.
abbrev row_of : ℕ → List ℕ → List ℕ
row_of size payload = (size ∷ 0 ∷ 16 ∷ 0 ∷ []) ++ payload

pub record Worked : Type 0 where
  -- List B is good, has its rows, and is what its rows are written as. The empty list is good.
  pub b_good : check_list shape_b list_b ≡ Ok 3
  pub b_rows : rows_of shape_b list_b ≡ rows_b
  pub b_bytes : list_bytes 1 rows_b ≡ list_b
  pub empty_good : check_list shape_b [] ≡ Ok 0
  -- 1: a record cut in its first four bytes, or in its payload; a stray byte behind the last record.
  pub cut_head : list_answer shape_b (take 3 list_b) ≡ refused_at 1 0
  pub cut_payload : list_answer shape_b (take 15 list_b) ≡ refused_at 1 7
  pub stray_byte : list_answer shape_b (list_b ++ (0 ∷ [])) ≡ refused_at 1 25
  -- 2: a kind of the table, even where the payload is not there.
  pub kind_unknown : list_answer shape_b (empty_row ++ (9 ∷ 0 ∷ 2 ∷ 0 ∷ [])) ≡ refused_at 2 7
  -- 3: a payload of one byte; no count; fewer atoms than the count says, though it is 24; a byte over.
  pub state_missing : list_answer shape_b (row_of 1 (0 ∷ [])) ≡ refused_at 3 0
  pub count_missing : list_answer shape_b (row_of 2 (0 ∷ 0 ∷ [])) ≡ refused_at 3 0
  pub atoms_missing : list_answer shape_b (row_of 3 (0 ∷ 0 ∷ 24 ∷ [])) ≡ refused_at 3 0
  pub byte_over : list_answer shape_b (list_b ++ row_of 4 (0 ∷ 0 ∷ 0 ∷ 0 ∷ [])) ≡ refused_at 3 25
  -- 4: a state out of range, even if nothing follows; a count of 25; a word that is no atom, even if a later one is missing; a message that the
  -- table lacks.
  pub state_high : list_answer shape_b (row_of 2 (3 ∷ 0 ∷ [])) ≡ refused_at 4 0
  pub count_high : list_answer shape_b (row_of 3 (0 ∷ 0 ∷ 25 ∷ [])) ≡ refused_at 4 0
  pub no_atom : list_answer shape_b (row_of 5 (0 ∷ 0 ∷ 2 ∷ 3 ∷ 0 ∷ [])) ≡ refused_at 4 0
  pub message_high : list_answer shape_b (star_row 0 ++ row_of 5 (0 ∷ 0 ∷ 1 ∷ 4 ∷ 0 ∷ [])) ≡ refused_at 4 9
  -- 6: row 1,025, even if its state is out of range; row 1,024 is the last that may stand.
  pub last_row : frame_at empty_row 0 1023 ≡ Ok 7
  pub row_over : read_row shape_b (row_of 2 (3 ∷ 0 ∷ [])) 0 1024 ≡ fails Count

worked : Worked
unfolding list_answer list_bytes row_bytes payload_bytes product_bytes number_bytes joined check_list rows_of read_list read_rows read_row frame_at read_payload read_product read_atom read_many listed number_at atom_test star bit if_lt if_eq if_true
worked = record {
  b_good = refl;
  b_rows = refl;
  b_bytes = refl;
  empty_good = refl;
  cut_head = refl;
  cut_payload = refl;
  stray_byte = refl;
  kind_unknown = refl;
  state_missing = refl;
  count_missing = refl;
  atoms_missing = refl;
  byte_over = refl;
  state_high = refl;
  count_high = refl;
  no_atom = refl;
  message_high = refl;
  last_row = refl;
  row_over = refl;
}
