-- Worked examples: the list of example B from its work table, and each refusal.
use Rattle.std.proofs.Common.{◌≡◌, refl, List, [], ◌∷◌, ◌++◌, ℕ, set}
use Rattle.common.specs.Choice.{if_lt, if_eq, if_true}
use Rattle.atoms.specs.Masks.{atom_test, star, bit}
use Rattle.reader.specs.Bytes.{number_at}
use Rattle.reader.specs.Records.{part_of}
use Rattle.table.specs.Fields.{header_of, entry_of, header_fields, operation_fields, transition_fields, bad_fields}
use Rattle.table.specs.Checking.{framed_at, kind_at, read_header, transition_step, scan_transitions, bad_step, scan_bads, check_rest, check_table}
use Rattle.table.specs.Listing.{listed}
use Rattle.work.specs.Layout.{Stored, channel_words, channels_words, row_words, all_words}
use Rattle.work.specs.Room.{room_of}
use Rattle.lists.specs.Format.{joined, number_bytes, product_bytes, payload_bytes, row_bytes, list_bytes}
use Rattle.lists.specs.Reading.{row_with}
use Rattle.lists.proofs.Examples.{list_b}
use Rattle.writer.specs.Words.{word_from, product_in, row_in}
use Rattle.writer.specs.Fitting.{first_not, all_pass, channel_passes, row_passes}
use Rattle.writer.specs.Writing.{written_for, written, bytes_of}
use Rattle.writer.specs.Answers.{WriteAnswer, bytes, refused, write_answer}

-- Table B: 3 states, 1 channel, 2 messages, start 0; 0 to 0 sends 0; 0 to 1 receives 0; 1 to 2 receives 1; bad 2.
abbrev transition : ℕ → ℕ → ℕ → ℕ → List ℕ
transition source target operation message = 8 ∷ 0 ∷ 2 ∷ 0 ∷ source ∷ 0 ∷ target ∷ 0 ∷ operation ∷ 0 ∷ message ∷ 0 ∷ []

abbrev table_b : List ℕ
table_b =
    (6 ∷ 0 ∷ 1 ∷ 0 ∷ 3 ∷ 0 ∷ 1 ∷ 2 ∷ 0 ∷ 0 ∷ []) ++ transition 0 0 1 0 ++ transition 0 1 2 0 ++ transition 1 2 2 1 ++ (2 ∷ 0 ∷ 3 ∷ 0 ∷ 2 ∷ 0 ∷ [])

-- A row of a work table: its state, and its product of channel 0.
abbrev stored : ℕ → List ℕ → Stored
stored state p = record { row = row_with state (p ∷ []); parent = 0; move = 0 }

-- The work table of example B, with room for 3 rows.
abbrev words_b : List ℕ
words_b = all_words (stored 0 [] ∷ stored 0 (32769 ∷ []) ∷ stored 1 (32769 ∷ []) ∷ [])

-- A refusal of the work table or of the list's bytes, in numbers.
abbrev refused_at : ℕ → ℕ → WriteAnswer
refused_at number place = refused (record { number = number; input = 3; place = place })

pub record Worked : Type 0 where
  -- The work table of example B is written as list B, which just fits.
  pub b_list : bytes_of table_b words_b 3 ≡ list_b
  pub b_fits : write_answer table_b words_b 3 25 ≡ bytes 25
  -- No rows need no room; words past a count, channels that the table lacks, parent and transition are not looked at.
  pub no_rows : write_answer table_b [] 0 0 ≡ bytes 0
  pub past_count : write_answer table_b (set words_b 4 7) 3 25 ≡ bytes 25
  pub past_channels : write_answer table_b (set words_b 28 99) 3 25 ≡ bytes 25
  pub parent_free : write_answer table_b (set words_b 1 9999) 3 25 ≡ bytes 25
  -- The table's refusal comes first.
  pub table_first : write_answer [] [] 1 0 ≡ refused (record { number = 1; input = 0; place = 0 })
  -- 9: a count over the room, placed at the room, also where a row is bad; else the lowest bad row.
  pub no_room : write_answer table_b [] 1 0 ≡ refused_at 9 0
  pub over_room : write_answer table_b (set words_b 0 3) 4 25 ≡ refused_at 9 3
  pub state_high : write_answer table_b (set (set words_b 103 3) 206 3) 3 0 ≡ refused_at 9 1
  pub count_high : write_answer table_b (set words_b 3 25) 3 25 ≡ refused_at 9 0
  pub atom_high : write_answer table_b (set words_b 210 4) 3 25 ≡ refused_at 9 2
  pub no_atom : write_answer table_b (set words_b 107 3) 3 25 ≡ refused_at 9 1
  -- 10: one byte too few, placed at the bytes needed.
  pub too_small : write_answer table_b words_b 3 24 ≡ refused_at 10 25

worked : Worked
unfolding write_answer written written_for bytes_of first_not all_pass channel_passes row_passes row_in product_in word_from room_of all_words row_words channels_words channel_words list_bytes row_bytes payload_bytes product_bytes number_bytes joined listed number_at part_of header_of entry_of header_fields operation_fields transition_fields bad_fields framed_at kind_at read_header transition_step scan_transitions bad_step scan_bads check_rest check_table atom_test star bit if_lt if_eq if_true
worked = record {
  b_list = refl;
  b_fits = refl;
  no_rows = refl;
  past_count = refl;
  past_channels = refl;
  parent_free = refl;
  table_first = refl;
  no_room = refl;
  over_room = refl;
  state_high = refl;
  count_high = refl;
  atom_high = refl;
  no_atom = refl;
  too_small = refl;
}
