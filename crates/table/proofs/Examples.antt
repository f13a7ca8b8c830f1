-- Worked examples: table A and neighbours of it, and each refusal.
use Rattle.std.proofs.Common.{Ok, Err, ◌≡◌, refl, List, [], ◌∷◌, ◌++◌, ℕ, take}
use Rattle.common.specs.Choice.{if_lt, if_eq}
use Rattle.meaning.specs.Systems.{System, send, receive}
use Rattle.reader.specs.Bytes.{number_at}
use Rattle.reader.specs.Records.{part_of, record_at}
use Rattle.table.specs.Fields.{header_of, entry_of, header_fields, operation_fields, transition_fields, bad_fields}
use Rattle.table.specs.Checking.{framed_at, kind_at, read_header, transition_step, scan_transitions, bad_step, scan_bads, check_rest, check_table}
use Rattle.table.specs.Answers.{Answer, refused, table_answer}
use Rattle.table.specs.Transitions.{operation_from, transition_at}
use Rattle.table.specs.Listing.{listed}
use Rattle.table.specs.Systems.{GoodTable, bad_at, system_of}
use Rattle.reader.specs.Walks.{walk_from, walk_records}
use Rattle.table.specs.declared.faults.Fault.TheVariants.{Field}
use Rattle.table.specs.declared.checks.Shape.{Shape}

-- Records of table A: 3 states, 1 channel, 2 messages, start 0; 0 to 0 sends 0; 0 to 1 sends 1; 1 to 2 receives 0; bad 2.
abbrev header : ℕ → List ℕ
header messages = 6 ∷ 0 ∷ 1 ∷ 0 ∷ 3 ∷ 0 ∷ 1 ∷ messages ∷ 0 ∷ 0 ∷ []

abbrev transition : ℕ → ℕ → ℕ → ℕ → ℕ → List ℕ
transition source target operation channel message =
    8 ∷ 0 ∷ 2 ∷ 0 ∷ source ∷ 0 ∷ target ∷ 0 ∷ operation ∷ channel ∷ message ∷ 0 ∷ []

abbrev bad_state : ℕ → List ℕ
bad_state state = 2 ∷ 0 ∷ 3 ∷ 0 ∷ state ∷ 0 ∷ []

abbrev pub table_a : List ℕ
table_a = header 2 ++ transition 0 0 1 0 0 ++ transition 0 1 1 0 1 ++ transition 1 2 2 0 0 ++ bad_state 2

-- The refusal of a table, in numbers.
abbrev refused_at : ℕ → ℕ → Answer
refused_at number place = refused (record { number = number; input = 0; place = place })

-- Table A's shape and its system.
abbrev shape_a : Shape
shape_a = record { states = 3; channels = 1; messages = 2; start = 0; transitions = 3; bads = 1 }

abbrev system_a : System
system_a = record {
  states = 3;
  channels = 1;
  messages = 2;
  start = 0;
  moves =
      record { source = 0; target = 0; operation = send 0 0 }
      ∷ record { source = 0; target = 1; operation = send 0 1 }
      ∷ record { source = 1; target = 2; operation = receive 0 0 }
      ∷ [];
  bad = 2 ∷ [];
}

pub record Worked : Type 0 where
  -- Table A is good, means its system and has five records.
  pub a_good : GoodTable table_a shape_a
  pub a_means : system_of table_a ≡ system_a
  pub a_records : walk_records table_a ≡ Ok 5
  -- 1: the empty table; a record cut in its first four bytes, or in its payload; a stray byte behind the last record.
  pub empty : table_answer [] ≡ refused_at 1 0
  pub cut_head : table_answer (take 13 table_a) ≡ refused_at 1 10
  pub cut_payload : table_answer (take 51 table_a) ≡ refused_at 1 46
  pub stray : table_answer (table_a ++ (0 ∷ [])) ≡ refused_at 1 52
  -- 2: a first record that is no header, a second header, a transition after a bad state; before a wrong length too.
  pub no_header : table_answer (bad_state 2) ≡ refused_at 2 0
  pub second_header : table_answer (table_a ++ header 2) ≡ refused_at 2 52
  pub late_transition : table_answer (table_a ++ transition 0 0 0 0 0) ≡ refused_at 2 52
  pub kind_first : table_answer (9 ∷ 0 ∷ 16 ∷ 0 ∷ []) ≡ refused_at 2 0
  -- 3: a length that is not the kind's, before a payload that is not there.
  pub length_first : table_answer (7 ∷ 0 ∷ 1 ∷ 0 ∷ []) ≡ refused_at 3 0
  -- 4: 15 messages pass and 16 do not; the wrong field stands 7 bytes behind the record's start.
  pub fifteen : check_table (header 15) ≡ Ok (record { states = 3; channels = 1; messages = 15; start = 0; transitions = 0; bads = 0 })
  pub sixteen : check_table (header 16) ≡ Err (record { fault = Field 7; at = 0 })
  pub sixteen_refused : table_answer (header 16) ≡ refused_at 4 0
  -- 4: a target that is no state, an operation over 2, a quiet transition with a channel or a message.
  pub wrong_target : check_table (header 2 ++ transition 0 3 0 0 0) ≡ Err (record { fault = Field 6; at = 10 })
  pub wrong_operation : check_table (header 2 ++ transition 0 0 3 0 0) ≡ Err (record { fault = Field 8; at = 10 })
  pub quiet_channel : check_table (header 2 ++ transition 0 0 0 1 1) ≡ Err (record { fault = Field 9; at = 10 })
  pub quiet_message : check_table (header 2 ++ transition 0 0 0 0 1) ≡ Err (record { fault = Field 10; at = 10 })
  -- 5: a bad state twice; out of range comes first.
  pub not_rising : table_answer (table_a ++ bad_state 2) ≡ refused_at 5 52
  pub range_first : table_answer (header 2 ++ bad_state 0 ++ bad_state 3) ≡ refused_at 4 16

pub worked : Worked
unfolding table_answer check_table read_header check_rest framed_at header_of part_of number_at header_fields scan_transitions transition_step kind_at entry_of transition_fields operation_fields scan_bads bad_step bad_fields system_of transition_at operation_from listed bad_at walk_records walk_from record_at if_lt if_eq
worked = record {
  a_good = refl;
  a_means = refl;
  a_records = refl;
  empty = refl;
  cut_head = refl;
  cut_payload = refl;
  stray = refl;
  no_header = refl;
  second_header = refl;
  late_transition = refl;
  kind_first = refl;
  length_first = refl;
  fifteen = refl;
  sixteen = refl;
  sixteen_refused = refl;
  wrong_target = refl;
  wrong_operation = refl;
  quiet_channel = refl;
  quiet_message = refl;
  not_rising = refl;
  range_first = refl;
}
