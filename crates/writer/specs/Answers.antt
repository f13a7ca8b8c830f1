-- The answer in the numbers that every caller sees.
use Rattle.std.specs.Prelude.{List, ℕ, Ok, Err}
use Rattle.common.specs.Refusal.{Refusal}
use Rattle.table.specs.Answers.{refusal_of}
use Rattle.writer.specs.Writing.{Written, written}
use Rattle.writer.specs.declared.calls.Refused.TheVariants.{Table, BadRow, TooSmall}

-- How many bytes were written, or the refusal.
pub data WriteAnswer : Type 0 where
  bytes : ℕ → WriteAnswer
  refused : Refusal → WriteAnswer

-- What an answer of the writer says. The work table and the list's bytes are input 3; a work row's place is its number.
abbrev pub answer : Written → WriteAnswer
answer (Err (Table r)) = refused (refusal_of r.fault r.at)
answer (Err (BadRow i)) = refused (record { number = 9; input = 3; place = i })
answer (Err (TooSmall n)) = refused (record { number = 10; input = 3; place = n })
answer (Ok n) = bytes n

-- What the writer says.
unfoldable pub write_answer : List ℕ → List ℕ → ℕ → ℕ → WriteAnswer
write_answer t w rows size = answer (written t w rows size)
