-- The outputs that the rules write out, as the definitions give them.
use Rattle.std.proofs.Common.{◌≡◌, refl, [], ◌∷◌}
use Rattle.common.specs.Choice.{if_lt}
use Rattle.meaning.specs.Systems.{send, System}
use Rattle.meaning.specs.Systems as meaning
use Rattle.wording.specs.Words.{bytes_of}
use Rattle.wording.specs.Numbers.{digits_of, number_text}
use Rattle.wording.specs.Lines.{counted}
use Rattle.wording.specs.Steps.{happened, step_line, run_lines, unsafe_text, answer_text, too_long, refused, safe, unsafe, rows_full, atoms_full}

-- Table A of the rules.
a : System
a = record {
  states = 3;
  channels = 1;
  messages = 2;
  start = 0;
  moves = record { source = 0; target = 0; operation = send 0 0 } ∷ record { source = 0; target = 1; operation = send 0 1 }
      ∷ record { source = 1; target = 2; operation = meaning.receive 0 0 } ∷ [];
  bad = 2 ∷ [];
}

outputs : (answer_text a (unsafe 4 (0 ∷ 32769 ∷ 2 ∷ [])) ≡ bytes_of "unsafe rows 4 steps 3\n0 kept\n1 lost\n2 receive\n")
    × (answer_text a (safe 3) ≡ bytes_of "safe rows 3\n")
    × (answer_text a (rows_full 1 1) ≡ bytes_of "rows full at 1 1\n")
    × (answer_text a (atoms_full 24 0) ≡ bytes_of "atoms full at 24 0\n")
    × (answer_text a (refused 1 0) ≡ bytes_of "refused 1 at 0\n")
    × (answer_text a (refused 4 36868) ≡ bytes_of "refused 4 at 36868\n")
    × (answer_text a too_long ≡ bytes_of "too long\n")
unfolding a if_lt digits_of number_text counted happened step_line run_lines unsafe_text
outputs = (refl, refl, refl, refl, refl, refl, refl)
