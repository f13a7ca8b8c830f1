-- The digits so far say the value.
use Rattle.std.proofs.Common.{◌≡◌, ◌<◌, drop}
use Rattle.steps.specs.Texts.{digits_in}
use Rattle.steps.proofs.texts.read_digits.Given as goal

abbrev pub invariant-loop-i : goal.invariant-loop-i
invariant-loop-i l = record { small : l.value < 32768; same : digits_in l.value (drop l.i l.text) ≡ digits_in l.first l.text }
