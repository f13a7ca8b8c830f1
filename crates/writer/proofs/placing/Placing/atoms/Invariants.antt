use Rattle.std.proofs.Common.{◌≡◌, ◌+◌, ◌*◌, get_or}
use Rattle.lists.specs.Format.{number_bytes}
use Rattle.writer.specs.Placing.{Placed}
use Rattle.writer.proofs.ManyLaws.{up_to}
use Rattle.writer.proofs.placing.Placing.atoms.Given as goal

abbrev pub invariant-loop-k : goal.invariant-loop-k
invariant-loop-k l =
    (l.self.at ≡ l.initial.self.at) × Placed (up_to number_bytes (λ j. get_or l.p j 0) l.k) l.initial.self (record l.self { at = l.self.at + 2 * l.k })
