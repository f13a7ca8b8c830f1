use Rattle.std.proofs.Common.{◌≡◌, [], ◌∷◌, ◌++◌, length}
use Rattle.common.specs.Part.{part}
use Rattle.atoms.specs.Normal.{normal}
use Rattle.atoms.proofs.products.kept_before.Given as goal

abbrev pub invariant-loop-last : goal.invariant-loop-last
invariant-loop-last l = normal (part 0 l.last l.p ++ (l.x ∷ [])) ≡ normal (part 0 (length l.p) l.p ++ (l.x ∷ []))
