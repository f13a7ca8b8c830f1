use Rattle.std.proofs.Common.{◌+◌, ◌-◌}
use Rattle.atoms.proofs.products.+contained_at.Given as goal

abbrev pub decreases-contained_at : goal.decreases-contained_at
decreases-contained_at l = (l.pe - l.pa) + (l.qe - l.qa)
