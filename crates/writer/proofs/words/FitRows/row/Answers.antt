use Rattle.std.proofs.Common.{arith}
use Rattle.writer.proofs.words.FitRows.row.Goals as goal

pub invariant_of-result-clause-fits : goal.invariant_of-result-clause-fits
invariant_of-result-clause-fits c = rw (c.row.ensures.0, c.row.ensures.1) (c.args.self.now.fits.each _ (omega arith))
