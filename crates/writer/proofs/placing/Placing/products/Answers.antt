-- The invariant: the bytes of the products so far are written.
use Rattle.std.proofs.Common.{◌∙◌, ap, length, arith}
use Rattle.writer.proofs.ManyLaws.{many-none, many-room, many-on}
use Rattle.writer.proofs.WordLaws.{product-many}
use Rattle.writer.proofs.placing.Placing.products.Goals as goal

pub loop-c-init : goal.loop-c-init
loop-c-init c = many-none _ _ _ _ c.requires

pub product-requires-in-loop-c-clause-room : goal.product-requires-in-loop-c-clause-room
product-requires-in-loop-c-clause-room c = rw c.product.ensures (many-room _ _ c.loop-c.invariant c.args.fit.now.channels (omega arith) c.requires)

pub product-requires-in-loop-c-clause-narrow : goal.product-requires-in-loop-c-clause-narrow
product-requires-in-loop-c-clause-narrow c =
    omega (arith, ap length c.product.ensures ∙ product-many _ _ _, c.args.fit.now.fits.counts_fit c.loop-c.c (omega arith))

pub loop-c-preserved : goal.loop-c-preserved
loop-c-preserved c = many-on _ _ c.loop-c.invariant (rw c.product.ensures at c.product-in-loop-c.ensures)
