-- The invariant: the bytes of the atoms so far are written.
use Rattle.std.proofs.Common.{ℕ, ◌+◌, ◌≡◌, get_or, length, refl, arith, ◌∙◌}
use Rattle.lists.specs.Format.{joined, number_bytes}
use Rattle.lists.proofs.BackLaws.{number-length}
use Rattle.writer.proofs.ManyLaws.{many-none, many-room, many-on}
use Rattle.writer.proofs.PlaceLaws.{atoms-are, number-written}
use Rattle.writer.proofs.placing.Placing.atoms.Goals as goal

pub loop-k-init : goal.loop-k-init
loop-k-init c =
    let z : c.args.self.now.at + 0 ≡ c.args.self.now.at = omega arith in
    (refl, rw z (many-none _ _ (joined number_bytes c.args.p.now) _ c.requires))

pub slice_bounds-copy_from_slice-end : goal.slice_bounds-copy_from_slice-end
slice_bounds-copy_from_slice-end c =
    let h = many-room number_bytes (λ (j : ℕ). get_or c.args.p.now j 0) c.loop-k.invariant.1 (length c.args.p.now) (omega arith) (rw (atoms-are c.args.p.now) c.requires) in
    omega (arith, h, number-length (get_or c.args.p.now c.loop-k.k 0))

pub loop-k-preserved : goal.loop-k-preserved
loop-k-preserved c =
    let h = many-room number_bytes (λ (j : ℕ). get_or c.args.p.now j 0) c.loop-k.invariant.1 (length c.args.p.now) (omega arith) (rw (atoms-are c.args.p.now) c.requires) in (
      c.loop-k.invariant.0,
      many-on _ _ c.loop-k.invariant.1
          (record {
            same_list = refl;
            place = omega (arith, number-length (get_or c.args.p.now c.loop-k.k 0));
            inside = omega (arith, h, number-length (get_or c.args.p.now c.loop-k.k 0));
            holds = number-written _ _ _ _ (omega arith) (c.copy_from_slice.ensures.after ∙ c.to_le_bytes.ensures);
          }),
    )

pub returns : goal.returns
returns c =
    let e : c.loop-k.k ≡ length c.args.p.now = omega arith in
    rw (e, atoms-are c.args.p.now) at c.loop-k.invariant.1
