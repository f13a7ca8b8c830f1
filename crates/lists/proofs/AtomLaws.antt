-- The atoms of a product, read one after the other and stored.
use Rattle.std.proofs.Common.{◌≡◌, refl, sym, ap, subst, ◌∙◌, ◌⊎◌, inl, inr, true, false, List, [], ◌∷◌, ◌++◌, ℕ, ◌+◌, ◌*◌, ◌<◌, ◌≤◌, arith, length, set, length-set}
use Rattle.common.specs.Store.{put_at}
use Rattle.common.proofs.ChoiceLaws.{true-cases}
use Rattle.common.proofs.StoreLaws.{put-none, put_next}
use Rattle.atoms.specs.Masks.{AtomOf, atom_test}
use Rattle.atoms.proofs.AtomLaws.{atom-test}
use Rattle.reader.specs.Bytes.{number_at}
use Rattle.table.proofs.PassLaws.{below_fails}
use Rattle.table.specs.declared.faults.Fault.{Fault}
use Rattle.lists.specs.Reading.{read, fails, read_many, read_atom}
use Rattle.lists.specs.Steps.{AtomsRead}
use Rattle.lists.proofs.ManyLaws.{no_read, same-thing, same_place, Reading, reading-starts, reading-on, reading-fails, reading-ends}
use Rattle.lists.specs.declared.products.Frame.{Frame}

-- An atom that was read: it is one of the table, and its bytes are in the record.
pub record AtomOk (f : Frame) (from a next : ℕ) : Type 0 where
  pub atom : AtomOf f.messages a
  pub place : next ≡ from + 2
  pub inside : next ≤ f.end

pub atom-ok : (f : Frame) (t : List ℕ) (from a next : ℕ) → read_atom f t from ≡ read a next → AtomOk f from a next
unfolding read_atom
atom-ok f t from a next e =
    let r = below_fails no_read _ _ _ e in
    go r.0 (true-cases _ _ _ r.1)
  where
    x : ℕ
    x = number_at t from

    go : {q : Fault} → from + 2 ≤ f.end → ((atom_test f.messages x ≡ true) × (read x (from + 2) ≡ read a next)) ⊎ ((atom_test f.messages x ≡ false) × (fails q ≡ read a next)) → AtomOk f from a next
    go l (inl r) =
        let p : from + 2 ≡ next = same_place r.1 in
        record { atom = subst (AtomOf f.messages) (same-thing r.1) ((atom-test f.messages x).0 r.0); place = sym p; inside = omega arith }
    go l (inr r) = absurd (no_read r.1)

-- Of count atoms k are read and stored.
pub record AtomsAt (f : Frame) (t : List ℕ) (from count used : ℕ) (old new : List ℕ) (k : ℕ) : Type 0 where
  pub atoms : List ℕ
  pub so_far : Reading (read_atom f t) count from atoms k (from + 2 * k)
  pub inside : from + 2 * k ≤ f.end
  pub same : length new ≡ length old
  pub stored : new ≡ put_at old used atoms

pub atoms-start : (f : Frame) (t : List ℕ) (from count used : ℕ) (old : List ℕ) → from ≤ f.end → AtomsAt f t from count used old old 0
atoms-start f t from count used old l =
    record {
      atoms = [];
      so_far = let z : from + 2 * 0 ≡ from = omega arith in rw z (reading-starts (read_atom f t) count from);
      inside = omega arith;
      same = refl;
      stored = put-none old used;
    }

module _ {f : Frame} {t : List ℕ} {from count used : ℕ} {old new : List ℕ} {k : ℕ} (w : AtomsAt f t from count used old new k) where
  pub atoms-on : k < count → used + count ≤ length old → (a : ℕ) → read_atom f t (from + 2 * k) ≡ read a (from + 2 * k + 2)
      → AtomsAt f t from count used old (set new (used + k) a) (k + 1)
  atoms-on l m a e =
      let z : from + 2 * k + 2 ≡ from + 2 * (k + 1) = omega arith in
      let n : length w.atoms ≡ k = w.so_far.many in
      record {
        atoms = w.atoms ++ (a ∷ []);
        so_far = rw z at (reading-on (read_atom f t) w.so_far l a (from + 2 * k + 2) e);
        inside = let i = (atom-ok f t (from + 2 * k) a (from + 2 * k + 2) e).inside in omega arith;
        same = length-set new (used + k) a ∙ w.same;
        stored = ap (λ (r : List ℕ). set r (used + k) a) w.stored ∙ put_next old used w.atoms (used + k) a (omega arith) (omega arith);
      }

  pub atoms-fail : k < count → (q : Fault) → read_atom f t (from + 2 * k) ≡ fails q → read_many (read_atom f t) count from ≡ fails q
  atoms-fail l q e = reading-fails (read_atom f t) w.so_far l q e

  pub atoms-end : count ≤ k → AtomsRead (read_many (read_atom f t) count from) f.end (from + 2 * count) count used old new
  atoms-end l =
      let z : k ≡ count = omega (arith, w.so_far.high) in
      let i = w.inside in
      record {
        atoms = w.atoms;
        whole = rw z at (reading-ends (read_atom f t) w.so_far l);
        many = w.so_far.many ∙ z;
        inside = omega arith;
        stored = w.stored;
      }

pub ruleset atom_turns = (atoms-start, atoms-on, atoms-end)
