-- The products of a row, read one after the other and stored.
use Rattle.std.proofs.Common.{◌≡◌, refl, sym, ap, ◌∙◌, List, [], ◌∷◌, ◌++◌, ℕ, ◌+◌, ◌*◌, ◌<◌, ◌≤◌, arith, length, set, length-set, length-append}
use Rattle.common.specs.Store.{put_at}
use Rattle.common.proofs.StoreLaws.{put-none, put_next, put_then, put-length}
use Rattle.table.specs.declared.faults.Fault.{Fault}
use Rattle.lists.specs.Format.{joined}
use Rattle.lists.specs.Reading.{fails, read_many, read_product}
use Rattle.lists.specs.Loading.{Products, atoms_in, ends}
use Rattle.lists.specs.Steps.{ProductRead, ProductsRead}
use Rattle.lists.proofs.ManyLaws.{Reading, reading-starts, reading-on, reading-fails, reading-ends}
use Rattle.lists.proofs.JoinLaws.{joined_snoc, ends-length, ends_snoc}
use Rattle.lists.specs.declared.products.Frame.{Frame}
use Rattle.lists.specs.declared.products.Progress.{Progress}

abbrev progress : ℕ → ℕ → Progress
progress at atoms = record { at = at; atoms = atoms }

-- Of so many channels c have their products read and stored, the first as product number `first`; n atoms are stored.
pub record ProductsAt (f : Frame) (t : List ℕ) (from : Progress) (channels first : ℕ) (old new : Products) (c : ℕ) (at : Progress) : Type 0 where
  pub products : List (List ℕ)
  pub so_far : Reading (read_product f t) channels from.at products c at.at
  pub onward : from.at ≤ at.at
  pub inside : at.at ≤ f.end
  pub many : at.atoms ≡ from.atoms + length (atoms_in products)
  pub few : at.atoms ≤ from.atoms + 24 * c
  pub starts_same : length new.starts ≡ length old.starts
  pub atoms_same : length new.atoms ≡ length old.atoms
  pub starts_stored : new.starts ≡ put_at old.starts (first + 1) (ends from.atoms products)
  pub atoms_stored : new.atoms ≡ put_at old.atoms from.atoms (atoms_in products)

pub products-start : (f : Frame) (t : List ℕ) (from : Progress) (channels first : ℕ) (old : Products) → from.at ≤ f.end → ProductsAt f t from channels first old old 0 from
unfolding ends joined
products-start f t from channels first old l =
    record {
      products = [];
      so_far = reading-starts (read_product f t) channels from.at;
      onward = omega arith;
      inside = l;
      many = omega arith;
      few = omega arith;
      starts_same = refl;
      atoms_same = refl;
      starts_stored = put-none old.starts (first + 1);
      atoms_stored = put-none old.atoms from.atoms;
    }

module _ {f : Frame} {t : List ℕ} {from : Progress} {channels first : ℕ} {old new : Products} {c : ℕ} {at : Progress} (w : ProductsAt f t from channels first old new c at) where
  pub products-on : c < channels → channels ≤ 4 → from.atoms + 96 ≤ length old.atoms → first + 5 ≤ length old.starts
      → (newer : List ℕ) (next : Progress) → ProductRead (read_product f t at.at) f.end at new.atoms newer next
      → ProductsAt f t from channels first old (record { starts = set new.starts (first + c + 1) next.atoms; atoms = newer }) (c + 1) next
  products-on l m a b newer next r =
      let used : ℕ = from.atoms in
      let n : ℕ = at.atoms in
      let filled : ℕ = next.atoms in
      let ps : List (List ℕ) = w.products in
      let p : List ℕ = r.product in
      let k : length ps ≡ c = w.so_far.many in
      let j : atoms_in (ps ++ (p ∷ [])) ≡ atoms_in ps ++ p = joined_snoc (λ (q : List ℕ). q) ps p in
      let z : first + 1 + length (ends used ps) ≡ first + c + 1 = omega (arith, ends-length used ps) in
      let v : filled ≡ n + length p = r.many in
      let u : n ≡ used + length (atoms_in ps) = w.many in
      record {
        products = ps ++ (p ∷ []);
        so_far = reading-on (read_product f t) w.so_far l p next.at r.whole;
        onward = omega (arith, w.onward, r.onward);
        inside = r.inside;
        many = omega (arith, ap length j, length-append (atoms_in ps) p);
        few = omega (arith, w.few, r.few);
        starts_same = length-set new.starts (first + c + 1) filled ∙ w.starts_same;
        atoms_same = ap length r.stored ∙ put-length new.atoms n p (omega (arith, w.atoms_same, w.few, r.few)) ∙ w.atoms_same;
        starts_stored = ap (λ (x : List ℕ). set x (first + c + 1) filled) w.starts_stored
            ∙ put_next old.starts (first + 1) (ends used ps) (first + c + 1) filled z (omega arith)
            ∙ ap (put_at old.starts (first + 1)) (sym (ends_snoc used n filled ps p u v));
        atoms_stored = r.stored ∙ ap (λ (x : List ℕ). put_at x n p) w.atoms_stored
            ∙ put_then old.atoms used (atoms_in ps) n p (sym u) (omega (arith, w.few)) ∙ ap (put_at old.atoms used) (sym j);
      }

  pub products-fail : c < channels → (q : Fault) → read_product f t at.at ≡ fails q → read_many (read_product f t) channels from.at ≡ fails q
  products-fail l q e = reading-fails (read_product f t) w.so_far l q e

  pub products-end : channels ≤ c → channels ≤ 4 → ProductsRead (read_many (read_product f t) channels from.at) f.end from first old new at
  products-end l m =
      record {
        products = w.products;
        whole = reading-ends (read_product f t) w.so_far l;
        many = w.many;
        few = omega (arith, w.few, w.so_far.high);
        onward = w.onward;
        inside = w.inside;
        starts_stored = w.starts_stored;
        atoms_stored = w.atoms_stored;
      }

pub ruleset product_turns = (products-start, products-end)
