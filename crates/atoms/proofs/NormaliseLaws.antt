-- The loop that brings a product to normal form, atom by atom.
use Rattle.std.proofs.Common.{◌≡◌, refl, sym, ap, subst, ◌∙◌, List, [], ◌∷◌, ◌++◌, ℕ, ◌+◌, ◌-◌, ◌<◌, ◌≤◌, arith, add-zero, length, get_or, drop}
use lib.Seq.{drop-drop, get_or-drop}
use Rattle.common.specs.Part.{part}
use Rattle.common.proofs.PartLaws.{part_none, part-snoc, part-take}
use Rattle.common.proofs.EachLaws.{each_take}
use Rattle.atoms.specs.Masks.{IsAtom, Atoms}
use Rattle.atoms.specs.Normal.{normal}
use Rattle.atoms.specs.Ranges.{Added, Normalised}
use Rattle.atoms.proofs.NormalLaws.{normal-chain}
use Rattle.atoms.proofs.AddLaws.{chain-fixed, normal-first}

-- After i atoms: the first k places hold the normal form of the first i, and those from i on are as they were.
pub record Going (l p : List ℕ) (k i : ℕ) : Type 0 where
  pub low : k ≤ i
  pub high : i ≤ length l
  pub same : length p ≡ length l
  pub form : part 0 k p ≡ normal (part 0 i l)
  pub kept : drop i p ≡ drop i l

pub going-starts : (l : List ℕ) → Going l l 0 0
unfolding normal
going-starts l = record { low = omega arith; high = omega arith; same = refl; form = rw (part_none 0 0 l (omega arith)) refl; kept = refl }

-- What stands in the first k places is normal.
pub going-fixed : (l p : List ℕ) (k i : ℕ) → Going l p k i → normal (part 0 k p) ≡ part 0 k p
going-fixed l p k i g = rw g.form (chain-fixed (normal (part 0 i l)) (normal-chain (part 0 i l)))

drop_more : (i k : ℕ) (p q : List ℕ) → k ≤ i → drop k p ≡ drop k q → drop i p ≡ drop i q
drop_more i k p q h e =
    let s : k + (i - k) ≡ i = omega arith in
    rw (sym s, ← drop-drop (i - k) k p, ← drop-drop (i - k) k q, e)

drop-first : (i : ℕ) (p q : List ℕ) → drop i p ≡ drop i q → get_or p i 0 ≡ get_or q i 0
drop-first i p q e = sym (at p) ∙ ap (λ (l : List ℕ). get_or l 0 0) e ∙ at q
  where
    at : (l : List ℕ) → get_or (drop i l) 0 0 ≡ get_or l i 0
    at l = get_or-drop i l 0 0 ∙ ap (λ (n : ℕ). get_or l n 0) (add-zero i)

pub going_on : (l p : List ℕ) (k i : ℕ) (q : List ℕ) (r : ℕ) → Going l p k i → i < length l → Atoms l → Added p k (get_or p i 0) q r → length q ≡ length p
    → Going l q r (i + 1)
going_on l p k i q r g h a t s =
    record {
      low = omega (arith, t.few, g.low);
      high = omega arith;
      same = s ∙ g.same;
      form = t.form ∙ ap (λ (x : ℕ). normal (part 0 k p ++ (x ∷ []))) (drop-first i p l g.kept)
          ∙ ap (λ (y : List ℕ). normal (y ++ (get_or l i 0 ∷ []))) g.form ∙ normal-first (part 0 i l) (get_or l i 0 ∷ []) atoms ∙ ap normal (sym next);
      kept = drop_more (i + 1) (k + 1) q p (omega (arith, g.low)) t.kept ∙ drop_more (i + 1) i p l (omega arith) g.kept;
    }
  where
    next : part 0 (i + 1) l ≡ part 0 i l ++ (get_or l i 0 ∷ [])
    next = part-snoc 0 i l (omega arith) (omega arith)

    atoms : Atoms (part 0 i l ++ (get_or l i 0 ∷ []))
    atoms = subst Atoms (sym (part-take (i + 1) l) ∙ next) (each_take IsAtom (i + 1) l a)

pub going-ends : (l p : List ℕ) (k i : ℕ) → Going l p k i → length l ≤ i → Normalised l (length l) p k
going-ends l p k i g h =
    let e : i ≡ length l = omega (arith, g.high) in
    record { few = omega (arith, g.low); form = rw e at g.form; kept = rw e at g.kept }

pub ruleset going = (going-starts, going-fixed, going-ends)
