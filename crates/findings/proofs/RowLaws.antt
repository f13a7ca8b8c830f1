-- Every row of the search is a row of the table, has its products in normal form, and has at most 24 atoms in each.
use mathlib.Core.Path.{◌≡◌, refl, sym, ap, subst}
use mathlib.Core.Bool.{true, false}
use mathlib.Core.Logic.{◌⊎◌, inl, inr}
use mathlib.Core.List.{List}
use mathlib.Core.Option.{some}
use Prim.Native.Nat.{ℕ, zero, suc, ◌<◌, ◌≤◌}
use native.Mathlib.Omega.{arith}
use lib.Dec.{ltb, eqb}
use lib.ListN.{length}
use borrow.Author.Tests.{ltb-true, ltb-false, eqb-true, eqb-false}
use Rattle.common.proofs.AtLaws.{At, at_same, mem-at}
use Rattle.common.proofs.BoolLaws.{either, clash}
use Rattle.common.proofs.ChoiceLaws.{lt-then, lt-else, lt-cases}
use Rattle.meaning.specs.Systems.{System, WellMade}
use Rattle.atoms.specs.Masks.{AtomOf}
use Rattle.atoms.specs.Normal.{normal}
use Rattle.atoms.proofs.NormalLaws.{normal-each}
use Rattle.rows.specs.Rows.{Row, RowOf, normal_row, start_row}
use Rattle.rows.proofs.RowOfLaws.{outcome-of}
use Rattle.rows.proofs.NormalLaws.{normal-again, Normals}
use Rattle.explore.specs.Search.{Entry}
use Rattle.explore.specs.Found.{Linked, Rows}
use Rattle.findings.specs.Search.{is_too_wide, outcome_at, frame_of, first_entry}
use Rattle.findings.proofs.FindLaws.{outcome-made}

-- In normal form it is still a row of the table.
pub normal-row-of : (n k : ℕ) (r : Row) → RowOf n k r → RowOf n k (normal_row r)
unfolding normal
normal-row-of n k r h =
    record { atoms = λ c. normal-each (AtomOf k) (r.products c) (h.atoms c); none_past = λ c l. ap normal (h.none_past c l) }

start-row-of : (n k s : ℕ) → RowOf n k (start_row s)
start-row-of n k s = record { atoms = λ c. tt; none_past = λ c l. refl }

-- Products that are not too wide have at most 24 atoms.
narrow-each : (n : ℕ) (p : ℕ → List ℕ) → is_too_wide n p ≡ false → (c : ℕ) → c < n → length (p c) ≤ 24
unfolding is_too_wide
narrow-each zero p e c h = absurd (omega arith)
narrow-each (suc n) p e c h = go (narrow-each n p) (lt-cases 24 (length (p n)) true (is_too_wide n p) e)
  where
    go : (is_too_wide n p ≡ false → (c : ℕ) → c < n → length (p c) ≤ 24) → ((24 < length (p n)) × (true ≡ false)) ⊎ ((length (p n) ≤ 24) × (is_too_wide n p ≡ false)) → length (p c) ≤ 24
    go ih (inl k) = absurd (clash refl k.1)
    go ih (inr k) = which (either (eqb c n))
      where
        which : (eqb c n ≡ true) ⊎ (eqb c n ≡ false) → length (p c) ≤ 24
        which (inl z) = rw (eqb-true c n z) k.0
        which (inr z) = let y = eqb-false c n z in ih k.1 c (omega arith)

-- One product with more than 24 atoms is too wide, and there is no other reason to be.
pub wide-one : (n : ℕ) (p : ℕ → List ℕ) (c : ℕ) → c < n → 24 < length (p c) → is_too_wide n p ≡ true
unfolding is_too_wide
wide-one zero p c h k = absurd (omega arith)
wide-one (suc n) p c h k = go (wide-one n p c) (either (ltb 24 (length (p n))))
  where
    go : (c < n → 24 < length (p c) → is_too_wide n p ≡ true) → (ltb 24 (length (p n)) ≡ true) ⊎ (ltb 24 (length (p n)) ≡ false) → is_too_wide (suc n) p ≡ true
    go ih (inl z) = sym (lt-then _ _ _ _ (ltb-true 24 (length (p n)) z) refl)
    go ih (inr z) = sym (lt-else _ _ _ _ (ltb-false 24 (length (p n)) z) (sym (which (either (eqb c n)))))
      where
        which : (eqb c n ≡ true) ⊎ (eqb c n ≡ false) → is_too_wide n p ≡ true
        which (inl y) = let a = ltb-false 24 (length (p n)) z in let b = ap (λ (d : ℕ). length (p d)) (eqb-true c n y) in absurd (omega arith)
        which (inr y) = let a = eqb-false c n y in ih (omega arith) k

pub wide-none : (n : ℕ) (p : ℕ → List ℕ) → ((c : ℕ) → length (p c) ≤ 24) → is_too_wide n p ≡ false
unfolding is_too_wide
wide-none zero p f = refl
wide-none (suc n) p f = sym (lt-else _ _ _ _ (f n) (sym (wide-none n p f)))

module _ (S : System) (wm : WellMade S) (k15 : S.messages ≤ 15) where
  -- The outcome of a move from a row of the table is one.
  pub outcome-row-of : (r : Row) (j : ℕ) (o : Row) → RowOf S.channels S.messages r → outcome_at S r j ≡ some o → RowOf S.channels S.messages o
  outcome-row-of r j o h e =
      let m = outcome-made S r j o e in
      let a = outcome-of S.channels S.messages m.move r m.raw (wm.moves m.move ((mem-at S.moves m.move).1 (j, m.stands))).operation k15 h m.comes in
      subst (RowOf S.channels S.messages) m.tidy (normal-row-of S.channels S.messages m.raw a)

module _ (S : System) (wm : WellMade S) (k15 : S.messages ≤ 15) (room : ℕ) (l : List (Entry (frame_of S))) (rs : Rows (frame_of S) room (first_entry S) l) where
  -- By the rows that each came from.
  below : (b n : ℕ) (e : Entry (frame_of S)) → n < b → At l n e → RowOf S.channels S.messages e.row
  below zero n e h a = absurd (omega arith)
  below (suc b) zero e h a = subst (λ (x : Entry (frame_of S)). RowOf S.channels S.messages x.row) (at_same l 0 (first_entry S) e rs.starts a) (start-row-of S.channels S.messages S.start)
  below (suc b) (suc n) e h a = go (below b) (rs.linked (suc n) e (omega arith) a)
    where
      go : ((m : ℕ) (d : Entry (frame_of S)) → m < b → At l m d → RowOf S.channels S.messages d.row) → Linked (frame_of S) l (suc n) e → RowOf S.channels S.messages e.row
      go ih k = outcome-row-of S wm k15 k.source.row e.move e.row (ih e.parent k.source (omega (arith, k.earlier)) k.stands) k.comes

  pub entry-row-of : (n : ℕ) (e : Entry (frame_of S)) → At l n e → RowOf S.channels S.messages e.row
  entry-row-of n e a = below (suc n) n e (omega arith) a

  -- Its products are in normal form.
  pub entry-normal : (n : ℕ) (e : Entry (frame_of S)) → At l n e → Normals e.row.products
  unfolding normal
  entry-normal zero e a = subst (λ (x : Entry (frame_of S)). Normals x.row.products) (at_same l 0 (first_entry S) e rs.starts a) (λ c. refl)
  entry-normal (suc n) e a =
      let k = rs.linked (suc n) e (omega arith) a in
      let m = outcome-made S k.source.row e.move e.row k.comes in
      subst (λ (x : Row). Normals x.products) m.tidy (λ c. normal-again (m.raw.products c))

  -- Each of them has at most 24 atoms.
  pub entry-narrow : (n : ℕ) (e : Entry (frame_of S)) → At l n e → (c : ℕ) → length (e.row.products c) ≤ 24
  entry-narrow zero e a c = subst (λ (x : Entry (frame_of S)). length (x.row.products c) ≤ 24) (at_same l 0 (first_entry S) e rs.starts a) (omega arith)
  entry-narrow (suc n) e a c = go (either (ltb c S.channels))
    where
      go : (ltb c S.channels ≡ true) ⊎ (ltb c S.channels ≡ false) → length (e.row.products c) ≤ 24
      go (inl h) = narrow-each S.channels e.row.products (rs.linked (suc n) e (omega arith) a).narrow c (ltb-true c S.channels h)
      go (inr h) = rw ((entry-row-of (suc n) e a).none_past c (ltb-false c S.channels h)) (omega arith)
