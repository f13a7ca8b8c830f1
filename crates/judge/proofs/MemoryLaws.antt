-- Memory that holds the rows of a good list: it is long enough, and its rows are these.
use Rattle.std.proofs.Common.{◌≡◌, refl, sym, ap, ◌∙◌, true, false, ◌⊎◌, inl, inr, List, [], ◌∷◌, ℕ, zero, suc, ◌+◌, ◌<◌, ◌≤◌, arith, ltb, length, take, get_or, length-take-le, ltb-true, ltb-false}
use Rattle.std.proofs.lemmas.List.{get_or-take}
use Rattle.common.specs.Each.{Each}
use Rattle.common.proofs.AtLaws.{At, at_some}
use Rattle.common.proofs.BoolLaws.{either}
use Rattle.common.proofs.ChoiceLaws.{lt-then, lt-else}
use Rattle.common.proofs.EachLaws.{each_at}
use Rattle.common.proofs.PartLaws.{part_length}
use Rattle.rows.specs.Look.{rows_from}
use Rattle.rows.specs.Rows.{Row}
use Rattle.table.specs.declared.checks.Shape.{Shape}
use Rattle.lists.specs.Format.{RowFits}
use Rattle.lists.specs.Loading.{Memory, Decoded}
use Rattle.judge.specs.Look.{from_at, to_at, product_at, row_at, rows_at, Range, Sized}

module _ (s : Shape) (l : List Row) (w : Memory) (d : Decoded s.channels l w) (fits : Each (RowFits s) l) where
  abbrev n : ℕ
  n = s.channels

  abbrev starts : List ℕ
  starts = w.products.starts

  abbrev atoms : List ℕ
  atoms = w.products.atoms

  range-of : (i c : ℕ) (r : Row) → At l i r → c < n → Range (from_at n starts i c) (to_at n starts i c) (length atoms)
  unfolding from_at to_at
  range-of i c r a k =
      let p = d.product_at i c r a k in
      record {
        rises = p.rises;
        inside = p.inside;
        short = omega (arith, p.rises, part_length (from_at n starts i c) (to_at n starts i c) atoms p.inside, ap length p.holds, (each_at (RowFits s) l i r fits a).narrow c);
      }

  pub loaded-sized : n ≤ 4 → length l ≤ 1024 → Sized n starts atoms (length l)
  loaded-sized e f =
      record {
        few = f;
        narrow = e;
        there = λ i c h k. let q = at_some l i h in (d.product_at i c q.0 q.1 k).there;
        ranges = λ i c h k. let q = at_some l i h in range-of i c q.0 q.1 k;
      }

  -- Row i of the memory is row i of the list.
  product_is : (i : ℕ) (r : Row) → At l i r → (c : ℕ) → product_at n starts atoms i c ≡ r.products c
  unfolding product_at from_at to_at
  product_is i r a c = go (either (ltb c n))
    where
      go : (ltb c n ≡ true) ⊎ (ltb c n ≡ false) → product_at n starts atoms i c ≡ r.products c
      go (inl e) = sym (lt-then _ _ _ _ (ltb-true c n e) (sym (d.product_at i c r a (ltb-true c n e)).holds))
      go (inr e) = sym (lt-else _ _ _ _ (ltb-false c n e) ((each_at (RowFits s) l i r fits a).row_of.none_past c (ltb-false c n e)))

  row_is : (i : ℕ) (r : Row) → At l i r → row_at n w.states starts atoms i ≡ r
  row_is i r a = λ x. record { state = d.state_at i r a x; products = λ c. product_is i r a c x }

  rows-from : (m : List Row) (i : ℕ) → ((j : ℕ) (r : Row) → At m j r → row_at n w.states starts atoms (i + j) ≡ r) → rows_at n w.states starts atoms (length m) i ≡ m
  unfolding rows_from
  rows-from [] i h = refl
  rows-from (r ∷ m) i h =
      let z : i + 0 ≡ i = omega arith in
      let first : row_at n w.states starts atoms i ≡ r = rw (← z) (h 0 r refl) in
      let rest = rows-from m (i + 1) (λ j q a. let y : i + 1 + j ≡ i + suc j = omega arith in rw y (h (suc j) q a)) in
      λ x. first x ∷ rest x

  pub loaded-rows : rows_at n w.states starts atoms (length l) 0 ≡ l
  loaded-rows = rows-from l 0 (λ j r a. let z : 0 + j ≡ j = omega arith in rw z (row_is j r a))

-- So many states tell as many rows.
pub taken-rows : (n : ℕ) (states starts atoms : List ℕ) (count : ℕ) → count ≤ length states → rows_at n (take count states) starts atoms (length (take count states)) 0 ≡ rows_at n states starts atoms count 0
unfolding rows_from
taken-rows n states starts atoms count h = ap (λ (k : ℕ). rows_at n (take count states) starts atoms k 0) (length-take-le count states h) ∙ go count 0 (omega arith)
  where
    go : (k i : ℕ) → i + k ≤ count → rows_at n (take count states) starts atoms k i ≡ rows_at n states starts atoms k i
    go zero i z = refl
    go (suc k) i z =
        let same : get_or (take count states) i 0 ≡ get_or states i 0 = get_or-take count states i 0 (omega arith) in
        let rest = go k (i + 1) (omega arith) in
        λ x. record { state = same x; products = product_at n starts atoms i } ∷ rest x
