-- What stands where in memory that holds the rows of a list.
use Rattle.std.proofs.Common.{◌≡◌, refl, ap, subst, ◌∙◌, List, [], ◌∷◌, ◌++◌, map, ℕ, zero, suc, ◌+◌, ◌*◌, ◌<◌, ◌≤◌, suc-mul, arith, length, get_or, drop, length-append}
use mathlib.Core.Option.{some, none-ne-some, some-injective}
use lib.ListN.{length-map, get_or-append}
use Rattle.common.specs.Front.{front}
use Rattle.common.proofs.AtLaws.{At, at-below, at-grown, at_map}
use Rattle.common.proofs.StandLaws.{Stands, stands-first, stands-behind, stands-in, stands-front, stands-inside, stands-part}
use Rattle.rows.specs.Rows.{Row}
use Rattle.table.proofs.ListingLaws.{listed-length, listed_at}
use Rattle.lists.specs.Format.{joined, products_of}
use Rattle.lists.specs.Loading.{atoms_in, ends, all_products, Products, Memory, Loaded, ProductAt, Decoded}
use Rattle.lists.proofs.JoinLaws.{ends-length}

-- What is written to the front stands there.
front-get : (xs l : List ℕ) (i : ℕ) → i < length xs → get_or (front xs l) i 0 ≡ get_or xs i 0
unfolding front
front-get xs l i h = get_or-append xs (drop (length xs) l) 0 i h

front_long : (xs l : List ℕ) → length xs ≤ length (front xs l)
unfolding front
front_long xs l = omega (arith, length-append xs (drop (length xs) l))

get_at : (l : List ℕ) (i x : ℕ) → At l i x → get_or l i 0 ≡ x
get_at [] i x h = absurd (none-ne-some x h)
get_at (y ∷ l) zero x h = some-injective _ _ h
get_at (y ∷ l) (suc i) x h = get_at l i x h

-- An element behind others.
at-behind : {A : Type 0} (l m : List A) (j : ℕ) (x : A) → At m j x → At (l ++ m) (length l + j) x
at-behind {A} l m j x h = go l
  where
    go : (k : List A) → At (k ++ m) (length k + j) x
    go [] = let z : 0 + j ≡ j = omega arith in rw z h
    go (y ∷ k) = let z : suc (length k) + j ≡ suc (length k + j) = omega arith in rw z (go k)

-- Product c of row i is number i * n + c.
product-place : (n : ℕ) (l : List Row) (i c : ℕ) (r : Row) → At l i r → c < n → At (all_products n l) (i * n + c) (r.products c)
unfolding joined
product-place n [] i c r h k = absurd (none-ne-some r h)
product-place n (q ∷ l) zero c r h k =
    let z : 0 * n + c ≡ 0 + c = omega arith in
    let e : q ≡ r = some-injective _ _ h in
    rw (z, ← e) (at-grown (products_of n q) (all_products n l) (0 + c) (q.products c) (first q))
  where
    first : (q : Row) → At (products_of n q) (0 + c) (q.products c)
    first q = let z : 0 + c ≡ c = omega arith in rw z (listed_at q.products n 0 c k ∙ ap (λ (j : ℕ). some (q.products j)) z)
product-place n (q ∷ l) (suc i) c r h k =
    let e : length (products_of n q) ≡ n = listed-length q.products n 0 in
    let m : suc i * n ≡ i * n + n = suc-mul i n in
    let z : length (products_of n q) + (i * n + c) ≡ suc i * n + c = omega arith in
    subst (λ (j : ℕ). At (products_of n q ++ all_products n l) j (r.products c)) z
    (at-behind (products_of n q) (all_products n l) (i * n + c) (r.products c) (product-place n l i c r h k))

-- Where product number j of some stands among their atoms, where u atoms came before.
record Placed (u : ℕ) (ps : List (List ℕ)) (j : ℕ) (p : List ℕ) : Type 0 where
  at : ℕ
  begins : get_or (u ∷ ends u ps) j 0 ≡ u + at
  finishes : get_or (u ∷ ends u ps) (suc j) 0 ≡ u + at + length p
  stands : Stands (atoms_in ps) at p

placed : (u : ℕ) (ps : List (List ℕ)) (j : ℕ) (p : List ℕ) → At ps j p → Placed u ps j p
unfolding ends joined
placed u [] j p h = absurd (none-ne-some p h)
placed u (q ∷ ps) zero p h =
    let e : q ≡ p = some-injective _ _ h in
    rw (← e) (record { at = 0; begins = omega arith; finishes = omega arith; stands = stands-first q (atoms_in ps) })
placed u (q ∷ ps) (suc j) p h =
    let r = placed (u + length q) ps j p h in
    record {
      at = length q + r.at;
      begins = r.begins ∙ omega arith;
      finishes = r.finishes ∙ omega arith;
      stands = stands-in (stands-behind q (atoms_in ps) (length q) refl) r.stands;
    }

product-held : (ps : List (List ℕ)) (w : Products) (starts atoms : List ℕ) (j : ℕ) (p : List ℕ) → w.starts ≡ front (0 ∷ ends 0 ps) starts → w.atoms ≡ front (atoms_in ps) atoms
    → At ps j p → ProductAt w j p
product-held ps w starts atoms j p e d h =
    let r = placed 0 ps j p h in
    let n : length (ends 0 ps) ≡ length ps = ends-length 0 ps in
    let b = at-below ps j p h in
    let z : j + 1 ≡ suc j = omega arith in
    let from : get_or w.starts j 0 ≡ r.at =
    ap (λ (x : List ℕ). get_or x j 0) e ∙ front-get (0 ∷ ends 0 ps) starts j (omega arith) ∙ r.begins ∙ omega arith in
    let to : get_or w.starts (j + 1) 0 ≡ r.at + length p =
    ap (λ (x : List ℕ). get_or x (j + 1) 0) e ∙ front-get (0 ∷ ends 0 ps) starts (j + 1) (omega arith) ∙ ap (λ (i : ℕ). get_or (0 ∷ ends 0 ps) i 0) z ∙ r.finishes ∙ omega arith in
    let s : Stands w.atoms r.at p = rw d (stands-front atoms r.stands) in
    record {
      there = omega (arith, ap length e, front_long (0 ∷ ends 0 ps) starts);
      rises = omega arith;
      inside = omega (arith, stands-inside s);
      holds = rw (from, to) (stands-part (r.at + length p) s refl);
    }

pub loaded-decoded : (n : ℕ) (l : List Row) (old new : Memory) → Loaded n l old new → Decoded n l new
loaded-decoded n l old new h =
    record {
      states_there = omega (arith, length-map l (λ (q : Row). q.state), ap length h.states_are, front_long states old.states);
      state_at = λ i r a.
          ap (λ (x : List ℕ). get_or x i 0) h.states_are
          ∙ front-get states old.states i (omega (arith, length-map l (λ (q : Row). q.state), at-below l i r a))
          ∙ get_at states i r.state ((at_map (λ (q : Row). q.state) l i r.state).1 (r, a, refl));
      product_at = λ i c r a k. product-held (all_products n l) new.products old.products.starts old.products.atoms (i * n + c) (r.products c)
          h.starts_are h.atoms_are (product-place n l i c r a k);
    }
  where
    states : List ℕ
    states = map (λ (q : Row). q.state) l
