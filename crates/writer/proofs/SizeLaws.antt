-- How many bytes a product, a payload, a record and a list take.
use Rattle.std.proofs.Common.{◌≡◌, refl, sym, ap, ◌∙◌, List, [], ◌∷◌, ◌++◌, ℕ, zero, suc, ◌+◌, ◌*◌, ◌<◌, ◌≤◌, arith, length, get_or, length-append}
use Rattle.common.proofs.ChoiceLaws.{lt-then}
use Rattle.rows.specs.Rows.{Row}
use Rattle.table.specs.Listing.{listed}
use Rattle.table.proofs.ListingLaws.{listed-length}
use Rattle.lists.specs.Format.{joined, number_bytes, product_bytes, products_of, payload_bytes, row_bytes, list_bytes}
use Rattle.lists.proofs.BackLaws.{number-length}
use Rattle.work.specs.Layout.{atoms_place}
use Rattle.writer.specs.Words.{word_from, count_in, product_in, row_in, rows_in, Writable}
use Rattle.writer.proofs.ManyLaws.{up_to, up-length}

pub numbers-length : (p : List ℕ) → length (joined number_bytes p) ≡ 2 * length p
unfolding joined
numbers-length [] = refl
numbers-length (a ∷ p) = length-append (number_bytes a) (joined number_bytes p) ∙ omega (arith, number-length a, numbers-length p)

pub product-length : (w : List ℕ) (i c : ℕ) → length (product_bytes (product_in w i c)) ≡ 1 + 2 * count_in w i c
unfolding product_bytes product_in
product-length w i c = omega (arith, numbers-length (product_in w i c), listed-length (word_from w (atoms_place i c)) (count_in w i c) 0)

-- Functions that agree on the numbers that are listed.
listed_same : {A : Type 0} (f g : ℕ → A) (k i : ℕ) → ((j : ℕ) → j < i + k → f j ≡ g j) → listed f k i ≡ listed g k i
unfolding listed
listed_same f g zero i h = refl
listed_same f g (suc k) i h = rw (h i (omega arith)) (ap (λ l. g i ∷ l) (listed_same f g k (i + 1) (λ j l. h j (omega arith))))

pub products-in : (n : ℕ) (w : List ℕ) (i : ℕ) → products_of n (row_in n w i) ≡ listed (product_in w i) n 0
unfolding row_in
products-in n w i = listed_same (row_in n w i).products (product_in w i) n 0 (λ c l. sym (lt-then _ _ _ _ (below c l) refl))
  where
    below : (c : ℕ) → c < 0 + n → c < n
    below c l = omega arith

pub payload-is : (n : ℕ) (w : List ℕ) (i : ℕ) → payload_bytes n (row_in n w i) ≡ number_bytes (get_or w (103 * i) 0) ++ up_to product_bytes (product_in w i) n
unfolding row_in payload_bytes
payload-is n w i = ap (λ (ps : List (List ℕ)). number_bytes (get_or w (103 * i) 0) ++ joined product_bytes ps) (products-in n w i)

pub payload-length : (n : ℕ) (w : List ℕ) (i : ℕ) → length (payload_bytes n (row_in n w i)) ≡ 2 + length (up_to product_bytes (product_in w i) n)
payload-length n w i =
    ap length (payload-is n w i) ∙ length-append (number_bytes (get_or w (103 * i) 0)) (up_to product_bytes (product_in w i) n) ∙ omega (arith, number-length (get_or w (103 * i) 0))

pub row-length : (n : ℕ) (r : Row) → length (row_bytes n r) ≡ 4 + length (payload_bytes n r)
unfolding row_bytes
row-length n r =
    length-append (number_bytes (length (payload_bytes n r))) (number_bytes 16 ++ payload_bytes n r)
    ∙ omega (arith, number-length (length (payload_bytes n r)), length-append (number_bytes 16) (payload_bytes n r), number-length 16)

-- ---- the bytes of a payload, channel by channel

pub record Sizing (n : ℕ) (w : List ℕ) (i c atoms : ℕ) : Type 0 where
  pub high : c ≤ n
  pub is : c + 2 * atoms ≡ length (up_to product_bytes (product_in w i) c)
  pub few : atoms ≤ 24 * c

pub sizing-starts : (n : ℕ) (w : List ℕ) (i : ℕ) → Sizing n w i 0 0
unfolding joined listed
sizing-starts n w i = record { high = omega arith; is = refl; few = omega arith }

module _ {n : ℕ} {w : List ℕ} {i c atoms : ℕ} (z : Sizing n w i c atoms) where
  pub sizing-on : Writable n w i → c < n → (count : ℕ) → count ≡ count_in w i c → Sizing n w i (c + 1) (atoms + count)
  sizing-on h l count e =
      record {
        high = omega arith;
        is = omega (arith, z.is, up-length product_bytes (product_in w i) c, product-length w i c);
        few = omega (arith, z.few, h.counts_fit c l);
      }

  pub sizing-ends : n ≤ c → 2 + n + 2 * atoms ≡ length (payload_bytes n (row_in n w i))
  sizing-ends l = let e : c ≡ n = omega (arith, z.high) in omega (arith, rw e at z.is, payload-length n w i)

-- ---- the bytes of a list, row by row

pub list-is : (n : ℕ) (w : List ℕ) (rows : ℕ) → list_bytes n (rows_in n w rows) ≡ up_to (row_bytes n) (row_in n w) rows
unfolding list_bytes
list-is n w rows = refl

pub record ListSizing (n : ℕ) (w : List ℕ) (rows i size : ℕ) : Type 0 where
  pub high : i ≤ rows
  pub is : size ≡ length (up_to (row_bytes n) (row_in n w) i)
  pub few : size ≤ 202 * i

pub list-sizing-starts : (n : ℕ) (w : List ℕ) (rows : ℕ) → ListSizing n w rows 0 0
unfolding joined listed
list-sizing-starts n w rows = record { high = omega arith; is = refl; few = omega arith }

module _ {n : ℕ} {w : List ℕ} {rows i size : ℕ} (z : ListSizing n w rows i size) where
  pub list-sizing-on : i < rows → (payload : ℕ) → payload ≡ length (payload_bytes n (row_in n w i)) → payload ≤ 198 → ListSizing n w rows (i + 1) (size + (4 + payload))
  list-sizing-on l payload e h =
      record {
        high = omega arith;
        is = omega (arith, z.is, up-length (row_bytes n) (row_in n w) i, row-length n (row_in n w i));
        few = omega (arith, z.few);
      }

  pub list-sizing-ends : rows ≤ i → size ≡ length (list_bytes n (rows_in n w rows))
  list-sizing-ends l =
      let e : i ≡ rows = omega (arith, z.high) in
      z.is ∙ ap (λ (k : ℕ). length (up_to (row_bytes n) (row_in n w) k)) e ∙ sym (ap length (list-is n w rows))
