-- Which rows can be written: the tests, and what a row that passes them is.
use Rattle.std.proofs.Common.{◌≡◌, refl, sym, subst, ◌∙◌, Bool, true, false, true≢false, ◌⊎◌, inl, inr, List, ℕ, zero, suc, ◌+◌, ◌*◌, ◌<◌, ◌≤◌, arith, get_or, ltb, ltb-true, ltb-false, None}
use Rattle.std.specs.List.{list_all}
use Rattle.common.specs.Each.{Each}
use Rattle.common.proofs.BoolLaws.{either}
use Rattle.common.proofs.ChoiceLaws.{lt-then, lt-else}
use Rattle.atoms.specs.Masks.{AtomOf, atom_test}
use Rattle.atoms.proofs.AtomLaws.{atom-test}
use Rattle.table.specs.Listing.{listed}
use Rattle.table.proofs.ListingLaws.{listed-length}
use Rattle.table.proofs.PassLaws.{below_fails, below-passes}
use Rattle.table.specs.declared.checks.Shape.{Shape}
use Rattle.work.specs.Layout.{atoms_place}
use Rattle.lists.specs.Format.{RowFits}
use Rattle.lists.proofs.GoodLaws.{ProductFits}
use Rattle.writer.specs.Words.{word_from, count_in, product_in, row_in, rows_in, Writable, AllWritable}
use Rattle.writer.specs.Fitting.{first_not, all_pass, atom_passes, channel_passes, row_passes}
use Rattle.writer.proofs.TestLaws.{none-not, all-each, all-listed}

pub channel-passes : (messages : ℕ) (w : List ℕ) (i c : ℕ) (r : Bool) → count_in w i c ≤ 24 → r ≡ list_all (atom_test messages) (product_in w i c) → r ≡ channel_passes messages w i c
unfolding channel_passes product_in all_pass
channel-passes messages w i c r l h = lt-else _ _ _ _ l (h ∙ all-listed (atom_test messages) (word_from w (atoms_place i c)) (count_in w i c) 0)

-- A channel that passes: a product of the table.
channel-fits : (messages : ℕ) (w : List ℕ) (i c : ℕ) → channel_passes messages w i c ≡ true → (count_in w i c ≤ 24) × ProductFits messages (product_in w i c)
unfolding channel_passes product_in listed
channel-fits messages w i c e =
    let a = below_fails (λ d. true≢false (sym d)) _ _ _ e in
    let g : ℕ → ℕ = word_from w (atoms_place i c) in
    let p : Each (AtomOf messages) (listed g (count_in w i c) 0) = each_word (all-each (atom_passes messages w (atoms_place i c)) (count_in w i c) a.1) (count_in w i c) 0 (omega arith) in
    (a.0, record { atoms = p; narrow = omega (arith, listed-length g (count_in w i c) 0) })
  where
    each_word : ((j : ℕ) → j < count_in w i c → atom_passes messages w (atoms_place i c) j ≡ true)
        → (k j : ℕ) → j + k ≤ count_in w i c → Each (AtomOf messages) (listed (word_from w (atoms_place i c)) k j)
    each_word h zero j l = tt
    each_word h (suc k) j l = ((atom-test messages (word_from w (atoms_place i c) j)).0 (h j (omega arith)), each_word h k (j + 1) (omega arith))

pub row-passes : (s : Shape) (w : List ℕ) (i state : ℕ) (r : Bool) → state ≡ get_or w (103 * i) 0 → state < s.states → r ≡ all_pass (channel_passes s.messages w i) s.channels
    → r ≡ row_passes s w i
unfolding row_passes
row-passes s w i state r e l h = lt-then _ _ _ _ (omega arith) h

-- A row that passes can be written, and is one that a list can hold.
module _ (s : Shape) (w : List ℕ) (i : ℕ) (e : row_passes s w i ≡ true) where
  parts : (get_or w (103 * i) 0 < s.states) × ((c : ℕ) → c < s.channels → (count_in w i c ≤ 24) × ProductFits s.messages (product_in w i c))
  unfolding row_passes
  parts =
      let a = below-passes (λ d. true≢false (sym d)) _ _ _ e in
      (a.0, λ c l. channel-fits s.messages w i c (all-each (channel_passes s.messages w i) s.channels a.1 c l))

  pub passes-writable : s.states ≤ 65536 → Writable s.channels w i
  passes-writable h = record { state_fits = omega (arith, parts.0); counts_fit = λ c l. (parts.1 c l).0 }

  product-fits : (c : ℕ) → ProductFits s.messages ((row_in s.channels w i).products c)
  unfolding row_in
  product-fits c = go (either (ltb c s.channels))
    where
      At : List ℕ → Type 0
      At p = ProductFits s.messages p

      go : (ltb c s.channels ≡ true) ⊎ (ltb c s.channels ≡ false) → At ((row_in s.channels w i).products c)
      go (inl t) =
          let l : c < s.channels = ltb-true c s.channels t in
          subst At (lt-then _ _ _ _ l refl) (parts.1 c l).1
      go (inr t) = subst At (lt-else _ _ _ _ (ltb-false c s.channels t) refl) (record { atoms = tt; narrow = omega arith })

  pub passes-fits : RowFits s (row_in s.channels w i)
  unfolding row_in
  passes-fits =
      record {
        state_ok = parts.0;
        row_of = record { atoms = λ c. (product-fits c).atoms; none_past = λ c l. sym (lt-else _ _ _ _ l refl) };
        narrow = λ c. (product-fits c).narrow;
      }

-- Where no row is found that does not pass.
module _ (s : Shape) (w : List ℕ) (rows : ℕ) (e : first_not (row_passes s w) rows 0 ≡ None) where
  each-passes : (i : ℕ) → i < rows → row_passes s w i ≡ true
  each-passes i l = none-not (row_passes s w) rows 0 e i (omega arith) (omega arith)

  pub all-writable : s.states ≤ 65536 → AllWritable s.channels w rows
  all-writable h = record { each = λ i l. passes-writable s w i (each-passes i l) h }

  pub all_fit : Each (RowFits s) (rows_in s.channels w rows)
  unfolding listed
  all_fit = go rows 0 (omega arith)
    where
      go : (k j : ℕ) → j + k ≤ rows → Each (RowFits s) (listed (row_in s.channels w) k j)
      go zero j l = tt
      go (suc k) j l = (passes-fits s w j (each-passes j (omega arith)), go k (j + 1) (omega arith))
