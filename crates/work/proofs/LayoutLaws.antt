-- What stands where, in words that hold rows.
use Rattle.std.proofs.Common.{◌≡◌, refl, sym, ap, subst, ◌∙◌, ◌⊎◌, inl, inr, List, [], ◌∷◌, ◌++◌, append-nil, append_assoc, ℕ, zero, suc, ◌+◌, ◌*◌, ◌<◌, ◌≤◌, eq-or-lt_of_le, arith, length, get_or, length-append}
use Rattle.std.proofs.Math.Option.{none-ne-some, some-injective}
use Rattle.std.proofs.Math.ListN.{length-replicate}
use Rattle.common.specs.Part.{part}
use Rattle.common.proofs.AtLaws.{At}
use Rattle.common.proofs.EachLaws.{each_at}
use Rattle.common.proofs.StandLaws.{Stands, stands-first, stands-behind, stands-in, stands-front, stands-inside, stands-get, stands-part}
use Rattle.std.specs.List.{between}
use Rattle.common.proofs.CopyLaws.{part-range}
use Rattle.work.specs.Layout.{Stored, channel_words, channels_words, row_words, all_words, count_place, atoms_place, Narrow, NarrowRows, Holds}

pub channel-length : (p : List ℕ) → length p ≤ 24 → length (channel_words p) ≡ 25
unfolding channel_words
channel-length p h = simp (length-append, length-replicate) (omega arith)

pub channels-length : (n : ℕ) (p : ℕ → List ℕ) → ((c : ℕ) → length (p c) ≤ 24) → length (channels_words n p) ≡ 25 * n
unfolding channels_words
channels-length zero p h = refl
channels-length (suc n) p h =
    length-append (channels_words n p) (channel_words (p n)) ∙ omega (arith, channels-length n p h, channel-length (p n) (h n))

pub row-length : (e : Stored) → Narrow e.row → length (row_words e) ≡ 103
unfolding row_words
row-length e h = omega (arith, channels-length 4 e.row.products h)

pub all-length : (l : List Stored) → NarrowRows l → length (all_words l) ≡ 103 * length l
unfolding all_words
all-length [] h = refl
all-length (e ∷ l) h = length-append (row_words e) (all_words l) ∙ omega (arith, row-length e h.0, all-length l h.1)

-- The words of one row more.
pub all_snoc : (l : List Stored) (e : Stored) → all_words (l ++ (e ∷ [])) ≡ all_words l ++ row_words e
unfolding all_words
all_snoc [] e = append-nil (row_words e)
all_snoc (d ∷ l) e = ap (λ (r : List ℕ). row_words d ++ r) (all_snoc l e) ∙ sym (append_assoc (row_words d) (all_words l) (row_words e))

-- A channel in its row.
channels-stand : (n : ℕ) (p : ℕ → List ℕ) → ((c : ℕ) → length (p c) ≤ 24) → (c : ℕ) → c < n → Stands (channels_words n p) (25 * c) (channel_words (p c))
unfolding channels_words
channels-stand zero p h c k = absurd (omega arith)
channels-stand (suc n) p h c k = go (channels-stand n p h c) (eq-or-lt_of_le {n = c} {m = n} (omega arith))
  where
    go : (c < n → Stands (channels_words n p) (25 * c) (channel_words (p c))) → (c ≡ n) ⊎ (c < n) → Stands (channels_words (suc n) p) (25 * c) (channel_words (p c))
    go ih (inl e) = rw e (stands-behind (channels_words n p) (channel_words (p n)) (25 * n) (channels-length n p h))
    go ih (inr m) =
        subst (λ (x : ℕ). Stands (channels_words (suc n) p) x (channel_words (p c))) (omega arith)
        (stands-in (stands-first (channels_words n p) (channel_words (p n))) (ih m))

-- A row among the rows.
row-stands : (l : List Stored) (i : ℕ) (e : Stored) → NarrowRows l → At l i e → Stands (all_words l) (103 * i) (row_words e)
unfolding all_words
row-stands [] i e h a = absurd (none-ne-some e a)
row-stands (d ∷ l) zero e h a = rw (sym (some-injective _ _ a)) (stands-first (row_words d) (all_words l))
row-stands (d ∷ l) (suc i) e h a =
    subst (λ (n : ℕ). Stands (row_words d ++ all_words l) n (row_words e)) (omega arith)
    (stands-in (stands-behind (row_words d) (all_words l) 103 (row-length d h.0)) (row-stands l i e h.1 a))

-- The atoms behind a channel's count.
pub product-place : (w : List ℕ) (i c f k : ℕ) → f ≡ count_place i c → k ≡ get_or w (count_place i c) 0
    → between (f + 1) (f + 1 + k) w ≡ part (atoms_place i c) (atoms_place i c + get_or w (count_place i c) 0) w
product-place w i c f k e h = let m : f + 1 ≡ atoms_place i c = omega arith in rw (m, h) (part-range _ _ w)

-- In words that hold the rows l, row i is e.
module _ (w : List ℕ) (l : List Stored) (z : List ℕ) (i : ℕ) (e : Stored) (h : Holds w l z) (n : NarrowRows l) (a : At l i e) where
  pub held-row : Stands w (103 * i) (row_words e)
  held-row = rw h (stands-front z (row-stands l i e n a))

  narrow : Narrow e.row
  narrow = each_at (λ (d : Stored). Narrow d.row) l i e n a

  pub held-inside : 103 * i + 103 ≤ length w
  held-inside = omega (arith, stands-inside held-row, row-length e narrow)

  pub held-state : get_or w (103 * i) 0 ≡ e.row.state
  unfolding row_words
  held-state = stands-get held-row

  pub held-parent : get_or w (103 * i + 1) 0 ≡ e.parent
  unfolding row_words
  held-parent = stands-get (stands-in held-row (stands-behind (e.row.state ∷ []) _ 1 refl))

  pub held_move : get_or w (103 * i + 2) 0 ≡ e.move
  unfolding row_words
  held_move = stands-get (stands-in held-row (stands-behind (e.row.state ∷ e.parent ∷ []) _ 2 refl))

  pub held-channel : (c : ℕ) → c < 4 → Stands w (count_place i c) (channel_words (e.row.products c))
  unfolding row_words
  held-channel c k =
      stands-in (stands-in held-row (stands-behind (e.row.state ∷ e.parent ∷ e.move ∷ []) _ 3 refl)) (channels-stand 4 e.row.products narrow c k)

  pub held-count : (c : ℕ) → c < 4 → get_or w (count_place i c) 0 ≡ length (e.row.products c)
  unfolding channel_words
  held-count c k = stands-get (held-channel c k)

  pub held-words : (c : ℕ) → c < 4 → part (count_place i c) (count_place i c + 25) w ≡ channel_words (e.row.products c)
  held-words c k = stands-part _ (held-channel c k) (omega (arith, channel-length (e.row.products c) (narrow c)))

  pub held-atoms : (c : ℕ) → c < 4 → part (atoms_place i c) (atoms_place i c + length (e.row.products c)) w ≡ e.row.products c
  unfolding channel_words
  held-atoms c k =
      stands-part _
      (subst (λ (x : ℕ). Stands w x (e.row.products c)) (omega arith)
      (stands-in (stands-in (held-channel c k) (stands-behind (length (e.row.products c) ∷ []) _ 1 refl)) (stands-first (e.row.products c) _)))
      refl
