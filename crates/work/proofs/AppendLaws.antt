-- A row appended, channel by channel, and what the words hold then.
use Rattle.std.proofs.Common.{◌≡◌, refl, sym, ap, ◌∙◌, ◌⊎◌, inl, inr, List, [], ◌∷◌, ◌++◌, ℕ, zero, suc, ◌+◌, ◌*◌, ◌<◌, ◌≤◌, add-one, arith, length, replicate, take, drop, length-append}
use Rattle.common.specs.Choice.{if_eq}
use Rattle.common.specs.Front.{front}
use Rattle.common.specs.Part.{part}
use Rattle.common.specs.Store.{put_at}
use Rattle.common.proofs.AtLaws.{At}
use Rattle.common.proofs.ChoiceLaws.{eq-then, eq-else, eq-cases}
use Rattle.common.proofs.EachLaws.{each_at, each_append}
use Rattle.common.proofs.PartLaws.{part_length}
use Rattle.common.proofs.StoreLaws.{put-none, put_then, put-length, put-before, put_front, put_first}
use Rattle.meaning.specs.Systems.{put}
use Rattle.meaning.proofs.PutLaws.{put_same, put_other, put-each, put_id}
use Rattle.work.specs.Layout.{Stored, channel_words, channels_words, row_words, all_words, count_place, Narrow, NarrowRows, Holds, start_stored}
use Rattle.work.specs.Append.{appended, next_channel, next_channels, next_row}
use Rattle.work.proofs.LayoutLaws.{channel-length, all-length, all_snoc, held-words}
use Rattle.work.proofs.WritingLaws.{part_cleared}
use borrow.Rule.Slice.PartMut.{put_mid}

-- ---- row 0

pub started : (l l₁ zs : List ℕ) (s : ℕ) → 103 ≤ length l → l₁ ≡ put_at l 0 (s ∷ 65535 ∷ 65535 ∷ []) → zs ≡ replicate (length (take 100 (drop 3 l₁))) 0
    → put_mid 3 100 l₁ zs ≡ front (all_words (start_stored s ∷ [])) l
unfolding all_words row_words channels_words channel_words
started l l₁ zs s h e₁ e₂ =
    part_cleared l₁ zs 3 100 (rw e₁ (omega (arith, put-length l 0 (s ∷ 65535 ∷ 65535 ∷ []) (omega arith)))) e₂ ∙ ap (λ (x : List ℕ). put_at x 3 (replicate 100 0)) e₁
    ∙ put_then l 0 (s ∷ 65535 ∷ 65535 ∷ []) 3 (replicate 100 0) refl (omega arith) ∙ put_first l ((s ∷ 65535 ∷ 65535 ∷ []) ++ replicate 100 0)

pub start-narrow : (s : ℕ) → NarrowRows (start_stored s ∷ [])
start-narrow s = (λ c. omega arith, tt)

-- ---- one channel

pub next-new : (l r : List ℕ) (a i c : ℕ) (q : List ℕ) (d : ℕ) → d ≡ c → r ≡ put_at l a (channel_words q) → r ≡ put_at l a (next_channel l i c q d)
unfolding next_channel
next-new l r a i c q d e h = h ∙ ap (put_at l a) (eq-then d c _ _ e refl)

pub next-old : (l r : List ℕ) (a i c : ℕ) (q : List ℕ) (d : ℕ) → (d ≡ c → ⊥) → r ≡ put_at l a (part (count_place i d) (count_place i d + 25) l)
    → r ≡ put_at l a (next_channel l i c q d)
unfolding next_channel
next-old l r a i c q d n h = h ∙ ap (put_at l a) (eq-else d c _ _ n refl)

next-length : (l : List ℕ) (i c : ℕ) (q : List ℕ) (d : ℕ) → length q ≤ 24 → count_place i d + 25 ≤ length l → length (next_channel l i c q d) ≡ 25
unfolding next_channel
next-length l i c q d h k = go (eq-cases d c (channel_words q) (part (count_place i d) (count_place i d + 25) l) refl)
  where
    go : {x : List ℕ} → ((d ≡ c) × (channel_words q ≡ x)) ⊎ ((d ≡ c → ⊥) × (part (count_place i d) (count_place i d + 25) l ≡ x)) → length x ≡ 25
    go (inl e) = ap length (sym e.1) ∙ channel-length q h
    go (inr e) = ap length (sym e.1) ∙ part_length (count_place i d) (count_place i d + 25) l k ∙ omega arith

nexts-length : (n : ℕ) (l : List ℕ) (i c : ℕ) (q : List ℕ) → length q ≤ 24 → count_place i n ≤ length l → length (next_channels n l i c q) ≡ 25 * n
unfolding next_channels
nexts-length zero l i c q h k = refl
nexts-length (suc n) l i c q h k =
    length-append (next_channels n l i c q) (next_channel l i c q n)
    ∙ omega (arith, nexts-length n l i c q h (omega arith), next-length l i c q n h (omega arith))

-- What is written behind row i leaves its channels as they are.
next-kept : (l : List ℕ) (a : ℕ) (xs d : List ℕ) (i c : ℕ) (q : List ℕ) (k : ℕ) → d ≡ put_at l a xs → count_place i k + 25 ≤ a → a ≤ length l
    → next_channel d i c q k ≡ next_channel l i c q k
unfolding next_channel
next-kept l a xs d i c q k e h m =
    ap (λ (x : List ℕ). if_eq k c (channel_words q) x)
    (ap (part (count_place i k) (count_place i k + 25)) e ∙ put-before l a xs (count_place i k) (count_place i k + 25) h m)

-- ---- the loop over the channels: k of them are written from place a on, and d is what stands there

pub record Appending (l : List ℕ) (a i c : ℕ) (q d : List ℕ) (k : ℕ) : Type 0 where
  pub high : k ≤ 4
  pub same : length d ≡ length l
  pub holds : d ≡ put_at l a (next_channels k l i c q)

pub appending-starts : (l : List ℕ) (a i c : ℕ) (q : List ℕ) → Appending l a i c q l 0
unfolding next_channels
appending-starts l a i c q = record { high = omega arith; same = refl; holds = put-none l a }

pub appending-on : (l : List ℕ) (a i c : ℕ) (q d r : List ℕ) (k : ℕ) → Appending l a i c q d k → k < 4 → 103 * i + 103 ≤ a → a + 100 ≤ length l → length q ≤ 24
    → r ≡ put_at d (a + 25 * k) (next_channel d i c q k) → Appending l a i c q r (k + 1)
unfolding next_channels
appending-on l a i c q d r k w h b f g e =
    record {
      high = omega arith;
      same = ap length (e ∙ whole) ∙ put-length l a (xs ++ new) (omega (arith, length-append xs new, n, next-length l i c q k g (omega arith)));
      holds = e ∙ whole ∙ ap (λ (j : ℕ). put_at l a (next_channels j l i c q)) (sym (add-one k));
    }
  where
    xs : List ℕ
    xs = next_channels k l i c q

    new : List ℕ
    new = next_channel l i c q k

    n : length xs ≡ 25 * k
    n = nexts-length k l i c q g (omega arith)

    whole : put_at d (a + 25 * k) (next_channel d i c q k) ≡ put_at l a (xs ++ new)
    whole =
        ap (put_at d (a + 25 * k)) (next-kept l a xs d i c q k w.holds (omega arith) (omega arith))
        ∙ ap (λ (x : List ℕ). put_at x (a + 25 * k) new) w.holds ∙ put_then l a xs (a + 25 * k) new (omega (arith, n)) (omega arith)

-- ---- the row, behind the rows that are there

nexts-kept : (n : ℕ) (l : List ℕ) (a : ℕ) (xs d : List ℕ) (i c : ℕ) (q : List ℕ) → d ≡ put_at l a xs → count_place i n ≤ a → a ≤ length l
    → next_channels n d i c q ≡ next_channels n l i c q
unfolding next_channels
nexts-kept zero l a xs d i c q e h m = refl
nexts-kept (suc n) l a xs d i c q e h m =
    ap (λ (x : List ℕ). x ++ next_channel d i c q n) (nexts-kept n l a xs d i c q e (omega arith) m)
    ∙ ap (λ (x : List ℕ). next_channels n l i c q ++ x) (next-kept l a xs d i c q n e (omega arith) m)

pub row_written : (l d r : List ℕ) (a s i m c : ℕ) (q : List ℕ) → 103 * i + 103 ≤ a → a + 103 ≤ length l → d ≡ put_at l a (s ∷ i ∷ m ∷ [])
    → r ≡ put_at d (a + 3) (next_channels 4 d i c q) → r ≡ put_at l a (next_row l s i m c q)
unfolding next_row
row_written l d r a s i m c q b f g h =
    h ∙ ap (put_at d (a + 3)) (nexts-kept 4 l a (s ∷ i ∷ m ∷ []) d i c q g (omega arith) (omega arith))
    ∙ ap (λ (x : List ℕ). put_at x (a + 3) (next_channels 4 l i c q)) g
    ∙ put_then l a (s ∷ i ∷ m ∷ []) (a + 3) (next_channels 4 l i c q) refl (omega arith)

-- ---- what the words hold then

module _ (w : List ℕ) (l : List Stored) (z : List ℕ) (i : ℕ) (e : Stored) (h : Holds w l z) (n : NarrowRows l) (a : At l i e) (c : ℕ) (q : List ℕ) where
  next_is : (d : ℕ) → d < 4 → next_channel w i c q d ≡ channel_words (put e.row.products c q d)
  unfolding next_channel
  next_is d k = go (eq-cases d c (channel_words q) (part (count_place i d) (count_place i d + 25) w) refl)
    where
      go : {x : List ℕ} → ((d ≡ c) × (channel_words q ≡ x)) ⊎ ((d ≡ c → ⊥) × (part (count_place i d) (count_place i d + 25) w ≡ x)) → x ≡ channel_words (put e.row.products c q d)
      go (inl b) = sym b.1 ∙ ap channel_words (sym (put_same e.row.products c q) ∙ ap (put e.row.products c q) (sym b.0))
      go (inr b) = sym b.1 ∙ held-words w l z i e h n a d k ∙ ap channel_words (sym (put_other e.row.products c q d b.0))

  nexts-are : (m : ℕ) → m ≤ 4 → next_channels m w i c q ≡ channels_words m (put e.row.products c q)
  unfolding next_channels channels_words
  nexts-are zero k = refl
  nexts-are (suc m) k = rw (nexts-are m (omega arith), next_is m (omega arith))

  row_is : (s m : ℕ) → next_row w s i m c q ≡ row_words (appended e s i m c q)
  unfolding next_row row_words
  row_is s m = ap (λ (x : List ℕ). (s ∷ i ∷ m ∷ []) ++ x) (nexts-are 4 (omega arith))

  -- The rows that were there, and the new one behind them.
  pub append-holds : (s m rows : ℕ) (r : List ℕ) → length l ≡ rows → r ≡ put_at w (103 * rows) (next_row w s i m c q) → Holds r (l ++ (appended e s i m c q ∷ [])) z
  append-holds s m rows r b f =
      f ∙ ap (put_at w (103 * rows)) (row_is s m) ∙ ap (λ (x : List ℕ). put_at x (103 * rows) (row_words (appended e s i m c q))) h
      ∙ put_front (all_words l) z (row_words (appended e s i m c q)) (103 * rows) (all-length l n ∙ omega arith)
      ∙ ap (λ (x : List ℕ). front x z) (sym (all_snoc l (appended e s i m c q)))

  pub append-narrow : (s m : ℕ) → length q ≤ 24 → NarrowRows (l ++ (appended e s i m c q ∷ []))
  append-narrow s m k =
      each_append (λ (x : Stored). Narrow x.row) l (appended e s i m c q ∷ []) n
      (put-each e.row.products c q (λ d x. length x ≤ 24) k (λ d b. each_at (λ (x : Stored). Narrow x.row) l i e n a d), tt)

-- Channel 4 changes no product of a row that has none past channel 3.
pub put-past : (p : ℕ → List ℕ) → ((c : ℕ) → 4 ≤ c → p c ≡ []) → put p 4 [] ≡ p
put-past p h = ap (put p 4) (sym (h 4 (omega arith))) ∙ put_id p 4
