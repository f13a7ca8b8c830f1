-- Ranges of words written by the methods of slices: what is there then.
use Rattle.std.specs.Prelude.{ℕ, ◌≡◌, List, [], ◌∷◌, ◌++◌, ◌+◌, ◌-◌, ◌≤◌, length, take, drop, replicate}
use Rattle.std.proofs.Common.{refl, sym, ap, ◌∙◌, arith}
use Rattle.std.proofs.Math.ListN.{set, length-take, length-drop, length-replicate}
use Rattle.common.specs.Store.{put_at}
use Rattle.common.proofs.CopyLaws.{put-copy}
use Rattle.common.proofs.StoreLaws.{put-length, put_one, put_then}
use Rattle.work.specs.Layout.{channel_words}
use borrow.Rule.Slice.PartMut.{put_mid}

-- The k places from a on, cleared.
pub part_cleared : (l zs : List ℕ) (a k : ℕ) → a + k ≤ length l → zs ≡ replicate (length (take k (drop a l))) 0 → put_mid a k l zs ≡ put_at l a (replicate k 0)
part_cleared l zs a k h e =
    let n : length (take k (drop a l)) ≡ k = simp (length-take, length-drop) (omega arith) in
    let z : zs ≡ replicate k 0 = e ∙ ap (λ (m : ℕ). replicate m 0) n in
    put-copy l (replicate k 0) a k z (length-replicate k 0)

-- ---- a channel: its count, its atoms q as they were copied, and zeros

pub channel-written : (l p q zs : List ℕ) (a n k : ℕ) → a + 25 ≤ length l → length p ≤ 24 → n ≡ length p → k ≡ 24 - length p → q ≡ p
    → zs ≡ replicate (length (take k (drop (a + 1 + length p) (put_mid (a + 1) n (set l a (length p)) q)))) 0
    → put_mid (a + 1 + length p) k (put_mid (a + 1) n (set l a (length p)) q) zs ≡ put_at l a (channel_words p)
unfolding channel_words
channel-written l p q zs a n k f h m g d e =
    part_cleared _ zs (a + 1 + length p) k (rw b (omega (arith, u))) e ∙ ap (λ (x : List ℕ). put_at x (a + 1 + length p) (replicate k 0)) b
    ∙ put_then l a (length p ∷ p) (a + 1 + length p) (replicate k 0) (omega arith) (omega arith) ∙ ap (λ (x : ℕ). put_at l a (length p ∷ (p ++ replicate x 0))) g
  where
    b : put_mid (a + 1) n (set l a (length p)) q ≡ put_at l a (length p ∷ p)
    b =
        put-copy (set l a (length p)) p (a + 1) n d (sym m) ∙ ap (λ (x : List ℕ). put_at x (a + 1) p) (put_one l a (length p) (omega arith))
        ∙ put_then l a (length p ∷ []) (a + 1) p refl (omega arith)

    u : length (put_at l a (length p ∷ p)) ≡ length l
    u = put-length l a (length p ∷ p) (omega arith)
