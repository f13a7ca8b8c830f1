-- The needed words in local memory: what putting a message in front and dropping one from the end make of them.
use Rattle.std.proofs.Common.{◌≡◌, refl, sym, ap, ◌∙◌, true, false, [], ◌∷◌, ◌++◌, ℕ, ◌+◌, ◌-◌, ◌*◌, ◌<◌, ◌≤◌, arith, eqb, length, get_or, set, length-set, eq-eqb, ne_eqb}
use Rattle.common.specs.Part.{part}
use Rattle.common.proofs.ChoiceLaws.{true-then, true-else}
use Rattle.meaning.specs.Words.{Word}
use Rattle.meaning.specs.Systems.{put}
use Rattle.channels.specs.Contents.{head_of, tail_of}
use Rattle.channels.proofs.ContentsLaws.{part-front, contents-none, EndsMoved, head-moved, tail-moved, moved-each, Placed, moved-placed, contents-moved, put-front, rest-last}
use Rattle.findings.specs.Rebuild.{ends_with, all_but_last}
use Rattle.back.specs.declared.needs.Needs.{Needs}
use Rattle.back.specs.declared.tails.Tail.{Tail}
use Rattle.back.specs.Needs.{needed, Needed, PutFront, DropLast, Pushed}

-- ---- one end moved

needed-placed : (z : Needs) → Needed 2047 z → Placed z.store z.ends
needed-placed z q = record { room = q.room; pairs = q.pairs; order = q.order; high = q.high }

-- At most k - n messages more were put in front of channel c.
needed-moved : (z z' : Needs) (c n k : ℕ) {h t : ℕ} → Needed 2047 z → c < 4 → EndsMoved c h t z.ends z'.ends → length z'.store ≡ length z.store → h ≤ t → t ≤ 2048
    → head_of z.ends c + n ≤ h + k → n ≤ k → Needed n z → Needed k z'
needed-moved z z' c n k q l v r a b i j w =
    let f = moved-placed _ _ c (needed-placed z q) l v _ r a b in
    let o = w.low c l in
    record {
      room = f.room;
      pairs = f.pairs;
      order = f.order;
      high = f.high;
      low = moved-each (λ d h t. 2048 ≤ h + k) v (omega arith) (λ d b n. let o = w.low d b in omega arith);
    }

-- ---- a message in front

module _ (z : Needs) (c m : ℕ) (h : c < 4) (q : Needed 2047 z) where
  -- The place just before the head.
  abbrev front : ℕ
  front = head_of z.ends c - 1

  abbrev with_front : Needs
  with_front = record { store = set z.store (2048 * c + front) m; ends = set z.ends c front }

  pub put-made : PutFront c m z with_front
  put-made =
      let l = q.low c h in
      let o = q.order c h in
      let f = q.high c h in
      record {
        before = put-front z.store z.ends c (needed-placed z q) h m (omega arith);
        keeps = λ n. needed-moved z with_front c n (n + 1) q h (head-moved z.ends c front q.pairs h) (length-set z.store _ m) (omega arith) f (omega arith) (omega arith);
      }

-- ---- a message at the end

ends_snoc : (m x : ℕ) (u : Word) → ends_with m (u ++ (x ∷ [])) ≡ eqb x m
unfolding ends_with
ends_snoc m x [] = refl
ends_snoc m x (y ∷ []) = refl
ends_snoc m x (y ∷ z ∷ u) = ends_snoc m x (z ∷ u)

last_snoc : (x : ℕ) (u : Word) → all_but_last (u ++ (x ∷ [])) ≡ u
unfolding all_but_last
last_snoc x [] = refl
last_snoc x (y ∷ []) = refl
last_snoc x (y ∷ z ∷ u) = ap (y ∷◌) (last_snoc x (z ∷ u))

module _ (z : Needs) (c m : ℕ) (h : c < 4) (q : Needed 2047 z) where
  -- It does not stand there, and nothing is changed.
  none_dropped : false ≡ ends_with m (needed z c) → DropLast c m z z false
  none_dropped f = record { stood = f; left = true-else _ _ _ refl refl; keeps = λ n w. w; store = refl }

  pub drop-empty : tail_of z.ends c ≤ head_of z.ends c → DropLast c m z z false
  unfolding ends_with
  drop-empty l = none_dropped (sym (ap (ends_with m) (contents-none z.store z.ends c h l)))

  module _ (l : head_of z.ends c < tail_of z.ends c) where
    abbrev last : ℕ
    last = tail_of z.ends c - 1

    -- What stands before the last message, and both.
    abbrev rest : Word
    rest = part (2048 * c + head_of z.ends c) (2048 * c + last) z.store

    whole : needed z c ≡ rest ++ (get_or z.store (2048 * c + last) 0 ∷ [])
    whole = rest-last z.store z.ends c (needed-placed z q) h l

    pub drop-other : (get_or z.store (2048 * c + last) 0 ≡ m → ⊥) → DropLast c m z z false
    drop-other n = none_dropped (sym (ap (ends_with m) whole ∙ ends_snoc m _ rest ∙ ne_eqb _ m n))

    abbrev dropped : Needs
    dropped = record { store = z.store; ends = set z.ends (4 + c) last }

    pub drop-made : get_or z.store (2048 * c + last) 0 ≡ m → DropLast c m z dropped true
    drop-made k =
        let f = q.high c h in
        let v = tail-moved z.ends c last q.pairs h in
        record {
          stood = sym (ap (ends_with m) whole ∙ ends_snoc m _ rest ∙ eq-eqb _ m k);
          left = contents-moved z.store z.ends c (needed-placed z q) h v ∙ ap (put (needed z) c) (sym (last_snoc _ rest) ∙ ap all_but_last (sym whole)) ∙ true-then _ _ _ refl refl;
          keeps = λ n. needed-moved z dropped c n n q h v refl (omega arith) (omega arith) (omega arith) (omega arith);
          store = refl;
        }

-- ---- a word in front

pub push-made : (x : ℕ) (v v' : Tail) → 0 < v.at → v'.at ≡ v.at - 1 → v'.words ≡ set v.words (v.at - 1) x → Pushed x v v'
push-made x v v' h e f =
    let n = v.full in
    let k = v.within in
    record { place = omega arith; words = rw (e, f) (part-front _ _ _ x v.words (omega arith) (omega arith) (omega arith)) }
