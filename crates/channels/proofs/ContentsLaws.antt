-- Contents in local memory: what stands in a channel, and what a message put in or taken out at either end changes.
use Rattle.std.proofs.Common.{refl, sym, ap, ◌∙◌, inl, inr, arith, length-set, get_or-set_same, get_or-set_other, drop-set-lt, ◌≡◌, List, [], ◌∷◌, ◌++◌, ℕ, ◌+◌, ◌-◌, ◌*◌, ◌<◌, ◌≤◌, length, get_or, take, drop, set}
use Rattle.std.proofs.Math.Path.{fun_ext}
use Rattle.std.proofs.Math.Seq.{take-set-le, take-set-lt}
use Rattle.std.proofs.lemmas.Bool.{cases_lt, cases_eq, cases_order}
use Rattle.common.specs.Part.{part}
use Rattle.common.proofs.ChoiceLaws.{lt-then, lt-else}
use Rattle.common.proofs.PartLaws.{part_none, part-cons, part-snoc}
use Rattle.meaning.specs.Words.{Word}
use Rattle.meaning.specs.Systems.{Contents, put}
use Rattle.meaning.proofs.PutLaws.{put_same, put_other}
use Rattle.channels.specs.Contents.{head_of, tail_of, contents_in}

-- ---- a part of a list after a store

-- A store behind the part, or before it.
pub part-behind : (f t p x : ℕ) (l : List ℕ) → t ≤ p → part f t (set l p x) ≡ part f t l
unfolding part
part-behind f t p x l a = ap (drop f) (take-set-le t l p x a)

pub part-before : (f t p x : ℕ) (l : List ℕ) → p < f → part f t (set l p x) ≡ part f t l
unfolding part
part-before f t p x l a = elim (cases_lt p t) [ inl b ↦ ap (drop f) (take-set-lt t l p x b) ∙ drop-set-lt f (take t l) p x a | inr b ↦ part-behind f t p x l b ]

-- A store at its end, and at the place before it.
pub part_end : (f p t x : ℕ) (l : List ℕ) → p + 1 ≡ t → f ≤ p → p < length l → part f t (set l p x) ≡ part f p l ++ (x ∷ [])
part_end f p t x l z a b =
    ap (λ (i : ℕ). part f i (set l p x)) (sym z) ∙ part-snoc f p (set l p x) a (rw (length-set l p x) b)
    ∙ ap (λ (y : ℕ). part f p (set l p x) ++ (y ∷ [])) (get_or-set_same l p x 0 b)
    ∙ ap (◌++ (x ∷ [])) (part-behind f p p x l (omega arith))

pub part-front : (p f t x : ℕ) (l : List ℕ) → p + 1 ≡ f → f ≤ t → t ≤ length l → part p t (set l p x) ≡ x ∷ part f t l
part-front p f t x l z a b =
    part-cons p t (set l p x) (omega arith) (rw (length-set l p x) b)
    ∙ ap (λ (y : ℕ). y ∷ part (p + 1) t (set l p x)) (get_or-set_same l p x 0 (omega arith))
    ∙ ap (x ∷◌) (part-before (p + 1) t p x l (omega arith) ∙ ap (λ (i : ℕ). part i t l) z)

-- ---- contents

module _ (s e : List ℕ) (c : ℕ) where
  -- What stands in channel c.
  pub contents-at : c < 4 → contents_in s e c ≡ part (2048 * c + head_of e c) (2048 * c + tail_of e c) s
  unfolding contents_in
  contents-at h = sym (lt-then _ _ _ _ h refl)

  pub contents-past : 4 ≤ c → contents_in s e c ≡ []
  unfolding contents_in
  contents-past h = sym (lt-else _ _ _ _ h refl)

  pub contents-none : c < 4 → tail_of e c ≤ head_of e c → contents_in s e c ≡ []
  contents-none h l = contents-at h ∙ part_none _ _ s (omega arith)

-- Contents are the same where they are the same in the 4 channels; past them both have nothing.
contents-are : (s e : List ℕ) (f : Contents) → ((c : ℕ) → c < 4 → contents_in s e c ≡ f c) → ((c : ℕ) → 4 ≤ c → f c ≡ []) → contents_in s e ≡ f
contents-are s e f n p = fun_ext (λ c. elim (cases_lt c 4) [ inl h ↦ n c h | inr h ↦ contents-past s e c h ∙ sym (p c h) ])

-- Two memories whose contents differ at most at channel c, where the second has v.
pub contents-put : (s e s' e' : List ℕ) (c : ℕ) (v : Word) → c < 4 → contents_in s' e' c ≡ v
    → ((d : ℕ) → d < 4 → (d ≡ c → ⊥) → contents_in s' e' d ≡ contents_in s e d) → contents_in s' e' ≡ put (contents_in s e) c v
contents-put s e s' e' c v l there others =
    contents-are s' e' (put (contents_in s e) c v)
    (λ d b. elim (cases_eq d c) [ inl y ↦ rw y (there ∙ sym (put_same _ c v)) | inr n ↦ others d b n ∙ sym (put_other _ c v d n) ])
    (λ d b. put_other _ c v d (λ r. omega arith) ∙ contents-past s e d b)

-- Where no channel has anything, all are empty.
pub contents-empty : (s e : List ℕ) → ((c : ℕ) → c < 4 → tail_of e c ≤ head_of e c) → contents_in s e ≡ (λ c. [])
contents-empty s e n = contents-are s e (λ c. []) (λ c h. contents-none s e c h (n c h)) (λ c h. refl)

-- ---- the ends of one channel changed

-- The ends e' are e but for channel c, whose contents begin at h and end at t.
pub record EndsMoved (c h t : ℕ) (e e' : List ℕ) : Type 0 where
  pub pairs : length e' ≡ length e
  pub head : head_of e' c ≡ h
  pub tail : tail_of e' c ≡ t
  pub heads : (d : ℕ) → d < 4 → (d ≡ c → ⊥) → head_of e' d ≡ head_of e d
  pub tails : (d : ℕ) → d < 4 → (d ≡ c → ⊥) → tail_of e' d ≡ tail_of e d

module _ (e : List ℕ) (c k : ℕ) (n : length e ≡ 8) (l : c < 4) where
  pub head-moved : EndsMoved c k (tail_of e c) e (set e c k)
  head-moved =
      record {
        pairs = length-set e c k;
        head = get_or-set_same e c k 0 (omega arith);
        tail = get_or-set_other e c (4 + c) k 0 (λ r. omega arith);
        heads = λ d b n. get_or-set_other e c d k 0 n;
        tails = λ d b n. get_or-set_other e c (4 + d) k 0 (λ r. omega arith);
      }

  pub tail-moved : EndsMoved c (head_of e c) k e (set e (4 + c) k)
  tail-moved =
      record {
        pairs = length-set e (4 + c) k;
        head = get_or-set_other e (4 + c) c k 0 (λ r. omega arith);
        tail = get_or-set_same e (4 + c) k 0 (omega arith);
        heads = λ d b n. get_or-set_other e (4 + c) d k 0 (λ r. omega arith);
        tails = λ d b n. get_or-set_other e (4 + c) (4 + d) k 0 (λ r. n (omega arith));
      }

-- What holds of these ends at c, and of the old ends at each other channel, holds of the new ends at each.
pub moved-each : (P : ℕ → ℕ → ℕ → Type 0) {c h t : ℕ} {e e' : List ℕ} → EndsMoved c h t e e' → P c h t → ((d : ℕ) → d < 4 → (d ≡ c → ⊥) → P d (head_of e d) (tail_of e d))
    → (d : ℕ) → d < 4 → P d (head_of e' d) (tail_of e' d)
moved-each P {c} m p q d l = elim (cases_eq d c) [ inl y ↦ rw (y, m.head, m.tail) p | inr n ↦ rw (m.heads d l n, m.tails d l n) (q d l n) ]

-- ---- memory that is as long as it must be, in which each channel keeps to its own places

pub record Placed (s e : List ℕ) : Type 0 where
  pub room : length s ≡ 8192
  pub pairs : length e ≡ 8
  pub order : (c : ℕ) → c < 4 → head_of e c ≤ tail_of e c
  pub high : (c : ℕ) → c < 4 → tail_of e c ≤ 2048

module _ (s e : List ℕ) (c : ℕ) (f : Placed s e) (l : c < 4) where
  module _ {h t : ℕ} {e' : List ℕ} (m : EndsMoved c h t e e') where
    pub moved-placed : (s' : List ℕ) → length s' ≡ length s → h ≤ t → t ≤ 2048 → Placed s' e'
    moved-placed s' n a b =
        record {
          room = n ∙ f.room;
          pairs = m.pairs ∙ f.pairs;
          order = moved-each (λ d h t. h ≤ t) m a (λ d b n. f.order d b);
          high = moved-each (λ d h t. t ≤ 2048) m b (λ d b n. f.high d b);
        }

    -- Another store that holds the same in the other channels.
    contents-changed : (s' : List ℕ) → ((d : ℕ) → d < 4 → (d ≡ c → ⊥) → part (2048 * d + head_of e d) (2048 * d + tail_of e d) s' ≡ contents_in s e d)
        → contents_in s' e' ≡ put (contents_in s e) c (part (2048 * c + h) (2048 * c + t) s')
    contents-changed s' others =
        contents-put s e s' e' c _ l (contents-at s' e' c l ∙ rw (m.head, m.tail) refl)
        (λ d b n. contents-at s' e' d b ∙ rw (m.heads d b n, m.tails d b n) (others d b n))

    -- The same store.
    pub contents-moved : contents_in s e' ≡ put (contents_in s e) c (part (2048 * c + h) (2048 * c + t) s)
    contents-moved = contents-changed s (λ d b n. sym (contents-at s e d b))

    -- A store at one of the channel's places.
    contents-written : (p x : ℕ) → p < 2048
        → contents_in (set s (2048 * c + p) x) e' ≡ put (contents_in s e) c (part (2048 * c + h) (2048 * c + t) (set s (2048 * c + p) x))
    contents-written p x k =
        contents-changed (set s (2048 * c + p) x)
        (λ d b n. elim (cases_order d c) [
          | inl y ↦ absurd (n y)
          | inr (inl y) ↦
              let a = f.high d b in
              part-behind _ _ _ x s (omega arith)
          | inr (inr y) ↦ part-before _ _ _ x s (omega arith)
        ] ∙ sym (contents-at s e d b))

  -- ---- a message at an end

  -- Put in front.
  pub put-front : (m : ℕ) → 0 < head_of e c → contents_in (set s (2048 * c + (head_of e c - 1)) m) (set e c (head_of e c - 1)) ≡ put (contents_in s e) c (m ∷ contents_in s e c)
  put-front m a =
      let r = f.room in
      let o = f.order c l in
      let b = f.high c l in
      contents-written (head-moved e c (head_of e c - 1) f.pairs l) (head_of e c - 1) m (omega arith)
      ∙ ap (put (contents_in s e) c) (part-front _ _ _ m s (omega arith) (omega arith) (omega arith) ∙ ap (m ∷◌) (sym (contents-at s e c l)))

  -- Put behind the others.
  pub put-behind : (m : ℕ) → tail_of e c < 2048 → contents_in (set s (2048 * c + tail_of e c) m) (set e (4 + c) (tail_of e c + 1)) ≡ put (contents_in s e) c (contents_in s e c ++ (m ∷ []))
  put-behind m a =
      let r = f.room in
      let o = f.order c l in
      contents-written (tail-moved e c (tail_of e c + 1) f.pairs l) (tail_of e c) m a
      ∙ ap (put (contents_in s e) c) (part_end _ _ _ m s (omega arith) (omega arith) (omega arith) ∙ ap (◌++ (m ∷ [])) (sym (contents-at s e c l)))

  module _ (w : head_of e c < tail_of e c) where
    -- The first message, and what is left without it.
    pub first-rest : contents_in s e c ≡ get_or s (2048 * c + head_of e c) 0 ∷ part (2048 * c + (head_of e c + 1)) (2048 * c + tail_of e c) s
    first-rest =
        let r = f.room in
        let b = f.high c l in
        let y : 2048 * c + head_of e c + 1 ≡ 2048 * c + (head_of e c + 1) = omega arith in
        contents-at s e c l ∙ part-cons _ _ s (omega arith) (omega arith) ∙ ap (λ (x : ℕ). get_or s (2048 * c + head_of e c) 0 ∷ part x (2048 * c + tail_of e c) s) y

    -- The last message, and what is left without it.
    pub rest-last : contents_in s e c ≡ part (2048 * c + head_of e c) (2048 * c + (tail_of e c - 1)) s ++ (get_or s (2048 * c + (tail_of e c - 1)) 0 ∷ [])
    rest-last =
        let r = f.room in
        let b = f.high c l in
        let y : 2048 * c + tail_of e c ≡ 2048 * c + (tail_of e c - 1) + 1 = omega arith in
        contents-at s e c l ∙ ap (λ (x : ℕ). part (2048 * c + head_of e c) x s) y ∙ part-snoc _ _ s (omega arith) (omega arith)
