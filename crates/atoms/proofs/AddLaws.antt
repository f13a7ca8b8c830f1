-- An atom added behind a normal product: only the end of the product is looked at.
use Rattle.std.proofs.Common.{◌≡◌, refl, sym, ap, subst, ◌∙◌, true, false, List, [], ◌∷◌, ◌++◌, append_assoc, ℕ, zero, suc, ◌+◌, ◌-◌, ◌<◌, ◌≤◌, arith, length, get_or, take, set}
use lib.Seq.{take-take, length-take-le, drop-set-lt}
use Rattle.std.proofs.lemmas.List.{get_or-take}
use Rattle.common.specs.Part.{part}
use Rattle.common.proofs.PartLaws.{part_none, part-snoc, part-take, part-all, part-set}
use Rattle.atoms.specs.Masks.{absorbs, Atoms}
use Rattle.atoms.specs.Normal.{Removal, before, behind, later, Removals, done, more, push, normal}
use Rattle.atoms.specs.Ranges.{KeptBefore, Added}
use Rattle.atoms.proofs.NormalLaws.{Apart, Chain, push-gone, push-takes, push-stays, push-last, normal-chain, normal-normal, normal-removals, removals-then, any_order}

-- ---- normal products

-- The normal form of a product without removals is the product.
pub chain-fixed : (p : List ℕ) → Chain p → normal p ≡ p
unfolding normal
chain-fixed [] h = refl
chain-fixed (a ∷ []) h = sym (push-last a)
chain-fixed (a ∷ b ∷ p) h = ap (push a) (chain-fixed (b ∷ p) h.1) ∙ sym (push-stays a b p h.0.right h.0.left)

pub fixed-chain : (p : List ℕ) → normal p ≡ p → Chain p
fixed-chain p e = subst Chain e (normal-chain p)

chain-take : (n : ℕ) (p : List ℕ) → Chain p → Chain (take n p)
chain-take zero p h = tt
chain-take (suc n) [] h = tt
chain-take (suc zero) (a ∷ p) h = tt
chain-take (suc (suc n)) (a ∷ []) h = tt
chain-take (suc (suc n)) (a ∷ b ∷ p) h = (h.0, chain-take (suc n) (b ∷ p) h.1)

-- The front of a normal product is normal.
pub fixed-take : (n : ℕ) (p : List ℕ) → normal p ≡ p → normal (take n p) ≡ take n p
fixed-take n p e = chain-fixed (take n p) (chain-take n p (fixed-chain p e))

chain_snoc : (s : List ℕ) (t x : ℕ) → Chain (s ++ (t ∷ [])) → Apart t x → Chain (s ++ (t ∷ x ∷ []))
chain_snoc [] t x h d = (d, tt)
chain_snoc (a ∷ []) t x h d = (h.0, (d, tt))
chain_snoc (a ∷ b ∷ s) t x h d = (h.0, chain_snoc (b ∷ s) t x h.1 d)

-- ---- the last atom t of a product and an atom x behind it

-- What stands in front does not matter.
normal-front : (s p q : List ℕ) → normal p ≡ normal q → normal (s ++ p) ≡ normal (s ++ q)
unfolding normal
normal-front [] p q e = e
normal-front (a ∷ s) p q e = ap (push a) (normal-front s p q e)

normal-two : (t x : ℕ) → normal (t ∷ x ∷ []) ≡ push t (x ∷ [])
unfolding normal
normal-two t x = ap (push t) (sym (push-last x))

normal-one : (x : ℕ) → normal (x ∷ []) ≡ x ∷ []
unfolding normal
normal-one x = sym (push-last x)

module _ (s : List ℕ) (t x : ℕ) where
  -- t goes where x absorbs it,
  pub last-gone : absorbs x t ≡ true → normal (s ++ (x ∷ [])) ≡ normal (s ++ (t ∷ []) ++ (x ∷ []))
  last-gone e =
      rw (append_assoc s (t ∷ []) (x ∷ []))
      (normal-front s _ _ (normal-one x ∙ push-gone t x [] e ∙ sym (normal-two t x)))

  -- x goes where t absorbs it,
  pub last-takes : absorbs x t ≡ false → absorbs t x ≡ true → normal (s ++ (t ∷ [])) ≡ normal (s ++ (t ∷ []) ++ (x ∷ []))
  last-takes e f =
      rw (append_assoc s (t ∷ []) (x ∷ []))
      (normal-front s _ _ (normal-one t ∙ push-last t ∙ push-takes t x [] e f ∙ sym (normal-two t x)))

  -- and else both stay.
  pub last-stays : absorbs x t ≡ false → absorbs t x ≡ false → normal (s ++ (t ∷ [])) ≡ s ++ (t ∷ []) → s ++ (t ∷ []) ++ (x ∷ []) ≡ normal (s ++ (t ∷ []) ++ (x ∷ []))
  last-stays e f h =
      rw (append_assoc s (t ∷ []) (x ∷ []))
      (sym (chain-fixed (s ++ (t ∷ x ∷ [])) (chain_snoc s t x (fixed-chain (s ++ (t ∷ [])) h) record { right = e; left = f })))

-- ---- atom by atom

removal-append : {p q : List ℕ} (s : List ℕ) → Removal p q → Removal (p ++ s) (q ++ s)
removal-append s (before e) = before e
removal-append s (behind e) = behind e
removal-append s (later r) = later (removal-append s r)

removals-append : {p q : List ℕ} (s : List ℕ) → Removals p q → Removals (p ++ s) (q ++ s)
removals-append s done = done
removals-append s (more r t) = more (removal-append s r) (removals-append s t)

-- The front may be brought to normal form first.
pub normal-first : (p s : List ℕ) → Atoms (p ++ s) → normal (normal p ++ s) ≡ normal (p ++ s)
normal-first p s i =
    any_order (p ++ s) (normal (normal p ++ s)) i (removals-then (removals-append s (normal-removals p)) (normal-removals (normal p ++ s))) (normal-normal (normal p ++ s))

-- ---- the steps over a range, as the code takes them

module _ (p : List ℕ) (k : ℕ) (some : 0 < k) (l : k ≤ length p) where
  -- The first k, the last by itself.
  first-last : part 0 k p ≡ part 0 (k - 1) p ++ (get_or p (k - 1) 0 ∷ [])
  first-last = let e : k - 1 + 1 ≡ k = omega arith in ap (λ (n : ℕ). part 0 n p) (sym e) ∙ part-snoc 0 (k - 1) p (omega arith) (omega arith)

  pub kept_again : (x : ℕ) {q : List ℕ} → absorbs x (get_or p (k - 1) 0) ≡ true → normal (part 0 k p ++ (x ∷ [])) ≡ q → normal (part 0 (k - 1) p ++ (x ∷ [])) ≡ q
  kept_again x e h = last-gone (part 0 (k - 1) p) (get_or p (k - 1) 0) x e ∙ rw first-last at h

-- What stays of the first n as a list of their own stays of them.
kept_front : (p : List ℕ) (n x k : ℕ) → n ≤ length p → KeptBefore (take n p) (length (take n p)) x k → KeptBefore p n x k
kept_front p n x k l b =
    let e : length (take n p) ≡ n = length-take-le n p l in
    record {
      few = omega (arith, b.few);
      same = ap (λ (s : List ℕ). normal (s ++ (x ∷ []))) (part-take k p ∙ sym (take-take k n p (omega (arith, b.few))) ∙ sym (part-take k (take n p))) ∙ b.same
          ∙ ap (λ (s : List ℕ). normal (s ++ (x ∷ []))) (part-all (take n p) ∙ sym (part-take n p));
      stays = λ z. ap (absorbs x) (sym (get_or-take n p (k - 1) 0 (omega (arith, b.few)))) ∙ b.stays z;
    }

-- The first k of a normal product are normal.
front-fixed : (p : List ℕ) (k n : ℕ) → k ≤ n → normal (part 0 n p) ≡ part 0 n p → normal (part 0 k p) ≡ part 0 k p
front-fixed p k n few fixed = rw (part-take k p, ← take-take k n p few) (fixed-take k (take n p) (rw (part-take n p) at fixed))

module _ (p : List ℕ) (n x k : ℕ) (l : n < length p) (fixed : normal (part 0 n p) ≡ part 0 n p) (front : KeptBefore (take n p) (length (take n p)) x k) where
  b : KeptBefore p n x k
  b = kept_front p n x k (omega arith) front

  -- None stays before x.
  pub added-alone : k ≡ 0 → Added p n x (set p 0 x) 1
  added-alone z =
      record {
        few = omega arith;
        form = part-set 0 p x (omega arith) ∙ none (part 0 0 p) (part_none 0 0 p (omega arith)) ∙ subst (λ (j : ℕ). normal (part 0 j p ++ (x ∷ [])) ≡ normal (part 0 n p ++ (x ∷ []))) z b.same;
        kept = drop-set-lt (n + 1) p 0 x (omega arith);
      }
    where
      none : (s : List ℕ) → s ≡ [] → s ++ (x ∷ []) ≡ normal (s ++ (x ∷ []))
      none s e = rw e (sym (normal-one x))

  module _ (some : 0 < k) where
    last : ℕ
    last = get_or p (k - 1) 0

    few-there : k ≤ length p
    few-there = omega (arith, b.few)

    -- The last that stays absorbs x.
    pub added_none : absorbs (get_or p (k - 1) 0) x ≡ true → Added p n x p k
    unfolding last
    added_none e =
        record {
          few = omega (arith, b.few);
          form = sym (front-fixed p k n b.few fixed) ∙ ap normal (first-last p k some few-there) ∙ last-takes (part 0 (k - 1) p) last x (b.stays some) e
              ∙ ap (λ (q : List ℕ). normal (q ++ (x ∷ []))) (sym (first-last p k some few-there)) ∙ b.same;
          kept = refl;
        }

    -- It does not.
    pub added-behind : absorbs (get_or p (k - 1) 0) x ≡ false → Added p n x (set p k x) (k + 1)
    unfolding last
    added-behind e =
        let f = first-last p k some few-there in
        record {
          few = omega (arith, b.few);
          form = part-set k p x (omega (arith, b.few)) ∙ ap (◌++ (x ∷ [])) f
              ∙ last-stays (part 0 (k - 1) p) last x (b.stays some) e (ap normal (sym f) ∙ front-fixed p k n b.few fixed ∙ f)
              ∙ ap (λ (q : List ℕ). normal (q ++ (x ∷ []))) (sym f) ∙ b.same;
          kept = drop-set-lt (n + 1) p k x (omega (arith, b.few));
        }

pub ruleset adding = (added-alone, added_none)
