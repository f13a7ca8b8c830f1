-- The look over rows: channel by channel, row by row.
use Rattle.std.proofs.Common.{◌≡◌, refl, sym, ap, subst, ◌∙◌, arith, Bool, true, false, List, ℕ, suc, ◌+◌, ◌-◌, ◌<◌, ◌≤◌}
use Rattle.common.specs.Choice.{if_true}
use Rattle.common.specs.First.{any_of}
use Rattle.common.proofs.ChoiceLaws.{true-then, true-else, eq-then, eq-else}
use Rattle.meaning.specs.Systems.{put}
use Rattle.meaning.proofs.PutLaws.{put_same, put_other}
use Rattle.atoms.specs.Contained.{contained}
use Rattle.rows.specs.Rows.{Row, each_contained, covers}
use Rattle.rows.specs.Look.{rows_from, covered_in}

-- ---- a channel of the outcome: the product that is given, or the row's own

module _ (p : ℕ → List ℕ) (channel : ℕ) (q : List ℕ) (c : ℕ) {b : Bool} {there s : List ℕ} (e : there ≡ s) where
  pub changed-channel : c ≡ channel → b ≡ contained q there → b ≡ contained (put p channel q c) s
  changed-channel z d = d ∙ ap (contained q) e ∙ ap (λ (l : List ℕ). contained l s) (sym (ap (put p channel q) z ∙ put_same p channel q))

  pub other-channel : {own : List ℕ} → (c ≡ channel → ⊥) → own ≡ p c → b ≡ contained own there → b ≡ contained (put p channel q c) s
  other-channel {own} n o d = d ∙ ap (contained own) e ∙ ap (λ (l : List ℕ). contained l s) (o ∙ sym (put_other p channel q c n))

-- ---- the channels of a row, from the highest down: from c on they are contained

module _ (n : ℕ) (p q : ℕ → List ℕ) (c : ℕ) (same : each_contained c p q ≡ each_contained n p q) where
  -- The next channel is tested first.
  head : 0 < c → if_true (contained (p (c - 1)) (q (c - 1))) (each_contained (c - 1) p q) false ≡ each_contained n p q
  unfolding each_contained
  head h = let z : c ≡ suc (c - 1) = omega arith in subst (λ (m : ℕ). each_contained m p q ≡ each_contained n p q) z same

  pub channel-next : 0 < c → contained (p (c - 1)) (q (c - 1)) ≡ true → each_contained (c - 1) p q ≡ each_contained n p q
  channel-next h e = true-then _ _ _ e refl ∙ head h

  pub channel-stops : 0 < c → contained (p (c - 1)) (q (c - 1)) ≡ false → false ≡ each_contained n p q
  channel-stops h e = true-else _ _ _ e refl ∙ head h

  pub channels-end : c ≡ 0 → true ≡ each_contained n p q
  unfolding each_contained
  channels-end z = sym (sym same ∙ ap (λ (m : ℕ). each_contained m p q) z)

-- ---- the rows: from row r on it is as from row 0

module _ (n : ℕ) (row : ℕ → Row) (k : ℕ) (o : Row) (r : ℕ) where
  -- Whether one from row r on contains the outcome.
  abbrev pub covered_from : Bool
  covered_from = any_of (λ s. covers n s o) (rows_from row (k - r) r)

  module _ (same : covered_from ≡ covered_in n row k o) where
    pub rows-end : k ≤ r → false ≡ covered_in n row k o
    unfolding rows_from any_of
    rows-end h = let z : k - r ≡ 0 = omega arith in subst (λ (m : ℕ). any_of (λ s. covers n s o) (rows_from row m r) ≡ covered_in n row k o) z same

    row-head : r < k → if_true (covers n (row r) o) true (any_of (λ s. covers n s o) (rows_from row (k - (r + 1)) (r + 1))) ≡ covered_in n row k o
    unfolding rows_from any_of
    row-head h = let z : k - r ≡ suc (k - (r + 1)) = omega arith in subst (λ (m : ℕ). any_of (λ s. covers n s o) (rows_from row m r) ≡ covered_in n row k o) z same

    row-past : r < k → covers n (row r) o ≡ false → any_of (λ s. covers n s o) (rows_from row (k - (r + 1)) (r + 1)) ≡ covered_in n row k o
    row-past h e = true-else _ _ _ e refl ∙ row-head h

    -- Another state.
    pub row-other : r < k → ((row r).state ≡ o.state → ⊥) → any_of (λ s. covers n s o) (rows_from row (k - (r + 1)) (r + 1)) ≡ covered_in n row k o
    unfolding covers
    row-other h e = row-past h (sym (eq-else _ _ _ _ (λ q. e (sym q)) refl))

    -- The same state, and a channel that is not contained.
    pub row-lacks : r < k → (row r).state ≡ o.state → each_contained n o.products (row r).products ≡ false
        → any_of (λ s. covers n s o) (rows_from row (k - (r + 1)) (r + 1)) ≡ covered_in n row k o
    unfolding covers
    row-lacks h e f = row-past h (sym (eq-then _ _ _ _ (sym e) (sym f)))

    -- The same state, and all channels are.
    pub row-has : r < k → (row r).state ≡ o.state → each_contained n o.products (row r).products ≡ true → true ≡ covered_in n row k o
    unfolding covers
    row-has h e f = true-then _ _ _ (sym (eq-then _ _ _ _ (sym e) (sym f))) refl ∙ row-head h

pub rows-start : (n : ℕ) (row : ℕ → Row) (k : ℕ) (o : Row) → covered_from n row k o 0 ≡ covered_in n row k o
unfolding covered_in
rows-start n row k o = let z : k - 0 ≡ k = omega arith in ap (λ (m : ℕ). any_of (λ s. covers n s o) (rows_from row m 0)) z

-- ---- a row in the target state, while its channels are looked at: from c on they are contained

pub record Looking (n : ℕ) (row : ℕ → Row) (k : ℕ) (o : Row) (r c : ℕ) : Type 0 where
  pub below : r < k
  pub same : covered_from n row k o r ≡ covered_in n row k o
  pub state : (row r).state ≡ o.state
  pub each : each_contained c o.products (row r).products ≡ each_contained n o.products (row r).products

module _ (n : ℕ) (row : ℕ → Row) (k : ℕ) (o : Row) (r c : ℕ) (here : Looking n row k o r c) where
  pub looking-next : 0 < c → contained (o.products (c - 1)) ((row r).products (c - 1)) ≡ true → Looking n row k o r (c - 1)
  looking-next h e =
      record { below = here.below; same = here.same; state = here.state; each = channel-next n o.products (row r).products c here.each h e }

  -- A channel that is not contained: the look goes on at the next row.
  pub looking-stops : 0 < c → contained (o.products (c - 1)) ((row r).products (c - 1)) ≡ false → covered_from n row k o (r + 1) ≡ covered_in n row k o
  looking-stops h e = row-lacks n row k o r here.same here.below here.state (sym (channel-stops n o.products (row r).products c here.each h e))

  -- All channels are contained: the row ends the look.
  pub looking-ends : c ≡ 0 → true ≡ covered_in n row k o
  looking-ends z = row-has n row k o r here.same here.below here.state (sym (channels-end n o.products (row r).products c here.each z))
