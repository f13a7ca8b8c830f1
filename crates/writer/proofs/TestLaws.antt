-- The first number that does not pass a test: turn by turn, and what it says of the others.
use Rattle.std.proofs.Common.{◌≡◌, refl, sym, subst, Bool, true, false, true≢false, ◌⊎◌, inl, inr, ℕ, zero, suc, ◌+◌, ◌<◌, ◌≤◌, eq-or-lt_of_le, arith, Option, Some, None, is_none, not, cond, find, ◌&&◌}
use Rattle.std.specs.List.{list_all, range_with_len}
use Rattle.common.specs.Choice.{if_true}
use Rattle.table.specs.Listing.{listed}
use Rattle.common.proofs.ChoiceLaws.{true-cases}
use Rattle.writer.specs.Fitting.{first_not, all_pass}

module _ (test : ℕ → Bool) where
  -- The numbers from i on, tested one by one.
  pub all-range : (n i : ℕ) → list_all test (range_with_len i n) ≡ is_none (first_not test n i)
  unfolding first_not if_true
  all-range zero i = refl
  all-range (suc n) i = elim (test i) as (λ b. (b && list_all test (range_with_len (i + 1) n)) ≡ is_none (cond b (first_not test n (i + 1)) (Some i))) [ true ↦ all-range n (i + 1) | false ↦ refl ]

  pub find-range : (n i : ℕ) → find (λ j. not (test j)) (range_with_len i n) ≡ first_not test n i
  unfolding first_not if_true
  find-range zero i = refl
  find-range (suc n) i =
      elim (test i) as (λ b. cond (not b) (Some i) (find (λ j. not (test j)) (range_with_len (i + 1) n)) ≡ cond b (first_not test n (i + 1)) (Some i)) [
        | true ↦ find-range n (i + 1)
        | false ↦ refl
      ]

  -- Where none is found, each passes.
  pub none-not : (n i : ℕ) → first_not test n i ≡ None → (j : ℕ) → i ≤ j → j < i + n → test j ≡ true
  unfolding first_not
  none-not zero i e j a b = absurd (omega arith)
  none-not (suc n) i e j a b = go (none-not n (i + 1)) (true-cases _ _ _ e)
    where
      here : test i ≡ true → (i < j → test j ≡ true) → (i ≡ j) ⊎ (i < j) → test j ≡ true
      here t later (inl q) = subst (λ (x : ℕ). test x ≡ true) q t
      here t later (inr l) = later l

      go : (first_not test n (i + 1) ≡ None → (m : ℕ) → i + 1 ≤ m → m < i + 1 + n → test m ≡ true)
          → ((test i ≡ true) × (first_not test n (i + 1) ≡ None)) ⊎ ((test i ≡ false) × (Some i ≡ None)) → test j ≡ true
      go later (inl c) = here c.0 (λ l. later c.1 j (omega arith) (omega arith)) (eq-or-lt_of_le a)
      go later (inr c) = absurd (cc c.1)

  -- Where one is found, it does not pass, and each before it does.
  pub record FirstNot (n i m : ℕ) : Type 0 where
    pub low : i ≤ m
    pub high : m < i + n
    pub fails : test m ≡ false
    pub before : (j : ℕ) → i ≤ j → j < m → test j ≡ true

  pub some-not : (n i m : ℕ) → first_not test n i ≡ Some m → FirstNot n i m
  unfolding first_not
  some-not zero i m e = cc
  some-not (suc n) i m e = go (some-not n (i + 1) m) (true-cases _ _ _ e)
    where
      go : (first_not test n (i + 1) ≡ Some m → FirstNot n (i + 1) m)
          → ((test i ≡ true) × (first_not test n (i + 1) ≡ Some m)) ⊎ ((test i ≡ false) × (Some i ≡ Some m)) → FirstNot (suc n) i m
      go later (inl c) =
          let r = later c.1 in
          let a = r.low in
          let b = r.high in
          record { low = omega arith; high = omega arith; fails = r.fails; before = λ j d f. earlier r j f (eq-or-lt_of_le d) }
        where
          earlier : FirstNot n (i + 1) m → (j : ℕ) → j < m → (i ≡ j) ⊎ (i < j) → test j ≡ true
          earlier r j f (inl q) = subst (λ (x : ℕ). test x ≡ true) q c.0
          earlier r j f (inr l) = r.before j (omega arith) f
      go later (inr c) =
          let q : i ≡ m = cc c.1 in
          record { low = omega arith; high = omega arith; fails = subst (λ (x : ℕ). test x ≡ false) q c.0; before = λ j d f. absurd (omega arith) }

  -- All pass exactly when each does.
  pub all-each : (n : ℕ) → all_pass test n ≡ true → (j : ℕ) → j < n → test j ≡ true
  unfolding all_pass
  all-each n e j l = go (first_not test n 0) refl e
    where
      go : (r : Option ℕ) → first_not test n 0 ≡ r → is_none r ≡ true → test j ≡ true
      go None q d = none-not n 0 q j (omega arith) (omega arith)
      go (Some m) q d = absurd (true≢false (sym d))

-- All of what a function gives pass exactly when each number whose gift passes does.
pub all-listed : {A : Type 0} (test : A → Bool) (f : ℕ → A) (n i : ℕ) → list_all test (listed f n i) ≡ is_none (first_not (λ k. test (f k)) n i)
unfolding first_not if_true listed
all-listed test f zero i = refl
all-listed test f (suc n) i =
    elim (test (f i)) as (λ b. (b && list_all test (listed f n (i + 1))) ≡ is_none (cond b (first_not (λ k. test (f k)) n (i + 1)) (Some i))) [
      | true ↦ all-listed test f n (i + 1)
      | false ↦ refl
    ]
