-- Decimal digits: one digit, one digit more, and how many there are at most.
use Rattle.std.proofs.Common.{◌≡◌, refl, sym, ap, ◌∙◌, ◌⊎◌, inl, inr, List, [], ◌∷◌, ◌++◌, ℕ, zero, suc, ◌+◌, ◌*◌, ◌-◌, ◌/◌, ◌%◌, ◌^◌, ◌<◌, ◌≤◌, length, length-append, arith}
use Rattle.std.proofs.Math.Decide.{dec_le}
use Rattle.std.proofs.Math.Nat.{pow-succ'}
use Rattle.common.proofs.ChoiceLaws.{lt-then, lt-else}
use Rattle.wording.specs.Numbers.{digit, digits_of, number_text}

-- A number is below 10 or it is not.
below : (n : ℕ) → (n < 10) ⊎ (10 ≤ n)
below n = elim (dec_le 10 n) [ yes h ↦ inr h | no h ↦ inl (omega arith) ]

few : (k n : ℕ) → n < 10 → digits_of k n ≡ digit n ∷ []
unfolding digits_of
few zero n h = let e : n % 10 ≡ n = omega arith in rw e
few (suc k) n h = sym (lt-then n 10 (digit n ∷ []) (digits_of k (n / 10) ++ (digit (n % 10) ∷ [])) h refl)

more : (k n : ℕ) → 10 ≤ n → digits_of (suc k) n ≡ digits_of k (n / 10) ++ (digit (n % 10) ∷ [])
unfolding digits_of
more k n h = sym (lt-else n 10 (digit n ∷ []) (digits_of k (n / 10) ++ (digit (n % 10) ∷ [])) h refl)

-- Any number of turns that is enough gives the same digits.
enough : (j k n : ℕ) → n ≤ j → n ≤ k → digits_of j n ≡ digits_of k n
enough zero k n h l = few zero n (omega arith) ∙ sym (few k n (omega arith))
enough (suc j) zero n h l = few (suc j) n (omega arith) ∙ sym (few zero n (omega arith))
enough (suc j) (suc k) n h l = go (below n) (enough j k (n / 10))
  where
    go : (n < 10) ⊎ (10 ≤ n) → (n / 10 ≤ j → n / 10 ≤ k → digits_of j (n / 10) ≡ digits_of k (n / 10)) → digits_of (suc j) n ≡ digits_of (suc k) n
    go (inl b) same = few (suc j) n b ∙ sym (few (suc k) n b)
    go (inr b) same = more j n b ∙ ap (λ (l : List ℕ). l ++ (digit (n % 10) ∷ [])) (same (omega arith) (omega arith)) ∙ sym (more k n b)

pub number-one : (n : ℕ) → n < 10 → number_text n ≡ digit n ∷ []
unfolding number_text
number-one n h = few n n h

pub number_more : (n : ℕ) → 10 ≤ n → number_text n ≡ number_text (n / 10) ++ (digit (n % 10) ∷ [])
unfolding number_text
number_more zero h = absurd (omega arith)
number_more (suc n) h =
    more n (suc n) h ∙ ap (λ (l : List ℕ). l ++ (digit (suc n % 10) ∷ [])) (enough n (suc n / 10) (suc n / 10) (omega arith) (omega arith))

pub number_length_more : (n : ℕ) → 10 ≤ n → length (number_text n) ≡ length (number_text (n / 10)) + 1
number_length_more n h = ap length (number_more n h) ∙ length-append (number_text (n / 10)) (digit (n % 10) ∷ [])

-- A number below 10 ^ (k + 1) has at most k + 1 digits.
pub number_short : (k n : ℕ) → n < 10 ^ suc k → length (number_text n) ≤ suc k
number_short zero n h = rw (number-one n h) (omega arith)
number_short (suc k) n h = go (below n) (number_short k (n / 10))
  where
    go : (n < 10) ⊎ (10 ≤ n) → (n / 10 < 10 ^ suc k → length (number_text (n / 10)) ≤ suc k) → length (number_text n) ≤ suc (suc k)
    go (inl b) short = rw (number-one n b) (omega arith)
    go (inr b) short =
        let e : n < 10 * 10 ^ suc k = rw (pow-succ' 10 (suc k)) at h in
        rw (number_more n b, length-append) (let s = short (omega arith) in omega arith)

-- What digits say.
unfoldable pub read_back : ℕ → List ℕ → ℕ
read_back n [] = n
read_back n (d ∷ ds) = read_back (10 * n + (d - 48)) ds

reads_on : (n : ℕ) (ds : List ℕ) (d : ℕ) → read_back n (ds ++ (d ∷ [])) ≡ 10 * read_back n ds + (d - 48)
unfolding read_back
reads_on n [] d = refl
reads_on n (x ∷ ds) d = reads_on (10 * n + (x - 48)) ds d

-- The digits of a number say it.
says : (k n : ℕ) → n ≤ k → read_back 0 (digits_of k n) ≡ n
unfolding read_back
says zero n h = let e : n ≡ 0 = omega arith in rw e (rw (few zero 0 (omega arith)))
says (suc k) n h = go (below n) (says k (n / 10))
  where
    go : (n < 10) ⊎ (10 ≤ n) → (n / 10 ≤ k → read_back 0 (digits_of k (n / 10)) ≡ n / 10) → read_back 0 (digits_of (suc k) n) ≡ n
    go (inl b) same = rw (few (suc k) n b) (omega arith)
    go (inr b) same = rw (more k n b, reads_on) (let e = same (omega arith) in omega arith)

pub number-says : (n : ℕ) → read_back 0 (number_text n) ≡ n
unfolding number_text
number-says n = says n n (omega arith)
