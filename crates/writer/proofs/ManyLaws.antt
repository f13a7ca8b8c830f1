-- Bytes written one behind the other: those of two things, and those of the first so many.
use Rattle.std.proofs.Common.{◌≡◌, refl, sym, subst, ap, ◌∙◌, List, [], ◌∷◌, ◌++◌, ℕ, zero, suc, ◌+◌, ◌-◌, ◌<◌, ◌≤◌, arith, length, length-append}
use Rattle.common.specs.Front.{front}
use Rattle.common.specs.Store.{put_at}
use Rattle.common.proofs.StoreLaws.{put-none, put_then, put-length, put_first}
use Rattle.table.specs.Listing.{listed}
use Rattle.lists.specs.Format.{joined}
use Rattle.lists.proofs.JoinLaws.{joined_snoc}
use Rattle.writer.specs.Placing.{RoomFor, Placed}
use Rattle.writer.specs.declared.placing.Placing.{Placing}

-- ---- two, one behind the other

-- Where there is room for both, there is for the first, and behind it for the second.
pub room-first : (xs ys : List ℕ) (p : Placing) → RoomFor (xs ++ ys) p → RoomFor xs p
room-first xs ys p h = omega (arith, length-append xs ys)

module _ {xs : List ℕ} {p q : Placing} (a : Placed xs p q) where
  pub placed-length : length q.list.now ≡ length p.list.now
  placed-length = ap length a.holds ∙ put-length p.list.now p.at xs (omega (arith, a.place, a.inside))

  pub room-then : (ys : List ℕ) → RoomFor (xs ++ ys) p → RoomFor ys q
  room-then ys h = omega (arith, a.place, placed-length, length-append xs ys)

  pub placed-then : {ys : List ℕ} {r : Placing} → Placed ys q r → Placed (xs ++ ys) p r
  placed-then {ys} {r} b =
      record {
        same_list = b.same_list ∙ a.same_list;
        place = omega (arith, a.place, b.place, length-append xs ys);
        inside = omega (arith, b.inside, placed-length);
        holds = b.holds ∙ ap (λ (l : List ℕ). put_at l q.at ys) a.holds ∙ put_then p.list.now p.at xs q.at ys (sym a.place) a.inside;
      }

-- ---- the first so many

pub listed-snoc : {A : Type 0} (f : ℕ → A) (k i : ℕ) → listed f (k + 1) i ≡ listed f k i ++ (f (i + k) ∷ [])
unfolding listed
listed-snoc f zero i = let z : i + 0 ≡ i = omega arith in rw z
listed-snoc f (suc k) i =
    let a : suc k + 1 ≡ suc (k + 1) = omega arith in
    let b : i + 1 + k ≡ i + suc k = omega arith in
    rw a (ap (λ l. f i ∷ l) (listed-snoc f k (i + 1) ∙ ap (λ (j : ℕ). listed f k (i + 1) ++ (f j ∷ [])) b))

module _ {A : Type 0} (bytes : A → List ℕ) (f : ℕ → A) where
  -- The bytes of the first k.
  abbrev pub up_to : ℕ → List ℕ
  up_to k = joined bytes (listed f k 0)

  pub up_next : (k : ℕ) → up_to (k + 1) ≡ up_to k ++ bytes (f k)
  up_next k =
      let z : 0 + k ≡ k = omega arith in
      ap (joined bytes) (listed-snoc f k 0) ∙ joined_snoc bytes (listed f k 0) (f (0 + k)) ∙ ap (λ (j : ℕ). up_to k ++ bytes (f j)) z

  pub up-length : (k : ℕ) → length (up_to (k + 1)) ≡ length (up_to k) + length (bytes (f k))
  up-length k = ap length (up_next k) ∙ length-append (up_to k) (bytes (f k))

  -- They are no more than those of all.
  pub up-grows : (k n : ℕ) → k ≤ n → length (up_to k) ≤ length (up_to n)
  up-grows k n h = let z : k + (n - k) ≡ n = omega arith in rw z at (go (n - k))
    where
      go : (d : ℕ) → length (up_to k) ≤ length (up_to (k + d))
      go zero = let z : k + 0 ≡ k = omega arith in rw z (omega arith)
      go (suc d) =
          let z : k + suc d ≡ k + d + 1 = omega arith in
          let l = go d in
          rw z (omega (arith, up-length (k + d)))

  pub up_fits : (k n : ℕ) → k < n → length (up_to k) + length (bytes (f k)) ≤ length (up_to n)
  up_fits k n h = omega (arith, up-length k, up-grows (k + 1) n (omega arith))

  -- Where there is room for any bytes, none are written.
  pub many-none : (ys : List ℕ) (p : Placing) → RoomFor ys p → Placed (up_to 0) p p
  unfolding joined listed
  many-none ys p h = record { same_list = refl; place = omega arith; inside = omega arith; holds = put-none p.list.now p.at }

  -- Where the first k of n are written, there is room for the next, and with it the first k + 1 are.
  module _ {k : ℕ} {p q : Placing} (w : Placed (up_to k) p q) where
    pub many-room : (n : ℕ) → k < n → RoomFor (up_to n) p → RoomFor (bytes (f k)) q
    many-room n l h = omega (arith, w.place, placed-length w, up_fits k n l)

    pub many-on : {r : Placing} → Placed (bytes (f k)) q r → Placed (up_to (k + 1)) p r
    many-on {r} b = subst (λ (x : List ℕ). Placed x p r) (sym (up_next k)) (placed-then w b)

    pub many-all : (n : ℕ) → k ≡ n → Placed (up_to n) p q
    many-all n e = subst (λ (j : ℕ). Placed (up_to j) p q) e w

-- From the first place on.
pub placed-first : {xs : List ℕ} {p q : Placing} → Placed xs p q → p.at ≡ 0 → q.list.now ≡ front xs p.list.now
placed-first {xs} {p} {q} a z = a.holds ∙ ap (λ (i : ℕ). put_at p.list.now i xs) z ∙ put_first p.list.now xs
