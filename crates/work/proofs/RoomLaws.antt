-- The rows that there is room for fit, and one does if 103 words are there.
use Rattle.std.proofs.Common.{◌≡◌, refl, subst, ◌⊎◌, inl, inr, ℕ, ◌/◌, ◌*◌, ◌<◌, ◌≤◌, le-div_iff_mul-le, arith}
use Rattle.std.proofs.Math.Nat.{mul-div-le}
use Rattle.common.proofs.ChoiceLaws.{lt-cases}
use Rattle.work.specs.Room.{room_of}

-- It is one of the two, the smaller.
pub record Room (n r : ℕ) : Type 0 where
  pub fits : 103 * r ≤ n
  pub few : r ≤ 1024
  pub one : 103 ≤ n → 1 ≤ r

pub room : (n : ℕ) → Room n (room_of n)
unfolding room_of
room n = go (lt-cases (n / 103) 1024 (n / 103) 1024 refl)
  where
    some : 103 ≤ n → 1 ≤ n / 103
    some h = (le-div_iff_mul-le {k = 103} {x = 1} {y = n} (omega arith)).1 (omega arith)

    go : {r : ℕ} → ((n / 103 < 1024) × (n / 103 ≡ r)) ⊎ ((1024 ≤ n / 103) × (1024 ≡ r)) → Room n r
    go (inl h) = subst (Room n) h.1 (record { fits = mul-div-le n 103; few = omega (arith, h.0); one = some })
    go (inr h) = subst (Room n) h.1 (record { fits = omega (arith, h.0, mul-div-le n 103); few = omega arith; one = λ k. omega arith })

pub room_fits : (n : ℕ) → 103 * room_of n ≤ n
room_fits n = (room n).fits

pub room-few : (n : ℕ) → room_of n ≤ 1024
room-few n = (room n).few

pub room-one : (n : ℕ) → 103 ≤ n → 1 ≤ room_of n
room-one n h = (room n).one h
