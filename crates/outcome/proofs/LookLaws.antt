-- The rows, as the words tell.
use Rattle.std.proofs.Common.{◌≡◌, refl, ap, List, ℕ, ◌+◌, ◌*◌, ◌<◌, ◌≤◌, arith, length, get_or}
use Rattle.common.specs.Part.{part}
use Rattle.common.proofs.PartLaws.{part_length}
use Rattle.common.proofs.ChoiceLaws.{lt-then}
use Rattle.work.specs.Layout.{count_place}
use Rattle.outcome.specs.Look.{product_at, Sized}

-- The atoms of a channel, as the words tell.
pub product-there : (w : List ℕ) (i c k : ℕ) → c < 4 → k ≡ get_or w (count_place i c) 0 → part (103 * i + 4 + 25 * c) (103 * i + 4 + 25 * c + k) w ≡ product_at w i c
unfolding product_at
product-there w i c k h e = lt-then _ _ _ _ h (ap (λ (n : ℕ). part (103 * i + 4 + 25 * c) (103 * i + 4 + 25 * c + n) w) e)

pub product-few : (w : List ℕ) (rows i c : ℕ) → Sized w rows → i < rows → c < 4 → length (product_at w i c) ≤ 24
product-few w rows i c s h k =
    let e : part (103 * i + 4 + 25 * c) (103 * i + 4 + 25 * c + get_or w (count_place i c) 0) w ≡ product_at w i c = product-there w i c _ k refl in
    let n : get_or w (count_place i c) 0 ≤ 24 = s.counts i c h k in
    omega (arith, ap length e, part_length (103 * i + 4 + 25 * c) (103 * i + 4 + 25 * c + get_or w (count_place i c) 0) w (omega (arith, s.there)))
