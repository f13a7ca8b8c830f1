-- A product copied to the front of a buffer, and what a quiet move and a receive change.
use Rattle.std.proofs.Common.{◌≡◌, refl, sym, ap, ◌∙◌, List, [], ◌++◌, ℕ, arith, length, drop, take_at, Option}
use Rattle.std.proofs.Math.Option as math
use Rattle.common.specs.Part.{part}
use Rattle.common.proofs.PartLaws.{part_none, part-take}
use Rattle.meaning.specs.Systems.{put}
use Rattle.meaning.proofs.PutLaws.{put_id}
use Rattle.atoms.specs.Receive.{received}
use Rattle.rows.specs.Changes.{changed_to}

-- The first n words of the buffer b are q, a copy of the product p.
pub copied-there : (p q b : List ℕ) (n : ℕ) → q ≡ p → length p ≡ n → part 0 n (q ++ drop n b) ≡ p
copied-there p q b n e h = part-take n (q ++ drop n b) ∙ take_at q (drop n b) n (ap length e ∙ h) ∙ e

-- What is left after a receive, copied.
pub left-made : (m : ℕ) (p left q b : List ℕ) → received m p ≡ math.some left → q ≡ left → math.some (part 0 (length left) (q ++ drop (length left) b)) ≡ received m p
left-made m p left q b e h = ap math.some (copied-there left q b (length left) h refl) ∙ sym e

module _ (p : ℕ → List ℕ) where
  -- Channel 4 is none of the row's.
  pub quiet-changes : (b : List ℕ) → p 4 ≡ [] → math.some (put p 4 (part 0 0 b)) ≡ math.some p
  quiet-changes b e = ap math.some (ap (put p 4) (part_none 0 0 b (omega arith) ∙ sym e) ∙ put_id p 4)

  -- q is the product that the receive is of.
  pub receive-changes : (c m : ℕ) (q b : List ℕ) (r : Option ℕ) → q ≡ p c → changed_to r b ≡ received m q
      → math.map (put p c) (changed_to r b) ≡ math.map (put p c) (received m (p c))
  receive-changes c m q b r e h = ap (math.map (put p c)) (h ∙ ap (received m) e)
