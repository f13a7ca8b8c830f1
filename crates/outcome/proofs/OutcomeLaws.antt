-- A product copied to the front of a buffer, and what a send makes of it there.
use Rattle.std.proofs.Common.{◌≡◌, refl, ap, ◌∙◌, List, [], ◌∷◌, ◌++◌, ℕ, ◌≤◌, arith, length, drop}
use Rattle.common.specs.Part.{part}
use Rattle.atoms.specs.Normal.{normal}
use Rattle.atoms.specs.Ranges.{Added}
use Rattle.rows.proofs.ChangeLaws.{copied-there}
use Rattle.outcome.specs.Outcomes.{Sent}

module _ (p q b : List ℕ) (e : q ≡ p) where
  pub copied-fixed : normal p ≡ p → normal (part 0 (length p) (q ++ drop (length p) b)) ≡ part 0 (length p) (q ++ drop (length p) b)
  copied-fixed f = rw (copied-there p q b (length p) e refl) f

  pub sent-made : (x : ℕ) (l : List ℕ) (r : ℕ) → length p ≤ 24 → Added (q ++ drop (length p) b) (length p) x l r → Sent p x l r
  sent-made x l r k a = record { few = omega (arith, a.few); product = a.form ∙ ap (λ (y : List ℕ). normal (y ++ (x ∷ []))) (copied-there p q b (length p) e refl) }
