-- The outcome of an operation from a row, channel by channel.
use Rattle.std.proofs.Common.{◌≡◌, refl, sym, ap, ap₂, ◌∙◌, Bool, List, [], ◌∷◌, ◌++◌, ℕ, arith, Option}
use Rattle.std.proofs.Math.Option as math
use Rattle.common.specs.Part.{part}
use Rattle.common.proofs.ChoiceLaws.{lt-else}
use Rattle.meaning.specs.Systems.{put}
use Rattle.atoms.specs.Normal.{normal}
use Rattle.atoms.specs.Receive.{received}
use Rattle.rows.specs.Changes.{changed_to}
use Rattle.rows.specs.Outcomes.{sent_atom, normal_after}
use Rattle.rows.proofs.ChangeLaws.{quiet-changes, receive-changes}
use Rattle.table.specs.Transitions.{operation_of}
use Rattle.table.specs.declared.transitions.Operation.{Operation}
use Rattle.table.specs.declared.transitions.Operation.TheVariants.{Quiet, Send, Receive}
use Rattle.outcome.specs.Look.{product_at}
use Rattle.outcome.specs.Outcomes.{Sent}

module _ (loop : Bool) (w : List ℕ) (i : ℕ) (o : Operation) where
  pub outcome-quiet : (b : List ℕ) → o ≡ Quiet → math.some (put (product_at w i) 4 (part 0 0 b)) ≡ normal_after loop (operation_of o) (product_at w i)
  unfolding normal_after product_at
  outcome-quiet b e = rw e (quiet-changes (product_at w i) b (sym (lt-else _ _ _ _ (omega arith) refl)))

  module _ (c m : ℕ) where
    pub outcome-sent : (p b : List ℕ) (x r : ℕ) → o ≡ Send c m → p ≡ product_at w i c → x ≡ sent_atom loop m → Sent p x b r
        → math.some (put (product_at w i) c (part 0 r b)) ≡ normal_after loop (operation_of o) (product_at w i)
    unfolding normal_after
    outcome-sent p b x r e f g s =
        rw e (ap (λ (q : List ℕ). math.some (put (product_at w i) c q)) (s.product ∙ ap₂ (λ (l : List ℕ) (a : ℕ). normal (l ++ (a ∷ []))) f g))

    pub outcome-received : (p b : List ℕ) (r : Option ℕ) → o ≡ Receive c m → p ≡ product_at w i c → changed_to r b ≡ received m p
        → math.map (put (product_at w i) c) (changed_to r b) ≡ normal_after loop (operation_of o) (product_at w i)
    unfolding normal_after
    outcome-received p b r e f z = rw e (receive-changes (product_at w i) c m p b r f z)
