-- A product copied to the front of a buffer, and what an operation makes of it there.
use Rattle.std.proofs.Common.{◌≡◌, refl, sym, ap, ap₂, ◌∙◌, Bool, List, [], ◌∷◌, ◌++◌, ℕ, ◌+◌, ◌≤◌, arith, length, set, drop, length-append, length-drop, Option}
use Rattle.std.proofs.Math.Option as math
use Rattle.common.specs.Part.{part}
use Rattle.common.proofs.ChoiceLaws.{lt-else}
use Rattle.common.proofs.PartLaws.{part-set}
use Rattle.meaning.specs.Systems.{put}
use Rattle.atoms.specs.Receive.{received}
use Rattle.rows.specs.Changes.{changed_to}
use Rattle.rows.specs.Outcomes.{sent_atom, after}
use Rattle.rows.proofs.ChangeLaws.{copied-there, quiet-changes, receive-changes}
use Rattle.table.specs.Transitions.{operation_of}
use Rattle.table.specs.declared.transitions.Operation.{Operation}
use Rattle.table.specs.declared.transitions.Operation.TheVariants.{Quiet, Send, Receive}
use Rattle.judge.specs.Look.{product_at}
use Rattle.judge.specs.Outcomes.{Sent}

-- The buffer b has a copy of the product p, and behind it the atom a.
pub sent-made : (p q b : List ℕ) (a : ℕ) → q ≡ p → length p ≤ 24 → 25 ≤ length b → Sent p a (set (q ++ drop (length p) b) (length p) a) (length p + 1)
sent-made p q b a e few z =
    record {
      few = omega arith;
      product = part-set (length p) (q ++ drop (length p) b) a (omega (arith, length-append q (drop (length p) b), length-drop (length p) b, ap length e))
          ∙ ap (λ (l : List ℕ). l ++ (a ∷ [])) (copied-there p q b (length p) e refl);
    }

-- ---- the operation

module _ (loop : Bool) (n : ℕ) (starts atoms : List ℕ) (i : ℕ) (o : Operation) where
  -- The products of row i.
  abbrev products : ℕ → List ℕ
  products = product_at n starts atoms i

  pub outcome-quiet : (b : List ℕ) → n ≤ 4 → o ≡ Quiet → math.some (put products 4 (part 0 0 b)) ≡ after loop (operation_of o) products
  unfolding after product_at
  outcome-quiet b h e = rw e (quiet-changes products b (sym (lt-else _ _ _ _ h refl)))

  module _ (c m : ℕ) where
    pub outcome-sent : (p b : List ℕ) (x r : ℕ) → o ≡ Send c m → p ≡ products c → x ≡ sent_atom loop m → Sent p x b r
        → math.some (put products c (part 0 r b)) ≡ after loop (operation_of o) products
    unfolding after
    outcome-sent p b x r e f g s =
        rw e (ap (λ (q : List ℕ). math.some (put products c q)) (s.product ∙ ap₂ (λ (l : List ℕ) (a : ℕ). l ++ (a ∷ [])) f g))

    pub outcome-received : (p b : List ℕ) (r : Option ℕ) → o ≡ Receive c m → p ≡ products c → changed_to r b ≡ received m p
        → math.map (put products c) (changed_to r b) ≡ after loop (operation_of o) products
    unfolding after
    outcome-received p b r e f z = rw e (receive-changes products c m p b r f z)
