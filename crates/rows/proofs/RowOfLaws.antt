-- The outcome of a move of a table from a row of the table is a row of the table.
use Rattle.std.proofs.Common.{◌≡◌, refl, subst, ◌∙◌, Bool, true, false, List, [], ◌∷◌, ℕ, ◌<◌, ◌≤◌, arith}
use mathlib.Core.Option.{Option, none, some, map, none-ne-some, some-injective}
use Rattle.common.proofs.EachLaws.{each_append}
use Rattle.meaning.specs.Systems.{Operation, quiet, send, Move, Ranged, put}
use Rattle.meaning.specs.Outcomes.{self_loop_send}
use Rattle.meaning.proofs.PutLaws.{put_other, put-each}
use Rattle.atoms.specs.Masks.{AtomOf, AtomsOf}
use Rattle.atoms.specs.Receive.{received}
use Rattle.atoms.proofs.AtomLaws.{single-atom, star-atom}
use Rattle.atoms.proofs.ReceiveLaws.{Received, receiving, received-each}
use Rattle.rows.specs.Rows.{Row, RowOf}
use Rattle.rows.specs.Outcomes.{sent_atom, after, outcome}
use Rattle.rows.proofs.OutcomeLaws.{outcome-parts}

-- The products are those of a row of the table.
record Fit (n k : ℕ) (p : ℕ → List ℕ) : Type 0 where
  atoms : (c : ℕ) → AtomsOf k (p c)
  none_past : (c : ℕ) → n ≤ c → p c ≡ []

-- A new product at one of the table's channels.
put_fit : (n k : ℕ) (p : ℕ → List ℕ) (c : ℕ) (q : List ℕ) → c < n → AtomsOf k q → Fit n k p → Fit n k (put p c q)
put_fit n k p c q l a f =
    record {
      atoms = put-each p c q (λ d x. AtomsOf k x) a (λ d m. f.atoms d);
      none_past = λ d h. put_other p c q d (away d h) ∙ f.none_past d h;
    }
  where
    away : (d : ℕ) → n ≤ d → d ≡ c → ⊥
    away d h e = omega arith

sent-atom : (k m : ℕ) (loop : Bool) → m < k → k ≤ 15 → AtomOf k (sent_atom loop m)
sent-atom k m true h l = star-atom k m h l
sent-atom k m false h l = single-atom k m h l

after-fit : (n k : ℕ) (loop : Bool) (o : Operation) (p q : ℕ → List ℕ) → Ranged n k o → k ≤ 15 → Fit n k p → after loop o p ≡ some q → Fit n k q
unfolding after
after-fit n k loop quiet p q g l f e = subst (Fit n k) (some-injective _ _ e) f
after-fit n k loop (send c m) p q g l f e =
    subst (Fit n k) (some-injective _ _ e)
    (put_fit n k p c _ g.0 (each_append (AtomOf k) (p c) (sent_atom loop m ∷ []) (f.atoms c) (sent-atom k m loop g.1 l, tt)) f)
after-fit n k loop (Operation.receive c m) p q g l f e = go (received m (p c)) refl e
  where
    go : (o : Option (List ℕ)) → received m (p c) ≡ o → map (put p c) o ≡ some q → Fit n k q
    go none r e = absurd (none-ne-some q e)
    go (some s) r e =
        subst (Fit n k) (some-injective _ _ e)
        (put_fit n k p c s g.0 (received-each (AtomOf k) (subst (Received m (p c)) r (receiving m (p c))) (f.atoms c)) f)

pub outcome-of : (n k : ℕ) (t : Move) (r s : Row) → Ranged n k t.operation → k ≤ 15 → RowOf n k r → outcome t r ≡ some s → RowOf n k s
outcome-of n k t r s g l ro e =
    let u = outcome-parts t r s e in
    let f = after-fit n k (self_loop_send t) t.operation r.products u.1 g l (record { atoms = ro.atoms; none_past = ro.none_past }) u.2 in
    subst (RowOf n k) u.3 (record { atoms = f.atoms; none_past = f.none_past })
