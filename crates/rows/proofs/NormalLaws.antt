-- The outcome of a move from a row whose products are in normal form, in normal form.
use Rattle.std.proofs.Common.{◌≡◌, refl, sym, ap, ◌∙◌, Bool, List, [], ◌∷◌, ◌++◌, ℕ, eqb}
use mathlib.Core.Path.{fun_ext}
use mathlib.Core.Option.{Option, none, some, map}
use Rattle.common.proofs.ChoiceLaws.{eq-then, eq-else}
use Rattle.meaning.specs.Systems.{Operation, quiet, send, Move, put}
use Rattle.meaning.specs.Outcomes.{self_loop_send}
use Rattle.meaning.proofs.PutLaws.{put_same, put_other, put-each}
use Rattle.atoms.specs.Normal.{normal}
use Rattle.atoms.specs.Receive.{received}
use Rattle.atoms.proofs.AddLaws.{chain-fixed, fixed-chain}
use Rattle.atoms.proofs.NormalLaws.{Chain, chain-rest, normal-chain}
use Rattle.atoms.proofs.ReceiveLaws.{Received, at_star, at_single, past, receiving}
use Rattle.rows.specs.Rows.{Row, normal_row}
use Rattle.rows.specs.Outcomes.{sent_atom, after, normal_after, outcome}

-- The normal form of a normal form is itself.
pub normal-again : (p : List ℕ) → normal (normal p) ≡ normal p
normal-again p = chain-fixed (normal p) (normal-chain p)

-- What a receive leaves of a product in normal form is in normal form.
chain_left : {m : ℕ} {p q : List ℕ} → Received m p (some q) → Chain p → Chain q
chain_left (at_star x y) h = h
chain_left (at_single {a = a} {p = p} x y) h = chain-rest a p h
chain_left (past {a = a} {p = p} x v) h = chain_left v (chain-rest a p h)

-- Each product is in normal form.
abbrev pub Normals : (ℕ → List ℕ) → Type 0
Normals p = (c : ℕ) → normal (p c) ≡ p c

abbrev normals : (ℕ → List ℕ) → ℕ → List ℕ
normals p c = normal (p c)

-- A row in the target's state.
abbrev pub arrived : Move → (ℕ → List ℕ) → Row
arrived t p = record { state = t.target; products = p }

module _ (p : ℕ → List ℕ) (fixed : Normals p) where
  -- Only the product at c must be brought to normal form.
  put-normal : (c : ℕ) (q : List ℕ) → normals (put p c q) ≡ put p c (normal q)
  put-normal c q =
      fun_ext (put-each p c q (λ d x. normal x ≡ put p c (normal q) d) (sym (put_same p c (normal q))) (λ d n. fixed d ∙ sym (put_other p c (normal q) d n)))

  normal-after : (loop : Bool) (o : Operation) → map normals (after loop o p) ≡ normal_after loop o p
  unfolding after normal_after
  normal-after loop quiet = ap some (fun_ext fixed)
  normal-after loop (send c m) = ap some (put-normal c (p c ++ (sent_atom loop m ∷ [])))
  normal-after loop (Operation.receive c m) = go (received m (p c)) (receiving m (p c))
    where
      go : (o : Option (List ℕ)) → Received m (p c) o → map normals (map (put p c) o) ≡ map (put p c) o
      go none v = refl
      go (some q) v = ap some (put-normal c q ∙ ap (put p c) (chain-fixed q (chain_left v (fixed-chain (p c) (fixed c)))))

-- The state of a self-loop matters only to a send.
loop-after : (a b : ℕ) (o : Operation) (p : ℕ → List ℕ) → normal_after (self_loop_send (record { source = a; target = b; operation = o })) o p ≡ normal_after (eqb a b) o p
unfolding normal_after
loop-after a b quiet p = refl
loop-after a b (send c m) p = refl
loop-after a b (Operation.receive c m) p = refl

module _ (t : Move) (r : Row) where
  -- The move is not one of the row's state.
  pub outcome-elsewhere : (r.state ≡ t.source → ⊥) → map normal_row (outcome t r) ≡ none
  unfolding outcome
  outcome-elsewhere n = ap (map normal_row) (sym (eq-else _ _ _ _ n refl))

  -- It is one: the outcome has the target's state, and the products that the operation leaves.
  pub outcome-here : r.state ≡ t.source → Normals r.products
      → map normal_row (outcome t r) ≡ map (arrived t) (normal_after (eqb t.source t.target) t.operation r.products)
  unfolding outcome
  outcome-here e fixed =
      ap (map normal_row) (sym (eq-then _ _ _ _ e refl)) ∙ tidied (after (self_loop_send t) t.operation r.products)
      ∙ ap (map (arrived t))
      (normal-after r.products fixed (self_loop_send t) t.operation ∙ loop-after t.source t.target t.operation r.products)
    where
      tidied : (o : Option (ℕ → List ℕ)) → map normal_row (map (arrived t) o)
          ≡ map (arrived t) (map normals o)
      tidied none = refl
      tidied (some q) = refl
