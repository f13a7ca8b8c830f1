-- The judge accepts exactly the inductive invariants: two rows never cover an outcome between them that neither covers.
use mathlib.Core.Path.{◌≡◌, refl, sym, subst}
use mathlib.Core.Bool.{true, false}
use mathlib.Core.Logic.{◌⊎◌, inl, inr, ◌↔◌}
use mathlib.Core.List.{List, [], ◌∷◌, Memᴰ}
use mathlib.Core.Option.{Option, none, some, none-ne-some, some-injective}
use Prim.Native.Nat.{ℕ, zero, suc, ◌≤◌}
use lib.Dec.{eqb}
use borrow.Author.Tests.{eqb-true, eqb-false}
use Rattle.common.proofs.AtLaws.{At}
use Rattle.common.proofs.BoolLaws.{either, clash}
use Rattle.common.proofs.FirstLaws.{none-iff}
use Rattle.meaning.specs.Systems.{Move, System, MoveOf, WellMade, Config, Step, start_of, Bad}
use Rattle.meaning.specs.Outcomes.{Remains, Round, Rounds, more, Leaves, once, rounds, Outcome}
use Rattle.meaning.proofs.RowLaws.{lowest, lowest-in, row-remains}
use Rattle.meaning.proofs.DirectedLaws.{Propers, row-above}
use Rattle.atoms.specs.Masks.{AtomsOf}
use Rattle.atoms.specs.Products.{product}
use Rattle.atoms.proofs.MemberLaws.{word-stable}
use Rattle.rows.specs.Rows.{Row, meant_row, RowOf, covers}
use Rattle.rows.specs.Outcomes.{outcome, InOutcome}
use Rattle.rows.proofs.CoverLaws.{covers-iff}
use Rattle.rows.proofs.OutcomeLaws.{outcome-iff}
use Rattle.rows.proofs.RowOfLaws.{outcome-of}
use Rattle.judgement.specs.Judge.{accepted, judge, settled}
use Rattle.judgement.proofs.SettledLaws.{In, Held, Kept, settled-iff}
use Rattle.judgement.proofs.ExactLaws.{NoBad, AllKept, accepted-iff}
use Rattle.judgement.proofs.SoundLaws.{step-held, held-harmless}

-- ---- a configuration that is not outside a row is inside

row-stable : (s : Row) (x : Config) → ((In s x → ⊥) → ⊥) → In s x
row-stable s x h = record { state = same (either (eqb x.state s.state)); words = λ c. word-stable (s.products c) (x.contents c) (λ out. h (λ i. out (i.words c))) }
  where
    same : (eqb x.state s.state ≡ true) ⊎ (eqb x.state s.state ≡ false) → x.state ≡ s.state
    same (inl e) = eqb-true _ _ e
    same (inr e) = absurd (h (λ i. eqb-false _ _ e i.state))

propers-of : (k : ℕ) (p : List ℕ) → AtomsOf k p → Propers (product p)
propers-of k [] h = tt
propers-of k (a ∷ p) h = (h.0.atom.proper, propers-of k p h.1)

-- ---- from a counterexample for each row a common one is joined

-- A configuration of the row o that no row of the list has.
record Outside (l : List Row) (o : Row) : Type 0 where
  config : Config
  inside : In o config
  outside : (m : ℕ) (s : Row) → At l m s → In s config → ⊥

-- One of o outside the row s and one outside the rows l: what both are left of is in neither.
joined : (n k : ℕ) (l : List Row) (o s : Row) → RowOf n k o → Outside l o → (x : Config) → In o x → (In s x → ⊥) → Outside (s ∷ l) o
joined n k l o s ro y x i out = go (row-above (meant_row o) y.config x (λ c. propers-of k (o.products c) (ro.atoms c)) y.inside i)
  where
    go : (z : Config) × In o z × Remains z y.config × Remains z x → Outside (s ∷ l) o
    go z = record { config = z.0; inside = z.1; outside = none_has }
      where
        none_has : (m : ℕ) (r : Row) → At (s ∷ l) m r → In r z.0 → ⊥
        none_has zero r h j = out (row-remains z.3 (subst (λ (q : Row). In q z.0) (sym (some-injective _ _ h)) j))
        none_has (suc m) r h j = y.outside m r h (row-remains z.2 j)

-- If o is in no row of the list, then it is not that each of its configurations is in some row.
apart : (n k : ℕ) (l : List Row) (o : Row) → RowOf n k o → ((m : ℕ) (s : Row) → At l m s → ((x : Config) → In o x → In s x) → ⊥) → (Outside l o → ⊥) → ⊥
apart n k [] o ro out never = never (record { config = lowest (meant_row o); inside = lowest-in (meant_row o); outside = λ m s h j. absurd (none-ne-some s h) })
apart n k (s ∷ l) o ro out never =
    apart n k l o ro (λ m r h. out (suc m) r h) (λ y. out 0 s refl (λ x i. row-stable s x (λ j. never (joined n k l o s ro y x i j))))

-- ---- the theorem

module _ (S : System) (l : List Row) where
  -- The configurations of the rows: they have the start, no bad state, and each step from them stays in them.
  pub record Invariant : Type 0 where
    pub starts : Held l (start_of S)
    pub harmless : (x : Config) → Held l x → Bad S x → ⊥
    pub closed : (x y : Config) → Step S x y → Held l x → Held l y

  module _ (inv : Invariant) (t : Move) (m : Memᴰ t S.moves) where
    held-remains : {x y : Config} → Remains x y → Held l x → Held l y
    held-remains d h = record { place = h.place; row = h.row; stands = h.stands; inside = row-remains d h.inside }

    round-held : {x y : Config} → Round t x y → Held l x → Held l y
    round-held d h = held-remains d.late (inv.closed d.ready d.moved (Step.moves t m d.moves) (held-remains d.early h))

    rounds-held : {x y : Config} → Rounds t x y → Held l x → Held l y
    rounds-held (Rounds.none e) h = h
    rounds-held (more q d) h = round-held d (rounds-held q h)

    -- So the outcome of each move stays in them, any number of rounds of a self-loop send too.
    outcome-held : (n : ℕ) (r : Row) → At l n r → (y : Config) → Outcome t (In r) y → Held l y
    outcome-held n r h y o = go o.leaves (record { place = n; row = r; stands = h; inside = o.inside })
      where
        go : Leaves t o.from y → Held l o.from → Held l y
        go (once e d) k = round-held d k
        go (rounds e q) k = rounds-held q k

  module _ (wm : WellMade S) (k15 : S.messages ≤ 15) (rows : (n : ℕ) (r : Row) → At l n r → RowOf S.channels S.messages r) where
    kept : Invariant → AllKept S l
    kept inv n r h t m = go (either (settled S.channels l (outcome t r)))
      where
        to : MoveOf S t
        to = wm.moves t m

        in_one : (u : Option Row) → outcome t r ≡ u → settled S.channels l u ≡ false → ⊥
        in_one none e f = clash refl f
        in_one (some o) e f = apart S.channels S.messages l o ro none-covers (λ y. all_held y.config y.inside y.outside)
          where
            ro : RowOf S.channels S.messages o
            ro = outcome-of S.channels S.messages t r o to.operation k15 (rows n r h) e

            none-covers : (i : ℕ) (s : Row) → At l i s → ((x : Config) → In o x → In s x) → ⊥
            none-covers i s a g = clash ((covers-iff S.channels S.messages o s ro (rows i s a)).1 g) ((none-iff (λ (s : Row). covers S.channels s o) l).0 f i s a)

            all_held : (y : Config) → In o y → ((i : ℕ) (s : Row) → At l i s → In s y → ⊥) → ⊥
            all_held y j out =
                let q = outcome-held inv t m n r h y ((outcome-iff S.channels S.messages t r to.operation k15 y).0 (subst (λ (u : Option Row). InOutcome u y) (sym e) j)) in
                out q.place q.row q.stands q.inside

        go : (settled S.channels l (outcome t r) ≡ true) ⊎ (settled S.channels l (outcome t r) ≡ false) → Kept l r t
        go (inl e) = (settled-iff S k15 l rows r (rows n r h) t to).0 e
        go (inr e) = absurd (in_one (outcome t r) refl e)

    -- THE INVARIANT: the judge accepts exactly when the configurations of all rows have the start, have none in a bad state, and every step (send,
    -- receive, quiet, loss) from one of them stays among them.
    pub invariant-iff : (judge S l ≡ accepted) ↔ Invariant
    invariant-iff = (
      λ e. let a = (accepted-iff S l wm k15 rows).0 e in record { starts = a.0; harmless = held-harmless S l a.1; closed = step-held S l a.2 },
      λ inv. (accepted-iff S l wm k15 rows).1 (inv.starts, no-bad inv, kept inv),
    )
      where
        no-bad : Invariant → NoBad S l
        no-bad inv n r h m = inv.harmless (lowest (meant_row r)) (record { place = n; row = r; stands = h; inside = lowest-in (meant_row r) }) m
