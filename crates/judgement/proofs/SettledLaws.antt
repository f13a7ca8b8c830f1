-- An outcome is impossible or in one row of the list: the test, and what it means.
use mathlib.Core.Path.{◌≡◌, refl, sym, subst}
use mathlib.Core.Bool.{true}
use mathlib.Core.Logic.{◌↔◌}
use mathlib.Core.List.{List}
use mathlib.Core.Option.{Option, none, some}
use Prim.Native.Nat.{ℕ, ◌≤◌}
use lib.Dec.{eqb}
use borrow.Author.Tests.{eqb-true, eq-eqb}
use Rattle.common.proofs.AtLaws.{At}
use Rattle.common.proofs.FirstLaws.{any-iff}
use Rattle.meaning.specs.Systems.{Move, System, MoveOf, Config, start_of}
use Rattle.meaning.specs.Rows.{InRow}
use Rattle.meaning.specs.Outcomes.{Outcome}
use Rattle.meaning.proofs.RowLaws.{lowest, lowest-in}
use Rattle.rows.specs.Rows.{Row, meant_row, RowOf, covers}
use Rattle.rows.specs.Outcomes.{outcome, InOutcome}
use Rattle.rows.proofs.CoverLaws.{covers-iff}
use Rattle.rows.proofs.OutcomeLaws.{outcome-iff, impossible-iff}
use Rattle.rows.proofs.RowOfLaws.{outcome-of}
use Rattle.judgement.specs.Judge.{has_start, covered_by, settled}

-- The configurations of a row.
abbrev pub In : Row → Config → Type 0
In r x = InRow (meant_row r) x

-- The configuration is in some row of the list.
pub record Held (l : List Row) (x : Config) : Type 0 where
  pub place : ℕ
  pub row : Row
  pub stands : At l place row
  pub inside : In row x

-- The outcome of t from r, as a set of configurations, is empty or lies wholly in one row of the list.
pub data Kept (l : List Row) (r : Row) (t : Move) : Type 0 where
  empty : ((y : Config) → Outcome t (In r) y → ⊥) → Kept l r t
  inside : (n : ℕ) (s : Row) → At l n s → ((y : Config) → Outcome t (In r) y → In s y) → Kept l r t

-- ---- the start

-- The start is in some row exactly when some row is in the start state.
pub start-iff : (S : System) (l : List Row) → (has_start S.start l ≡ true) ↔ Held l (start_of S)
start-iff S l = (
  λ e. let r = (any-iff (λ (r : Row). eqb r.state S.start) l).0 e in
      record { place = r.0; row = r.1; stands = r.2; inside = record { state = sym (eqb-true _ _ r.3); words = (lowest-in (meant_row r.1)).words } },
  λ h. (any-iff (λ (r : Row). eqb r.state S.start) l).1 (h.place, h.row, h.stands, eq-eqb _ _ (sym h.inside.state)),
)

-- ---- outcomes

module _ (S : System) (k15 : S.messages ≤ 15) (l : List Row) (rows : (n : ℕ) (r : Row) → At l n r → RowOf S.channels S.messages r)
    (r : Row) (ro : RowOf S.channels S.messages r) (t : Move) (to : MoveOf S t) where
  -- Some row contains the outcome o exactly when the outcome lies in it.
  covered-iff : (o : Row) → outcome t r ≡ some o → (covered_by S.channels l o ≡ true) ↔ Kept l r t
  covered-iff o e = (
    λ c. let q = (any-iff (λ (s : Row). covers S.channels s o) l).0 c in inside q.0 q.1 q.2 (λ y u. (at q.0 q.1 q.2).0 q.3 y ((there y).1 u)),
    back,
  )
    where
      there : (y : Config) → In o y ↔ Outcome t (In r) y
      there y = subst (λ (u : Option Row). InOutcome u y ↔ Outcome t (In r) y) e (outcome-iff S.channels S.messages t r to.operation k15 y)

      at : (m : ℕ) (s : Row) → At l m s → (covers S.channels s o ≡ true) ↔ ((x : Config) → In o x → In s x)
      at m s h = covers-iff S.channels S.messages o s (outcome-of S.channels S.messages t r o to.operation k15 ro e) (rows m s h)

      back : Kept l r t → covered_by S.channels l o ≡ true
      back (empty f) = absurd (f (lowest (meant_row o)) ((there (lowest (meant_row o))).0 (lowest-in (meant_row o))))
      back (inside m s h f) = (any-iff (λ (s : Row). covers S.channels s o) l).1 (m, s, h, (at m s h).1 (λ x i. f x ((there x).0 i)))

  pub settled-iff : (settled S.channels l (outcome t r) ≡ true) ↔ Kept l r t
  settled-iff = go (outcome t r) refl
    where
      go : (u : Option Row) → outcome t r ≡ u → (settled S.channels l u ≡ true) ↔ Kept l r t
      go none e = (λ x. empty ((impossible-iff S.channels S.messages t r to.operation k15).0 e), λ x. refl)
      go (some o) e = covered-iff o e
