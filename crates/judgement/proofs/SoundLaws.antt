-- The judge is sound: where it accepts, no run reaches a bad state.
use mathlib.Core.Path.{◌≡◌, subst}
use mathlib.Core.Bool.{true, false}
use mathlib.Core.Logic.{◌⊎◌, inl, inr}
use mathlib.Core.List.{List, Memᴰ}
use Prim.Native.Nat.{ℕ, ◌≤◌}
use Rattle.common.proofs.AtLaws.{At}
use Rattle.common.proofs.BoolLaws.{either}
use Rattle.meaning.specs.Systems.{Move, System, WellMade, Config, Moves, Step, Bad, Safe}
use Rattle.meaning.specs.Outcomes.{Round, Rounds, more, self_loop_send, Leaves, once, rounds, Outcome}
use Rattle.meaning.proofs.LossLaws.{remains-refl}
use Rattle.meaning.proofs.RunLaws.{run-keeps}
use Rattle.meaning.proofs.RowLaws.{row-loses}
use Rattle.rows.specs.Rows.{Row, RowOf}
use Rattle.judgement.specs.Judge.{accepted, judge}
use Rattle.judgement.proofs.SettledLaws.{In, Held, Kept, empty, inside}
use Rattle.judgement.proofs.ExactLaws.{NoBad, AllKept, accepted-iff}

-- A move without losses is one round of it.
round-of : {t : Move} {x y : Config} → Moves t x y → Round t x y
round-of {x = x} {y = y} m = record { ready = x; moved = y; early = remains-refl x; moves = m; late = remains-refl y }

-- What a move makes is in its outcome.
pub move-outcome : (t : Move) (K : Config → Type 0) (x y : Config) → K x → Moves t x y → Outcome t K y
move-outcome t K x y k m = record { from = x; inside = k; leaves = go (either (self_loop_send t)) }
  where
    go : (self_loop_send t ≡ true) ⊎ (self_loop_send t ≡ false) → Leaves t x y
    go (inl e) = rounds e (more (Rounds.none m.source) (round-of m))
    go (inr e) = once e (round-of m)

module _ (S : System) (l : List Row) where
  -- Each step from a configuration of the rows stays in them.
  pub step-held : AllKept S l → (x y : Config) → Step S x y → Held l x → Held l y
  step-held kept x y (Step.loses d) h = record { place = h.place; row = h.row; stands = h.stands; inside = row-loses d h.inside }
  step-held kept x y (Step.moves t m d) h = go (kept h.place h.row h.stands t m)
    where
      out : Outcome t (In h.row) y
      out = move-outcome t (In h.row) x y h.inside d

      go : Kept l h.row t → Held l y
      go (empty f) = absurd (f y out)
      go (inside n s a f) = record { place = n; row = s; stands = a; inside = f y out }

  -- No configuration of the rows is bad.
  pub held-harmless : NoBad S l → (x : Config) → Held l x → Bad S x → ⊥
  held-harmless nb x h b = nb h.place h.row h.stands (subst (λ (s : ℕ). Memᴰ s S.bad) h.inside.state b)

  -- SOUNDNESS: accepted means that no finite run of the system from the start with empty channels, with any sends, receives and losses, reaches a
  -- bad state.
  pub judge-sound : WellMade S → S.messages ≤ 15 → ((n : ℕ) (r : Row) → At l n r → RowOf S.channels S.messages r) → judge S l ≡ accepted → Safe S
  judge-sound wm k15 rows e x run b =
      let a = (accepted-iff S l wm k15 rows).0 e in
      held-harmless a.1 x (run-keeps (Held l) (step-held a.2) run a.0) b
