-- The tests of one outcome: which of the six it was.
use mathlib.Core.Path.{◌≡◌, refl, subst}
use mathlib.Core.Bool.{true, false}
use mathlib.Core.Logic.{◌⊎◌, inl, inr, ◌↔◌}
use mathlib.Core.List.{List, [], ◌∷◌, ◌++◌}
use mathlib.Core.Option.{Option, none, some}
use Prim.Native.Nat.{ℕ, ◌<◌, ◌≤◌}
use lib.Dec.{ltb}
use lib.ListN.{length}
use borrow.Author.Tests.{ltb-true, ltb-false}
use Rattle.common.proofs.BoolLaws.{either}
use Rattle.common.proofs.ChoiceLaws.{true-then, true-else, lt-then, lt-else}
use Rattle.common.proofs.AtLaws.{At, at-grown, at-end}
use Rattle.common.proofs.FirstLaws.{any-iff}
use Rattle.explore.specs.Frame.{Frame}
use Rattle.explore.specs.Search.{Entry, unsafe, atoms_full, rows_full, covered, Visit, on, stop, tests}

module _ (F : Frame) where
  abbrev pub entry : F.Row → ℕ → ℕ → Entry F
  entry o i j = record { row = o; parent = i; move = j }

  -- How the tests of the outcome u of move j from row i came to their answer.
  pub data Tested (room : ℕ) (l : List (Entry F)) (i j : ℕ) : Option F.Row → Visit F → Type 0 where
    impossible : Tested room l i j none (on l)
    is_bad : {o : F.Row} → F.bad o ≡ true → Tested room l i j (some o) (stop (unsafe i j))
    inside : {o : F.Row} → F.bad o ≡ false → covered F l o ≡ true → Tested room l i j (some o) (on l)
    too_wide : {o : F.Row} → F.bad o ≡ false → covered F l o ≡ false → F.wide o ≡ true → Tested room l i j (some o) (stop (atoms_full i j))
    no_room : {o : F.Row} → F.bad o ≡ false → covered F l o ≡ false → F.wide o ≡ false → room ≤ length l → Tested room l i j (some o) (stop (rows_full i j))
    appended : {o : F.Row} → F.bad o ≡ false → covered F l o ≡ false → F.wide o ≡ false → length l < room
        → Tested room l i j (some o) (on (l ++ (entry o i j ∷ [])))

  pub tested : (room : ℕ) (l : List (Entry F)) (i j : ℕ) (u : Option F.Row) → Tested room l i j u (tests F room l i j u)
  unfolding tests
  tested room l i j none = impossible
  tested room l i j (some o) = go (either (F.bad o)) (either (covered F l o)) (either (F.wide o)) (either (ltb (length l) room))
    where
      Goal : Visit F → Type 0
      Goal = Tested room l i j (some o)

      go : (F.bad o ≡ true) ⊎ (F.bad o ≡ false) → (covered F l o ≡ true) ⊎ (covered F l o ≡ false) → (F.wide o ≡ true) ⊎ (F.wide o ≡ false)
          → (ltb (length l) room ≡ true) ⊎ (ltb (length l) room ≡ false) → Goal (tests F room l i j (some o))
      go (inl b) c w f = subst Goal (true-then _ _ _ b refl) (is_bad b)
      go (inr b) (inl c) w f = subst Goal (true-else _ _ _ b (true-then _ _ _ c refl)) (inside b c)
      go (inr b) (inr c) (inl w) f = subst Goal (true-else _ _ _ b (true-else _ _ _ c (true-then _ _ _ w refl))) (too_wide b c w)
      go (inr b) (inr c) (inr w) (inl f) =
          subst Goal (true-else _ _ _ b (true-else _ _ _ c (true-else _ _ _ w (lt-then _ _ _ _ (ltb-true (length l) room f) refl)))) (appended b c w (ltb-true (length l) room f))
      go (inr b) (inr c) (inr w) (inr f) =
          subst Goal (true-else _ _ _ b (true-else _ _ _ c (true-else _ _ _ w (lt-else _ _ _ _ (ltb-false (length l) room f) refl)))) (no_room b c w (ltb-false (length l) room f))

  -- Some row contains the outcome exactly when one stands there that does.
  pub covered-iff : (l : List (Entry F)) (o : F.Row) → (covered F l o ≡ true) ↔ ((n : ℕ) × (e : Entry F) × At l n e × (F.contains e.row o ≡ true))
  unfolding covered
  covered-iff l o = any-iff (λ e. F.contains e.row o) l

  -- It still does when the rows have grown.
  pub covered-grown : (l t : List (Entry F)) (o : F.Row) → covered F l o ≡ true → covered F (l ++ t) o ≡ true
  covered-grown l t o h = let r = (covered-iff l o).0 h in (covered-iff (l ++ t) o).1 (r.0, r.1, at-grown l t r.0 r.1 r.2, r.3)

  -- A row contains itself, so it covers itself once it is there.
  pub covered-end : (l : List (Entry F)) (e : Entry F) → F.contains e.row e.row ≡ true → covered F (l ++ (e ∷ [])) e.row ≡ true
  covered-end l e h = (covered-iff (l ++ (e ∷ [])) e.row).1 (length l, e, at-end l e, h)
