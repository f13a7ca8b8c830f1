-- The rebuilt run never has more than twice as many steps as there is room for rows: going back over a move, its words and what is needed before it
-- are together at most two more than what is needed after it.
use mathlib.Core.Path.{◌≡◌, refl, sym, ap, subst, ◌∙◌}
use mathlib.Core.Bool.{Bool, true, false}
use mathlib.Core.Logic.{◌⊎◌, inl, inr}
use mathlib.Core.List.{List, [], ◌∷◌, ◌++◌}
use mathlib.Core.Option.{Option, none, some, none-ne-some}
use Prim.Native.Nat.{ℕ, zero, suc, ◌+◌, ◌-◌, ◌*◌, ◌<◌, ◌≤◌}
use native.Mathlib.Omega.{arith}
use lib.Dec.{eqb}
use lib.ListN.{length, get_elem?, replicate, length-append, length-replicate}
use borrow.Author.Tests.{eqb-true, eqb-false}
use Rattle.common.proofs.AtLaws.{At, at-below, at_same, mem-at}
use Rattle.common.proofs.BoolLaws.{either}
use Rattle.common.proofs.ChoiceLaws.{true-then, true-else, eq-then, eq-else}
use Rattle.meaning.specs.Words.{Word}
use Rattle.meaning.specs.Systems.{Operation, quiet, send, Move, System, WellMade, Ranged, Contents, put}
use Rattle.meaning.specs.Outcomes.{self_loop_send}
use Rattle.meaning.proofs.PutLaws.{put_same, put_other}
use Rattle.explore.specs.Search.{Entry}
use Rattle.explore.specs.Found.{Linked, Rows, Met}
use Rattle.findings.specs.Search.{frame_of, first_entry, bad_row}
use Rattle.findings.specs.Rebuild.{ends_with, all_but_last, stripped, Back, back, back_over, rebuilt, run_of}
use Rattle.findings.proofs.EndLaws.{ends_last, strip-whole}

-- How many messages the first n channels hold.
pub size : ℕ → Contents → ℕ
size zero f = 0
size (suc n) f = size n f + length (f n)

size-away : (n : ℕ) (f : Contents) (c : ℕ) (w : Word) → n ≤ c → size n (put f c w) ≡ size n f
unfolding size
size-away zero f c w h = refl
size-away (suc n) f c w h = go (size-away n f c w (omega arith)) (put_other f c w n away)
  where
    away : n ≡ c → ⊥
    away e = omega arith

    go : size n (put f c w) ≡ size n f → put f c w n ≡ f n → size n (put f c w) + length (put f c w n) ≡ size n f + length (f n)
    go x y = ap (◌+ length (put f c w n)) x ∙ ap (λ (v : Word). size n f + length v) y

-- Another word in one of them.
size-put : (n : ℕ) (f : Contents) (c : ℕ) (w : Word) → c < n → size n (put f c w) + length (f c) ≡ size n f + length w
unfolding size
size-put zero f c w h = absurd (omega arith)
size-put (suc n) f c w h = go (either (eqb c n)) (size-put n f c w)
  where
    go : (eqb c n ≡ true) ⊎ (eqb c n ≡ false) → (c < n → size n (put f c w) + length (f c) ≡ size n f + length w)
        → size n (put f c w) + length (put f c w n) + length (f c) ≡ size n f + length (f n) + length w
    go (inl e) ih =
        let z = eqb-true c n e in
        let a = size-away n f c w (omega arith) in
        let b : length (put f c w n) ≡ length w = ap length (subst (λ (d : ℕ). put f c w d ≡ w) z (put_same f c w)) in
        let d : length (f c) ≡ length (f n) = ap (λ (x : ℕ). length (f x)) z in
        omega arith
    go (inr e) ih =
        let z = eqb-false c n e in
        let i = ih (omega arith) in
        let b : length (put f c w n) ≡ length (f n) = ap length (put_other f c w n (λ q. z (sym q))) in
        omega arith

pub size_none : (n : ℕ) → size n (λ c. []) ≡ 0
unfolding size
size_none zero = refl
size_none (suc n) = let i = size_none n in omega arith

-- ---- one move

Small : ℕ → Contents → Back → Type 0
Small n f b = length b.words + size n b.before ≤ size n f + 2

back-small : (n k : ℕ) (loop : Bool) (o : Operation) (j : ℕ) (f : Contents) → Ranged n k o → Small n f (back loop o j f)
unfolding back Small
back-small n k loop quiet j f g = omega arith
back-small n k loop (Operation.receive c m) j f g = let p = size-put n f c (m ∷ f c) g.0 in omega arith
back-small n k true (send c m) j f g =
    let s : Word = stripped m (f c) in
    let d : ℕ = length (f c) - length s in
    let p = size-put n f c s g.0 in
    let w : length (f c) ≡ length s + length (replicate d m) = ap length (strip-whole m (f c)) ∙ length-append s (replicate d m) in
    let r = length-replicate d m in
    let q = length-replicate d j in
    omega arith
back-small n k false (send c m) j f g = go (either (ends_with m (f c)))
  where
    go : (ends_with m (f c) ≡ true) ⊎ (ends_with m (f c) ≡ false) → Small n f (back false (send c m) j f)
    go (inl e) =
        let p = size-put n f c (all_but_last (f c)) g.0 in
        let w : length (f c) ≡ length (all_but_last (f c)) + 1 = ap length (ends_last m (f c) e) ∙ length-append (all_but_last (f c)) (m ∷ []) in
        subst (Small n f) (true-then _ _ _ e refl) (omega arith)
    go (inr e) = subst (Small n f) (true-else _ _ _ e refl) (omega arith)

module _ (S : System) (wm : WellMade S) where
  -- Going back over the move with number j, whether it is there or not.
  pub over-small : (j : ℕ) (f : Contents) → length (back_over S j f).words + size S.channels (back_over S j f).before ≤ size S.channels f + 2
  unfolding Small
  over-small j f = go (get_elem? S.moves j) refl
    where
      go : (u : Option Move) → get_elem? S.moves j ≡ u
          → Small S.channels f (elim u as (λ x. Back) [ none ↦ record { words = []; before = f } | some t ↦ back (self_loop_send t) t.operation j f ])
      go none a = omega arith
      go (some t) a = back-small S.channels S.messages (self_loop_send t) t.operation j f (wm.moves t ((mem-at S.moves t).1 (j, a))).operation

  module _ (room : ℕ) (l : List (Entry (frame_of S))) (rs : Rows (frame_of S) room (first_entry S) l) where
    Short : ℕ → Contents → List ℕ → List ℕ → Type 0
    Short i f ws us = length us ≤ length ws + size S.channels f + 2 * i

    rebuilt-short : (k i : ℕ) (e : Entry (frame_of S)) (f : Contents) (ws : List ℕ) → At l i e → Short i f ws (rebuilt S k l i f ws)
    unfolding rebuilt Short
    rebuilt-short zero i e f ws h = omega arith
    rebuilt-short (suc k) i e f ws h = go (λ d g us. rebuilt-short k e.parent d g us) (either (eqb i 0))
      where
        parent : ((d : Entry (frame_of S)) (g : Contents) (us : List ℕ) → At l e.parent d → Short e.parent g us (rebuilt S k l e.parent g us))
            → Linked (frame_of S) l i e → Short i f ws (rebuilt S k l e.parent (back_over S e.move f).before ((back_over S e.move f).words ++ ws))
        parent rest q =
            let b = back_over S e.move f in
            let s : length b.words + size S.channels b.before ≤ size S.channels f + 2 = over-small e.move f in
            let a = length-append b.words ws in
            let r : length (rebuilt S k l e.parent b.before (b.words ++ ws)) ≤ length (b.words ++ ws) + size S.channels b.before + 2 * e.parent = rest q.source b.before (b.words ++ ws) q.stands in
            omega (arith, q.earlier)

        there : (u : Option (Entry (frame_of S))) → get_elem? l i ≡ u → Short i f ws (rebuilt S k l e.parent (back_over S e.move f).before ((back_over S e.move f).words ++ ws))
            → Short i f ws (elim u as (λ x. List ℕ) [ none ↦ ws | some e ↦ rebuilt S k l e.parent (back_over S e.move f).before ((back_over S e.move f).words ++ ws) ])
        there none a g = absurd (none-ne-some e (sym a ∙ h))
        there (some d) a g =
            subst (λ (x : Entry (frame_of S)). Short i f ws (rebuilt S k l x.parent (back_over S x.move f).before ((back_over S x.move f).words ++ ws))) (at_same l i e d h a) g

        go : ((d : Entry (frame_of S)) (g : Contents) (us : List ℕ) → At l e.parent d → Short e.parent g us (rebuilt S k l e.parent g us))
            → (eqb i 0 ≡ true) ⊎ (eqb i 0 ≡ false) → Short i f ws (rebuilt S (suc k) l i f ws)
        go rest (inl q) = subst (Short i f ws) (eq-then _ _ _ _ (eqb-true i 0 q) refl) (omega arith)
        go rest (inr q) =
            let z = eqb-false i 0 q in
            subst (Short i f ws) (eq-else _ _ _ _ z refl) (there (get_elem? l i) refl (parent rest (rs.linked i e (omega arith) h)))

    -- THE RUN'S LENGTH: at most twice as many steps as there is room for rows.
    pub run_short : (i j : ℕ) → Met (frame_of S) l i j (λ o. bad_row S o ≡ true) → length (run_of S l i j) ≤ 2 * room
    unfolding Short Small
    run_short i j m =
        let b = back_over S j (λ c. []) in
        let s : length b.words + size S.channels b.before ≤ size S.channels (λ c. []) + 2 = over-small j (λ c. []) in
        let r : length (rebuilt S i l i b.before b.words) ≤ length b.words + size S.channels b.before + 2 * i = rebuilt-short i i m.source b.before b.words m.stands in
        let n = size_none S.channels in
        let k = at-below l i m.source m.stands in
        omega (arith, rs.few)
