-- What `find_map` answers of a closure that a call leaves as it was: the first answer that is some.
use Rattle.std.proofs.Common.{◌≡◌, refl, sym, subst, ◌∙◌, List, [], ◌∷◌, ℕ, zero, suc, ◌+◌, ◌<◌, arith, Option, Some, None}
use Rattle.std.specs.Prelude.{IsSomeAnd, IfSome, MatchOption, IsTrue, slice_get}
use Rattle.std.specs.Iterator.{Yields, AlwaysYields}
use Rattle.std.specs.Iterator.Runs.{SomeRun, YieldsRun, AllItemsGive, IsFirstToGive, CallKeepsClosure}
use Rattle.std.proofs.lemmas.Iterator.{YieldsList}
use denote.Param.Members.{Mut, Called}

module _ {A B : Type 0} (a : A → Option B) where
  -- The first answer that is some, of a at each of a list.
  unfoldable pub first_some : List A → Option B
  first_some [] = None
  first_some (x ∷ xs) = elim (a x) as (λ r. Option B) [ None ↦ first_some xs | Some b ↦ Some b ]

  passes : (x : A) (xs : List A) → None ≡ a x → first_some xs ≡ first_some (x ∷ xs)
  unfolding first_some
  passes x xs e = subst (λ r. first_some xs ≡ elim r as (λ q. Option B) [ None ↦ first_some xs | Some b ↦ Some b ]) e refl

  stops : (x : A) (xs : List A) (b : B) → Some b ≡ a x → Some b ≡ first_some (x ∷ xs)
  unfolding first_some
  stops x xs b e = subst (λ r. Some b ≡ elim r as (λ q. Option B) [ None ↦ first_some xs | Some b ↦ Some b ]) e refl

  module _ {S : Type 0} (steps : S → Option A → S → Type 0) where
    -- Calls of an iterator over ys gave xs. None of them has an answer, and no more came: none of ys has.
    none-of : (ys xs : List A) (s t u : S) → AlwaysYields steps (λ x. x) s ys → Yields steps s xs t → steps t None u → ((k : ℕ) → IfSome (slice_get xs k) (λ x. None ≡ a x)) → None ≡ first_some ys
    unfolding first_some
    none-of [] [] s t u e z n h = refl
    none-of [] (x ∷ xs) s t u e z n h = absurd (e x z.0 z.1)
    none-of (y ∷ ys) [] s t u e z n h = absurd (e.0 u (subst (λ j. steps j None u) (sym z) n))
    none-of (y ∷ ys) (x ∷ xs) s t u e z n h =
        let m = e.1 x z.0 z.1 in
        none-of ys xs z.0 t u m.1 z.2 n (λ k. h (suc k)) ∙ passes y ys (subst (λ i. None ≡ a i) m.0 (h 0))

    -- Item i of xs is the first that has one: it is the first of ys too.
    some-of : (ys xs : List A) (s t : S) → AlwaysYields steps (λ x. x) s ys → Yields steps s xs t → (b : B) (i : ℕ) → IsSomeAnd (slice_get xs i) (λ x. Some b ≡ a x)
        → ((k : ℕ) → k < i → IsSomeAnd (slice_get xs k) (λ x. None ≡ a x)) → Some b ≡ first_some ys
    some-of ys [] s t e z b i h l = absurd h
    some-of [] (x ∷ xs) s t e z b i h l = absurd (e x z.0 z.1)
    some-of (y ∷ ys) (x ∷ xs) s t e z b zero h l = let m = e.1 x z.0 z.1 in stops y ys b (subst (λ i. Some b ≡ a i) m.0 h)
    some-of (y ∷ ys) (x ∷ xs) s t e z b (suc i) h l =
        let m = e.1 x z.0 z.1 in
        some-of ys xs z.0 t m.1 z.2 b i h (λ k q. l (suc k) (omega arith)) ∙ passes y ys (subst (λ i. None ≡ a i) m.0 (l 0 (omega arith)))

    module _ {F : Type 0} (g : Mut F (A × Unit {0}) (Option B)) (f : F) where
      -- A call answers a, and leaves the closure as it was.
      abbrev Tells : Type 0
      Tells = (x : A) (r : Option B) (h : F) → Called g f (x, tt) r h → (h ≡ f) × (r ≡ a x)

      keeps : Tells → CallKeepsClosure g f
      keeps tells x r h c = (tells x.0 r h c).0

      pub mapped-first : (r : Option B) {s : S} {ys : List A}
          → SomeRun steps s (λ p. MatchOption r (IsTrue p.whole × AllItemsGive p g f None) (λ y. (i : ℕ) × (i < p.len) × (p.len ≡ i + 1) × IsFirstToGive p g f (Some y) None i))
          → YieldsList steps (λ x. x) s ys → Tells → r ≡ first_some ys
      unfolding YieldsRun
      mapped-first None {s = s} {ys = ys} w l tells =
          let p = w.0 in
          let d = p.gave.0 in
          let end = d.2 w.2.0 in
          none-of ys p.items s d.0 end.0 l.runs (subst (λ j. Yields steps j p.items d.0) w.1 d.1) end.1
          (λ k. subst (λ o. IfSome o (λ x. None ≡ a x)) (p.gave.1 k) (each (p.at k) (w.2.1 (keeps tells) k)))
        where
          each : (o : Option A) → IfSome o (λ x. Called g f (x, tt) None f) → IfSome o (λ x. None ≡ a x)
          each None h = h
          each (Some x) h = (tells x None f h).1
      mapped-first (Some b) {s = s} {ys = ys} w l tells =
          let p = w.0 in
          let d = p.gave.0 in
          let i = w.2.0 in
          let q = w.2.3 (keeps tells) in
          some-of ys p.items s d.0 l.runs (subst (λ j. Yields steps j p.items d.0) w.1 d.1) b i
          (subst (λ o. IsSomeAnd o (λ x. Some b ≡ a x)) (p.gave.1 i) (there (Some b) (p.at i) q.0))
          (λ k n. subst (λ o. IsSomeAnd o (λ x. None ≡ a x)) (p.gave.1 k) (there None (p.at k) (q.1 k n)))
        where
          there : (r : Option B) (o : Option A) → IsSomeAnd o (λ x. Called g f (x, tt) r f) → IsSomeAnd o (λ x. r ≡ a x)
          there r None h = h
          there r (Some x) h = (tells x r f h).1
