-- Going back over one move: what is needed before it is in the row's products, and its words play to what is needed after it.
use mathlib.Core.Path.{◌≡◌, refl, sym, ap, subst, ◌∙◌}
use mathlib.Core.Bool.{Bool, true, false}
use mathlib.Core.Logic.{◌⊎◌, inl, inr}
use mathlib.Core.List.{List, [], ◌∷◌, ◌++◌, append_assoc, append-nil}
use mathlib.Core.Option.{Option, none, some, map}
use Prim.Native.Nat.{ℕ, zero, suc, ◌+◌, ◌-◌, ◌<◌, ◌≤◌}
use native.Mathlib.Nat.{mod-eq_of_lt}
use native.Mathlib.Omega.{arith}
use lib.Dec.{eqb}
use lib.ListN.{length, replicate}
use borrow.Author.Tests.{eqb-true, lt-ltb, le-ltb}
use Rattle.common.proofs.AtLaws.{At}
use Rattle.common.proofs.BoolLaws.{either}
use Rattle.common.proofs.ChoiceLaws.{true-then, true-else, eq-then}
use Rattle.meaning.specs.Words.{Word, ◌⪯◌}
use Rattle.meaning.specs.Systems.{Operation, quiet, send, Move, System, Ranged, Contents, Config, put}
use Rattle.meaning.specs.Outcomes.{self_loop_send}
use Rattle.meaning.proofs.WordLaws.{⪯-trans}
use Rattle.meaning.proofs.ProductLaws.{product-⪯}
use Rattle.meaning.proofs.PutLaws.{put_same, put-put, put_id}
use Rattle.atoms.specs.Masks.{star_of, single_of}
use Rattle.atoms.specs.Products.{WordOf}
use Rattle.atoms.specs.Receive.{received}
use Rattle.atoms.proofs.SendLaws.{send-iff, rounds-iff}
use Rattle.atoms.proofs.ReceiveLaws.{After, receive-iff}
use Rattle.rows.specs.Outcomes.{after}
use Rattle.rows.proofs.OutcomeLaws.{Holds, HoldsIn, put_word, at-put}
use Rattle.playing.specs.Play.{number, taken, operated, play_move}
use Rattle.playing.proofs.PlayLaws.{front-taken, Plays, plays-none, plays-then, plays-one}
use Rattle.findings.specs.Rebuild.{ends_with, all_but_last, stripped, Back, back}
use Rattle.findings.proofs.EndLaws.{ends_last, strip-whole, strip-ends, strip-⪯, unended-⪯, unended-rounds, ended-⪯}

-- ---- what is needed before is in the row

received-needs : (p : ℕ → List ℕ) (c m : ℕ) (f : Contents) → HoldsIn (map (put p c) (received m (p c))) f → Holds p (put f c (m ∷ f c))
received-needs p c m f i = go (received m (p c)) (receive-iff m (p c) (f c)).0 i
  where
    go : (o : Option (List ℕ)) → (After o (f c) → WordOf (p c) (m ∷ f c)) → HoldsIn (map (put p c) o) f → Holds p (put f c (m ∷ f c))
    go none give i = absurd i
    go (some q) give i = put_word p f c q (m ∷ f c) (give (at-put p f c q i)) i

sent-needs : (p : ℕ → List ℕ) (c m j : ℕ) (f : Contents) → m < 15 → Holds (put p c (p c ++ (single_of m ∷ []))) f → Holds p (back false (send c m) j f).before
unfolding back
sent-needs p c m j f l i = go (either (ends_with m (f c)))
  where
    r : (x : Word) × WordOf (p c) x × (f c ⪯ x ++ (m ∷ []))
    r = (send-iff m (p c) (f c) l).0 (at-put p f c _ i)

    Needs : Back → Type 0
    Needs b = Holds p b.before

    go : (ends_with m (f c) ≡ true) ⊎ (ends_with m (f c) ≡ false) → Needs (back false (send c m) j f)
    go (inl e) = subst Needs (true-then _ _ _ e refl) (put_word p f c _ (all_but_last (f c)) (product-⪯ (ended-⪯ (f c) r.0 m e r.2) r.1) i)
    go (inr e) = subst Needs (true-else _ _ _ e refl) (subst (Holds p) (put_id f c) (put_word p f c _ (f c) (product-⪯ (unended-⪯ (f c) r.0 m e r.2) r.1) i))

rounds-needs : (p : ℕ → List ℕ) (c m j : ℕ) (f : Contents) → m < 15 → Holds (put p c (p c ++ (star_of m ∷ []))) f → Holds p (back true (send c m) j f).before
unfolding back
rounds-needs p c m j f l i =
    let r = (rounds-iff m (p c) (f c) l).0 (at-put p f c _ i) in
    put_word p f c _ (stripped m (f c)) (product-⪯ (unended-rounds (stripped m (f c)) r.0 m r.1 (strip-ends m (f c)) (⪯-trans (strip-⪯ m (f c)) r.3)) r.2) i

pub back-needs : (n k : ℕ) (loop : Bool) (o : Operation) (j : ℕ) (p : ℕ → List ℕ) (f : Contents) → Ranged n k o → k ≤ 15 → HoldsIn (after loop o p) f → Holds p (back loop o j f).before
unfolding back after
back-needs n k loop quiet j p f g l i = i
back-needs n k loop (Operation.receive c m) j p f g l i = received-needs p c m f i
back-needs n k true (send c m) j p f g l i = rounds-needs p c m j f (omega (arith, g.1)) i
back-needs n k false (send c m) j p f g l i = sent-needs p c m j f (omega (arith, g.1)) i

-- ---- the words play

abbrev made : ℕ → ℕ → Operation → Move
made a b o = record { source = a; target = b; operation = o }

abbrev at : ℕ → Contents → Config
at s f = record { state = s; contents = f }

played : (gone : Bool) (a b : ℕ) (o : Operation) (f g : Contents) → operated gone o f ≡ some g → play_move gone (made a b o) (at a f) ≡ some (at b g)
unfolding play_move
played gone a b o f g e = sym (eq-then _ _ _ _ refl (sym (ap (map (λ f. at b f)) e)))

module _ (S : System) (j : ℕ) (l : j < 32768) where
  -- A kept word, and a lost one.
  plays-kept : (a b : ℕ) (o : Operation) (f g : Contents) → At S.moves j (made a b o) → operated false o f ≡ some g → Plays S (j ∷ []) (at a f) (at b g)
  plays-kept a b o f g h e =
      let n : number j ≡ j = mod-eq_of_lt l in
      plays-one S j (made a b o) (at a f) (at b g) (subst (λ (i : ℕ). At S.moves i (made a b o)) (sym n) h)
      (subst (λ (x : Bool). play_move x (made a b o) (at a f) ≡ some (at b g)) (sym (le-ltb 32767 j (omega arith))) (played false a b o f g e))

  plays-lost : (a b : ℕ) (o : Operation) (f g : Contents) → At S.moves j (made a b o) → operated true o f ≡ some g → Plays S ((j + 32768) ∷ []) (at a f) (at b g)
  plays-lost a b o f g h e =
      let n : number (j + 32768) ≡ j = omega arith in
      plays-one S (j + 32768) (made a b o) (at a f) (at b g) (subst (λ (i : ℕ). At S.moves i (made a b o)) (sym n) h)
      (subst (λ (x : Bool). play_move x (made a b o) (at a f) ≡ some (at b g)) (sym (lt-ltb 32767 (j + 32768) (omega arith))) (played true a b o f g e))

  -- k kept sends of a self-loop.
  plays-rounds : (a c m : ℕ) (f : Contents) (s : Word) (k : ℕ) → At S.moves j (made a a (send c m)) → Plays S (replicate k j) (at a (put f c s)) (at a (put f c (s ++ replicate k m)))
  unfolding operated
  plays-rounds a c m f s zero h = subst (λ (w : Word). Plays S [] (at a (put f c s)) (at a (put f c w))) (sym (append-nil s)) (plays-none S (at a (put f c s)))
  plays-rounds a c m f s (suc k) h =
      plays-then S (j ∷ []) (replicate k j) (at a (put f c s)) (at a (put f c (s ++ (m ∷ [])))) (at a (put f c (s ++ replicate (suc k) m)))
      (plays-kept a a (send c m) (put f c s) (put f c (s ++ (m ∷ []))) h (ap some (put-put f c s _ ∙ ap (λ (w : Word). put f c (w ++ (m ∷ []))) (put_same f c s))))
      (subst (λ (w : Word). Plays S (replicate k j) (at a (put f c (s ++ (m ∷ [])))) (at a (put f c w))) (append_assoc s (m ∷ []) (replicate k m)) (plays-rounds a c m f (s ++ (m ∷ [])) k h))

  -- What a move becomes plays from what is needed before it to what is needed after it.
  pub back-plays : (a b : ℕ) (o : Operation) (f : Contents) → At S.moves j (made a b o)
      → Plays S (back (self_loop_send (made a b o)) o j f).words (at a (back (self_loop_send (made a b o)) o j f).before) (at b f)
  unfolding back operated
  back-plays a b quiet f h = plays-kept a b quiet f f h refl
  back-plays a b (Operation.receive c m) f h = plays-kept a b (Operation.receive c m) (put f c (m ∷ f c)) f h head
    where
      head : map (put (put f c (m ∷ f c)) c) (taken m (put f c (m ∷ f c) c)) ≡ some f
      head =
          ap (λ (w : Word). map (put (put f c (m ∷ f c)) c) (taken m w)) (put_same f c (m ∷ f c)) ∙ ap (map (put (put f c (m ∷ f c)) c)) (front-taken m (f c))
          ∙ ap some (put-put f c (m ∷ f c) (f c) ∙ put_id f c)
  back-plays a b (send c m) f h = go (either (eqb a b)) (either (ends_with m (f c)))
    where
      Goal : Bool → Type 0
      Goal x = Plays S (back x (send c m) j f).words (at a (back x (send c m) j f).before) (at b f)

      Sent : Back → Type 0
      Sent q = Plays S q.words (at a q.before) (at b f)

      go : (eqb a b ≡ true) ⊎ (eqb a b ≡ false) → (ends_with m (f c) ≡ true) ⊎ (ends_with m (f c) ≡ false) → Goal (eqb a b)
      go (inl x) e =
          let z = eqb-true a b x in
          let k : ℕ = length (f c) - length (stripped m (f c)) in
          let h2 = subst (λ (d : ℕ). At S.moves j (made a d (send c m))) (sym z) h in
          let ends : put f c (stripped m (f c) ++ replicate k m) ≡ f = ap (put f c) (sym (strip-whole m (f c))) ∙ put_id f c in
          subst Goal (sym x)
          (subst (λ (g : Contents). Plays S (replicate k j) (at a (put f c (stripped m (f c)))) (at b g)) ends
          (subst (λ (d : ℕ). Plays S (replicate k j) (at a (put f c (stripped m (f c)))) (at d (put f c (stripped m (f c) ++ replicate k m)))) z (plays-rounds a c m f (stripped m (f c)) k h2)))
      go (inr x) (inl e) =
          subst Goal (sym x) (subst Sent (true-then _ _ _ e refl)
          (plays-kept a b (send c m) (put f c (all_but_last (f c))) f h
          (ap some (put-put f c (all_but_last (f c)) _ ∙ ap (λ (w : Word). put f c (w ++ (m ∷ []))) (put_same f c (all_but_last (f c))) ∙ ap (put f c) (sym (ends_last m (f c) e)) ∙ put_id f c))))
      go (inr x) (inr e) = subst Goal (sym x) (subst Sent (true-else _ _ _ e refl) (plays-lost a b (send c m) f f h refl))
