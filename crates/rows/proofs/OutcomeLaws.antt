-- The outcome of a move from a row means exactly the configurations that the move and losses can leave.
use Rattle.std.proofs.Common.{◌≡◌, refl, sym, ap, subst, ◌∙◌, Bool, true, false, true≢false, ◌⊎◌, inl, inr, ◌↔◌, List, [], ◌∷◌, ◌++◌, append_assoc, append-nil, ℕ, zero, suc, ◌<◌, ◌≤◌, arith, eqb, replicate, eqb-true}
use mathlib.Core.Option.{Option, none, some, map, none-ne-some, some-injective}
use Rattle.common.proofs.BoolLaws.{either}
use Rattle.common.proofs.ChoiceLaws.{eq-then, eq-cases}
use Rattle.meaning.specs.Words.{Word, ◌⪯◌}
use Rattle.meaning.specs.Systems.{Operation, quiet, send, Move, Ranged, Contents, Config, put, Operates}
use Rattle.meaning.specs.Rows.{InRow}
use Rattle.meaning.specs.Outcomes.{Round, Rounds, more, self_loop_send, Leaves, once, rounds, Outcome}
use Rattle.meaning.proofs.WordLaws.{⪯-refl, ⪯-join, ⪯-trans, ⪯-same, replicate-snoc}
use Rattle.meaning.proofs.ProductLaws.{product-⪯}
use Rattle.meaning.proofs.PutLaws.{put_same, put_other, put-each, put_both, put-put, put_id}
use Rattle.meaning.proofs.LossLaws.{remains-refl}
use Rattle.meaning.proofs.RowLaws.{row-remains, lowest, lowest-in}
use Rattle.meaning.proofs.OutcomeLaws.{outcome-closed, rounds-source}
use Rattle.atoms.specs.Masks.{single_of, star_of}
use Rattle.atoms.specs.Products.{WordOf}
use Rattle.atoms.specs.Receive.{received}
use Rattle.atoms.proofs.SendLaws.{send-iff, rounds-iff}
use Rattle.atoms.proofs.ReceiveLaws.{After, receive-iff}
use Rattle.rows.specs.Rows.{Row, meant_row}
use Rattle.rows.specs.Outcomes.{sent_atom, after, outcome, InOutcome}

-- Every channel holds a word of its product.
abbrev pub Holds : (ℕ → List ℕ) → Contents → Type 0
Holds p f = (c : ℕ) → WordOf (p c) (f c)

abbrev pub HoldsIn : Option (ℕ → List ℕ) → Contents → Type 0
HoldsIn none f = ⊥
HoldsIn (some p) f = Holds p f

-- A new product and a new word at one channel.
put_holds : (p : ℕ → List ℕ) (f : Contents) (c : ℕ) (q : List ℕ) (w : Word) → WordOf q w → Holds p f → Holds (put p c q) (put f c w)
put_holds p f c q w i h = put_both (λ (q : List ℕ) (w : Word). WordOf q w) p f c i h

-- A new word at one channel; the word that stood there was one of another product.
pub put_word : (p : ℕ → List ℕ) (f : Contents) (c : ℕ) (q : List ℕ) (w : Word) → WordOf (p c) w → Holds (put p c q) f → Holds p (put f c w)
put_word p f c q w i h = put-each f c w (λ d v. WordOf (p d) v) i (λ d n. rw (put_other p c q d n) at (h d))

-- What stands at the channel of a new product.
pub at-put : (p : ℕ → List ℕ) (f : Contents) (c : ℕ) (q : List ℕ) → Holds (put p c q) f → WordOf q (f c)
at-put p f c q h = rw (put_same p c q) at (h c)

-- ---- what the operation makes is in the new products

module _ (p : ℕ → List ℕ) (c m : ℕ) (l : m < 15) where
  sent-in : (f : Contents) → Holds p f → Holds (put p c (p c ++ (single_of m ∷ []))) (put f c (f c ++ (m ∷ [])))
  sent-in f h = put_holds p f c _ _ ((send-iff m (p c) (f c ++ (m ∷ [])) l).1 (f c, h c, ⪯-refl (f c ++ (m ∷ [])))) h

  -- Of a self-loop send, none at all,
  rounds-none : (f : Contents) → Holds p f → Holds (put p c (p c ++ (star_of m ∷ []))) f
  rounds-none f h = subst (Holds (put p c (p c ++ (star_of m ∷ [])))) (put_id f c) (put_holds p f c _ (f c) ((rounds-iff m (p c) (f c) l).1 (f c, 0, h c, ⪯-same (sym (append-nil (f c))))) h)

  -- and one more.
  rounds-more : (f : Contents) → Holds (put p c (p c ++ (star_of m ∷ []))) f → Holds (put p c (p c ++ (star_of m ∷ []))) (put f c (f c ++ (m ∷ [])))
  rounds-more f h = put-each f c _ (λ d v. WordOf (put p c (p c ++ (star_of m ∷ [])) d) v) (rw (put_same p c (p c ++ (star_of m ∷ []))) here) (λ d n. h d)
    where
      here : WordOf (p c ++ (star_of m ∷ [])) (f c ++ (m ∷ []))
      here =
          let r = (rounds-iff m (p c) (f c) l).0 (at-put p f c _ h) in
          (rounds-iff m (p c) (f c ++ (m ∷ [])) l).1
          (r.0, suc r.1, r.2, ⪯-trans (⪯-join r.3 (⪯-refl (m ∷ []))) (⪯-same (append_assoc r.0 _ _ ∙ ap (r.0 ++◌) (replicate-snoc m r.1))))

received-in : (p : ℕ → List ℕ) (c m : ℕ) (f g : Contents) → f ≡ put g c (m ∷ g c) → Holds p f → HoldsIn (map (put p c) (received m (p c))) g
received-in p c m f g e h = go (received m (p c)) ((receive-iff m (p c) (g c)).1 (rw (ap (λ (k : Contents). k c) e ∙ put_same g c (m ∷ g c)) at (h c)))
  where
    back : put f c (g c) ≡ g
    back = ap (λ (k : Contents). put k c (g c)) e ∙ put-put g c (m ∷ g c) (g c) ∙ put_id g c

    go : (o : Option (List ℕ)) → After o (g c) → HoldsIn (map (put p c) o) g
    go none i = i
    go (some q) i = subst (Holds (put p c q)) back (put_holds p f c q (g c) i h)

operated-in : (n k : ℕ) (o : Operation) (p : ℕ → List ℕ) (f g : Contents) → Ranged n k o → k ≤ 15 → Operates o f g → Holds p f → HoldsIn (after false o p) g
unfolding after
operated-in n k quiet p f g r l e h = rw e h
operated-in n k (send c m) p f g r l e h = rw e (sent-in p c m (omega (arith, r.1)) f h)
operated-in n k (Operation.receive c m) p f g r l e h = received-in p c m f g e h

-- ---- what is in the new products, the operation and losses leave

-- The operation makes h of f, and losses leave g of h.
record Left (o : Operation) (p : ℕ → List ℕ) (g : Contents) : Type 0 where
  f : Contents
  h : Contents
  holds : Holds p f
  operates : Operates o f h
  remains : (c : ℕ) → g c ⪯ h c

sent-left : (p : ℕ → List ℕ) (c m : ℕ) (g : Contents) → m < 15 → Holds (put p c (p c ++ (single_of m ∷ []))) g → Left (send c m) p g
sent-left p c m g l i =
    let r = (send-iff m (p c) (g c) l).0 (at-put p g c _ i) in
    record {
      f = put g c r.0;
      h = put (put g c r.0) c (put g c r.0 c ++ (m ∷ []));
      holds = put_word p g c _ r.0 r.1 i;
      operates = refl;
      remains = rw (put-put g c r.0 (put g c r.0 c ++ (m ∷ [])), put_same g c r.0) (put-each g c (r.0 ++ (m ∷ [])) (λ d w. g d ⪯ w) r.2 (λ d n. ⪯-refl (g d)));
    }

received-left : (p : ℕ → List ℕ) (c m : ℕ) (g : Contents) → HoldsIn (map (put p c) (received m (p c))) g → Left (Operation.receive c m) p g
received-left p c m g i =
    record {
      f = put g c (m ∷ g c);
      h = g;
      holds = go (received m (p c)) (receive-iff m (p c) (g c)).0 i;
      operates = refl;
      remains = λ d. ⪯-refl (g d);
    }
  where
    go : (o : Option (List ℕ)) → (After o (g c) → WordOf (p c) (m ∷ g c)) → HoldsIn (map (put p c) o) g → Holds p (put g c (m ∷ g c))
    go none give i = absurd i
    go (some q) give i = put_word p g c q (m ∷ g c) (give (at-put p g c q i)) i

left : (n k : ℕ) (o : Operation) (p : ℕ → List ℕ) (g : Contents) → Ranged n k o → k ≤ 15 → HoldsIn (after false o p) g → Left o p g
unfolding after
left n k quiet p g r l i = record { f = g; h = g; holds = i; operates = refl; remains = λ d. ⪯-refl (g d) }
left n k (send c m) p g r l i = sent-left p c m g (omega (arith, r.1)) i
left n k (Operation.receive c m) p g r l i = received-left p c m g i

-- ---- moves, by their parts

abbrev made : ℕ → ℕ → Operation → Move
made a b o = record { source = a; target = b; operation = o }

abbrev at : ℕ → Contents → Config
at s f = record { state = s; contents = f }

abbrev In : Row → Config → Type 0
In r x = InRow (meant_row r) x

-- A move that is no self-loop send, once.
once-left : (n k a b : ℕ) (o : Operation) (r : Row) (y : Config) → Ranged n k o → k ≤ 15 → r.state ≡ a → y.state ≡ b → self_loop_send (made a b o) ≡ false
    → HoldsIn (after false o r.products) y.contents → Outcome (made a b o) (In r) y
once-left n k a b o r y g l e s q i =
    let v = left n k o r.products y.contents g l i in
    record {
      from = at a v.f;
      inside = record { state = sym e; words = v.holds };
      leaves = once q (record {
        ready = at a v.f;
        moved = at b v.h;
        early = remains-refl (at a v.f);
        moves = record { source = refl; target = refl; operates = v.operates };
        late = record { state = s; words = v.remains };
      });
    }

-- k rounds of a self-loop send with no loss.
rounds-of : (a c m : ℕ) (g : Contents) (u : Word) (k : ℕ) → Rounds (made a a (send c m)) (at a (put g c u)) (at a (put g c (u ++ replicate k m)))
rounds-of a c m g u zero = rw (append-nil u) (Rounds.none refl)
rounds-of a c m g u (suc k) =
    more (rounds-of a c m g u k) (record {
      ready = at a (put g c (u ++ replicate k m));
      moved = at a (put g c (u ++ replicate (suc k) m));
      early = remains-refl _;
      moves = record { source = refl; target = refl; operates = one_more };
      late = remains-refl _;
    })
  where
    one_more : put g c (u ++ replicate (suc k) m) ≡ put (put g c (u ++ replicate k m)) c (put g c (u ++ replicate k m) c ++ (m ∷ []))
    one_more = rw (put_same g c (u ++ replicate k m), put-put g c, append_assoc u (replicate k m) (m ∷ []), replicate-snoc m k) refl

rounds-left : (a c m : ℕ) (r : Row) (y : Config) → m < 15 → r.state ≡ a → y.state ≡ a → self_loop_send (made a a (send c m)) ≡ true
    → Holds (put r.products c (r.products c ++ (star_of m ∷ []))) y.contents → Outcome (made a a (send c m)) (In r) y
rounds-left a c m r y l e s q i =
    let g = y.contents in
    let v = (rounds-iff m (r.products c) (g c) l).0 (at-put r.products g c _ i) in
    outcome-closed (made a a (send c m)) (In r) (λ x z k j. row-remains k j) (at a (put g c (v.0 ++ replicate v.1 m))) y
    (record { state = s; words = put-each g c _ (λ d w. g d ⪯ w) v.3 (λ d n. ⪯-refl (g d)) })
    (record {
      from = at a (put g c v.0);
      inside = record { state = sym e; words = put_word r.products g c _ v.0 v.2 i };
      leaves = rounds q (rounds-of a c m g v.0 v.1);
    })

-- ---- the outcome, both ways, by the operation

there : (n k a b : ℕ) (o : Operation) (r : Row) (y : Config) → Ranged n k o → k ≤ 15 → r.state ≡ a → y.state ≡ b
    → HoldsIn (after (self_loop_send (made a b o)) o r.products) y.contents → Outcome (made a b o) (In r) y
unfolding after
there n k a b quiet r y g l e s i = once-left n k a b quiet r y g l e s refl i
there n k a b (Operation.receive c m) r y g l e s i = once-left n k a b (Operation.receive c m) r y g l e s refl i
there n k a b (send c m) r y g l e s i = go (either (eqb a b))
  where
    go : (eqb a b ≡ true) ⊎ (eqb a b ≡ false) → Outcome (made a b (send c m)) (In r) y
    go (inl x) =
        let z = eqb-true a b x in
        subst (λ (d : ℕ). Outcome (made a d (send c m)) (In r) y) z
        (rounds-left a c m r y (omega (arith, g.1)) e (s ∙ sym z) (subst (λ (d : ℕ). eqb a d ≡ true) (sym z) x)
        (subst (λ (t : Bool). Holds (put r.products c (r.products c ++ (sent_atom t m ∷ []))) y.contents) x i))
    go (inr x) = once-left n k a b (send c m) r y g l e s x (subst (λ (t : Bool). Holds (put r.products c (r.products c ++ (sent_atom t m ∷ []))) y.contents) x i)

rounds-in : {a b c m : ℕ} {x y : Config} (p : ℕ → List ℕ) → m < 15 → a ≡ b → Rounds (made a b (send c m)) x y → Holds p x.contents
    → (y.state ≡ b) × Holds (put p c (p c ++ (star_of m ∷ []))) y.contents
rounds-in {c = c} {m = m} {x = x} p l e (Rounds.none s) h = (s ∙ e, rounds-none p c m l x.contents h)
rounds-in {c = c} {m = m} p l e (more {y = y} q d) h =
    let i = rounds-in p l e q h in
    let ready : Holds (put p c (p c ++ (star_of m ∷ []))) d.ready.contents = λ b. product-⪯ (d.early.words b) (i.1 b) in
    (d.late.state ∙ d.moves.target, λ b. product-⪯ (d.late.words b) (subst (Holds (put p c (p c ++ (star_of m ∷ [])))) (sym d.moves.operates) (rounds-more p c m l d.ready.contents ready) b))

-- What a round of a move leaves.
round-in : (n k : ℕ) {a b : ℕ} (o : Operation) {x y : Config} (p : ℕ → List ℕ) → Ranged n k o → k ≤ 15 → Round (made a b o) x y → Holds p x.contents
    → (y.state ≡ b) × HoldsIn (after false o p) y.contents
round-in n k o p g l d h = (
  d.late.state ∙ d.moves.target,
  lossy (after false o p) d.late.words (operated-in n k o p d.ready.contents d.moved.contents g l d.moves.operates (λ c. product-⪯ (d.early.words c) (h c))),
)
  where
    lossy : (q : Option (ℕ → List ℕ)) {f g : Contents} → ((c : ℕ) → g c ⪯ f c) → HoldsIn q f → HoldsIn q g
    lossy none l i = i
    lossy (some q) l i = λ c. product-⪯ (l c) (i c)

back : (n k a b : ℕ) (o : Operation) (p : ℕ → List ℕ) {x y : Config} → Ranged n k o → k ≤ 15 → Holds p x.contents → Leaves (made a b o) x y
    → (y.state ≡ b) × HoldsIn (after (self_loop_send (made a b o)) o p) y.contents
unfolding after
back n k a b o p {y = y} g l h (once e d) = let r = round-in n k o p g l d h in (r.0, subst (λ (t : Bool). HoldsIn (after t o p) y.contents) (sym e) r.1)
back n k a b quiet p g l h (rounds e q) = absurd (true≢false (sym e))
back n k a b (Operation.receive c m) p g l h (rounds e q) = absurd (true≢false (sym e))
back n k a b (send c m) p {y = y} g l h (rounds e q) =
    let r = rounds-in p (omega (arith, g.1)) (eqb-true a b e) q h in
    (r.0, subst (λ (t : Bool). Holds (put p c (p c ++ (sent_atom t m ∷ []))) y.contents) (sym e) r.1)

-- ---- the outcome of a move from a row

-- A move starts in its source.
leaves-source : {t : Move} {x y : Config} → Leaves t x y → x.state ≡ t.source
leaves-source (once e d) = sym d.early.state ∙ d.moves.source
leaves-source (rounds e q) = rounds-source q

map-in : (o : Option (ℕ → List ℕ)) (s : ℕ) (y : Config) → y.state ≡ s → HoldsIn o y.contents → InOutcome (map (λ p. record { state = s; products = p }) o) y
map-in none s y e i = i
map-in (some p) s y e i = record { state = e; words = i }

map-out : (o : Option (ℕ → List ℕ)) (s : ℕ) (y : Config) → InOutcome (map (λ p. record { state = s; products = p }) o) y → (y.state ≡ s) × HoldsIn o y.contents
map-out none s y i = absurd i
map-out (some p) s y i = (i.state, i.words)

module _ (t : Move) (r : Row) where
  abbrev new : Option (ℕ → List ℕ)
  new = after (self_loop_send t) t.operation r.products

  -- An outcome that is there: the move starts in the row's state, its operation leaves the products, and it ends in the target.
  pub outcome-parts : (s : Row) → outcome t r ≡ some s
      → (r.state ≡ t.source) × (q : ℕ → List ℕ) × (after (self_loop_send t) t.operation r.products ≡ some q) × (record { state = t.target; products = q } ≡ s)
  unfolding outcome
  outcome-parts s e = go (eq-cases _ _ _ _ e)
    where
      there : (u : Option (ℕ → List ℕ)) → new ≡ u → map (λ p. record { state = t.target; products = p }) u ≡ some s
          → (q : ℕ → List ℕ) × (new ≡ some q) × (record { state = t.target; products = q } ≡ s)
      there none a e = absurd (none-ne-some s e)
      there (some q) a e = (q, a, some-injective _ _ e)

      go : ((r.state ≡ t.source) × (map (λ p. record { state = t.target; products = p }) new ≡ some s)) ⊎ ((r.state ≡ t.source → ⊥) × (none ≡ some s))
          → (r.state ≡ t.source) × (q : ℕ → List ℕ) × (new ≡ some q) × (record { state = t.target; products = q } ≡ s)
      go (inl h) = let u = there new refl h.1 in (h.0, u.0, u.1, u.2)
      go (inr h) = absurd (none-ne-some s h.1)

module _ (n k : ℕ) (t : Move) (r : Row) (g : Ranged n k t.operation) (l : k ≤ 15) where
  -- THE OUTCOME: its configurations are exactly those that the move and losses leave of a configuration of the row; of a self-loop send, any
  -- number of rounds of it.
  pub outcome-iff : (y : Config) → InOutcome (outcome t r) y ↔ Outcome t (In r) y
  unfolding outcome
  outcome-iff y = (λ i. go (eq-cases _ _ _ _ refl) i, λ o. come o)
    where
      row : Option Row
      row = map (λ p. record { state = t.target; products = p }) (new t r)

      go : ((r.state ≡ t.source) × (row ≡ outcome t r)) ⊎ ((r.state ≡ t.source → ⊥) × (none ≡ outcome t r)) → InOutcome (outcome t r) y → Outcome t (In r) y
      go (inl h) i =
          let m = map-out (new t r) t.target y (subst (λ (o : Option Row). InOutcome o y) (sym h.1) i) in
          there n k t.source t.target t.operation r y g l h.0 m.0 m.1
      go (inr h) i = absurd (subst (λ (o : Option Row). InOutcome o y) (sym h.1) i)

      come : Outcome t (In r) y → InOutcome (outcome t r) y
      come o =
          let b = back n k t.source t.target t.operation r.products g l o.inside.words o.leaves in
          subst (λ (u : Option Row). InOutcome u y) (eq-then _ _ _ _ (sym o.inside.state ∙ leaves-source o.leaves) refl) (map-in (new t r) t.target y b.0 b.1)

  -- There is none exactly when the move leaves nothing.
  pub impossible-iff : (outcome t r ≡ none) ↔ ((y : Config) → Outcome t (In r) y → ⊥)
  impossible-iff = (λ e y o. subst (λ (u : Option Row). InOutcome u y) e ((outcome-iff y).1 o), λ f. go (outcome t r) refl f)
    where
      go : (u : Option Row) → outcome t r ≡ u → ((y : Config) → Outcome t (In r) y → ⊥) → outcome t r ≡ none
      go none e f = e
      go (some s) e f = absurd (f (lowest (meant_row s)) ((outcome-iff (lowest (meant_row s))).0 (subst (λ (u : Option Row). InOutcome u (lowest (meant_row s))) (sym e) (lowest-in (meant_row s)))))
