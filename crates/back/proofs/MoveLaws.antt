-- Going back over a move, in local memory.
use Rattle.std.proofs.Common.{◌≡◌, refl, sym, ap, subst, ◌∙◌, Bool, true, false, not, List, [], ◌∷◌, ◌++◌, ℕ, suc, ◌+◌, ◌-◌, ◌<◌, ◌≤◌, arith, length, replicate, length-append, eq-eqb, ne_eqb, mod-eq_of_lt}
use Rattle.std.proofs.Math.ListN.{length-replicate}
use Rattle.common.specs.Choice.{if_true}
use Rattle.common.proofs.ChoiceLaws.{true-then, true-else}
use Rattle.meaning.specs.Words.{Word}
use Rattle.meaning.specs.Systems.{send, Contents, put, Ranged}
use Rattle.meaning.specs.Outcomes.{self_loop_send}
use Rattle.meaning.proofs.PutLaws.{put_same, put-put, put_id}
use Rattle.table.specs.Systems.{GoodTable, system_of}
use Rattle.table.specs.Transitions.{operation_of, move_of, transition_at}
use Rattle.table.specs.declared.checks.Shape.{Shape}
use Rattle.table.specs.declared.transitions.Operation.TheVariants.{Quiet, Send, Receive}
use Rattle.table.specs.declared.transitions.Transition.{Transition}
use Rattle.table.proofs.GoodLaws.{few-transitions}
use Rattle.table.proofs.SystemLaws.{move-at, transition-ranged}
use Rattle.playing.specs.Play.{word_of}
use Rattle.findings.specs.Rebuild.{Back, back, back_over, ends_with, all_but_last, stripped}
use Rattle.findings.proofs.EndLaws.{ends_last, strip-whole, strip-snoc, strip-none}
use Rattle.back.specs.declared.moves.Rebuilding.{Rebuilding}
use Rattle.back.specs.declared.needs.Needs.{Needs}
use Rattle.back.specs.declared.tails.Tail.{Tail}
use Rattle.back.specs.Needs.{needed, Needed, DropLast, standing, Pushed, Went}

pub needed-more : (n k : ℕ) (q : Needs) → Needed n q → n ≤ k → Needed k q
needed-more n k q u h =
    record { room = u.room; pairs = u.pairs; order = u.order; high = u.high; low = λ c l. let r = u.low c l in omega arith }

-- ---- a move that is one word

module _ {b : Back} {y : ℕ} {f : Contents} (e : b ≡ record { words = y ∷ []; before = f }) (a : Rebuilding) where
  pub one-room : length b.words ≤ a.run.at → 0 < a.run.at
  one-room h = let n : length b.words ≡ 1 = ap (λ (b : Back). length b.words) e in omega arith

  pub one-went : {q : Needs} {v : Tail} → needed q ≡ f → ((n : ℕ) → Needed n a.needs → Needed (n + 1) q) → Pushed y a.run v → Went b a (record { needs = q; run = v })
  one-went {q} {v} g k u =
      subst (λ (b : Back). Went b a (record { needs = q; run = v })) (sym e) (record { words = u.words; place = omega (arith, u.place); before = g; keeps = k })

-- ---- a self-loop send, from a, with the run word x: up to here it has become b, and the channel must hold the rest of its whole word

strip-fewer : (m : ℕ) (w : Word) → length (stripped m w) ≤ length w
strip-fewer m w =
    let d : ℕ = length w - length (stripped m w) in
    let a : length w ≡ length (stripped m w) + length (replicate d m) = ap length (strip-whole m w) ∙ length-append (stripped m w) (replicate d m) in
    omega arith

module _ (c m x : ℕ) (a : Rebuilding) where
  abbrev whole : Word
  whole = needed a.needs c

  pub record Stripping (b : Rebuilding) : Type 0 where
    pub keeps : (n : ℕ) → Needed n a.needs → Needed n b.needs
    pub same : stripped m (needed b.needs c) ≡ stripped m whole
    pub only : needed b.needs ≡ put (needed a.needs) c (needed b.needs c)
    pub fewer : length (needed b.needs c) ≤ length whole
    pub place : b.run.at + (length whole - length (needed b.needs c)) ≡ a.run.at
    pub words : standing b.run ≡ replicate (length whole - length (needed b.needs c)) x ++ standing a.run

  pub stripping-starts : Stripping a
  stripping-starts =
      let z : length whole - length whole ≡ 0 = omega arith in
      record { keeps = λ n u. u; same = refl; only = sym (put_id (needed a.needs) c); fewer = omega arith; place = omega arith; words = rw z }

  module _ {b : Rebuilding} (k : Stripping b) where
    abbrev rest : Word
    rest = needed b.needs c

    -- The word ends in m: there is one less.
    module _ {d : Needs} {r : Bool} (t : r ≡ true) (l : DropLast c m b.needs d r) where
      ended : rest ≡ all_but_last rest ++ (m ∷ [])
      ended = ends_last m rest (sym l.stood ∙ t)

      less : length rest ≡ length (all_but_last rest) + 1
      less = ap length ended ∙ length-append (all_but_last rest) (m ∷ [])

      left : needed d ≡ put (needed b.needs) c (all_but_last rest)
      left = l.left ∙ sym (true-then _ _ _ t refl)

      there : needed d c ≡ all_but_last rest
      there = ap (λ (h : Contents). h c) left ∙ put_same (needed b.needs) c (all_but_last rest)

      same-strip : stripped m (all_but_last rest) ≡ stripped m whole
      same-strip = sym (strip-snoc m (all_but_last rest)) ∙ ap (stripped m) (sym ended) ∙ k.same

      pub stripping-room : length whole - length (stripped m whole) ≤ a.run.at → 0 < b.run.at
      stripping-room h =
          let i = strip-fewer m (all_but_last rest) in
          let j : length (stripped m (all_but_last rest)) ≡ length (stripped m whole) = ap length same-strip in
          omega (arith, less, k.place, k.fewer)

      pub stripping-on : {v : Tail} → Pushed x b.run v → Stripping (record { needs = d; run = v })
      stripping-on u =
          let n : length whole - length (needed d c) ≡ suc (length whole - length rest) = omega (arith, ap length there, less, k.fewer) in
          record {
            keeps = λ n q. l.keeps n (k.keeps n q);
            same = ap (stripped m) there ∙ same-strip;
            only =
                left ∙ ap (λ (h : Contents). put h c (all_but_last rest)) k.only ∙ put-put (needed a.needs) c rest (all_but_last rest)
                ∙ ap (put (needed a.needs) c) (sym there);
            fewer = omega (arith, ap length there, less, k.fewer);
            place = omega (arith, n, k.place, u.place);
            words = u.words ∙ ap (x ∷◌) k.words ∙ ap (λ (i : ℕ). replicate i x ++ standing a.run) (sym n);
          }

    -- It does not: what is left is stripped.
    pub stripping-ends : {d : Needs} {r : Bool} → r ≡ false → DropLast c m b.needs d r → Went (back true (send c m) x (needed a.needs)) a (record { needs = d; run = b.run })
    unfolding back
    stripping-ends {d} t l =
        let z : rest ≡ stripped m whole = sym (strip-none m rest (sym l.stood ∙ t)) ∙ k.same in
        record {
          words = k.words ∙ ap (λ (y : Word). replicate (length whole - length y) x ++ standing a.run) z;
          place = omega (arith, k.place);
          before = l.left ∙ sym (true-else _ _ _ t refl) ∙ k.only ∙ ap (put (needed a.needs) c) z;
          keeps = λ n q. needed-more n (n + 1) d (l.keeps n (k.keeps n q)) (omega arith);
        }

-- ---- a send that is no self-loop

-- Its message is dropped where the needed word ends in it, and else lost.
send-is : (r : Bool) (c m j : ℕ) (f : Contents) → j < 32768 → r ≡ ends_with m (f c)
    → back false (send c m) j f ≡ record { words = word_of j (not r) ∷ []; before = if_true r (put f c (all_but_last (f c))) f }
unfolding back if_true
send-is true c m j f h e = sym (true-then _ _ _ (sym e) (ap (λ (i : ℕ). record { words = i ∷ []; before = put f c (all_but_last (f c)) }) (mod-eq_of_lt h)))
send-is false c m j f h e = sym (true-else _ _ _ (sym e) (ap (λ (i : ℕ). record { words = (i + 32768) ∷ []; before = f }) (mod-eq_of_lt h)))

pub went-send : {c m j : ℕ} {a : Rebuilding} {r : Bool} {d : Needs} {v : Tail} {y : ℕ} → j < 32768 → DropLast c m a.needs d r → y ≡ word_of j (not r) → Pushed y a.run v
    → Went (back false (send c m) j (needed a.needs)) a (record { needs = d; run = v })
went-send {c} {m} {j} {a} {r} {d} h l w u =
    one-went (send-is r c m j (needed a.needs) h l.stood ∙ ap (λ (i : ℕ). record { words = i ∷ []; before = if_true r (put (needed a.needs) c (all_but_last (needed a.needs c))) (needed a.needs) }) (sym w))
    a l.left (λ n k. needed-more n (n + 1) d (l.keeps n k) (omega arith)) u

-- ---- transition j of a good table, which is u, and its word y

pub record Known (t : List ℕ) (j : ℕ) (u : Transition) (y : ℕ) : Type 0 where
  pub few : j < 32768
  pub word : y ≡ j
  pub over : (f : Contents) → back_over (system_of t) j f ≡ back (self_loop_send (move_of u)) (operation_of u.operation) y f
  pub ranged : Ranged 4 15 (operation_of u.operation)

pub known : (t : List ℕ) (h : Shape) (g : GoodTable t h) (j : ℕ) (u : Transition) → u ≡ transition_at t j → j < h.transitions → (y : ℕ) → y ≡ word_of j false → Known t j u y
known t h g j u e l y w =
    let few : j < 32768 = omega (arith, few-transitions t h g) in
    let word : y ≡ j = w ∙ mod-eq_of_lt few in
    record { few = few; word = word; over = λ f. rw (move-at t h g j l, back_over, e, word) refl; ranged = transition-ranged t h g j u e l }

module _ {t : List ℕ} {j : ℕ} {u : Transition} {y : ℕ} (k : Known t j u y) where
  pub over-quiet : u.operation ≡ Quiet → (f : Contents) → back_over (system_of t) j f ≡ record { words = y ∷ []; before = f }
  unfolding back
  over-quiet z f = rw z at k.over f

  pub over-receive : {c m : ℕ} → u.operation ≡ Receive c m → (f : Contents) → back_over (system_of t) j f ≡ record { words = y ∷ []; before = put f c (m ∷ f c) }
  unfolding back
  over-receive z f = rw z at k.over f

  module _ {c m : ℕ} (z : u.operation ≡ Send c m) (f : Contents) where
    pub over-loop : u.source ≡ u.target → back_over (system_of t) j f ≡ back true (send c m) y f
    over-loop i = let q = eq-eqb _ _ i in rw (z, q) at k.over f

    pub over-step : (u.source ≡ u.target → ⊥) → back_over (system_of t) j f ≡ back false (send c m) j f
    over-step i = let q = ne_eqb _ _ i in rw (z, q, k.word) at k.over f

    -- There is room for its words.
    pub loop-room : u.source ≡ u.target → (n : ℕ) → length (back_over (system_of t) j f).words ≤ n → length (f c) - length (stripped m (f c)) ≤ n
    unfolding back
    loop-room i n h =
        let r = length-replicate (length (f c) - length (stripped m (f c))) y in
        let s : length (back_over (system_of t) j f).words ≡ length (replicate (length (f c) - length (stripped m (f c))) y) = ap (λ (b : Back). length b.words) (over-loop i) in
        omega arith

  pub step-room : {c m : ℕ} → u.operation ≡ Send c m → (u.source ≡ u.target → ⊥) → (a : Rebuilding) → length (back_over (system_of t) j (needed a.needs)).words ≤ a.run.at → 0 < a.run.at
  step-room {c} {m} z i a = one-room (over-step z (needed a.needs) i ∙ send-is _ c m j (needed a.needs) k.few refl) a
