-- Words that play to an end are a run; reaches bad means that a bad state can be reached.
use Rattle.std.proofs.Common.{refl, sym, ap, subst, ◌∙◌, inl, inr, append-nil, arith, ◌≡◌, Bool, true, false, ◌⊎◌, List, [], ◌∷◌, ◌++◌, ℕ, suc, ◌+◌, ◌%◌, ◌<◌, length, lt-ltb, le-ltb, ltb-true, ltb-false}
use Rattle.std.proofs.Math.Nat.{mod-mod}
use Rattle.std.proofs.lemmas.Nat.{mod_below}
use mathlib.Core.List.{Memᴰ}
use Rattle.std.proofs.Math.Option.{Option, none, some, map, none-ne-some, some-injective}
use Rattle.std.proofs.Math.ListN.{get_elem?}
use Rattle.common.specs.First.{is_in}
use Rattle.common.proofs.AtLaws.{At, mem-at}
use Rattle.common.proofs.BoolLaws.{either}
use Rattle.common.proofs.ChoiceLaws.{eq-then, eq-cases, true-cases}
use Rattle.common.proofs.FirstLaws.{in-iff}
use Rattle.meaning.specs.Words.{Word}
use Rattle.meaning.specs.Systems.{Operation, quiet, send, Move, System, Contents, Config, put, Operates, Step, Run, stay, step, start_of, Reachable, Bad}
use Rattle.meaning.proofs.PutLaws.{put_same, put-put, put_id}
use Rattle.meaning.proofs.RunLaws.{run-then}
use Rattle.playing.specs.Play.{number, lost, word_of, taken, operated, play_move, play_word, Played, stuck_at, ends_in, play, ends_elsewhere, reaches_bad, judge_end, replay}

abbrev at : ℕ → Contents → Config
at s f = record { state = s; contents = f }

-- ---- a step's word

-- It says the transition's number, without what stood above bit 14, and the loss.
pub number-of-word : (n : ℕ) (b : Bool) → number (word_of n b) ≡ n % 32768
number-of-word n true = let k = mod_below n 32768 (omega arith) in omega arith
number-of-word n false = mod-mod n 32768

pub lost-of-word : (n : ℕ) (b : Bool) → lost (word_of n b) ≡ b
lost-of-word n true = lt-ltb 32767 _ (omega arith)
lost-of-word n false = let k = mod_below n 32768 (omega arith) in le-ltb 32767 _ (omega arith)

-- A word is the one that is made of what it says.
pub word-of-said : (w : ℕ) → w < 65536 → word_of (number w) (lost w) ≡ w
word-of-said w h = go (either (lost w))
  where
    go : (lost w ≡ true) ⊎ (lost w ≡ false) → word_of (number w) (lost w) ≡ w
    go (inl e) = let l = ltb-true 32767 w e in rw e (omega arith)
    go (inr e) = let l = ltb-false 32767 w e in rw e (omega arith)

-- ---- one word

-- The head is taken exactly where m stands in front.
taken-front : (m : ℕ) (w v : Word) → taken m w ≡ some v → w ≡ m ∷ v
taken-front m [] v e = absurd (none-ne-some v e)
taken-front m (x ∷ w) v e = go (eq-cases _ _ _ _ e)
  where
    go : ((x ≡ m) × (some w ≡ some v)) ⊎ ((x ≡ m → ⊥) × (none ≡ some v)) → x ∷ w ≡ m ∷ v
    go (inl r) = cc
    go (inr r) = absurd (none-ne-some v r.1)

pub front-taken : (m : ℕ) (v : Word) → taken m (m ∷ v) ≡ some v
front-taken m v = sym (eq-then _ _ _ _ refl refl)

-- What an unmarked operation makes is what the operation makes.
operated-plain : (o : Operation) (f g : Contents) → operated false o f ≡ some g → Operates o f g
unfolding operated
operated-plain quiet f g e = sym (some-injective _ _ e)
operated-plain (send c m) f g e = sym (some-injective _ _ e)
operated-plain (Operation.receive c m) f g e = go (taken m (f c)) refl e
  where
    go : (u : Option Word) → taken m (f c) ≡ u → map (put f c) u ≡ some g → f ≡ put g c (m ∷ g c)
    go none t e = absurd (none-ne-some g e)
    go (some v) t e =
        let h : put f c v ≡ g = some-injective _ _ e in
        let w : g c ≡ v = ap (λ (k : Contents). k c) (sym h) ∙ put_same f c v in
        sym (ap (λ (k : Contents). put k c (m ∷ g c)) (sym h) ∙ put-put f c v (m ∷ g c) ∙ ap (λ (x : Word). put f c (m ∷ x)) w ∙ ap (put f c) (sym (taken-front m (f c) v t)) ∙ put_id f c)

-- A marked one is a send whose message is lost at once.
operated-lost : (S : System) (a b : ℕ) (o : Operation) (f g : Contents) → Memᴰ (record { source = a; target = b; operation = o }) S.moves → operated true o f ≡ some g → Run S (at a f) (at b g)
unfolding operated
operated-lost S a b quiet f g h e = absurd (none-ne-some g e)
operated-lost S a b (Operation.receive c m) f g h e = absurd (none-ne-some g e)
operated-lost S a b (send c m) f g h e =
    let k : f ≡ g = some-injective _ _ e in
    step
    (step stay (Step.moves (record { source = a; target = b; operation = send c m }) h (record { source = refl; target = refl; operates = refl })))
    (Step.loses record {
      channel = c;
      before = f c;
      message = m;
      behind = [];
      held = put_same f c (f c ++ (m ∷ []));
      stays = refl;
      left = sym k ∙ sym (put-put f c (f c ++ (m ∷ [])) (f c ++ []) ∙ ap (put f c) (append-nil (f c)) ∙ put_id f c);
    })

operated-run : (S : System) (gone : Bool) (t : Move) (f g : Contents) → Memᴰ t S.moves → operated gone t.operation f ≡ some g → Run S (at t.source f) (at t.target g)
operated-run S true t f g h e = operated-lost S t.source t.target t.operation f g h e
operated-run S false t f g h e = step stay (Step.moves t h (record { source = refl; target = refl; operates = operated-plain t.operation f g e }))

move-run : (S : System) (gone : Bool) (t : Move) (x y : Config) → Memᴰ t S.moves → play_move gone t x ≡ some y → Run S x y
unfolding play_move
move-run S gone t x y h e = here (eq-cases _ _ _ _ e)
  where
    go : (u : Option Contents) → operated gone t.operation x.contents ≡ u → x.state ≡ t.source → map (λ f. at t.target f) u ≡ some y → Run S x y
    go none o s e = absurd (none-ne-some y e)
    go (some g) o s e =
        subst (Run S x) (some-injective _ _ e)
        (subst (λ (q : ℕ). Run S (at q x.contents) (at t.target g)) (sym s) (operated-run S gone t x.contents g h o))

    here : ((x.state ≡ t.source) × (map (λ f. at t.target f) (operated gone t.operation x.contents) ≡ some y)) ⊎ ((x.state ≡ t.source → ⊥) × (none ≡ some y)) → Run S x y
    here (inl r) = go (operated gone t.operation x.contents) refl r.0 r.1
    here (inr r) = absurd (none-ne-some y r.1)

word-run : (S : System) (w : ℕ) (x y : Config) → play_word S w x ≡ some y → Run S x y
unfolding play_word
word-run S w x y e = go (get_elem? S.moves (number w)) refl e
  where
    go : (u : Option Move) → get_elem? S.moves (number w) ≡ u → elim u as (λ q. Option Config) [ none ↦ none | some t ↦ play_move (lost w) t x ] ≡ some y → Run S x y
    go none a e = absurd (none-ne-some y e)
    go (some t) a e = move-run S (lost w) t x y ((mem-at S.moves t).1 (number w, a)) e

-- ---- all words

same_end : {x y : Config} → ends_in x ≡ ends_in y → x ≡ y
same_end e = cc

pub play-run : (S : System) (ws : List ℕ) (x y : Config) (n : ℕ) → play S ws x n ≡ ends_in y → Run S x y
unfolding play
play-run S [] x y n e = subst (Run S x) (same_end e) stay
play-run S (w ∷ ws) x y n e = go (λ z. play-run S ws z y (n + 1)) (play_word S w x) refl e
  where
    go : ((z : Config) → play S ws z (n + 1) ≡ ends_in y → Run S z y) → (u : Option Config) → play_word S w x ≡ u
        → elim u as (λ q. Played) [ none ↦ stuck_at n | some z ↦ play S ws z (n + 1) ] ≡ ends_in y → Run S x y
    go ih none a e = let z : ◌≡◌ {A = ℕ} 0 1 = cc in absurd (omega arith)
    go ih (some z) a e = run-then (word-run S w x z a) (ih z e)

-- REPLAY: reaches bad means that there is a run of the system from the start with empty channels to a bad state.
pub replay-bad : (S : System) (ws : List ℕ) (n : ℕ) → replay S ws ≡ reaches_bad n → (x : Config) × Reachable S x × Bad S x
unfolding replay
replay-bad S ws n e = go (play S ws (start_of S) 0) refl e
  where
    go : (p : Played) → play S ws (start_of S) 0 ≡ p → judge_end S (length ws) p ≡ reaches_bad n → (x : Config) × Reachable S x × Bad S x
    go (stuck_at i) a e = let z : ◌≡◌ {A = ℕ} 0 1 = cc in absurd (omega arith)
    go (ends_in x) a e = here (true-cases _ _ _ e)
      where
        here : ((is_in x.state S.bad ≡ true) × (reaches_bad (length ws) ≡ reaches_bad n)) ⊎ ((is_in x.state S.bad ≡ false) × (ends_elsewhere x.state ≡ reaches_bad n))
            → (x : Config) × Reachable S x × Bad S x
        here (inl r) = (x, play-run S ws (start_of S) x 0 a, (in-iff x.state S.bad).0 r.0)
        here (inr r) = let z : ◌≡◌ {A = ℕ} 0 1 = cc in absurd (omega arith)

-- Words behind words.
pub play-append : (S : System) (us ws : List ℕ) (x y : Config) (n : ℕ) → play S us x n ≡ ends_in y → play S (us ++ ws) x n ≡ play S ws y (n + length us)
unfolding play
play-append S [] ws x y n e =
    let z : x ≡ y = same_end e in
    let k : n + 0 ≡ n = omega arith in
    rw (z, k) refl
play-append S (u ∷ us) ws x y n e = go (λ z. play-append S us ws z y (n + 1)) (play_word S u x) e
  where
    k : n + 1 + length us ≡ n + suc (length us)
    k = omega arith

    go : ((z : Config) → play S us z (n + 1) ≡ ends_in y → play S (us ++ ws) z (n + 1) ≡ play S ws y (n + 1 + length us)) → (p : Option Config)
        → elim p as (λ q. Played) [ none ↦ stuck_at n | some z ↦ play S us z (n + 1) ] ≡ ends_in y
        → elim p as (λ q. Played) [ none ↦ stuck_at n | some z ↦ play S (us ++ ws) z (n + 1) ] ≡ play S ws y (n + suc (length us))
    go ih none e = let z : ◌≡◌ {A = ℕ} 0 1 = cc in absurd (omega arith)
    go ih (some z) e = ih z e ∙ ap (play S ws y) k

-- From x the words play to y, however the steps are numbered.
abbrev pub Plays : System → List ℕ → Config → Config → Type 0
Plays S ws x y = (n : ℕ) → play S ws x n ≡ ends_in y

pub plays-then : (S : System) (us ws : List ℕ) (x y z : Config) → Plays S us x y → Plays S ws y z → Plays S (us ++ ws) x z
plays-then S us ws x y z p q n = play-append S us ws x y n (p n) ∙ q (n + length us)

-- No word.
pub plays-none : (S : System) (x : Config) → Plays S [] x x
unfolding play
plays-none S x n = refl

-- One word.
pub plays-one : (S : System) (w : ℕ) (t : Move) (x y : Config) → At S.moves (number w) t → play_move (lost w) t x ≡ some y → Plays S (w ∷ []) x y
unfolding play play_word
plays-one S w t x y a e n =
    ap (λ (u : Option Move). elim (elim u as (λ q. Option Config) [ none ↦ none | some t ↦ play_move (lost w) t x ]) as (λ q. Played) [ none ↦ stuck_at n | some z ↦ ends_in z ]) a
    ∙ ap (λ (u : Option Config). elim u as (λ q. Played) [ none ↦ stuck_at n | some z ↦ ends_in z ]) e
