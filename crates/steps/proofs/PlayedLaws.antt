-- A run that can be played can be told: its moves are there, and only sends are marked lost.
use Rattle.std.proofs.Common.{refl, inl, inr, arith, ◌≡◌, Bool, true, false, ◌⊎◌, List, [], ◌∷◌, ℕ, ◌+◌, ◌<◌, length}
use Rattle.std.proofs.Math.Option.{Option, none, some, map}
use Rattle.std.proofs.Math.ListN.{get_elem?}
use Rattle.common.specs.Each.{Each}
use Rattle.common.proofs.ChoiceLaws.{eq-cases}
use Rattle.meaning.specs.Systems as meaning
use Rattle.meaning.specs.Systems.{Move, System, Contents, Config}
use Rattle.playing.specs.Play.{number, lost, operated, play_move, play_word, stuck_at, ends_in, play}
use Rattle.wording.specs.Steps.{unsafe_text}
use Rattle.steps.specs.Runs.{run, run_in}
use Rattle.steps.proofs.BackLaws.{Sayable, Tellable, unsafe-back}

not_some : {A : Type 0} {x : A} → none ≡ some x → ⊥
not_some e = let z : ◌≡◌ {A = ℕ} 0 1 = cc in omega arith

-- An operation that can be done with its flag.
operated-sayable : (g : Bool) (o : meaning.Operation) (f : Contents) (h : Contents → Config) (z : Config) → map h (operated g o f) ≡ some z → Sayable g o
unfolding operated
operated-sayable true meaning.quiet f h z e = not_some e
operated-sayable true (meaning.receive c m) f h z e = not_some e
operated-sayable true (meaning.send c m) f h z e = tt
operated-sayable false o f h z e = tt

move-sayable : (g : Bool) (t : Move) (x z : Config) → play_move g t x ≡ some z → Sayable g t.operation
unfolding play_move
move-sayable g t x z e = go (eq-cases _ _ _ _ e)
  where
    arrive : Contents → Config
    arrive f = record { state = t.target; contents = f }

    go : {a b : ℕ} → ((a ≡ b) × (map arrive (operated g t.operation x.contents) ≡ some z)) ⊎ ((a ≡ b → ⊥) × (none ≡ some z)) → Sayable g t.operation
    go (inl c) = operated-sayable g t.operation x.contents arrive z c.1
    go (inr c) = absurd (not_some c.1)

word-tellable : (S : System) (w : ℕ) (x z : Config) → w < 65536 → play_word S w x ≡ some z → Tellable S w
unfolding play_word
word-tellable S w x z h e = go (get_elem? S.moves (number w)) refl e
  where
    go : (o : Option Move) → get_elem? S.moves (number w) ≡ o → elim o [ none ↦ none | some t ↦ play_move (lost w) t x ] ≡ some z → Tellable S w
    go none d k = absurd (not_some k)
    go (some t) d k = record { small = h; move = t; there = d; sayable = move-sayable (lost w) t x z k }

played-tellable : (S : System) (ws : List ℕ) (x y : Config) (n : ℕ) → Each (λ (w : ℕ). w < 65536) ws → play S ws x n ≡ ends_in y → Each (Tellable S) ws
unfolding play
played-tellable S [] x y n h e = tt
played-tellable S (w ∷ ws) x y n h e = go (play_word S w x) refl e (λ z. played-tellable S ws z y (n + 1) h.1)
  where
    go : (o : Option Config) → play_word S w x ≡ o → elim o [ none ↦ stuck_at n | some z ↦ play S ws z (n + 1) ] ≡ ends_in y
        → ((z : Config) → play S ws z (n + 1) ≡ ends_in y → Each (Tellable S) ws) → Each (Tellable S) (w ∷ ws)
    go none d k rest = absurd (let z : ◌≡◌ {A = ℕ} 0 1 = cc in omega arith)
    go (some z) d k rest = (word-tellable S w x z h.0 d, rest z k)

-- The text of an unsafe table says the words of its run, where the run can be played.
pub played-back : (S : System) (rows : ℕ) (ws : List ℕ) (x y : Config) (n : ℕ) → rows < 32768 → length ws < 32768 → Each (λ (w : ℕ). w < 65536) ws → play S ws x n ≡ ends_in y
    → run_in (unsafe_text S rows ws) ≡ run ws
played-back S rows ws x y n h k b e = unsafe-back S rows ws h k (played-tellable S ws x y n b e)
