-- What the replay's answers mean for the system's runs: reaches bad means a run to a bad state, and the runs whose losses happen only at
-- sends are run words that the replay plays.
use Rattle.std.proofs.Common.{◌≡◌, refl, sym, ap, subst, ◌∙◌, Bool, true, false, ◌⊎◌, inl, inr, List, [], ◌∷◌, ◌++◌, append-nil, ℕ, suc, ◌+◌, ◌<◌, ◌≤◌, length, length-append, arith, lt-ltb, le-ltb}
use Rattle.std.specs.Prelude.{Result, Ok, Err}
use Rattle.std.proofs.Math.Option.{some, map}
use Rattle.std.proofs.Math.ListN.{get_elem?}
use mathlib.Core.List.{Memᴰ}
use Rattle.common.proofs.AtLaws.{at-below, mem-at}
use Rattle.common.proofs.ChoiceLaws.{eq-then, true-then, lt-cases}
use Rattle.common.proofs.FirstLaws.{in-iff}
use Rattle.meaning.specs.Words.{Word}
use Rattle.meaning.specs.Systems.{Operation, quiet, send, Move, System, Contents, Config, put, Operates, Moves, Step, Run, stay, step, start_of, Reachable, Bad}
use Rattle.meaning.proofs.PutLaws.{put_same, put-put, put_id}
use Rattle.table.specs.Checking.{check_table}
use Rattle.table.specs.Systems.{GoodTable, system_of}
use Rattle.table.proofs.GoodLaws.{few-transitions}
use Rattle.table.proofs.SystemLaws.{moves-length}
use Rattle.table.specs.declared.checks.Shape.{Shape}
use Rattle.table.specs.declared.faults.Refusal as table
use Rattle.playing.specs.Play.{number, lost, taken, operated, play_move, Replayed, reaches_bad, judge_end, replay}
use Rattle.playing.proofs.PlayLaws.{front-taken, replay-bad, Plays, plays-then, plays-none, plays-one}
use Rattle.replay.specs.Replaying.{refused, says, long_run, answer_with, replay_answer, found, Replays}
use Rattle.replay.specs.Runs as runs
use Rattle.replay.specs.Runs.{LostAtOnce, SendRun}
use Rattle.replay.specs.declared.replays.Ending.TheVariants as ending
use Rattle.replay.proofs.AnswerLaws.{replays-played}

-- ---- reaches bad

-- REPLAY: where the call answers reaches bad, the table is good, the words are all played, and there is a run of the system from the start
-- with empty channels to a bad state.
pub reaches-bad : (t run : List ℕ) (n : ℕ) → Replays t run (Ok (ending.Bad n)) → (s : Shape) × GoodTable t s × ((x : Config) × Reachable (system_of t) x × Bad (system_of t) x)
unfolding replay_answer
reaches-bad t run n p = go (check_table t) refl (sym p.says)
  where
    played : (s : Shape) → check_table t ≡ Ok s
        → ((2048 < length run) × (refused long_run ≡ says (reaches_bad n))) ⊎ ((length run ≤ 2048) × (says (replay (system_of t) run) ≡ says (reaches_bad n)))
        → (s : Shape) × GoodTable t s × ((x : Config) × Reachable (system_of t) x × Bad (system_of t) x)
    played s a (inl r) = let z : ◌≡◌ {A = ℕ} 0 1 = cc in absurd (omega arith)
    played s a (inr r) = (s, a, replay-bad (system_of t) run n (cc))

    go : (c : Result Shape table.Refusal) → check_table t ≡ c → answer_with t run c ≡ says (reaches_bad n)
        → (s : Shape) × GoodTable t s × ((x : Config) × Reachable (system_of t) x × Bad (system_of t) x)
    go (Err r) a e = let z : ◌≡◌ {A = ℕ} 0 1 = cc in absurd (omega arith)
    go (Ok s) a e = played s a (lt-cases _ _ _ _ e)

-- ---- a move as a word

-- What the operation makes is what playing it makes.
plain-operated : (o : Operation) (f g : Contents) → Operates o f g → operated false o f ≡ some g
unfolding operated
plain-operated quiet f g e = ap some (sym e)
plain-operated (send c m) f g e = ap some (sym e)
plain-operated (Operation.receive c m) f g e =
    let h : f c ≡ m ∷ g c = ap (λ (k : Contents). k c) e ∙ put_same g c (m ∷ g c) in
    ap (λ (w : Word). map (put f c) (taken m w)) h ∙ ap (map (put f c)) (front-taken m (g c))
    ∙ ap some (ap (λ (k : Contents). put k c (g c)) e ∙ put-put g c (m ∷ g c) (g c) ∙ put_id g c)

lost-operated : (o : Operation) (f g : Contents) (c m : ℕ) → o ≡ send c m → f ≡ g → operated true o f ≡ some g
unfolding operated
lost-operated o f g c m e h = rw (e, h) refl

-- A move whose operation makes z of y, played.
move-played : (b : Bool) (t : Move) (y z : Config) → y.state ≡ t.source → z.state ≡ t.target → operated b t.operation y.contents ≡ some z.contents
    → play_move b t y ≡ some z
unfolding play_move
move-played b t y z s e o =
    sym (eq-then _ _ _ _ s refl)
    ∙ ap (map (λ f. record { state = t.target; contents = f })) o
    ∙ (λ i. some (record { state = sym e i; contents = z.contents }))

-- A send and the loss of its message leave the contents as they were.
lost-same : (t : Move) (x y : Config) → LostAtOnce t x y → x.contents ≡ y.contents
lost-same t x y l =
    let c = l.channel in
    let f = x.contents in
    let m : Operates (send c l.message) f l.between.contents = subst (λ (o : Operation). Operates o f l.between.contents) l.sends l.moves.operates in
    let w : l.loses.before ++ l.loses.behind ≡ f c = ap (◌++ l.loses.behind) l.others ∙ ap (f c ++◌) l.last ∙ append-nil (f c) in
    sym (
    l.loses.left
    ∙ ap (λ (d : ℕ). put l.between.contents d (l.loses.before ++ l.loses.behind)) l.there
    ∙ ap (put l.between.contents c) w
    ∙ ap (λ (k : Contents). put k c (f c)) m
    ∙ put-put f c (f c ++ (l.message ∷ [])) (f c)
    ∙ put_id f c
    )

module _ (S : System) (few : length S.moves ≤ 32768) where
  -- A move that can be played is a word.
  move-word : (b : Bool) (k : ℕ) → ((i : ℕ) → i < 32768 → (number (i + k) ≡ i) × (lost (i + k) ≡ b)) → (t : Move) (y z : Config) → Memᴰ t S.moves → play_move b t y ≡ some z
      → (w : ℕ) × Plays S (w ∷ []) y z
  move-word b k n t y z h p =
      let a = (mem-at S.moves t).0 h in
      let l = at-below S.moves a.0 t a.1 in
      let e = n a.0 (omega arith) in
      (a.0 + k, plays-one S (a.0 + k) t y z (ap (get_elem? S.moves) e.0 ∙ a.1) (ap (λ (g : Bool). play_move g t y) e.1 ∙ p))

  -- A plain move is its number; a send whose message is lost at once is its number and 32,768.
  plain_word : (t : Move) (y z : Config) → Memᴰ t S.moves → Moves t y z → (w : ℕ) × Plays S (w ∷ []) y z
  plain_word t y z h m =
      move-word false 0 (λ i l. (omega arith, le-ltb 32767 (i + 0) (omega arith))) t y z h (move-played false t y z m.source m.target (plain-operated t.operation _ _ m.operates))

  lost-word : (t : Move) (y z : Config) → Memᴰ t S.moves → LostAtOnce t y z → (w : ℕ) × Plays S (w ∷ []) y z
  lost-word t y z h l =
      move-word true 32768 (λ i l. (omega arith, lt-ltb 32767 (i + 32768) (omega arith))) t y z h
      (move-played true t y z l.moves.source (l.loses.stays ∙ l.moves.target) (lost-operated t.operation _ _ l.channel l.message l.sends (lost-same t y z l)))

  -- One move more is one word more.
  one-more : (x y z : Config) {n : ℕ} → (ws : List ℕ) × (length ws ≡ n) × Plays S ws x y → (w : ℕ) × Plays S (w ∷ []) y z → (ws : List ℕ) × (length ws ≡ suc n) × Plays S ws x z
  one-more x y z p w = (p.0 ++ (w.0 ∷ []), omega (arith, p.1, length-append p.0 (w.0 ∷ [])), plays-then S p.0 (w.0 ∷ []) x y z p.2 w.1)

  -- WORDS: every run whose losses happen only at sends is run words, as many as it has moves.
  pub run-words : {x y : Config} {n : ℕ} → SendRun S x n y → (ws : List ℕ) × (length ws ≡ n) × Plays S ws x y
  run-words {x} runs.stay = ([], refl, plays-none S x)
  run-words (runs.moves r t h m) = one-more _ _ _ (run-words r) (plain_word t _ _ h m)
  run-words (runs.loses r t h l) = one-more _ _ _ (run-words r) (lost-word t _ _ h l)

-- Such runs are runs of the system.
pub send-run : {S : System} {x y : Config} {n : ℕ} → SendRun S x n y → Run S x y
send-run runs.stay = stay
send-run (runs.moves r t h m) = step (send-run r) (Step.moves t h m)
send-run (runs.loses r t h l) = step (step (send-run r) (Step.moves t h l.moves)) (Step.loses l.loses)

-- ---- the replay of such a run

words-bad : (S : System) (ws : List ℕ) (x : Config) → Plays S ws (start_of S) x → Bad S x → replay S ws ≡ reaches_bad (length ws)
unfolding replay
words-bad S ws x p b = ap (judge_end S (length ws)) (p 0) ∙ sym (true-then _ _ _ ((in-iff x.state S.bad).1 b) refl)

-- FOUND: of a good table, every such run of at most 2,048 moves to a bad state is run words to which the call answers reaches bad.
pub bad-replayed : (t : List ℕ) (s : Shape) {x : Config} {n : ℕ} → GoodTable t s → SendRun (system_of t) (start_of (system_of t)) n x → Bad (system_of t) x → n ≤ 2048
    → (run : List ℕ) × Replays t run (Ok (ending.Bad n))
bad-replayed t s {x} {n} g r b l =
    let k = moves-length t s g in
    let f = few-transitions t s g in
    let p = run-words (system_of t) (omega arith) r in
    let e = p.1 in
    (p.0, replays-played t p.0 s (sym g) (Ok (ending.Bad n)) (omega arith) (ap (λ (k : ℕ). Ok (ending.Bad k)) (sym e) ∙ sym (ap (λ (w : Replayed). Ok (found w)) (words-bad (system_of t) p.0 x p.2 b))))
