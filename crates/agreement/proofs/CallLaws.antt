-- What the promises of the calls say together: where the search says safe, no run reaches bad; where it says unsafe, the replay of the first words of the
-- run buffer reaches bad in as many steps; so no table is safe with one room and unsafe with another.
use Rattle.std.proofs.Common.{◌≡◌, refl, sym, ap, subst, ◌∙◌, true, false, ◌⊎◌, inl, inr, List, [], ℕ, ◌*◌, ◌≤◌, arith, ltb, length, ltb-true, ltb-false, Ok, Err}
use Rattle.std.proofs.Common as std
use Rattle.common.specs.Part.{part}
use Rattle.common.proofs.BoolLaws.{either}
use Rattle.common.proofs.ChoiceLaws.{true-then, lt-then, lt-else}
use Rattle.common.proofs.FirstLaws.{in-iff}
use Rattle.common.proofs.FrontLaws.{front-part}
use Rattle.meaning.specs.Systems.{Config, start_of, Reachable, Bad}
use Rattle.meaning.specs.Systems as meaning
use Rattle.table.specs.Checking.{check_table}
use Rattle.table.specs.Systems.{GoodTable, system_of}
use Rattle.table.specs.declared.checks.Shape.{Shape}
use Rattle.table.specs.declared.faults.Refusal.{Refusal}
use Rattle.table.proofs.SystemLaws.{well-made, few-messages}
use Rattle.work.specs.Room.{room_of}
use Rattle.work.proofs.RoomLaws.{room-few}
use Rattle.playing.specs.Play.{reaches_bad, play, replay}
use Rattle.playing.proofs.PlayLaws.{replay-bad}
use Rattle.findings.specs.Search.{first_entry}
use Rattle.search.specs.Searching.{Result, Answer, unwritten, search_with, search_of, Searches}
use Rattle.search.specs.declared.searches.Verdict.TheVariants.{Safe, Unsafe, RowsFull, AtomsFull}
use Rattle.search.specs.declared.searches.Refused.TheVariants.{Table, SmallWork, SmallRun}
use Rattle.search.proofs.FindingLaws.{Finding, bad_start, closed, reached, too_wide, no_room, search-means}
use Rattle.replay.specs.Replaying.{found, replay_with, replay_of, Replays}
use Rattle.replay.specs.declared.replays.Ending.{Ending}
use Rattle.replay.specs.declared.replays.Ending.TheVariants as ending
use Rattle.replay.specs.declared.replays.Refused as replay_refused
use Rattle.agreement.proofs.SafeLaws.{safe-safe}

module _ (t : List ℕ) where
  -- What holds of each refusal, and of what the search finds of a good table, holds of every result.
  pub every-result : (P : Result → Type 0) (work run : ℕ) → ((r : Refusal) → P (unwritten (Err (Table r)))) → P (unwritten (Err (SmallWork work))) → P (unwritten (Err (SmallRun run)))
      → ((s : Shape) (g : GoodTable t s) (x : Result) → Finding t s g (room_of work) x → P x) → P (search_of t work run)
  unfolding search_of
  every-result P work run refused short-work short-run finds = go (check_table t) refl
    where
      good : (s : Shape) → GoodTable t s → (ltb work 103 ≡ true) ⊎ (ltb work 103 ≡ false) → (ltb run (2 * room_of work) ≡ true) ⊎ (ltb run (2 * room_of work) ≡ false)
          → P (search_with t work run (Ok s))
      good s g (inl a) b = subst P (lt-then _ _ _ _ (ltb-true work 103 a) refl) short-work
      good s g (inr a) (inl b) = subst P (lt-else _ _ _ _ (ltb-false work 103 a) (lt-then _ _ _ _ (ltb-true run (2 * room_of work) b) refl)) short-run
      good s g (inr a) (inr b) =
          subst (λ (c : std.Result Shape Refusal). P (search_with t work run c)) g
          (finds s g (search_of t work run) (search-means t s g work run (ltb-false work 103 a) (ltb-false run (2 * room_of work) b)))

      go : (c : std.Result Shape Refusal) → check_table t ≡ c → P (search_with t work run (check_table t))
      go (Err r) e = subst (λ (c : std.Result Shape Refusal). P (search_with t work run c)) (sym e) (refused r)
      go (Ok s) e = subst (λ (c : std.Result Shape Refusal). P (search_with t work run c)) (sym e) (good s e (either (ltb work 103)) (either (ltb run (2 * room_of work))))

  -- A run that is played to a bad state in k steps.
  pub record Reaches (us : List ℕ) (k : ℕ) : Type 0 where
    pub shape : Shape
    pub good : GoodTable t shape
    pub plays : replay (system_of t) us ≡ reaches_bad k
    pub count : k ≡ length us
    pub few : length us ≤ 2048

  -- What an answer says of the system's runs.
  abbrev Right : Answer → List ℕ → Type 0
  Right (Err r) us = Unit {0}
  Right (Ok (Safe n)) us = meaning.Safe (system_of t)
  Right (Ok (Unsafe n k)) us = Reaches us k
  Right (Ok (RowsFull n i j)) us = Unit {0}
  Right (Ok (AtomsFull n i j)) us = Unit {0}

  -- The empty run reaches bad where the start is bad.
  none-reaches : Bad (system_of t) (start_of (system_of t)) → replay (system_of t) [] ≡ reaches_bad 0
  unfolding replay play
  none-reaches b = sym (true-then _ _ _ ((in-iff (system_of t).start (system_of t).bad).1 b) refl)

  finding-right : (s : Shape) (g : GoodTable t s) (room : ℕ) (x : Result) → room ≤ 1024 → Finding t s g room x → Right x.answer x.run
  finding-right s g room x h (bad_start b) = record { shape = s; good = g; plays = none-reaches b; count = refl; few = omega arith }
  finding-right s g room x h (closed l rs n y) = safe-safe (system_of t) (well-made t s g) (few-messages t s g) room l rs (n 0 (first_entry (system_of t)) rs.starts) y
  finding-right s g room x h (reached l i j rs n p k c) = record { shape = s; good = g; plays = p; count = refl; few = omega arith }
  finding-right s g room x h (too_wide l i j rs n y) = tt
  finding-right s g room x h (no_room l i j rs n y) = tt

  search-right : (work run : ℕ) → Right (search_of t work run).answer (search_of t work run).run
  search-right work run =
      every-result (λ x. Right x.answer x.run) work run (λ r. tt) tt tt (λ s g x d. finding-right s g (room_of work) x (room-few work) d)

  -- The replay's answer to such a run.
  played : (us : List ℕ) (k : ℕ) → Reaches us k → replay_of t us ≡ Ok (ending.Bad k)
  unfolding replay_of
  played us k c = ap (replay_with t us) c.good ∙ sym (lt-else _ _ _ _ c.few refl) ∙ ap (λ x. Ok (found x)) c.plays

-- ---- whatever keeps the promises

module _ (t work run : List ℕ) (r : Answer) (work' run' : List ℕ) (d : Searches t work run r work' run') where
  abbrev result : Result
  result = search_of t (length work) (length run)

  right : Right t r result.run
  right = subst (λ (a : Answer). Right t a result.run) (sym d.answer) (search-right t (length work) (length run))

  -- SAFE: no run of the system from the start with empty channels reaches a bad state.
  pub safe-call : (n : ℕ) → r ≡ Ok (Safe n) → meaning.Safe (system_of t)
  safe-call n e = subst (λ (a : Answer). Right t a result.run) e right

  reaches : (n k : ℕ) → r ≡ Ok (Unsafe n k) → Reaches t result.run k
  reaches n k e = subst (λ (a : Answer). Right t a result.run) e right

  -- UNSAFE: the replay of the run buffer's first words reaches bad.
  pub unsafe-replays : (n k : ℕ) → r ≡ Ok (Unsafe n k) → (q : std.Result Ending replay_refused.Refused) → Replays t (part 0 k run') q → q ≡ Ok (ending.Bad k)
  unsafe-replays n k e q p =
      let c = reaches n k e in
      p.exact ∙ ap (replay_of t) (ap (part 0 k) d.words ∙ front-part result.run run k (sym c.count)) ∙ played t result.run k c

  -- So a run of the system reaches bad.
  pub unsafe-call : (n k : ℕ) → r ≡ Ok (Unsafe n k) → (x : Config) × Reachable (system_of t) x × Bad (system_of t) x
  unsafe-call n k e = replay-bad (system_of t) result.run k (reaches n k e).plays

-- NOT BOTH: a table that is safe with one room is unsafe with no other.
pub not-both : (t work run : List ℕ) (r : Answer) (w v : List ℕ) (work' run' : List ℕ) (r' : Answer) (w' v' : List ℕ) (n m k : ℕ) → Searches t work run r w v → Searches t work' run' r' w' v'
    → r ≡ Ok (Safe n) → r' ≡ Ok (Unsafe m k) → ⊥
not-both t work run r w v work' run' r' w' v' n m k d d' e e' =
    let x = unsafe-call t work' run' r' w' v' d' m k e' in
    safe-call t work run r w v d n e x.0 x.1 x.2
