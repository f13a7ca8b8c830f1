-- The channels' contents in local memory: what a send, a receive and a marked loss make of them.
use Rattle.std.proofs.Common.{refl, sym, ap, ◌∙◌, arith, length-set, ◌≡◌, Bool, true, false, [], ◌∷◌, ℕ, ◌+◌, ◌*◌, ◌<◌, ◌≤◌, length, get_or, set}
use Rattle.std.proofs.Math.Option.{none, some, map}
use Rattle.common.specs.Part.{part}
use Rattle.common.proofs.ChoiceLaws.{eq-then, eq-else}
use Rattle.meaning.specs.Systems.{put, Operation, quiet, send, receive}
use Rattle.playing.specs.Play.{taken, operated}
use Rattle.channels.specs.Contents.{head_of, tail_of}
use Rattle.channels.proofs.ContentsLaws.{contents-none, contents-empty, EndsMoved, head-moved, tail-moved, moved-each, Placed, moved-placed, contents-moved, put-behind, first-rest}
use Rattle.replay.specs.Queues.{Queues, held, can_lose, Done}
use Rattle.replay.specs.declared.queues.Memory.{Memory}

-- ---- memory in which each channel has had at most n messages

pub queues-more : (n k : ℕ) (x : Memory) → Queues n x → n ≤ k → Queues k x
queues-more n k x q h = record { room = q.room; pairs = q.pairs; order = q.order; few = λ c l. let f = q.few c l in omega arith }

pub queues-empty : (x : Memory) → Queues 0 x → held x ≡ (λ c. [])
queues-empty x q = contents-empty x.store x.ends (λ c l. let f = q.few c l in omega arith)

queues-placed : (x : Memory) → Queues 2047 x → Placed x.store x.ends
queues-placed x q = record { room = q.room; pairs = q.pairs; order = q.order; high = λ c l. let f = q.few c l in omega arith }

-- One message more, at most, in channel c.
queues-moved : (x y : Memory) (c : ℕ) {h t : ℕ} → Queues 2047 x → c < 4 → EndsMoved c h t x.ends y.ends → length y.store ≡ length x.store → h ≤ t → t ≤ tail_of x.ends c + 1
    → (n : ℕ) → Queues n x → Queues (n + 1) y
queues-moved x y c q l v r a b n w =
    let k = q.few c l in
    let o = w.few c l in
    let f = moved-placed _ _ c (queues-placed x q) l v _ r a (omega arith) in
    record {
      room = f.room;
      pairs = f.pairs;
      order = f.order;
      few = moved-each (λ d h t. t ≤ n + 1) v (omega arith) (λ d b n. let o = w.few d b in omega arith);
    }

-- ---- nothing is done to the memory

module _ (x : Memory) where
  pub stays : (n : ℕ) → Queues n x → Queues (n + 1) x
  stays n q = queues-more n (n + 1) x q (omega arith)

  pub done-quiet : Done false quiet x x true
  unfolding operated
  done-quiet = record { makes = refl; queues = stays }

  -- A marked operation: a send's message is gone at once, and no other can be marked.
  pub done-lost : (g : Bool) (o : Operation) (b : Bool) → g ≡ true → b ≡ can_lose o → Done g o x x b
  unfolding operated
  done-lost g quiet b k z = rw (k, z) (record { makes = refl; queues = stays })
  done-lost g (send c m) b k z = rw (k, z) (record { makes = refl; queues = stays })
  done-lost g (receive c m) b k z = rw (k, z) (record { makes = refl; queues = stays })

-- ---- a send, and a receive

module _ (x : Memory) (c m : ℕ) (h : c < 4) (q : Queues 2047 x) where
  abbrev head : ℕ
  head = head_of x.ends c

  abbrev tail : ℕ
  tail = tail_of x.ends c

  abbrev sent : Memory
  sent = record { store = set x.store (2048 * c + tail) m; ends = set x.ends (4 + c) (tail + 1) }

  pub done-send : Done false (send c m) x sent true
  unfolding operated
  done-send =
      let o = q.order c h in
      let f = q.few c h in
      record {
        makes = ap some (put-behind x.store x.ends c (queues-placed x q) h m (omega arith));
        queues = queues-moved x sent c q h (tail-moved x.ends c (tail + 1) q.pairs h) (length-set x.store _ m) (omega arith) (omega arith);
      }

  -- Nothing can be taken: nothing waits there, or another message stands at the head.
  none-taken : taken m (held x c) ≡ none → Done false (receive c m) x x false
  unfolding operated
  none-taken z = record { makes = rw z; queues = stays x }

  pub nothing-there : tail ≤ head → Done false (receive c m) x x false
  nothing-there l = none-taken (ap (taken m) (contents-none x.store x.ends c h l))

  module _ (l : head < tail) where
    waits : held x c ≡ get_or x.store (2048 * c + head) 0 ∷ part (2048 * c + (head + 1)) (2048 * c + tail) x.store
    waits = first-rest x.store x.ends c (queues-placed x q) h l

    pub other-there : (get_or x.store (2048 * c + head) 0 ≡ m → ⊥) → Done false (receive c m) x x false
    other-there n = none-taken (ap (taken m) waits ∙ sym (eq-else _ _ _ _ n refl))

    abbrev received : Memory
    received = record { store = x.store; ends = set x.ends c (head + 1) }

    pub done-receive : get_or x.store (2048 * c + head) 0 ≡ m → Done false (receive c m) x received true
    unfolding operated
    done-receive k =
        let v = head-moved x.ends c (head + 1) q.pairs h in
        record {
          makes =
              ap some (contents-moved x.store x.ends c (queues-placed x q) h v)
              ∙ sym (ap (map (put (held x) c)) (ap (taken m) waits ∙ sym (eq-then _ _ _ _ k refl)));
          queues = queues-moved x received c q h v refl (omega arith) (omega arith);
        }
