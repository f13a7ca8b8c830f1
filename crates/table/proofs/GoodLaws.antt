-- A good table: its ranges, its places and its length.
use Rattle.std.proofs.Common.{Result, Ok, Err, ◌≡◌, refl, sym, List, ℕ, zero, suc, ◌+◌, ◌*◌, ◌<◌, ◌≤◌, arith, length}
use Rattle.table.specs.Checking.{transition_place, bad_place, after_bads, after_transitions, after_header, read_header, scan_transitions, scan_bads, check_rest, check_table}
use Rattle.table.specs.Transitions.{entry_at}
use Rattle.table.specs.Systems.{GoodTable, bad_at}
use Rattle.table.proofs.EndLaws.{err-ok, same_Ok}
use Rattle.table.proofs.FrameLaws.{Framed}
use Rattle.table.proofs.FieldLaws.{HeaderOk, EntryOk}
use Rattle.table.proofs.ReadLaws.{HeaderRead, header_read}
use Rattle.table.proofs.ScanLaws.{TransitionsRead, transitions-read, BadsRead, bads-read}
use Rattle.table.specs.declared.faults.Fault.{Fault}
use Rattle.table.specs.declared.faults.Refusal.{Refusal}
use Rattle.table.specs.declared.fields.Header.{Header}
use Rattle.table.specs.declared.checks.Shape.{Shape}

-- The header of a shape.
abbrev pub header_in : Shape → Header
header_in s = record { states = s.states; channels = s.channels; messages = s.messages; start = s.start }

-- What the check read of a good table.
pub record Read (t : List ℕ) (s : Shape) : Type 0 where
  pub header : HeaderRead t (header_in s)
  pub transitions : TransitionsRead t (header_in s) 0 s.transitions
  pub bads : BadsRead t s.states (transition_place s.transitions) 0 0 s.bads

-- The table reaches to the place behind its transitions.
behind : {t : List ℕ} (h : Header) (n : ℕ) → HeaderRead t h → TransitionsRead t h 0 n → transition_place n ≤ length t
behind h zero a b = let l = a.framed.there in omega arith
behind h (suc n) a b = let l = (b.each n (omega arith) (omega arith)).framed.there in omega arith

pub good-read : (t : List ℕ) (s : Shape) → GoodTable t s → Read t s
unfolding check_table check_rest
good-read t s g = header (read_header t) refl g
  where
    bads : (h : Header) (n : ℕ) → HeaderRead t h → TransitionsRead t h 0 n → (r : Result ℕ Refusal)
        → scan_bads (length t) t h.states (transition_place n) 0 0 ≡ r → after_bads h n r ≡ Ok s → Read t s
    bads h n a b (Ok k) p q =
        let w = same_Ok q in
        let l = behind h n a b in
        let c : BadsRead t h.states (transition_place n) 0 0 k =
        bads-read t h.states (transition_place n) (length t) 0 0 k (omega arith) (omega arith) p in
        rw (← w) (record { header = a; transitions = b; bads = c })
    bads h n a b (Err r) p q = absurd (err-ok q)

    rest : (h : Header) → HeaderRead t h → (r : Result ℕ Refusal) → scan_transitions 1025 t h 0 ≡ r → after_transitions t h r ≡ Ok s → Read t s
    rest h a (Ok n) p q =
        bads h n a (transitions-read t h 1025 0 n refl (omega arith) p) (scan_bads (length t) t h.states (transition_place n) 0 0) refl q
    rest h a (Err r) p q = absurd (err-ok q)

    header : (r : Result Header Fault) → read_header t ≡ r → after_header t r ≡ Ok s → Read t s
    header (Ok h) p q = rest h (header_read t h p) (scan_transitions 1025 t h 0) refl q
    header (Err f) p q = absurd (err-ok q)

module _ (t : List ℕ) (s : Shape) (g : GoodTable t s) where
  -- 1 to 4,096 states, 1 to 4 channels, 1 to 15 messages, and a start that is a state.
  pub ranges : HeaderOk (header_in s)
  ranges = (good-read t s g).header.ok

  -- At most 1,024 transitions.
  pub few-transitions : s.transitions ≤ 1024
  few-transitions = (good-read t s g).transitions.few

  -- The records fill the table: 10 bytes of header, 12 of each transition, 6 of each bad state.
  pub length_is : length t ≡ 10 + 12 * s.transitions + 6 * s.bads
  length_is = sym (good-read t s g).bads.whole

  -- The bytes of each transition are there, and those of each bad state.
  pub transition-there : (i : ℕ) → i < s.transitions → 10 + 12 * i + 12 ≤ length t
  transition-there i h = omega (arith, length_is)

  pub bad-there : (i : ℕ) → i < s.bads → 10 + 12 * s.transitions + 6 * i + 6 ≤ length t
  bad-there i h = omega (arith, length_is)

  -- The frame of each record.
  pub header-framed : Framed t 0 1 6
  header-framed = (good-read t s g).header.framed

  pub transition-framed : (i : ℕ) → i < s.transitions → Framed t (transition_place i) 2 8
  transition-framed i h = ((good-read t s g).transitions.each i (omega arith) h).framed

  pub bad-framed : (i : ℕ) → i < s.bads → Framed t (bad_place s.transitions i) 3 2
  bad-framed i h = (good-read t s g).bads.framed i (omega arith) h

  -- Each transition's numbers are in range.
  pub entry-ranges : (i : ℕ) → i < s.transitions → EntryOk (header_in s) (entry_at t i)
  entry-ranges i h = ((good-read t s g).transitions.each i (omega arith) h).ok

  -- Each bad state is a state, and they rise strictly.
  pub bad-range : (i : ℕ) → i < s.bads → bad_at t s i < s.states
  unfolding bad_at
  bad-range i h = (good-read t s g).bads.state i (omega arith) h

  pub bad-rises : (a b : ℕ) → a < b → b < s.bads → bad_at t s a < bad_at t s b
  unfolding bad_at
  bad-rises a b l h =
      let r = (good-read t s g).bads.rises a b (omega arith) (omega arith) h in
      omega arith

  -- So there are no more bad states than states.
  pub few-bads : s.bads ≤ s.states
  few-bads = go s.bads refl
    where
      go : (n : ℕ) → s.bads ≡ n → n ≤ s.states
      go zero e = omega arith
      go (suc n) e =
          let a = (good-read t s g).bads.above n (omega arith) (omega arith) in
          let b = (good-read t s g).bads.state n (omega arith) (omega arith) in
          omega arith

  -- The longest legal table has 36,874 bytes.
  pub short : length t ≤ 36874
  short = let r = ranges.states in omega (arith, length_is, few-transitions, few-bads)
