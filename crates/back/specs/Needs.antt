-- What the channels must hold, in local memory, while the run is rebuilt from its end; and its words, which stand at the end of their memory.
use Rattle.std.specs.Prelude.{◌≡◌, Bool, List, ◌∷◌, ◌++◌, ℕ, ◌+◌, ◌<◌, ◌≤◌, length}
use Rattle.common.specs.Choice.{if_true}
use Rattle.common.specs.Part.{part}
use Rattle.meaning.specs.Systems.{Contents, put}
use Rattle.channels.specs.Contents.{head_of, tail_of, contents_in}
use Rattle.findings.specs.Rebuild.{Back, ends_with, all_but_last}
use Rattle.back.specs.declared.moves.Rebuilding.{Rebuilding}
use Rattle.back.specs.declared.needs.Needs.{Needs}
use Rattle.back.specs.declared.tails.Tail.{Tail}

-- What the channels must hold.
abbrev pub needed : Needs → Contents
needed q = contents_in q.store q.ends

-- The words that stand at the end of their memory.
abbrev pub standing : Tail → List ℕ
standing v = part v.at 2048 v.words

-- The memory is as long as it must be; the needed words stand below the last of each channel's places, and at most n messages were put in front of one.
pub record Needed (n : ℕ) (q : Needs) : Type 0 where
  pub room : length q.store ≡ 8192
  pub pairs : length q.ends ≡ 8
  pub order : (c : ℕ) → c < 4 → head_of q.ends c ≤ tail_of q.ends c
  pub high : (c : ℕ) → c < 4 → tail_of q.ends c ≤ 2048
  pub low : (c : ℕ) → c < 4 → 2048 ≤ head_of q.ends c + n

-- The message m was put in front of channel c.
pub record PutFront (c m : ℕ) (q q' : Needs) : Type 0 where
  pub before : needed q' ≡ put (needed q) c (m ∷ needed q c)
  pub keeps : (n : ℕ) → Needed n q → Needed (n + 1) q'

-- The message m was dropped from the end of channel c, if it stood there.
pub record DropLast (c m : ℕ) (q q' : Needs) (r : Bool) : Type 0 where
  pub stood : r ≡ ends_with m (needed q c)
  pub left : needed q' ≡ if_true r (put (needed q) c (all_but_last (needed q c))) (needed q)
  pub keeps : (n : ℕ) → Needed n q → Needed n q'
  pub store : q'.store ≡ q.store

-- The word x was put in front of the words that stand in v, and now they stand in v'.
pub record Pushed (x : ℕ) (v v' : Tail) : Type 0 where
  pub place : v'.at + 1 ≡ v.at
  pub words : standing v' ≡ x ∷ standing v

-- Going back over a move, which b says, made x' of x: its needs, and its words in front of those that stood there.
pub record Went (b : Back) (x x' : Rebuilding) : Type 0 where
  pub words : standing x'.run ≡ b.words ++ standing x.run
  pub place : x'.run.at ≤ x.run.at
  pub before : needed x'.needs ≡ b.before
  pub keeps : (n : ℕ) → Needed n x.needs → Needed (n + 1) x'.needs
