-- Words: what waits in a channel, and what losses leave of it.
use Rattle.std.specs.Prelude.{List, [], ◌∷◌, ℕ}

-- A word is a list of messages, the next to be received first (004, section 2: the strings M*).
abbrev pub Word : Type 0
Word = List ℕ

infix 50 ◌⪯◌
-- v ⪯ w: v is w with some messages lost, the others in their order (004, section 5: a not necessarily contiguous substring).
pub data ◌⪯◌ : Word → Word → Type 0 where
  done : [] ⪯ []
  keep : {m : ℕ} {v w : Word} → v ⪯ w → m ∷ v ⪯ m ∷ w
  lose : {m : ℕ} {v w : Word} → v ⪯ w → v ⪯ m ∷ w
