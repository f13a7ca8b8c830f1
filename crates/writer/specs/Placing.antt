-- Bytes written one behind the other, each from the place of the list on where the last ended.
use Rattle.std.specs.Prelude.{◌≡◌, List, ℕ, ◌+◌, ◌≤◌, length}
use Rattle.common.specs.Store.{put_at}
use Rattle.writer.specs.declared.placing.Placing.{Placing}

-- There is room for bytes from the place on.
abbrev pub RoomFor : List ℕ → Placing → Type 0
RoomFor bytes p = p.at + length bytes ≤ length p.list.now

-- It is the same list, which holds the bytes from the old place on, and the new place is the one behind them.
pub record Placed (bytes : List ℕ) (old new : Placing) : Type 0 where
  pub same_list : new.list.ghost_name ≡ old.list.ghost_name
  pub place : new.at ≡ old.at + length bytes
  pub inside : new.at ≤ length old.list.now
  pub holds : new.list.now ≡ put_at old.list.now old.at bytes
