-- What writing a text into a lent buffer makes of it.
use Rattle.std.specs.Prelude.{◌≡◌, List, ℕ, ◌+◌, ◌≤◌, length}
use Rattle.common.specs.Store.{put_at}

-- The text stands from place a on, all other places are as they were, and r is the place behind it, which is not past the buffer's end.
pub record Written (l : List ℕ) (a : ℕ) (text m : List ℕ) (r : ℕ) : Type 0 where
  pub holds : m ≡ put_at l a text
  pub next : r ≡ a + length text
  pub inside : r ≤ length l
