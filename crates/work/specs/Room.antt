-- How many rows a work table has room for.
use Rattle.std.specs.Prelude.{ℕ, ◌/◌}
use Rattle.common.specs.Choice.{if_lt}

-- The whole rows that fit into n words, at most 1,024.
unfoldable pub room_of : ℕ → ℕ
room_of n = if_lt (n / 103) 1024 (n / 103) 1024
