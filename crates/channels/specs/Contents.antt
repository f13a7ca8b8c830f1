-- The channels' contents as local memory holds them: 2,048 places for each of 4 channels, and where in them its contents begin and end.
use Rattle.std.specs.Prelude.{List, [], ℕ, ◌+◌, ◌*◌, get_or}
use Rattle.common.specs.Choice.{if_lt}
use Rattle.common.specs.Part.{part}
use Rattle.meaning.specs.Systems.{Contents}

-- Where what waits in channel c begins and ends among its 2,048 places.
abbrev pub head_of : List ℕ → ℕ → ℕ
head_of ends c = get_or ends c 0

abbrev pub tail_of : List ℕ → ℕ → ℕ
tail_of ends c = get_or ends (4 + c) 0

-- The contents of the 4 channels that a table can have; nothing past them.
unfoldable pub contents_in : List ℕ → List ℕ → Contents
contents_in store ends c = if_lt c 4 (part (2048 * c + head_of ends c) (2048 * c + tail_of ends c) store) []
