-- A row that is appended: the products of its parent row, but for one channel.
use Rattle.std.specs.Prelude.{List, [], ◌∷◌, ◌++◌, ℕ, zero, suc, ◌+◌}
use Rattle.common.specs.Choice.{if_eq}
use Rattle.common.specs.Part.{part}
use Rattle.meaning.specs.Systems.{put}
use Rattle.work.specs.Layout.{Stored, channel_words, count_place}

-- The new row: its parent e is row i, and channel c has the product q.
abbrev pub appended : Stored → ℕ → ℕ → ℕ → ℕ → List ℕ → Stored
appended e s i m c q = record { row = record { state = s; products = put e.row.products c q }; parent = i; move = m }

-- The words of its channel d, where w holds row i: those of q, or those of row i as they stand.
unfoldable pub next_channel : List ℕ → ℕ → ℕ → List ℕ → ℕ → List ℕ
next_channel w i c q d = if_eq d c (channel_words q) (part (count_place i d) (count_place i d + 25) w)

-- The words of its first n channels.
unfoldable pub next_channels : ℕ → List ℕ → ℕ → ℕ → List ℕ → List ℕ
next_channels zero w i c q = []
next_channels (suc d) w i c q = next_channels d w i c q ++ next_channel w i c q d

-- Its 103 words.
unfoldable pub next_row : List ℕ → ℕ → ℕ → ℕ → ℕ → List ℕ → List ℕ
next_row w s i m c q = (s ∷ i ∷ m ∷ []) ++ next_channels 4 w i c q
