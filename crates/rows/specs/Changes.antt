-- What a move changed, in the first words of a buffer.
use Rattle.std.specs.Prelude.{List, ℕ, ◌≤◌, Option, Some, None}
use Rattle.std.proofs.Math.Option as math
use Rattle.common.specs.Part.{part}
use Rattle.meaning.specs.Systems.{put}
use Rattle.rows.specs.declared.changes.Changed.{Changed}

-- The product in the buffer's first words, or none.
abbrev pub changed_to : Option ℕ → List ℕ → math.Option (List ℕ)
changed_to None buffer = math.none
changed_to (Some r) buffer = math.some (part 0 r buffer)

-- It has no more atoms than a row holds.
abbrev pub FewLeft : Option ℕ → Type 0
FewLeft None = Unit {0}
FewLeft (Some r) = r ≤ 24

-- The products with the buffer's first words at the channel that changed; none where the operation is impossible.
abbrev pub changed_in : Option Changed → (ℕ → List ℕ) → List ℕ → math.Option (ℕ → List ℕ)
changed_in None p buffer = math.none
changed_in (Some r) p buffer = math.some (put p r.channel (part 0 r.count buffer))

-- The channel is one of 4 or none of them, and its atoms are no more than an outcome may have.
abbrev pub FewChanged : Option Changed → Type 0
FewChanged None = Unit {0}
FewChanged (Some r) = (r.channel ≤ 4) × (r.count ≤ 25)
