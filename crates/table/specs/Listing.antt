-- A list of what a function gives at the numbers from i on.
use Rattle.std.specs.Prelude.{List, [], ◌∷◌, ℕ, zero, suc, ◌+◌}

-- f i, f (i + 1), .. : k of them.
unfoldable pub listed : {A : Type 0} → (ℕ → A) → ℕ → ℕ → List A
listed f zero i = []
listed f (suc k) i = f i ∷ listed f k (i + 1)
