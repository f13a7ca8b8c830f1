-- Runs: they compose, and they keep what each step keeps.
use Rattle.meaning.specs.Systems.{System, Config, Step, Run, stay, step}

-- A run and a run behind it are a run.
pub run-then : {S : System} {x y z : Config} → Run S x y → Run S y z → Run S x z
run-then r stay = r
run-then r (step q s) = step (run-then r q) s

-- A step and a run behind it are a run.
pub step_then : {S : System} {x y z : Config} → Step S x y → Run S y z → Run S x z
step_then s r = run-then (step stay s) r

-- What each step keeps, each run keeps.
pub run-keeps : {S : System} {x y : Config} (K : Config → Type 0) → ((u v : Config) → Step S u v → K u → K v) → Run S x y → K x → K y
run-keeps K keeps stay k = k
run-keeps K keeps (step {y = u} {z = v} r s) k = keeps u v s (run-keeps K keeps r k)
