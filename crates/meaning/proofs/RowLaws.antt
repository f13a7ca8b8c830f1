-- The configurations of a row.
use mathlib.Core.Path.{◌≡◌, refl, ◌∙◌}
use mathlib.Core.List.{[]}
use mathlib.Core.Logic.{◌↔◌}
use Prim.Native.Nat.{ℕ}
use Rattle.meaning.specs.Words.{Word}
use Rattle.meaning.specs.Systems.{Config, Loses, put}
use Rattle.meaning.specs.Products.{ProductWord, Contained}
use Rattle.meaning.specs.Rows.{Row, InRow}
use Rattle.meaning.specs.Outcomes.{Remains}
use Rattle.meaning.proofs.ProductLaws.{product-nil, product-⪯}
use Rattle.meaning.proofs.PutLaws.{put_same, put-each}
use Rattle.meaning.proofs.LossLaws.{loses-remains}

-- The row's state with every channel empty.
abbrev pub lowest : Row → Config
lowest r = record { state = r.state; contents = λ c. [] }

-- It is in the row, since the empty word is in every product.
pub lowest-in : (r : Row) → InRow r (lowest r)
lowest-in r = record { state = refl; words = λ c. product-nil (r.product c) }

-- A row is closed under loss.
pub row-remains : {r : Row} {x y : Config} → Remains x y → InRow r x → InRow r y
row-remains l i = record { state = l.state ∙ i.state; words = λ c. product-⪯ (l.words c) (i.words c) }

-- So a loss step stays in its row.
pub row-loses : {r : Row} {x y : Config} → Loses x y → InRow r x → InRow r y
row-loses l i = row-remains (loses-remains l) i

-- A word in one channel of the row, all others empty.
only-in : (r : Row) (c : ℕ) (w : Word) → ProductWord (r.product c) w → InRow r (record { state = r.state; contents = put (λ d. []) c w })
only-in r c w i = record { state = refl; words = put-each (λ d. []) c w (λ d v. ProductWord (r.product d) v) i (λ d n. product-nil (r.product d)) }

-- ROWS: a row's configurations are all in another exactly when the states agree and each product is contained in its like. The other channels
-- never stand in the way, since the empty word is in every product.
pub row-contained : (r s : Row) → ((x : Config) → InRow r x → InRow s x) ↔ ((r.state ≡ s.state) × ((c : ℕ) → Contained (r.product c) (s.product c)))
row-contained r s = (
  λ f. ((f (lowest r) (lowest-in r)).state, λ c w i. rw (put_same (λ d. []) c w) at ((f _ (only-in r c w i)).words c)),
  λ h x i. record { state = i.state ∙ h.0; words = λ c. h.1 c (x.contents c) (i.words c) },
)
