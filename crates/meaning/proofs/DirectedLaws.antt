-- Any two words of a product are what losses leave of a third; so are any two configurations of a row.
use mathlib.Core.Path.{◌≡◌, refl, sym, ap, ◌∙◌}
use mathlib.Core.List.{[], ◌∷◌, ◌++◌}
use Prim.Native.Nat.{ℕ}
use Rattle.common.proofs.BoolLaws.{clash}
use Rattle.meaning.specs.Words.{Word, ◌⪯◌}
use Rattle.meaning.specs.Systems.{Config}
use Rattle.meaning.specs.Products.{Atom, Proper, AtomWord, any, empty, one, Product, ProductWord, end, join}
use Rattle.meaning.specs.Rows.{Row, InRow}
use Rattle.meaning.specs.Outcomes.{Remains}
use Rattle.meaning.proofs.WordLaws.{⪯-refl, ⪯-same, ⪯-trans, ⪯-nil, ⪯-join, ⪯-front, ⪯-back}
use Rattle.meaning.proofs.ContainmentLaws.{over-join}

-- A word of K that u and v are what losses leave of.
pub record Above (K : Word → Type 0) (u v : Word) : Type 0 where
  pub word : Word
  pub inside : K word
  pub left : u ⪯ word
  pub right : v ⪯ word

-- A single once, of a star both.
atom-above : {a : Atom} {u v : Word} → Proper a → AtomWord a u → AtomWord a v → Above (AtomWord a) u v
atom-above {a} {u} {v} pa (any s h) (any t k) = record { word = u ++ v; inside = any s (over-join a u v h k); left = ⪯-front u v; right = ⪯-back u v }
atom-above pa (any s h) (empty t e) = absurd (clash s t)
atom-above pa (any s h) (one t m k e) = absurd (clash s t)
atom-above pa (empty s e) (any t k) = absurd (clash t s)
atom-above pa (one s m h e) (any t k) = absurd (clash t s)
atom-above {u = u} {v = v} pa (empty s e) (empty t d) = record { word = v; inside = empty t d; left = ⪯-trans (⪯-same e) (⪯-nil v); right = ⪯-refl v }
atom-above {u = u} {v = v} pa (empty s e) (one t m h d) = record { word = v; inside = one t m h d; left = ⪯-trans (⪯-same e) (⪯-nil v); right = ⪯-refl v }
atom-above {u = u} {v = v} pa (one s m h e) (empty t d) = record { word = u; inside = one s m h e; left = ⪯-refl u; right = ⪯-trans (⪯-same d) (⪯-nil u) }
atom-above {u = u} {v = v} pa (one s m h e) (one t n k d) =
    let same : m ≡ n = pa.only s m h ∙ sym (pa.only s n k) in
    record { word = u; inside = one s m h e; left = ⪯-refl u; right = ⪯-same (d ∙ ap (◌∷ []) (sym same) ∙ sym e) }

-- Each atom of the product is proper.
abbrev pub Propers : Product → Type 0
Propers [] = Unit {0}
Propers (a ∷ p) = Proper a × Propers p

pub product-above : {p : Product} {u v : Word} → Propers p → ProductWord p u → ProductWord p v → Above (ProductWord p) u v
product-above pp end end = record { word = []; inside = end; left = ⪯-refl []; right = ⪯-refl [] }
product-above pp (join e i j) (join d k l) =
    let h = atom-above pp.0 i k in
    let t = product-above pp.1 j l in
    record {
      word = h.word ++ t.word;
      inside = join refl h.inside t.inside;
      left = ⪯-trans (⪯-same e) (⪯-join h.left t.left);
      right = ⪯-trans (⪯-same d) (⪯-join h.right t.right);
    }

-- DIRECTED: any two configurations of a row are what losses leave of a third in the row, channel by channel.
pub row-above : (r : Row) (x y : Config) → ((c : ℕ) → Propers (r.product c)) → InRow r x → InRow r y → (z : Config) × InRow r z × Remains z x × Remains z y
row-above r x y pp i j = (
  record { state = r.state; contents = λ c. (at c).word },
  record { state = refl; words = λ c. (at c).inside },
  record { state = i.state; words = λ c. (at c).left },
  record { state = j.state; words = λ c. (at c).right },
)
  where
    at : (c : ℕ) → Above (ProductWord (r.product c)) (x.contents c) (y.contents c)
    at c = product-above (pp c) (i.words c) (j.words c)
