-- Products as lists of masks, and what words they mean.
use Rattle.std.specs.Prelude.{List, map, ℕ}
use Rattle.meaning.specs.Words.{Word}
use Rattle.meaning.specs.Products.{Product, ProductWord}
use Rattle.atoms.specs.Masks.{meant}

-- The product that a list of masks means.
abbrev pub product : List ℕ → Product
product p = map meant p

-- The words of a list of masks.
abbrev pub WordOf : List ℕ → Word → Type 0
WordOf p w = ProductWord (product p) w
