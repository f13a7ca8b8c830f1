-- Answers of the check's parts: a fault is no good end, and a good end says what it says once.
use Rattle.std.proofs.Common.{◌≡◌, Result, Ok, Err}

module _ {A E : Type 0} where
  pub err-ok : {f : E} {x : A} → ◌≡◌ {A = Result A E} (Err f) (Ok x) → ⊥
  err-ok e = absurd (cc)

  pub same_Ok : {x y : A} → ◌≡◌ {A = Result A E} (Ok x) (Ok y) → x ≡ y
  same_Ok e = cc
