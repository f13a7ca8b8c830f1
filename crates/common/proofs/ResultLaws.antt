-- What a `?` hands on.
use Rattle.std.proofs.Common.{◌≡◌, Result, Ok, Err, ap}
use Rattle.std.specs.Result.{IsErrAnd}

-- The answer where a `?` leaves is the error that its conversion makes.
pub left_err : {T E : Type 0} {e : E} (r : Result T E) → IsErrAnd r (λ y. y ≡ e) → r ≡ Err e
left_err (Ok x) h = absurd h
left_err (Err y) h = ap Err h
