use Rattle.std.proofs.Common.{◌≡◌, false, true, sym, ◌∙◌, arith, rules}
use Rattle.std.proofs.lemmas.Iterator.{IsFirst-from_position, YieldsList-from_slice}
use Rattle.atoms.specs.Masks.{has}
use Rattle.atoms.proofs.ReceiveLaws.{received-nowhere, rest-here, rest-next}
use Rattle.atoms.proofs.products.received.Goals as goal

pub returns-in_err-first-clause-what_is_left : goal.returns-in_err-first-clause-what_is_left
returns-in_err-first-clause-what_is_left c =
    let lacks = IsFirst-from_position _ _ _ (λ a. has a c.args.m ≡ true) (λ a. has a c.args.m ≡ false) c.in_err-first.ensures.ran (YieldsList-from_slice c.args.p.now cc)
    (λ x q k. search rules) (λ x q k. search rules) in
    rw c.from_residual.ensures (received-nowhere _ _ (λ k h. lacks k 0 (omega arith) h))

pub returns-then-is_star-clause-what_is_left : goal.returns-then-is_star-clause-what_is_left
returns-then-is_star-clause-what_is_left c =
    let found = IsFirst-from_position _ _ _ (λ a. has a c.args.m ≡ true) (λ a. has a c.args.m ≡ false) c.in_ok-first.ensures.ran (YieldsList-from_slice c.args.p.now cc)
    (λ x q k. search rules) (λ x q k. search rules) in
    rest-here _ _ _ (record { inside = found.0; there = found.1 0; before = λ k h. found.2 k 0 (omega arith) h }) (sym c.is_star.ensures ∙ c.if-is_star.true)

pub returns-clause-what_is_left : goal.returns-clause-what_is_left
returns-clause-what_is_left c =
    let found = IsFirst-from_position _ _ _ (λ a. has a c.args.m ≡ true) (λ a. has a c.args.m ≡ false) c.in_ok-first.ensures.ran (YieldsList-from_slice c.args.p.now cc)
    (λ x q k. search rules) (λ x q k. search rules) in
    rest-next _ _ _ (record { inside = found.0; there = found.1 0; before = λ k h. found.2 k 0 (omega arith) h }) (sym c.is_star.ensures ∙ c.if-is_star.false)
