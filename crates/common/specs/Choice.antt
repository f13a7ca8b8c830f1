-- Choices, from which models are built in the order of the code's tests. Each stays shut: a proof goes through it by the laws of ChoiceLaws.
use Rattle.std.specs.Prelude.{Bool, cond, ℕ, ltb, eqb}

-- x where the test is true, else y.
unfoldable pub if_true : {A : Type 0} → Bool → A → A → A
if_true b x y = cond b x y

-- x where a is below b, else y.
unfoldable pub if_lt : {A : Type 0} → ℕ → ℕ → A → A → A
if_lt a b x y = cond (ltb a b) x y

-- x where a is b, else y.
unfoldable pub if_eq : {A : Type 0} → ℕ → ℕ → A → A → A
if_eq a b x y = cond (eqb a b) x y
