-- The cases worked by hand, as one table under one theorem: each says what the definitions answer and what words are meant.
use Rattle.std.proofs.Common.{◌≡◌, refl, sym, ap, ap₂, Bool, true, false, ◌&&◌, not, true≢false, ◌↔◌, List, [], ◌∷◌, ℕ, ◌+◌, ◌^◌, eqb, eqb-true}
use mathlib.Core.Option.{Option, none, some}
use borrow.Author.Tests.{not-true}
use Rattle.common.specs.Choice.{if_true, if_lt, if_eq}
use Rattle.common.specs.Each.{Each}
use Rattle.common.proofs.BoolLaws.{clash, and-true}
use Rattle.meaning.specs.Words.{Word}
use Rattle.meaning.specs.Products.{Contained}
use Rattle.atoms.specs.Masks.{bit, star, has, sub, absorbs, Atoms, atom_test}
use Rattle.atoms.specs.Products.{product, WordOf}
use Rattle.atoms.specs.Contained.{against, contained}
use Rattle.atoms.specs.Receive.{received}
use Rattle.atoms.specs.Normal.{push, normal}
use Rattle.atoms.proofs.AtomLaws.{atom-test}
use Rattle.atoms.proofs.ContainedLaws.{contained-iff}
use Rattle.atoms.proofs.ReceiveLaws.{receive-iff, impossible-iff}
use Rattle.atoms.proofs.NormalLaws.{normal-words}

-- A worked case: p is contained in q, or is not; a receive of m from p leaves q, or is impossible; the normal form of p is q.
pub data Case : Type 0 where
  inside : List ℕ → List ℕ → Case
  outside : List ℕ → List ℕ → Case
  leaves : ℕ → List ℕ → List ℕ → Case
  impossible : ℕ → List ℕ → Case
  settles : List ℕ → List ℕ → Case

-- What a case says.
abbrev pub Says : Case → Type 0
Says (inside p q) = (contained p q ≡ true) × Contained (product p) (product q)
Says (outside p q) = (contained p q ≡ false) × (Contained (product p) (product q) → ⊥)
Says (leaves m p q) = (received m p ≡ some q) × ((w : Word) → WordOf q w ↔ WordOf p (m ∷ w))
Says (impossible m p) = (received m p ≡ none) × ((w : Word) → WordOf p (m ∷ w) → ⊥)
Says (settles p q) = (normal p ≡ q) × ((w : Word) → WordOf p w ↔ WordOf q w)

-- ---- the table, over the messages 0 and 1: 0? and 1? are singles, {0}*, {1}* and {0,1}* stars

abbrev 0? : ℕ
0? = 1

abbrev 1? : ℕ
1? = 2

abbrev 0* : ℕ
0* = 2 ^ 15 + 1

abbrev 1* : ℕ
1* = 2 ^ 15 + 2

abbrev 01* : ℕ
01* = 2 ^ 15 + 3

pub table : List Case
table =
    inside (0? ∷ 1? ∷ []) (0? ∷ 1? ∷ 0? ∷ [])
    ∷ outside (1? ∷ 0? ∷ []) (0? ∷ 1? ∷ [])
    ∷ inside (0? ∷ 0? ∷ []) (0* ∷ [])
    ∷ outside (0* ∷ []) (0? ∷ 0? ∷ [])
    ∷ inside (0* ∷ 1* ∷ []) (01* ∷ [])
    ∷ outside (01* ∷ []) (0* ∷ 1* ∷ [])
    ∷ inside [] []
    ∷ outside (0? ∷ []) []
    ∷ leaves 1 (0? ∷ 1* ∷ 0? ∷ []) (1* ∷ 0? ∷ [])
    ∷ leaves 0 (0? ∷ 1? ∷ []) (1? ∷ [])
    ∷ impossible 1 (0? ∷ [])
    ∷ settles (0* ∷ 1? ∷ 01* ∷ []) (01* ∷ [])
    ∷ settles (0? ∷ 0? ∷ []) (0? ∷ 0? ∷ [])
    ∷ []

-- ---- the test of a case, which computes

all_atoms : List ℕ → Bool
all_atoms [] = true
all_atoms (a ∷ p) = atom_test 15 a && all_atoms p

same : List ℕ → List ℕ → Bool
same [] [] = true
same [] (b ∷ q) = false
same (a ∷ p) [] = false
same (a ∷ p) (b ∷ q) = eqb a b && same p q

is_left : Option (List ℕ) → List ℕ → Bool
is_left none q = false
is_left (some p) q = same p q

is_none : Option (List ℕ) → Bool
is_none none = true
is_none (some p) = false

test : Case → Bool
test (inside p q) = contained p q && (all_atoms p && all_atoms q)
test (outside p q) = not (contained p q) && (all_atoms p && all_atoms q)
test (leaves m p q) = is_left (received m p) q
test (impossible m p) = is_none (received m p)
test (settles p q) = same (normal p) q

-- ---- a case whose test is true says what is so

all-atoms : (p : List ℕ) → all_atoms p ≡ true → Atoms p
unfolding all_atoms
all-atoms [] e = tt
all-atoms (a ∷ p) e = let r = and-true (atom_test 15 a) (all_atoms p) e in (((atom-test 15 a).0 r.0).atom, all-atoms p r.1)

same-equal : (p q : List ℕ) → same p q ≡ true → p ≡ q
unfolding same
same-equal [] [] e = refl
same-equal [] (b ∷ q) e = absurd (true≢false (sym e))
same-equal (a ∷ p) [] e = absurd (true≢false (sym e))
same-equal (a ∷ p) (b ∷ q) e = let r = and-true (eqb a b) (same p q) e in ap₂ ◌∷◌ (eqb-true a b r.0) (same-equal p q r.1)

both-atoms : (t : Bool) (p q : List ℕ) → (t && (all_atoms p && all_atoms q)) ≡ true → (t ≡ true) × Atoms p × Atoms q
both-atoms t p q e =
    let r = and-true t (all_atoms p && all_atoms q) e in
    let s = and-true (all_atoms p) (all_atoms q) r.1 in
    (r.0, all-atoms p s.0, all-atoms q s.1)

is-left : (o : Option (List ℕ)) (q : List ℕ) → is_left o q ≡ true → o ≡ some q
unfolding is_left
is-left none q e = absurd (true≢false (sym e))
is-left (some p) q e = ap some (same-equal p q e)

is-none : (o : Option (List ℕ)) → is_none o ≡ true → o ≡ none
unfolding is_none
is-none none e = refl
is-none (some p) e = absurd (true≢false (sym e))

says : (c : Case) → test c ≡ true → Says c
unfolding test
says (inside p q) e = let r = both-atoms (contained p q) p q e in (r.0, (contained-iff p q r.1 r.2).0 r.0)
says (outside p q) e =
    let r = both-atoms (not (contained p q)) p q e in
    let n = not-true (contained p q) r.0 in
    (n, λ f. clash ((contained-iff p q r.1 r.2).1 f) n)
says (leaves m p q) e = let l = is-left (received m p) q e in (l, λ w. rw l at (receive-iff m p w))
says (impossible m p) e = let l = is-none (received m p) e in (l, (impossible-iff m p).0 l)
says (settles p q) e = let l = same-equal (normal p) q e in (l, λ w. rw l at (normal-words p w))

all_true : List Case → Bool
all_true [] = true
all_true (c ∷ l) = test c && all_true l

all_say : (l : List Case) → all_true l ≡ true → Each Says l
unfolding all_true
all_say [] e = tt
all_say (c ∷ l) e = let r = and-true (test c) (all_true l) e in (says c r.0, all_say l r.1)

-- THE CASES: each case of the table is so.
pub cases : Each Says table
unfolding table all_true test all_atoms same is_left is_none atom_test contained against received normal push absorbs sub star has bit if_true if_lt if_eq
cases = all_say table refl
