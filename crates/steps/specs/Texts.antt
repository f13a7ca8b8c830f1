-- What is read at the front of a text: fixed words, numbers, and one behind the other.
use Rattle.std.specs.Prelude.{List, [], ◌∷◌, ℕ, ◌+◌, ◌*◌, ◌-◌, Option, Some, None}
use Rattle.common.specs.Choice.{if_lt, if_eq}
use Rattle.steps.specs.declared.texts.Found.{Found}

-- A number that is read, and the rest of the text; or nothing, where the text begins with something else.
pub data Read : Type 0 where
  read : ℕ → List ℕ → Read
  nothing : Read

-- Where the text begins with the word: the number v, and the rest behind the word.
unfoldable pub behind : ℕ → List ℕ → List ℕ → Read
behind v [] l = read v l
behind v (x ∷ w) [] = nothing
behind v (x ∷ w) (y ∷ l) = if_eq y x (behind v w l) nothing

-- What is read next, by the number and the rest that were read before it.
abbrev pub next : Read → (ℕ → List ℕ → Read) → Read
next (read v l) f = f v l
next nothing f = nothing

-- The first of two that reads something.
abbrev pub either : Read → Read → Read
either (read v l) m = read v l
either nothing m = m

-- The digit that a byte says; nothing of a byte that is none.
unfoldable pub digit_of : ℕ → Option ℕ
digit_of c = if_lt c 48 None (if_lt 57 c None (Some (c - 48)))

-- The digits at the front, behind a number n that is read so far. No number of the checker is over 32,767.
unfoldable pub digits_in : ℕ → List ℕ → Read
digits_in n [] = read n []
digits_in n (c ∷ l) = elim (digit_of c) [ None ↦ read n (c ∷ l) | Some d ↦ if_lt 32767 (10 * n + d) nothing (digits_in (10 * n + d) l) ]

-- A number without leading zeros.
unfoldable pub number_in : List ℕ → Read
number_in [] = nothing
number_in (c ∷ l) = elim (digit_of c) [ None ↦ nothing | Some d ↦ if_eq d 0 (read 0 l) (digits_in d l) ]

-- A word with a number behind it.
unfoldable pub counted_in : List ℕ → List ℕ → Read
counted_in w l = next (behind 0 w l) (λ v r. number_in r)

-- What a call found at the front of a text.
abbrev pub read_as : Option Found → Read
read_as (Some f) = read f.value f.rest.now
read_as None = nothing
