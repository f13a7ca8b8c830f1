-- The first lines that the program can write. Each ends in a newline.
use Rattle.std.specs.Borrow.{Bor}
use Rattle.std.specs.Prelude.{List, [], ◌∷◌, ◌++◌, ℕ}
use Rattle.wording.specs.Words.{safe_word, unsafe_word, steps_word, rows_full_word, atoms_full_word, gap_word, refused_word, place_word, too_long_word, end_word}
use Rattle.wording.specs.Numbers.{number_text}

-- A word with a number behind it.
unfoldable pub counted : List ℕ → ℕ → List ℕ
counted word n = word ++ number_text n

-- A line of lent words, each with a number behind it.
abbrev pub line_of : List (Bor (List ℕ) × ℕ) → List ℕ
line_of [] = end_word
line_of (p ∷ ps) = counted p.0.now p.1 ++ line_of ps

-- A line of one such, and a line of two.
abbrev pub one_line : List ℕ → ℕ → List ℕ
one_line word n = counted word n ++ end_word

abbrev pub two_line : List ℕ → ℕ → List ℕ → ℕ → List ℕ
two_line first a second b = counted first a ++ (counted second b ++ end_word)

-- A line of three.
abbrev pub three_line : List ℕ → ℕ → List ℕ → ℕ → List ℕ → ℕ → List ℕ
three_line first a second b third c = counted first a ++ (counted second b ++ (counted third c ++ end_word))

abbrev pub safe_line : ℕ → List ℕ
safe_line rows = one_line safe_word rows

abbrev pub unsafe_line : ℕ → ℕ → List ℕ
unsafe_line rows steps = two_line unsafe_word rows steps_word steps

abbrev pub rows_full_line : ℕ → ℕ → List ℕ
rows_full_line row transition = two_line rows_full_word row gap_word transition

abbrev pub atoms_full_line : ℕ → ℕ → List ℕ
atoms_full_line row transition = two_line atoms_full_word row gap_word transition

abbrev pub refused_line : ℕ → ℕ → List ℕ
refused_line number place = two_line refused_word number place_word place

abbrev pub too_long_line : List ℕ
too_long_line = too_long_word ++ end_word
