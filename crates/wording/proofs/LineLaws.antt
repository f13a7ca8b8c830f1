-- First lines: how long they are, and that their parts, written one behind the other, make them.
use Rattle.std.proofs.Common.{Bor, ◌≡◌, List, ◌∷◌, ◌++◌, ℕ, ◌+◌, ◌<◌, ◌≤◌, ◌^◌, length, get_or, drop, length-append, drop-cons, add-one, arith}
use Rattle.wording.specs.Words.{refused_word, input_word, place_word, end_word}
use Rattle.wording.specs.Numbers.{number_text}
use Rattle.wording.specs.Lines.{counted, line_of, one_line, two_line, three_line, safe_line, unsafe_line, rows_full_line, atoms_full_line, refused_line}
use Rattle.wording.specs.Answers.{refusal_line}
use Rattle.wording.specs.Written.{Written}
use Rattle.wording.proofs.NumberLaws.{number_short}
use Rattle.wording.proofs.WrittenLaws.{written-length, written_then}

pub counted-length : (w : List ℕ) (n : ℕ) → length (counted w n) ≡ length w + length (number_text n)
unfolding counted
counted-length w n = length-append w (number_text n)

pub one-length : (w : List ℕ) (n : ℕ) → length (one_line w n) ≡ length (counted w n) + 1
one-length w n = length-append (counted w n) end_word

pub two-length : (v : List ℕ) (a : ℕ) (w : List ℕ) (b : ℕ) → length (two_line v a w b) ≡ length (counted v a) + length (counted w b) + 1
two-length v a w b = simp length-append (omega arith)

pub three-length : (u : List ℕ) (a : ℕ) (v : List ℕ) (b : ℕ) (w : List ℕ) (c : ℕ)
    → length (three_line u a v b w c) ≡ length (counted u a) + length (counted v b) + length (counted w c) + 1
three-length u a v b w c = simp length-append (omega arith)

-- A number of 64 bits has at most 20 digits.
pub long-number : (n : ℕ) → n < 2 ^ 64 → length (number_text n) ≤ 20
long-number n h = number_short 19 n (omega arith)

-- With such numbers every first line has at most 60 bytes.
module _ (n : ℕ) (h : n < 2 ^ 64) where
  pub safe-length : length (safe_line n) ≤ 60
  safe-length = let a = long-number n h in simp (one-length, counted-length) (omega arith)

  module _ (m : ℕ) (k : m < 2 ^ 64) where
    pub unsafe-length : length (unsafe_line n m) ≤ 60
    unsafe-length = let a = long-number n h in let b = long-number m k in simp (two-length, counted-length) (omega arith)

    pub rows-full-length : length (rows_full_line n m) ≤ 60
    rows-full-length = let a = long-number n h in let b = long-number m k in simp (two-length, counted-length) (omega arith)

    pub atoms-full-length : length (atoms_full_line n m) ≤ 60
    atoms-full-length = let a = long-number n h in let b = long-number m k in simp (two-length, counted-length) (omega arith)

    pub refused-length : length (refused_line n m) ≤ 60
    refused-length = let a = long-number n h in let b = long-number m k in simp (two-length, counted-length) (omega arith)

-- ---- a line of parts

-- The parts before number k are written, d is what the buffer holds then, and b the place behind them: the rest has room, and makes the line.
pub record Lining (parts : List (Bor (List ℕ) × ℕ)) (l : List ℕ) (a : ℕ) (d : List ℕ) (b k : ℕ) : Type 0 where
  pub room : b + length (line_of (drop k parts)) ≤ length d
  pub rest : (m : List ℕ) (r : ℕ) → Written d b (line_of (drop k parts)) m r → Written l a (line_of parts) m r

module _ (parts : List (Bor (List ℕ) × ℕ)) (l : List ℕ) (a : ℕ) (d : List ℕ) (b k : ℕ) (w : Lining parts l a d b k) (p : Bor (List ℕ) × ℕ) (h : k < length parts) where
  lining-here : drop k parts ≡ get_or parts k p ∷ drop (k + 1) parts
  lining-here = rw (add-one, drop-cons parts k p)

  pub lining-room : b + length (get_or parts k p).0.now + length (number_text (get_or parts k p).1) ≤ length d
  unfolding counted
  lining-room = let t = rw lining-here at w.room in let f = simp length-append at t in omega arith

  pub lining-on : (text e : List ℕ) (c : ℕ) (m : List ℕ) (r : ℕ) → text ≡ (get_or parts k p).0.now → Written d b text e c → Written e c (number_text (get_or parts k p).1) m r
      → Lining parts l a m r (k + 1)
  unfolding counted
  lining-on text e c m r q x y =
      let z : Written d b ((get_or parts k p).0.now ++ number_text (get_or parts k p).1) m r =
      rw (← q) (written_then d b text e c (number_text (get_or parts k p).1) m r x y) in
      record {
        room =
            let t = rw lining-here at w.room in
            let f = simp length-append at t in
            let g = simp length-append at z.next in
            let i = written-length _ _ _ _ _ z in omega arith;
        rest = λ n i v. w.rest n i (rw lining-here (written_then _ _ _ _ _ _ _ _ z v));
      }

-- Short words with numbers of 64 bits behind them fit where 80 bytes do.
module _ (w : List ℕ) (h : length w ≤ 16) (n : ℕ) (k : n < 2 ^ 64) (m : ℕ) (r : 80 ≤ m) where
  pub one-room : 0 + length (one_line w n) ≤ m
  one-room = let a = long-number n k in let e = one-length w n in let f = counted-length w n in omega arith

  module _ (w' : List ℕ) (h' : length w' ≤ 7) (n' : ℕ) (k' : n' < 2 ^ 64) where
    pub two-room : 0 + length (two_line w n w' n') ≤ m
    two-room =
        let a = long-number n k in let b = long-number n' k' in
        let e = two-length w n w' n' in let f = counted-length w n in let g = counted-length w' n' in omega arith

pub refusal-room : (n i p a m : ℕ) → n < 2 ^ 64 → i < 2 ^ 64 → p < 2 ^ 64 → a + 80 ≤ m → a + length (refusal_line n i p) ≤ m
refusal-room n i p a m h j k r =
    let x = long-number n h in let y = long-number i j in let z = long-number p k in
    let e = three-length refused_word n input_word i place_word p in
    let f = counted-length refused_word n in let g = counted-length input_word i in let o = counted-length place_word p in omega arith

-- How long first lines are, for `grind`.
pub ruleset line_lengths = (refused-length, refusal-room, unsafe-length)
