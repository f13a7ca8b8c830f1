-- One answer and one content of the list's bytes for each input.
use Rattle.std.proofs.Common.{◌≡◌, sym, ap, ◌∙◌, List, ℕ, length}
use Rattle.writer.specs.Writing.{Written, written, bytes_of, left_by}

-- Two calls that keep the promise of write_list answer the same and leave the same.
pub one_answer : (t w : List ℕ) (rows size : ℕ) (r r' : Written) → r ≡ written t w rows size → r' ≡ written t w rows size → r ≡ r'
one_answer t w rows size r r' e d = e ∙ sym d

pub one-content : (t w : List ℕ) (rows : ℕ) (old new new' : List ℕ) (r r' : Written) → r ≡ written t w rows (length old) → r' ≡ written t w rows (length old)
    → new ≡ left_by r (bytes_of t w rows) old → new' ≡ left_by r' (bytes_of t w rows) old → new ≡ new'
one-content t w rows old new new' r r' e d p q = p ∙ ap (λ (x : Written). left_by x (bytes_of t w rows) old) (e ∙ sym d) ∙ sym q
