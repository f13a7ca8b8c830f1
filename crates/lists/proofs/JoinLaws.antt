-- Lists joined, and where each product's atoms end.
use Rattle.std.proofs.Common.{◌≡◌, refl, sym, ap, ◌∙◌, List, [], ◌∷◌, ◌++◌, append_assoc, append-nil, ℕ, suc, ◌+◌, arith, length, length-append}
use Rattle.lists.specs.Format.{joined}
use Rattle.lists.specs.Loading.{atoms_in, ends}

pub joined-append : {A B : Type 0} (f : A → List B) (l m : List A) → joined f (l ++ m) ≡ joined f l ++ joined f m
unfolding joined
joined-append f [] m = refl
joined-append f (x ∷ l) m = ap (λ r. f x ++ r) (joined-append f l m) ∙ sym (append_assoc (f x) (joined f l) (joined f m))

pub joined-one : {A B : Type 0} (f : A → List B) (x : A) → joined f (x ∷ []) ≡ f x
unfolding joined
joined-one f x = append-nil (f x)

pub joined_snoc : {A B : Type 0} (f : A → List B) (l : List A) (x : A) → joined f (l ++ (x ∷ [])) ≡ joined f l ++ f x
joined_snoc f l x = joined-append f l (x ∷ []) ∙ ap (λ r. joined f l ++ r) (joined-one f x)

pub ends-length : (u : ℕ) (ps : List (List ℕ)) → length (ends u ps) ≡ length ps
unfolding ends
ends-length u [] = refl
ends-length u (p ∷ ps) = ap suc (ends-length (u + length p) ps)

pub ends-append : (u v : ℕ) (ps qs : List (List ℕ)) → v ≡ u + length (atoms_in ps) → ends u (ps ++ qs) ≡ ends u ps ++ ends v qs
unfolding ends joined
ends-append u v [] qs e = let z : u ≡ v = omega arith in rw z
ends-append u v (p ∷ ps) qs e =
    let w : length (p ++ atoms_in ps) ≡ length p + length (atoms_in ps) = length-append p (atoms_in ps) in
    ap (λ r. (u + length p) ∷ r) (ends-append (u + length p) v ps qs (omega arith))

pub ends_snoc : (u v w : ℕ) (ps : List (List ℕ)) (p : List ℕ) → v ≡ u + length (atoms_in ps) → w ≡ v + length p → ends u (ps ++ (p ∷ [])) ≡ ends u ps ++ (w ∷ [])
unfolding ends
ends_snoc u v w ps p e d = ends-append u v ps (p ∷ []) e ∙ ap (λ (n : ℕ). ends u ps ++ (n ∷ [])) (sym d)
