-- One answer to each input, and what the numbers of an answer tell of it.
use Rattle.std.proofs.Common.{Result, Ok, Err, ◌≡◌, refl, ap, sym, ◌∙◌, List, ◌↔◌, ℕ}
use Rattle.common.specs.Choice.{if_eq}
use Rattle.table.specs.Checking.{check_table}
use Rattle.table.specs.Answers.{Answer, good, refused, answer, number_of, place_of}
use Rattle.reader.specs.Walks.{walk_records}
use Rattle.table.specs.declared.faults.Fault.{Fault}
use Rattle.table.specs.declared.faults.Fault.TheVariants.{Cut, Kind, Length, Count, Field, Rising}
use Rattle.table.specs.declared.faults.Refusal.{Refusal}
use Rattle.table.specs.declared.checks.Shape.{Shape}
use Rattle.reader.specs.declared.reader.Cut as reader

-- Two answers that keep the promise of check_table are equal.
pub one_answer : (t : List ℕ) (r r' : Result Shape Refusal) → r ≡ check_table t → r' ≡ check_table t → r ≡ r'
one_answer t r r' e f = e ∙ sym f

-- So with walk_records, and with a refusal's number and place.
pub one-walk : (t : List ℕ) (r r' : Result ℕ reader.Cut) → r ≡ walk_records t → r' ≡ walk_records t → r ≡ r'
one-walk t r r' e f = e ∙ sym f

pub one_number : (f : Fault) (n n' : ℕ) → n ≡ number_of f → n' ≡ number_of f → n ≡ n'
one_number f n n' e d = e ∙ sym d

pub one_place : (f : Fault) (at p p' : ℕ) → p ≡ place_of f at → p' ≡ place_of f at → p ≡ p'
one_place f at p p' e d = e ∙ sym d

-- An answer without the offset of its wrong field.
abbrev pub fault-blurred : Fault → Fault
fault-blurred Cut = Cut
fault-blurred Kind = Kind
fault-blurred Length = Length
fault-blurred Count = Count
fault-blurred (Field offset) = Field 0
fault-blurred Rising = Rising

abbrev pub blurred : Result Shape Refusal → Result Shape Refusal
blurred (Ok s) = Ok s
blurred (Err r) = Err (record { fault = fault-blurred r.fault; at = r.at })

-- What a number and a place came from.
fault_of : ℕ → Fault
fault_of n = if_eq n 1 Cut (if_eq n 2 Kind (if_eq n 3 Length (if_eq n 4 (Field 0) (if_eq n 5 Rising Count))))

fault-back : (f : Fault) → fault_of (number_of f) ≡ fault-blurred f
unfolding fault_of if_eq
fault-back Cut = refl
fault-back Kind = refl
fault-back Length = refl
fault-back Count = refl
fault-back (Field offset) = refl
fault-back Rising = refl

back : Answer → Result Shape Refusal
back (good s) = Ok s
back (refused r) = Err (record { fault = fault_of r.number; at = r.place })

place-back : (f : Fault) (at : ℕ) → place_of f at ≡ at
place-back Cut at = refl
place-back Kind at = refl
place-back Length at = refl
place-back Count at = refl
place-back (Field offset) at = refl
place-back Rising at = refl

answer_back : (r : Result Shape Refusal) → back (answer r) ≡ blurred r
unfolding back
answer_back (Ok s) = refl
answer_back (Err r) = rw (fault-back r.fault, place-back r.fault r.at)

fault-kept : (f : Fault) → number_of (fault-blurred f) ≡ number_of f
fault-kept Cut = refl
fault-kept Kind = refl
fault-kept Length = refl
fault-kept Count = refl
fault-kept (Field offset) = refl
fault-kept Rising = refl

answer-kept : (r : Result Shape Refusal) → answer (blurred r) ≡ answer r
answer-kept (Ok s) = refl
answer-kept (Err r) = rw (place-back r.fault r.at, place-back (fault-blurred r.fault) r.at, fault-kept r.fault)

-- Two answers say the same exactly when they are equal but for the offset of the wrong field, which the numbers do not show.
pub same_answer : (r r' : Result Shape Refusal) → (answer r ≡ answer r') ↔ (blurred r ≡ blurred r')
same_answer r r' = (
  (λ e. sym (answer_back r) ∙ ap back e ∙ answer_back r'),
  (λ e. sym (answer-kept r) ∙ ap answer e ∙ answer-kept r'),
)
