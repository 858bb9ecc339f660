-- Laws of answers: what a refusal and what a success promise, for a row and for a buffer alike.
use mathlib.Core.Path.{◌≡◌, refl, sym, ap, ◌∙◌}
use Prim.Native.Nat.{ℕ, ◌+◌, ◌≤◌, ◌<◌}
use mathlib.Core.List.{List, [], ◌++◌}
use lib.ListN.{length, drop}
use borrow.Author.Tests.{le-leb, lt-leb}
use native.Mathlib.Nat.{zero-add}
use Rattle.std.specs.Prelude.{Result, Ok, Err}
use Rattle.std.specs.Result.{IsErrAnd}
use Rattle.refusals.specs.Refusals.{number}
use Rattle.refusals.specs.declared.Refusal.{Refusal}
use Rattle.refusals.specs.declared.Refusal.TheVariants.{RowTooShort}
use Rattle.tape.specs.Reading.{Outcome, words_of}
use Rattle.tape.specs.Promises.{Answer, answer, recorded, counted, recorded_as, answer_with, held_by}
use Rattle.tape.specs.declared.Recorded.{Recorded}

-- a `?` hands the refusal on
pub handed-on : {T : Type 0} (r : Result T Refusal) (e : Refusal) → IsErrAnd r (λ d. d ≡ e) → r ≡ Err e
handed-on (Ok v) e h = absurd h
handed-on (Err d) e h = ap Err h

-- what a tape holds where its steps are counted, and where it is refused
pub recorded-counted : (first n : ℕ) (o : Outcome) → Ok n ≡ counted 0 o → Ok (recorded first n) ≡ recorded_as first o
recorded-counted first n (Ok xs) h = let e : n ≡ 0 + length xs = cc in ap (λ m. Ok (recorded first m)) (e ∙ zero-add (length xs))
recorded-counted first n (Err e) h = cc

pub recorded-refused : (first : ℕ) (e : Refusal) (o : Outcome) → Err e ≡ counted 0 o → Err e ≡ recorded_as first o
recorded-refused first e (Ok xs) h = cc
recorded-refused first e (Err d) h = cc

pub recorded-is : (first : ℕ) (r : Recorded) (o : Outcome) → Ok r ≡ recorded_as first o → (o ≡ Ok (words_of o)) × (r ≡ recorded first (length (words_of o)))
recorded-is first r (Ok xs) h = (refl, cc)
recorded-is first r (Err d) h = cc

-- what is promised of an answer and of what is lent
pub record Kept (lent : List ℕ) (vs : List ℕ → List ℕ) (o : Outcome) (a : Answer) (after : List ℕ) : Type 0 where
  pub told : a ≡ answer_with (length lent) vs o
  pub held : after ≡ held_by lent o

-- a refusal carries no value, and leaves what is lent
pub refusal-kept : (lent : List ℕ) (vs : List ℕ → List ℕ) (o : Outcome) (e : Refusal) → o ≡ Err e → Kept lent vs o (answer (number e) []) lent
refusal-kept lent vs o e h = record { told = sym (ap (answer_with (length lent) vs) h); held = sym (ap (held_by lent) h) }

-- so does one where too little is lent
pub short-kept : (lent : List ℕ) (vs : List ℕ → List ℕ) (o : Outcome) (xs : List ℕ) → o ≡ Ok xs → length lent < length xs
    → Kept lent vs o (answer (number RowTooShort) []) lent
short-kept lent vs o xs e h = record {
  told = sym (ap (answer_with (length lent) vs) e ∙ simp (lt-leb _ _ h));
  held = sym (ap (held_by lent) e ∙ simp (lt-leb _ _ h));
}

-- a success has its values, and is overlaid over the front
pub success-kept : (lent : List ℕ) (vs : List ℕ → List ℕ) (o : Outcome) (xs : List ℕ) → o ≡ Ok xs → length xs ≤ length lent
    → Kept lent vs o (answer 0 (vs xs)) (xs ++ drop (length xs) lent)
success-kept lent vs o xs e h = record {
  told = sym (ap (answer_with (length lent) vs) e ∙ simp (le-leb _ _ h));
  held = sym (ap (held_by lent) e ∙ simp (le-leb _ _ h));
}
