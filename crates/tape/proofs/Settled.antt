-- The calls are settled by their contracts: two results that meet one are equal, and so are the rows and buffers that they leave.
-- And the tape check gives the number that reading gives with a row long enough.
use mathlib.Core.Path.{◌≡◌, refl, sym, ap, ap₂, ◌∙◌}
use Prim.Native.Nat.{ℕ, ◌≤◌}
use mathlib.Core.List.{List, [], ◌∷◌}
use native.Mathlib.Nat.{lt_irrefl}
use native.Mathlib.Omega.{arith}
use lib.ListN.{length}
use borrow.Author.Tests.{le-leb}
use Rattle.std.specs.Prelude.{Result, Ok, Err}
use Rattle.refusals.specs.Refusals.{number}
use Rattle.refusals.specs.declared.Refusal.{Refusal}
use Rattle.refusals.proofs.NumberLaws.{number-one, number-some}
use Rattle.tape.specs.Reading.{Outcome, read_tape, first_boxes}
use Rattle.tape.specs.Promises.{Checked, number_of, recorded, read_answer, written_answer, answer_with, CheckPromise, ReadPromise, WritePromise}
use Rattle.tape.specs.declared.Recorded.{Recorded}

-- a refusal's number is not that of what is done
not-done : (e : Refusal) → 0 ≡ number e → ⊥
not-done e h = lt_irrefl 0 (omega (arith, h, number-some e))

-- one answer is one result
check-one : (r s : Checked) → number_of r ≡ number_of s → r ≡ s
check-one (Ok v) (Ok w) h = refl
check-one (Ok v) (Err e) h = absurd (not-done e h)
check-one (Err e) (Ok v) h = absurd (not-done e (sym h))
check-one (Err d) (Err e) h = ap Err (number-one d e h)

read-one : (r s : Result Recorded Refusal) → (read_answer r).number ≡ (read_answer s).number → (read_answer r).values ≡ (read_answer s).values → r ≡ s
read-one (Ok x) (Ok y) e h =
    let a : x.first ≡ y.first = cc in
    let b : x.steps ≡ y.steps = cc in
    ap₂ (λ f n. Ok (recorded f n)) a b
read-one (Ok x) (Err e) h v = absurd (not-done e h)
read-one (Err e) (Ok y) h v = absurd (not-done e (sym h))
read-one (Err d) (Err e) h v = ap Err (number-one d e h)

written-one : (r s : Result ℕ Refusal) → (written_answer r).number ≡ (written_answer s).number → (written_answer r).values ≡ (written_answer s).values → r ≡ s
written-one (Ok n) (Ok m) e h = let b : n ≡ m = cc in ap Ok b
written-one (Ok n) (Err e) h v = absurd (not-done e h)
written-one (Err e) (Ok n) h v = absurd (not-done e (sym h))
written-one (Err d) (Err e) h v = ap Err (number-one d e h)

pub check-settled : (tape : List ℕ) (r s : Checked) → CheckPromise tape (number_of r) → CheckPromise tape (number_of s) → r ≡ s
check-settled tape r s a b = check-one r s (a ∙ sym b)

pub read-settled : (tape row : List ℕ) (r s : Result Recorded Refusal) (v w : List ℕ) → ReadPromise tape row r v → ReadPromise tape row s w → (r ≡ s) × (v ≡ w)
read-settled tape row r s v w a b =
    let e = a.told ∙ sym b.told in
    (read-one r s (ap (λ x. x.number) e) (ap (λ x. x.values) e), a.row_is ∙ sym b.row_is)

pub write-settled : (first : ℕ) (words buffer : List ℕ) (r s : Result ℕ Refusal) (v w : List ℕ) → WritePromise first words buffer r v → WritePromise first words buffer s w
    → (r ≡ s) × (v ≡ w)
write-settled first words buffer r s v w a b =
    let e = a.told ∙ sym b.told in
    (written-one r s (ap (λ x. x.number) e) (ap (λ x. x.values) e), a.buffer_is ∙ sym b.buffer_is)

told-number : (n : ℕ) (vs : List ℕ → List ℕ) (o : Outcome) → ((xs : List ℕ) → o ≡ Ok xs → length xs ≤ n) → (answer_with n vs o).number ≡ number_of o
told-number n vs (Ok xs) h = simp (le-leb _ _ (h xs refl))
told-number n vs (Err e) h = refl

-- a row is long enough when it has a place for each step
pub check_reads : (tape row : List ℕ) (k : ℕ) (r : Result Recorded Refusal) (after : List ℕ) → ((xs : List ℕ) → read_tape tape ≡ Ok xs → length xs ≤ length row)
    → CheckPromise tape k → ReadPromise tape row r after → k ≡ (read_answer r).number
check_reads tape row k r after h a b =
    a ∙ sym (ap (λ x. x.number) b.told ∙ told-number (length row) (λ xs. first_boxes tape ∷ length xs ∷ []) (read_tape tape) h)
