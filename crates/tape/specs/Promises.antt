-- What each public call promises: the number, the values, and each place of what is lent (01, "How far a contract must reach").
use Rattle.std.specs.Prelude.{ℕ, ◌+◌, ◌≡◌, List, [], ◌∷◌, ◌++◌, cond, Result, Ok, Err, length, drop, leb}
use Rattle.refusals.specs.Refusals.{number}
use Rattle.refusals.specs.declared.Refusal.{Refusal}
use Rattle.refusals.specs.declared.Refusal.TheVariants.{RowTooShort}
use Rattle.tape.specs.Reading.{Outcome, read_tape, first_boxes}
use Rattle.tape.specs.Writing.{write_tape}
use Rattle.tape.specs.declared.reading.Reading.{Reading}
use Rattle.tape.specs.declared.reading.Reading.TheVariants as G
use Rattle.tape.specs.declared.Recorded.{Recorded}

-- an answer: 01's number, and the values that come with it
pub record Answer : Type 0 where
  pub number : ℕ
  pub values : List ℕ

abbrev pub answer : ℕ → List ℕ → Answer
answer k vs = record { number = k; values = vs }

-- what a tape of some first boxes and n steps holds
abbrev pub recorded : ℕ → ℕ → Recorded
recorded first n = record { first = first; steps = n }

-- the number that each case is: 0 for what is done, else the refusal's
abbrev pub number_of : {A : Type 0} → Result A Refusal → ℕ
number_of (Ok v) = 0
number_of (Err e) = number e

-- what a check comes to: done, or a refusal
abbrev pub Checked : Type 0
Checked = Result (Unit {0}) Refusal

-- the answer that each case of a reading is: the first boxes and the number of steps
abbrev pub read_answer : Result Recorded Refusal → Answer
read_answer (Ok it) = answer 0 (it.first ∷ it.steps ∷ [])
read_answer (Err e) = answer (number e) []

-- the answer that each case of a writing is: the tape's length
abbrev pub written_answer : Result ℕ Refusal → Answer
written_answer (Ok n) = answer 0 (n ∷ [])
written_answer (Err e) = answer (number e) []

-- how many words an outcome gives, after m more
abbrev pub counted : ℕ → Outcome → Result ℕ Refusal
counted m (Ok xs) = Ok (m + length xs)
counted m (Err e) = Err e

-- the same at a reading that is no step, after m steps
abbrev pub ended_at : Reading → ℕ → Result ℕ Refusal
ended_at (G.Step x q) m = Ok m
ended_at (G.Refused e) m = Err e
ended_at G.End m = Ok m

-- what a tape with an outcome holds, with these first boxes
abbrev pub recorded_as : ℕ → Outcome → Result Recorded Refusal
recorded_as first (Ok xs) = Ok (recorded first (length xs))
recorded_as first (Err e) = Err e

-- the answer of an outcome with n places lent, its values being vs of what is given; 16 where they are too few
abbrev pub answer_with : ℕ → (List ℕ → List ℕ) → Outcome → Answer
answer_with n vs (Ok xs) = cond (leb (length xs) n) (answer 0 (vs xs)) (answer (number RowTooShort) [])
answer_with n vs (Err e) = answer (number e) []

-- what the lent places then hold: what is given and behind it what was there; with a refusal "buffers stay as given"
abbrev pub held_by : List ℕ → Outcome → List ℕ
held_by lent (Ok xs) = cond (leb (length xs) (length lent)) (xs ++ drop (length xs) lent) lent
held_by lent (Err e) = lent

-- "The tape check gives the number that reading gives with a row long enough"
abbrev pub CheckPromise : List ℕ → ℕ → Type 0
CheckPromise tape r = r ≡ number_of (read_tape tape)

-- reading a tape into a row
pub record ReadPromise (tape row : List ℕ) (r : Result Recorded Refusal) (after : List ℕ) : Type 0 where
  pub told : read_answer r ≡ answer_with (length row) (λ xs. first_boxes tape ∷ length xs ∷ []) (read_tape tape)
  pub row_is : after ≡ held_by row (read_tape tape)

-- writing first boxes and step words into a buffer
pub record WritePromise (first : ℕ) (words buffer : List ℕ) (r : Result ℕ Refusal) (after : List ℕ) : Type 0 where
  pub told : written_answer r ≡ answer_with (length buffer) (λ bytes. length bytes ∷ []) (write_tape first words)
  pub buffer_is : after ≡ held_by buffer (write_tape first words)
