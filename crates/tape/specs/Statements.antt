-- What holds of the tape's calls beside what each does: a contract settles its result, its fields settle a step word, a tape reads back as written
-- and writes back as read, and the tape check gives reading's number (01, "How far a contract must reach", "The tape", "Numbers a caller gets
-- back"). Proved in proofs/Statements.
use Rattle.std.specs.Prelude.{◌≡◌, ◌≢◌, ℕ, suc, ◌+◌, ◌^◌, ◌≤◌, ◌<◌, List, ◌++◌, Bool, true, Result, Ok, length, take, drop, get_or}
use Rattle.refusals.specs.declared.Refusal.{Refusal}
use Rattle.sets.specs.Settles.{Settles}
use Rattle.tape.specs.Bits.{num, bits_of, Bytes}
use Rattle.tape.specs.Edition.{Field, Edition, first_edition}
use Rattle.tape.specs.Layout.{fields, kind_of, fields_of, fields_in, no_field}
use Rattle.tape.specs.Reading.{read_in, read_tape, first_boxes}
use Rattle.tape.specs.Writing.{is_step, all_steps, size, tape_with, write_tape}
use Rattle.tape.specs.Promises.{Checked, number_of, recorded, read_answer, CheckPromise, ReadPromise, WritePromise}
use Rattle.tape.specs.declared.TheConstants.{MOST_STEPS}
use Rattle.tape.specs.declared.Fields.{Fields}
use Rattle.tape.specs.declared.Recorded.{Recorded}

-- ---- "Show that two results meeting it are equal": the answer, and with it what a lent row or buffer then holds

pub record Settled : Type 0 where
  pub tape_check : (tape : List ℕ) → Settles (λ (r : Checked). CheckPromise tape (number_of r))
  pub read_tape : (tape row : List ℕ) → Settles (λ (r : Result Recorded Refusal × List ℕ). ReadPromise tape row r.0 r.1)
  pub write_tape : (first : ℕ) (words buffer : List ℕ) → Settles (λ (r : Result ℕ Refusal × List ℕ). WritePromise first words buffer r.0 r.1)
  pub is_step : (word : ℕ) → Settles (λ (r : Bool). r ≡ is_step first_edition word)
  pub fields_of : (word : ℕ) → Settles (λ (r : Fields). r ≡ fields_in first_edition word)

-- ---- A step word in any edition

-- a field may hold a number
pub record MayHold (x : Field) (n : ℕ) : Type 0 where
  pub least : x.least ≤ n
  pub most : n ≤ x.most
  pub fits : n < 2 ^ x.width

pub record StepWords (ed : Edition) : Type 0 where
  -- its kind and the numbers in its fields settle it
  pub settled_by_fields : (x y : ℕ) → is_step ed x ≡ true → is_step ed y ≡ true → fields_of ed x ≡ fields_of ed y → x ≡ y
  -- each field of its kind holds a number that it may hold
  pub fields_may_hold : (x i : ℕ) → is_step ed x ≡ true → MayHold (get_or (fields ed (kind_of x)) i no_field) (get_or (fields_of ed x) (suc i) 0)

-- ---- The round trip in any edition: a head with first boxes, and steps that fit

pub record AnyEdition (ed : Edition) : Type 0 where
  -- what was written reads back as the same steps
  pub reads_back : (head : List Bool) (words : List ℕ) → length head ≡ ed.head → num (take 16 (drop ed.boxes_at head)) ≢ 0
      → all_steps ed words ≡ true → 2 + size ed words ≤ 4096 → read_in ed (tape_with ed head words) ≡ Ok words
  -- what was read is what its head and its steps are written as
  pub writes_back : (tape words : List ℕ) → Bytes tape → read_in ed tape ≡ Ok words → tape ≡ tape_with ed (take ed.head (bits_of tape)) words
  -- no tape has more steps than the code says: a step takes 6 bits or more, and the end mark 3
  pub most_steps : (tape words : List ℕ) → read_in ed tape ≡ Ok words → length words ≤ MOST_STEPS

-- ---- The round trip of reading and writing, and of the calls from their promises alone

pub record RoundTrip : Type 0 where
  pub read_written : (first : ℕ) (words tape : List ℕ) → first < 2 ^ 16 → write_tape first words ≡ Ok tape
      → (read_tape tape ≡ Ok words) × (first_boxes tape ≡ first)
  pub written_again : (tape words : List ℕ) → Bytes tape → read_tape tape ≡ Ok words → write_tape (first_boxes tape) words ≡ Ok tape
  -- what write_tape wrote, read_tape reads back into any row that is long enough
  pub write_then_read : (first : ℕ) (words buffer after row row' : List ℕ) (n : ℕ) (r : Result Recorded Refusal) → first < 2 ^ 16 → length words ≤ length row
      → WritePromise first words buffer (Ok n) after → ReadPromise (take n after) row r row'
      → (r ≡ Ok (recorded first (length words))) × (row' ≡ words ++ drop (length words) row)
  -- what read_tape read, write_tape writes again into any buffer that is long enough
  pub read_then_write : (tape row after buffer buffer' : List ℕ) (first n : ℕ) (r : Result ℕ Refusal) → Bytes tape → length tape ≤ length buffer
      → ReadPromise tape row (Ok (recorded first n)) after → WritePromise first (take n after) buffer r buffer'
      → (r ≡ Ok (length tape)) × (buffer' ≡ tape ++ drop (length tape) buffer)

-- ---- "The tape check gives the number that reading gives with a row long enough"

-- a row is long enough when it has a place for each step
abbrev pub CheckReads : Type 0
CheckReads = (tape row : List ℕ) (k : ℕ) (r : Result Recorded Refusal) (after : List ℕ) → ((words : List ℕ) → read_tape tape ≡ Ok words → length words ≤ length row)
    → CheckPromise tape k → ReadPromise tape row r after → k ≡ (read_answer r).number

-- ---- All of it

pub record Statements : Type 0 where
  pub settled : Settled
  pub step_words : (ed : Edition) → StepWords ed
  pub any_edition : (ed : Edition) → AnyEdition ed
  pub round_trip : RoundTrip
  pub check_reads : CheckReads
