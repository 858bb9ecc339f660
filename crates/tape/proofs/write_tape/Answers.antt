-- `write_tape` meets its contract: the measured bits say which refusal comes, and else the bits laid are the tape's.
use borrow.Author.Rules.{rules}
use native.Mathlib.Omega.{arith}
use mathlib.Core.Path.{◌≡◌, sym, ap, subst, ◌∙◌}
use Prim.Native.Nat.{ℕ, ◌+◌, ◌≤◌, ◌<◌, min}
use mathlib.Core.List.{List, [], ◌∷◌, ◌++◌}
use mathlib.Core.Bool.{true}
use lib.ListN.{length, drop}
use Rattle.refusals.specs.declared.Refusal.{Refusal}
use Rattle.refusals.specs.declared.Refusal.TheVariants.{TapeTooLong, NoFirstBox, NoStep, RowTooShort}
use Rattle.tape.specs.Bits.{bits, bits_of, Bytes, overlaid}
use Rattle.tape.specs.Edition.{first_edition}
use Rattle.std.specs.Prelude.{Ok, Err, ok_or}
use Rattle.tape.specs.Writing.{all_steps, body, steps_part, bytes_for, size, tape_with, tape_of, write_tape}
use Rattle.tape.specs.Promises.{answer, WritePromise}
use Rattle.tape.proofs.BitLaws.{length-bits}
use Rattle.tape.proofs.LayLaws.{unlaid}
use Rattle.tape.proofs.PromiseLaws.{handed-on, refusal-kept, short-kept, success-kept}
use Rattle.tape.proofs.WritingLaws.{length-tape, tape-bits, measured-is, measured-none, write-boxless, write-stepless, write-long, write-good, size-capped, size-over}
use Rattle.tape.proofs.write_tape.Goals.{After-bytes_for-size, In_ok-count}
use Rattle.tape.proofs.write_tape.Goals as goal

abbrev length_of : List ℕ → List ℕ
length_of bytes = length bytes ∷ []

-- a refusal leaves the buffer
turned : (first : ℕ) (xs s : List ℕ) (e : Refusal) → write_tape first xs ≡ Err e → WritePromise first xs s (Err e) s
turned first xs s e h =
    let p = refusal-kept s length_of (write_tape first xs) e h in
    record { told = p.told; buffer_is = p.held }

-- the tape of the first edition, whose head is its first boxes
abbrev bytes : ℕ → List ℕ → ℕ
bytes first xs = length (tape_of first xs)

long : (first : ℕ) (xs : List ℕ) → bytes first xs ≡ 2 + size first_edition xs
long first xs = length-tape first_edition (bits 16 first) xs

short : (first : ℕ) (xs s : List ℕ) → write_tape first xs ≡ Ok (tape_of first xs) → length s < 2 + size first_edition xs → WritePromise first xs s (Err RowTooShort) s
short first xs s e h =
    let p = short-kept s length_of (write_tape first xs) (tape_of first xs) e (omega (arith, long first xs)) in
    record { told = p.told; buffer_is = p.held }

full : (first : ℕ) (xs s e : List ℕ) (n : ℕ) → write_tape first xs ≡ Ok (tape_of first xs) → n ≡ 2 + size first_edition xs → 2 + size first_edition xs ≤ length s → Bytes s → Bytes e → length e ≡ length s
    → bits_of e ≡ overlaid (bits_of s) 0 (bits 16 first ++ steps_part first_edition xs) → WritePromise first xs s (Ok n) e
unfolding tape_with
full first xs s e n w m h p q k f =
    let l = long first xs in
    let g = success-kept s length_of (write_tape first xs) (tape_of first xs) w (omega (arith, l)) in
    record {
      told = ap (λ z. answer 0 (z ∷ [])) (m ∙ sym l) ∙ g.told;
      buffer_is = unlaid s e (2 + size first_edition xs) (bits 16 first ++ steps_part first_edition xs) k p q (tape-bits first_edition (bits 16 first) xs (length-bits 16 first)) h f ∙ ap (λ z. tape_of first xs ++ drop z s) (sym l) ∙ g.held;
    }

-- what is known of n measured bits that take r bytes behind the first two
record Planned (xs : List ℕ) (n r : ℕ) : Type 0 where
  all : all_steps first_edition xs ≡ true
  over : 4096 < 2 + r → 4096 < 2 + size first_edition xs
  fits : 2 + r ≤ 4096 → (n ≡ length (body first_edition xs)) × (2 + r ≡ 2 + size first_edition xs)

counted : (c : In_ok-count) → (all_steps first_edition c.args.words.now ≡ true) × (c.in_ok-count.count ≡ min (length (body first_edition c.args.words.now)) 40000)
counted c = measured-is first_edition c.args.words.now c.in_ok-count.count (sym c.in_ok-count.ensures.ok_part ∙ c.measure.ensures)

planned : (c : After-bytes_for-size) → Planned c.args.words.now c.in_ok-count.count c.bytes_for-size.result
planned c =
    let n = c.in_ok-count.count in
    let b = length (body first_edition c.args.words.now) in
    let m = counted (goal.at.After-bytes_for-size c).In_ok-count in
    let e = c.bytes_for-size.ensures in
    record {
      all = m.0;
      over = λ h. size-over first_edition b n m.1 (omega (arith, e, h));
      fits = λ h. let z = size-capped first_edition b n m.1 (omega (arith, e, h)) in (z.0, omega (arith, e, z.1));
    }

pub returns-then-first-eq0 : goal.returns-then-first-eq0
returns-then-first-eq0 c =
    let a = c.args in
    turned a.first a.words.now a.buffer.now NoFirstBox (write-boxless a.first a.words.now c.if-first-eq0.true)

pub returns-in_err-count : goal.returns-in_err-count
returns-in_err-count c =
    let a = c.args in
    let n = c.in_err-count.ensures in
    let e : c.in_err-count.field-0.0 ≡ NoStep = let h = n.value ∙ ap (λ o. ok_or o NoStep) n.ok_part in cc in
    let none = measured-none first_edition a.words.now (sym n.ok_part ∙ c.measure.ensures) in
    subst (λ r. WritePromise a.first a.words.now a.buffer.now r a.buffer.now) (sym (handed-on c.from_residual.result c.in_err-count.field-0.0 c.from_residual.ensures.1 ∙ ap Err e))
    (turned a.first a.words.now a.buffer.now NoStep (write-stepless a.first a.words.now c.if-first-eq0.false none))

pub bytes_for-size-requires : goal.bytes_for-size-requires
bytes_for-size-requires c = omega (arith, (counted (goal.at.bytes_for-size-requires c).In_ok-count).1)

pub overflow_add-size : goal.overflow_add-size
unfolding bytes_for
overflow_add-size c = omega (arith, c.bytes_for-size.ensures, (counted (goal.at.overflow_add-size c).In_ok-count).1)

pub returns-then-size-gt-MOST_BYTES : goal.returns-then-size-gt-MOST_BYTES
returns-then-size-gt-MOST_BYTES c =
    let a = c.args in
    let p = planned (goal.at.returns-then-size-gt-MOST_BYTES c).After-bytes_for-size in
    turned a.first a.words.now a.buffer.now TapeTooLong (write-long a.first a.words.now c.if-first-eq0.false p.all (p.over c.if-size-gt-MOST_BYTES.true))

pub returns-then-buffer-size : goal.returns-then-buffer-size
returns-then-buffer-size c =
    let a = c.args in
    let p = planned (goal.at.returns-then-buffer-size c).After-bytes_for-size in
    let z = p.fits c.if-size-gt-MOST_BYTES.false in
    short a.first a.words.now a.buffer.now (write-good a.first a.words.now c.if-first-eq0.false p.all (omega (arith, z.1, c.if-size-gt-MOST_BYTES.false))) (omega (arith, z.1, c.if-buffer-size.true))

pub lay_tape-requires : goal.lay_tape-requires
lay_tape-requires c =
    let at = goal.at.lay_tape-requires c in
    let z = (planned at.After-bytes_for-size).fits c.if-size-gt-MOST_BYTES.false in
    (omega (arith, z.0, (counted at.In_ok-count).1), omega (arith, z.1, c.if-buffer-size.false))

pub returns : goal.returns
returns c =
    let a = c.args in
    let p = planned (goal.at.returns c).After-bytes_for-size in
    let z = p.fits c.if-size-gt-MOST_BYTES.false in
    full a.first a.words.now a.buffer.now c.lay_tape.new.buffer (2 + c.bytes_for-size.result)
    (write-good a.first a.words.now c.if-first-eq0.false p.all (omega (arith, z.1, c.if-size-gt-MOST_BYTES.false)))
    z.1 (omega (arith, z.1, c.if-buffer-size.false))
    (search rules) (λ i. (c.type_inv.buffer i).fits) c.lay_tape.auto.buffer c.lay_tape.ensures
