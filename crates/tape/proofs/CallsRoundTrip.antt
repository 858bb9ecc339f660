-- The round trip of the calls, from their promises alone: what `write_tape` wrote, `read_tape` reads back (`written-reads`),
-- and what `read_tape` read, `write_tape` writes again (`read-writes`).
use mathlib.Core.Path.{◌≡◌, refl, sym, ap, ap₂, ◌∙◌}
use Prim.Native.Nat.{ℕ, ◌^◌, ◌≤◌, ◌<◌}
use mathlib.Core.List.{List, [], ◌∷◌, ◌++◌}
use mathlib.Core.Bool.{Bool, true, false, cond}
use lib.ListN.{length, take, drop}
use lib.Seq.{take_at}
use lib.Dec.{leb}
use borrow.Author.Tests.{leb-true}
use Rattle.tape.specs.Bits.{Bytes}
use Rattle.std.specs.Prelude.{Result, Ok, Err}
use Rattle.refusals.specs.Refusals.{number}
use Rattle.refusals.specs.declared.Refusal.{Refusal}
use Rattle.refusals.specs.declared.Refusal.TheVariants.{RowTooShort}
use Rattle.tape.specs.Reading.{Outcome, read_tape, first_boxes}
use Rattle.tape.specs.Writing.{write_tape}
use Rattle.tape.specs.Promises.{answer, recorded, answer_with, held_by, ReadPromise, WritePromise}
use Rattle.tape.specs.declared.Recorded.{Recorded}
use Rattle.tape.proofs.PromiseLaws.{success-kept}
use Rattle.tape.proofs.RoundTrip.{read_written, written_again}
use Rattle.tape.proofs.Settled.{read-settled, write-settled}

-- an answer that has values is a success that fits
record Success (n : ℕ) (vs : List ℕ → List ℕ) (o : Outcome) (v : List ℕ) : Type 0 where
  xs : List ℕ
  is : o ≡ Ok xs
  fits : length xs ≤ n
  values : v ≡ vs xs

success : (n : ℕ) (vs : List ℕ → List ℕ) (o : Outcome) (x : ℕ) (v : List ℕ) → answer 0 (x ∷ v) ≡ answer_with n vs o → Success n vs o (x ∷ v)
success n vs (Ok xs) x v e = go (leb (length xs) n) refl (ap (λ a. a.values) e)
  where
    go : (b : Bool) → leb (length xs) n ≡ b → x ∷ v ≡ (cond b (answer 0 (vs xs)) (answer (number RowTooShort) [])).values → Success n vs (Ok xs) (x ∷ v)
    go true f h = record { xs = xs; is = refl; fits = leb-true _ _ f; values = h }
    go false f h = cc
success n vs (Err k) x v e = let h : x ∷ v ≡ [] = ap (λ a. a.values) e in cc

-- what a success leaves at the front of what is lent
front : (lent after : List ℕ) (o : Outcome) (xs : List ℕ) (n : ℕ) → after ≡ held_by lent o → o ≡ Ok xs → length xs ≤ length lent → n ≡ length xs → take n after ≡ xs
front lent after o xs n h e l m =
    let k = success-kept lent (λ z. z) o xs e l in
    ap₂ take m (h ∙ sym k.held) ∙ take_at xs (drop (length xs) lent) (length xs) refl

head-is : (a b : ℕ) (v w : List ℕ) → a ∷ v ≡ b ∷ w → a ≡ b
head-is a b v w e = cc

-- a tape that was written reads back as its first boxes and words, into any row that is long enough
pub written-reads : (first : ℕ) (words buffer after row row' : List ℕ) (n : ℕ) (r : Result Recorded Refusal) → first < 2 ^ 16 → length words ≤ length row
    → WritePromise first words buffer (Ok n) after → ReadPromise (take n after) row r row'
    → (r ≡ Ok (recorded first (length words))) × (row' ≡ words ++ drop (length words) row)
written-reads first words buffer after row row' n r h l w p =
    let s = success (length buffer) (λ bytes. length bytes ∷ []) (write_tape first words) n [] w.told in
    let t : take n after ≡ s.xs = front buffer after (write_tape first words) s.xs n w.buffer_is s.is s.fits (head-is n (length s.xs) [] [] s.values) in
    let b = read_written first words s.xs h s.is in
    let q : read_tape (take n after) ≡ Ok words = ap read_tape t ∙ b.0 in
    let f : first_boxes (take n after) ≡ first = ap first_boxes t ∙ b.1 in
    let k = success-kept row (λ xs. first_boxes (take n after) ∷ length xs ∷ []) (read_tape (take n after)) words q l in
    read-settled (take n after) row r (Ok (recorded first (length words))) row' (words ++ drop (length words) row) p
    record { told = ap (λ z. answer 0 (z ∷ length words ∷ [])) (sym f) ∙ k.told; row_is = k.held }

-- a tape that was read writes again as the same bytes, into any buffer that is long enough
pub read-writes : (tape row after buffer buffer' : List ℕ) (first n : ℕ) (r : Result ℕ Refusal) → Bytes tape → length tape ≤ length buffer
    → ReadPromise tape row (Ok (recorded first n)) after → WritePromise first (take n after) buffer r buffer'
    → (r ≡ Ok (length tape)) × (buffer' ≡ tape ++ drop (length tape) buffer)
read-writes tape row after buffer buffer' first n r b l p w =
    let s = success (length row) (λ xs. first_boxes tape ∷ length xs ∷ []) (read_tape tape) first (n ∷ []) p.told in
    let e : first ≡ first_boxes tape = head-is first (first_boxes tape) (n ∷ []) (length s.xs ∷ []) s.values in
    let m : n ≡ length s.xs = let v : first ∷ n ∷ [] ≡ first_boxes tape ∷ length s.xs ∷ [] = s.values in cc in
    let t : take n after ≡ s.xs = front row after (read_tape tape) s.xs n p.row_is s.is s.fits m in
    let q : write_tape first (take n after) ≡ Ok tape = ap₂ write_tape e t ∙ written_again tape s.xs b s.is in
    let k = success-kept buffer (λ bytes. length bytes ∷ []) (write_tape first (take n after)) tape q l in
    write-settled first (take n after) buffer r (Ok (length tape)) buffer' (tape ++ drop (length tape) buffer) w
    record { told = k.told; buffer_is = k.held }
