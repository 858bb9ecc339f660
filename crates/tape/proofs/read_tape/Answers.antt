-- `read_tape` meets its contract: a tape that the check accepts is read, and its steps fit the row.
use native.Mathlib.Omega.{arith}
use mathlib.Core.Path.{◌≡◌, sym, ap, ◌∙◌}
use Prim.Native.Nat.{ℕ, ◌-◌}
use mathlib.Core.List.{List, [], ◌∷◌}
use lib.ListN.{length, take, drop, length-drop}
use Rattle.std.specs.Prelude.{Ok}
use Rattle.tape.specs.Bits.{bits_of}
use Rattle.tape.specs.Edition.{first_edition}
use Rattle.tape.specs.Reading.{words_of, read_steps, first_boxes, read_tape}
use Rattle.tape.specs.Promises.{read_answer, recorded, held_by}
use Rattle.tape.specs.declared.Recorded.{Recorded}
use Rattle.tape.proofs.LayLaws.{part-from}
use Rattle.tape.proofs.PromiseLaws.{recorded-is, success-kept}
use Rattle.tape.proofs.TapeLaws.{GoodHead, head-there, head-given, part-reads}
use Rattle.tape.proofs.read_tape.Goals.{In_ok-recorded}
use Rattle.tape.proofs.read_tape.Goals as goal

abbrev values : List ℕ → List ℕ → List ℕ
values tape xs = first_boxes tape ∷ length xs ∷ []

-- what an accepted tape is, and the part of it that is read
record Accepted (s : List ℕ) (r : Recorded) : Type 0 where
  is : read_tape s ≡ Ok (words_of (read_tape s))
  holds : r ≡ recorded (first_boxes s) (length (words_of (read_tape s)))
  good : GoodHead first_edition s
  same : read_steps first_edition (bits_of (take (length s - 2) (drop 2 s))) ≡ read_tape s

accepted : (c : In_ok-recorded) → Accepted c.args.tape.now c.in_ok-recorded.recorded
accepted c =
    let s = c.args.tape.now in
    let h = recorded-is (first_boxes s) c.in_ok-recorded.recorded (read_tape s) c.in_ok-recorded.ensures in
    let g = head-given first_edition s (words_of (read_tape s)) h.0 in
    record { is = h.0; holds = h.1; good = g; same = part-reads first_edition s g }

count : (c : In_ok-recorded) → c.in_ok-recorded.recorded.steps ≡ length (words_of (read_tape c.args.tape.now))
count c = ap (λ (r : Recorded). r.steps) (accepted c).holds

pub slice_bounds-part-count : goal.slice_bounds-part-count
slice_bounds-part-count c = let g = (accepted (goal.at.slice_bounds-part-count c).In_ok-recorded).good in omega (arith, g.least)

pub slice_bounds-part-start : goal.slice_bounds-part-start
slice_bounds-part-start c = let g = (accepted (goal.at.slice_bounds-part-start c).In_ok-recorded).good in omega (arith, g.least)

pub invariant_of-part : goal.invariant_of-part
invariant_of-part c =
    let g = (accepted (goal.at.invariant_of-part c).In_ok-recorded).good in
    let s = c.args.tape.now in
    record { short = rw (part-from 2 s, length-drop) (omega (arith, g.most)); begun = rw (part-from 2 s, length-drop) (head-there first_edition s g).2 }

pub fill_row-requires : goal.fill_row-requires
fill_row-requires c =
    let at = goal.at.fill_row-requires c in
    let k = accepted at.In_ok-recorded in
    let n = ap (λ o. length (words_of o)) k.same in
    record { good = k.same ∙ k.is ∙ ap (λ o. Ok (words_of o)) (sym k.same); room = omega (arith, n, c.if-row-recorded.false, count at.In_ok-recorded) }

pub returns : goal.returns
returns c =
    let at = goal.at.returns c in
    let k = accepted at.In_ok-recorded in
    let s = c.args.tape.now in
    let row = c.args.row.now in
    let p = success-kept row (values s) (read_tape s) (words_of (read_tape s)) k.is (omega (arith, c.if-row-recorded.false, count at.In_ok-recorded)) in
    record {
      told = ap (λ r. read_answer (Ok r)) k.holds ∙ p.told;
      row_is = c.fill_row.ensures ∙ ap (held_by row) k.same;
    }
