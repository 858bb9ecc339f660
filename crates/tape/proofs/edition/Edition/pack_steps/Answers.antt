-- `Edition::pack_steps` meets its contract: each step is laid behind those before it, and the end mark behind the last.
use borrow.Author.Rules.{rules}
use native.Mathlib.Omega.{arith}
use mathlib.Core.Path.{◌≡◌, refl, sym, ap, ap₂, ◌∙◌}
use Prim.Native.Nat.{ℕ, ◌+◌, ◌*◌, ◌≤◌, ◌<◌}
use mathlib.Core.List.{List}
use native.Mathlib.Nat.{add-zero}
use lib.ListN.{length, take, get_or}
use lib.Seq.{take_all}
use Rattle.std.specs.Prelude.{unwrap_or}
use Rattle.tape.specs.Bits.{bits, bits_of, overlaid}
use Rattle.tape.specs.Edition.{Edition, edition_of}
use Rattle.tape.specs.Reading.{start}
use Rattle.tape.specs.Writing.{wide, step_bits, body, ending, steps_part}
use Rattle.tape.proofs.ByteLaws.{length-bits_of}
use Rattle.tape.proofs.LayLaws.{overlaid-nil, overlaid-overlaid}
use Rattle.tape.proofs.StepLaws.{wide-most, width-or-none}
use Rattle.tape.proofs.WritingLaws.{body-next, length-next, length_part, length-ending, length-steps_part}
use Rattle.tape.proofs.edition.Edition.pack_steps.Invariants.{Packed}
use Rattle.tape.proofs.edition.Edition.pack_steps.Goals.{After-unwrap_or-width}
use Rattle.tape.proofs.edition.Edition.pack_steps.Goals as goal

module _ (ed : Edition) (xs s b : List ℕ) (p i : ℕ) (few : length (body ed xs) ≤ 40000) (room : start ed + length (steps_part ed xs) ≤ 8 * length s) (k : Packed ed xs s b p i) where
  -- the steps begin within the buffer
  begun : start ed ≤ length (bits_of s)
  begun = rw length-bits_of (omega arith)

  module _ (h : i < length xs) (w : ℕ) (e : w ≡ wide ed (get_or xs i 0)) where
    fits : (w ≤ 64) × (p + w ≤ 8 * length b) × (p + w ≤ 40064)
    fits =
        let n = length-next ed xs i h in
        let m = length_part ed xs (i + 1) in
        (omega (arith, wide-most ed (get_or xs i 0)), omega (arith, k.next, k.same, n, m, length-steps_part ed xs), omega (arith, k.next, n, m, ed.head_most))

    further : (b' : List ℕ) → length b' ≡ length b → bits_of b' ≡ overlaid (bits_of b) p (take w (bits 64 (get_or xs i 0))) → Packed ed xs s b' (p + w) (i + 1)
    unfolding step_bits
    further b' l f =
        let n = length-next ed xs i h in
        record {
          some = omega arith;
          next = omega (arith, k.next, e, n);
          same = l ∙ k.same;
          laid = f ∙ ap₂ (λ y z. overlaid y p (take z (bits 64 (get_or xs i 0)))) k.laid e
              ∙ ap (λ q. overlaid (overlaid (bits_of s) (start ed) (body ed (take i xs))) q (step_bits ed (get_or xs i 0))) k.next
              ∙ overlaid-overlaid (bits_of s) (start ed) (body ed (take i xs)) (step_bits ed (get_or xs i 0)) begun
              ∙ ap (overlaid (bits_of s) (start ed)) (sym (body-next ed xs i h));
        }

  module _ (h : length xs ≤ i) where
    all_in : p ≡ start ed + length (body ed xs)
    all_in = k.next ∙ ap (λ z. start ed + length (body ed z)) (take_all i xs h)

    end_fits : (p ≤ 65000) × (p + length (ending ed p) ≤ 8 * length b)
    end_fits =
        let l : length (ending ed p) ≡ length (ending ed (start ed + length (body ed xs))) = ap (λ q. length (ending ed q)) all_in in
        (omega (arith, all_in, ed.head_most), omega (arith, all_in, l, length-ending ed (start ed + length (body ed xs)), length-steps_part ed xs, k.same))

    ended : overlaid (bits_of b) p (ending ed p) ≡ overlaid (bits_of s) (start ed) (steps_part ed xs)
    unfolding steps_part
    ended =
        ap (λ y. overlaid y p (ending ed p)) (k.laid ∙ ap (λ z. overlaid (bits_of s) (start ed) (body ed z)) (take_all i xs h))
        ∙ ap (λ q. overlaid (overlaid (bits_of s) (start ed) (body ed xs)) q (ending ed q)) all_in
        ∙ overlaid-overlaid (bits_of s) (start ed) (body ed xs) (ending ed (start ed + length (body ed xs))) begun

-- how many bits the next step takes
width : (c : After-unwrap_or-width) → c.unwrap_or-width.result ≡ wide (edition_of c.args.self) (get_or c.args.words.now c.loop-word.word-index 0)
width c =
    let ed = edition_of c.args.self in
    let x = get_or c.args.words.now c.loop-word.word-index 0 in
    c.unwrap_or-width.ensures ∙ ap (λ w. unwrap_or w 0) c.step_width.ensures ∙ width-or-none ed x

-- the step before which the loop stands
one : (c : After-unwrap_or-width) → (c.unwrap_or-width.result ≤ 64) × (c.loop-word.at + c.unwrap_or-width.result ≤ 8 * length c.loop-word.buffer) × (c.loop-word.at + c.unwrap_or-width.result ≤ 40064)
one c =
    let l = c.loop-word in
    let a = c.args in
    fits (edition_of a.self) a.words.now a.buffer.now l.buffer l.at l.word-index c.requires.0 c.requires.1 l.invariant (search rules) c.unwrap_or-width.result (width c)

pub loop-word-init : goal.loop-word-init
unfolding body
loop-word-init c =
    let ed = edition_of c.args.self in
    record {
      some = search rules;
      next = c.start-at.ensures ∙ sym (add-zero (start ed));
      same = refl;
      laid = sym (overlaid-nil (bits_of c.args.buffer.now) (start ed));
    }

pub put_word-requires : goal.put_word-requires
put_word-requires c = let f = one (goal.at.put_word-requires c).After-unwrap_or-width in (f.0, f.1, omega (arith, f.2))

pub overflow_add-at : goal.overflow_add-at
overflow_add-at c = omega (arith, (one (goal.at.overflow_add-at c).After-unwrap_or-width).2)

pub loop-word-preserved : goal.loop-word-preserved
loop-word-preserved c =
    let l = c.loop-word in
    let a = c.args in
    let q = c.put_word in
    further (edition_of a.self) a.words.now a.buffer.now l.buffer l.at l.word-index c.requires.0 c.requires.1 l.invariant (search rules) c.unwrap_or-width.result (width (goal.at.loop-word-preserved c).After-unwrap_or-width) q.new.buffer q.auto.buffer q.ensures

pub put_end-requires : goal.put_end-requires
put_end-requires c =
    let l = c.loop-word in
    let a = c.args in
    end_fits (edition_of a.self) a.words.now a.buffer.now l.buffer l.at l.word-index c.requires.0 c.requires.1 l.invariant (search rules)

pub returns : goal.returns
returns c =
    let l = c.loop-word in
    let a = c.args in
    c.put_end.ensures
    ∙ ended (edition_of a.self) a.words.now a.buffer.now l.buffer l.at l.word-index c.requires.0 c.requires.1 l.invariant (search rules)
