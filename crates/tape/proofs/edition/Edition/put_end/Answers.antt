-- `Edition::put_end` meets its contract: the end mark and the zeros behind it are one field of so many bits.
use native.Mathlib.Omega.{arith}
use mathlib.Core.Path.{◌≡◌, sym, ap, subst, ◌∙◌}
use Prim.Native.Nat.{ℕ, ◌+◌, ◌-◌, ◌*◌, ◌%◌, ◌^◌, ◌<◌}
use lib.ListN.{length}
use Rattle.tape.specs.Bits.{bits, bits_of, overlaid}
use Rattle.tape.specs.Edition.{Edition, edition_of, mark_in}
use Rattle.tape.specs.Writing.{pad, ending}
use Rattle.tape.specs.declared.edition.Mark.{Mark}
use Rattle.tape.proofs.WritingLaws.{length-ending, end-field, end-shifted}
use Rattle.tape.proofs.edition.Edition.put_end.Goals.{After-mark-mark}
use Rattle.tape.proofs.edition.Edition.put_end.Goals as goal

-- the end mark as the code puts it, in one field with the zeros behind it
record Field (ed : Edition) (p : ℕ) (m : Mark) : Type 0 where
  small : m.number * 2 ^ ((8 - (p + m.width) % 8) % 8) % 2 ^ 64 < 2 ^ (m.width + (8 - (p + m.width) % 8) % 8)
  is : bits (m.width + (8 - (p + m.width) % 8) % 8) (m.number * 2 ^ ((8 - (p + m.width) % 8) % 8) % 2 ^ 64) ≡ ending ed p
  long : m.width + (8 - (p + m.width) % 8) % 8 ≡ length (ending ed p)

as-field : (ed : Edition) (p : ℕ) (m : Mark) → m ≡ mark_in ed → Field ed p m
unfolding ending pad
as-field ed p m e =
    let n = length ed.mark in
    let z = (8 - (p + n) % 8) % 8 in
    let s = end-shifted ed z (omega arith) in
    subst (Field ed p) (sym e) record {
      small = subst (λ (k : ℕ). k < 2 ^ (n + z)) (sym s.0) s.1;
      is = ap (bits (n + z)) s.0 ∙ end-field ed z;
      long = sym (length-ending ed p);
    }

at-end : (c : After-mark-mark) → Field (edition_of c.args.self) c.args.at c.mark-mark.result
at-end c = as-field (edition_of c.args.self) c.args.at c.mark-mark.result c.mark-mark.ensures

least : (c : After-mark-mark) → c.mark-mark.result.width ≡ length (edition_of c.args.self).mark
least c = ap (λ (m : Mark). m.width) c.mark-mark.ensures

pub put-requires : goal.put-requires
put-requires c =
    let at = goal.at.put-requires c in
    let ed = edition_of c.args.self in
    let f = at-end at.After-mark-mark in
    (omega (arith, least at.After-mark-mark, ed.mark_least), omega (arith, least at.After-mark-mark, ed.mark_most), f.small, omega (arith, f.long, c.requires.1), omega (arith, c.requires.0))

pub returns : goal.returns
returns c =
    let a = c.args in
    c.put.ensures ∙ ap (overlaid (bits_of a.buffer.now) a.at) (at-end (goal.at.returns c).After-mark-mark).is
