-- `Edition::first_boxes` meets its contract: the field that is cut from the eight bytes is the set of first boxes.
use native.Mathlib.Omega.{arith}
use mathlib.Core.Path.{◌≡◌, ap, ◌∙◌}
use Prim.Native.Nat.{ℕ, ◌*◌, ◌/◌, ◌%◌, ◌≤◌}
use mathlib.Core.List.{List}
use lib.ListN.{length, take, drop}
use Rattle.tape.specs.Bits.{num, bits, bits_of, window, field_at}
use Rattle.tape.specs.Edition.{Edition, edition_of, head_in}
use Rattle.tape.specs.Reading.{boxes_in}
use Rattle.tape.specs.declared.edition.Head.{Head}
use Rattle.tape.proofs.BitLaws.{bits-part}
use Rattle.tape.proofs.ByteLaws.{length-window, window-field}
use Rattle.tape.proofs.WordLaws.{field-inside, field_lt}
use Rattle.tape.proofs.edition.Edition.first_boxes.Goals as goal

-- the 16 bits where the set begins
boxes : (ed : Edition) (s : List ℕ) (h : Head) (x n : ℕ) → ed.head ≤ 8 * length s → h ≡ head_in ed → x ≡ num (window 8 s (h.boxes / 8)) → n ≡ field_at x (h.boxes % 8) 16 → n ≡ boxes_in ed s
unfolding boxes_in
boxes ed s h x n l e f g =
    let p = h.boxes in
    let at : p ≡ ed.boxes_at = ap (λ (h : Head). h.boxes) e in
    g ∙ field-inside x (p % 8) 16 (omega arith)
    ∙ ap (λ z. num (take 16 (drop (p % 8) z))) (ap (bits 64) f ∙ bits-part 64 (window 8 s (p / 8)) (length-window 8 s (p / 8)))
    ∙ ap num (window-field 8 s p 16 (omega arith) (omega (arith, at, ed.boxes_inside)) ∙ ap (λ q. take 16 (drop q (bits_of s))) at)

pub overflow_cast-result : goal.overflow_cast-result
overflow_cast-result c =
    let p = c.head-from.result.boxes in
    omega (arith, c.field.ensures, field_lt c.eight_at.result (p % 8) 16 (omega arith))

pub returns : goal.returns
returns c =
    let h = c.head-from in
    boxes (edition_of c.args.self) c.args.tape.now h.result c.eight_at.result c.field.result c.requires h.ensures c.eight_at.ensures c.field.ensures
