-- The round trip, both ways. In any edition: `read_tape_lem` (a head and steps, once written, read back) and `tape-again` (an accepted tape
-- is what its head and steps are written as). Of a tape as the calls take it: `read_written` and `written_again`.
use mathlib.Core.Path.{◌≡◌, refl, sym, ap, ap₂, subst, ◌∙◌}
use mathlib.Core.Logic.{◌≢◌}
use Prim.Native.Nat.{ℕ, zero, suc, ◌+◌, ◌-◌, ◌*◌, ◌%◌, ◌^◌, ◌≤◌, ◌<◌}
use mathlib.Core.List.{List, [], ◌∷◌, ◌++◌, append_assoc}
use mathlib.Core.Bool.{Bool, true, false, cond}
use native.Mathlib.Omega.{arith}
use lib.ListN.{length, take, drop, length-append, length-drop, replicate, length-replicate, take-append-drop}
use lib.Seq.{length-take-le, take_at, take_all, drop_at, drop-append-le, drop-drop}
use lib.Dec.{eqb, ltb}
use borrow.Author.Tests.{eqb-false, lt-ltb, ltb-false}
use Rattle.refusals.specs.declared.Refusal.TheVariants.{TapeTooLong, NoFirstBox, NoStep}
use Rattle.tape.specs.Bits.{num, bits, bits_of, Bytes}
use Rattle.tape.specs.Edition.{Edition, first_edition}
use Rattle.std.specs.Prelude.{Ok, Err}
use Rattle.tape.specs.Reading.{read_at, more, onward, read_from, start, read_steps, boxes_in, first_boxes, read_in, read_tape}
use Rattle.tape.specs.Writing.{wide, step_bits, all_steps, body, pad, ending, steps_part, size, tape_with, tape_of, write_tape}
use Rattle.tape.specs.declared.reading.Reading.{Reading}
use Rattle.tape.specs.declared.reading.Reading.TheVariants.{Step, Refused, End}
use Rattle.tape.proofs.BitLaws.{length-bits, num-inj, num-bits-small, num-zeros, bits-part, cut-append}
use Rattle.tape.proofs.ByteLaws.{length-bits_of, drop-bits_of, bits_of-pack, bits_of-inj, bytes-pack}
use Rattle.tape.proofs.LayoutLaws.{width-least}
use Rattle.tape.proofs.MarkLaws.{begins-yes, end-good}
use Rattle.tape.proofs.ReadingLaws.{read-mark, more-is}
use Rattle.tape.proofs.StepLaws.{StepIn, EndIn, step_in, end-in, read_step, word_of, step-word, wide_word, length-step}
use Rattle.tape.proofs.WritingLaws.{all_cons, pad-lt, size-least, length-tape, tape-bits, write-good}
use Rattle.tape.proofs.TapeLaws.{GoodHead, head-there, head-given, read-good}

module _ (ed : Edition) where
  -- the end mark, with zeros to the edge
  read-end : (pre : List Bool) (z : ℕ) → z < 8 → read_at ed (pre ++ (ed.mark ++ replicate z false)) (length pre) ≡ End
  read-end pre z h =
      let m = ed.mark in
      let t = pre ++ (m ++ replicate z false) in
      let p = length pre in
      let d : drop p t ≡ m ++ replicate z false = drop_at pre (m ++ replicate z false) p refl in
      let n : length (m ++ replicate z false) ≡ length m + z = length-append m (replicate z false) ∙ ap (λ k. length m + k) (length-replicate z false) in
      let l : length t ≡ p + (length m + z) = length-append pre (m ++ replicate z false) ∙ ap (λ k. p + k) n in
      let e : take (length m) (drop p t) ≡ m = ap (take (length m)) d ∙ take_at m (replicate z false) (length m) refl in
      let e0 : drop (p + length m) t ≡ replicate z false = sym (drop-drop (length m) p t) ∙ ap (drop (length m)) d ∙ drop_at m (replicate z false) (length m) refl in
      read-mark ed t p (begins-yes m (drop p t) (omega (arith, ap length d, n)) (ap num e))
      ∙ end-good t (p + length m) (omega arith) (ap num e0 ∙ num-zeros z)

  -- reading from where the steps begin
  read-body : (pre : List Bool) (xs : List ℕ) (z f : ℕ) → z < 8 → all_steps ed xs ≡ true → length xs < f
      → read_from ed f (pre ++ (body ed xs ++ (ed.mark ++ replicate z false))) (length pre) ≡ Ok xs
  unfolding read_from body
  read-body pre xs z zero h a l = absurd (omega arith)
  read-body pre [] z (suc f) h a l = ap (λ r. onward r (read_from ed f (pre ++ (ed.mark ++ replicate z false)))) (read-end pre z h)
  read-body pre (x ∷ xs) z (suc f) h a l =
      let c = all_cons ed x xs a in
      let w = word_of ed x c.0 in
      let s = step_bits ed x in
      let end = ed.mark ++ replicate z false in
      let e : pre ++ ((s ++ body ed xs) ++ end) ≡ pre ++ (s ++ (body ed xs ++ end)) = ap (λ u. pre ++ u) (append_assoc s (body ed xs) end) in
      let g : pre ++ (s ++ (body ed xs ++ end)) ≡ (pre ++ s) ++ (body ed xs ++ end) = sym (append_assoc pre s (body ed xs ++ end)) in
      ap (λ t. onward (read_at ed t (length pre)) (read_from ed f t)) e
      ∙ ap (λ r. onward r (read_from ed f (pre ++ (s ++ (body ed xs ++ end))))) (read_step ed pre s (body ed xs ++ end) w.one)
      ∙ ap₂ (λ y o. more y o) w.same
      (ap₂ (read_from ed f) g (sym (length-append pre s)) ∙ read-body (pre ++ s) xs z f h c.1 (omega arith))

  body-longer : (xs : List ℕ) → all_steps ed xs ≡ true → length xs ≤ length (body ed xs)
  unfolding body
  body-longer [] a = omega arith
  body-longer (x ∷ xs) a =
      let c = all_cons ed x xs a in
      omega (arith, body-longer xs c.1, length-append (step_bits ed x) (body ed xs), length-step ed x, c.0)

  -- steps that are written behind a head read back as the same words
  pub read-part : (pre : List Bool) (xs : List ℕ) → length pre ≡ start ed → all_steps ed xs ≡ true → read_steps ed (pre ++ steps_part ed xs) ≡ Ok xs
  unfolding read_steps steps_part ending
  read-part pre xs e a =
      let z = pad (start ed + length (body ed xs) + length ed.mark) in
      let end = ed.mark ++ replicate z false in
      ap (read_from ed (suc (length (pre ++ (body ed xs ++ end)))) (pre ++ (body ed xs ++ end))) (sym e)
      ∙ read-body pre xs z (suc (length (pre ++ (body ed xs ++ end)))) (pad-lt ed (start ed + length (body ed xs) + length ed.mark)) a
      (omega (arith, body-longer xs a, length-append (body ed xs) end, length-append pre (body ed xs ++ end)))

  -- what bits that read as steps hold from a position on
  record Holds (t : List Bool) (p : ℕ) (xs : List ℕ) : Type 0 where
    z : ℕ
    edge : z < 8
    all : all_steps ed xs ≡ true
    is : drop p t ≡ body ed xs ++ (ed.mark ++ replicate z false)

  zeros-are : (l : List Bool) → num l ≡ 0 → l ≡ replicate (length l) false
  zeros-are l h = num-inj l (replicate (length l) false) (sym (length-replicate (length l) false)) (h ∙ sym (num-zeros (length l)))

  ends : (t : List Bool) (p : ℕ) → EndIn ed t p → Holds t p []
  unfolding body all_steps
  ends t p e =
      let m = length ed.mark in
      record {
        z = length (drop (p + m) t);
        edge = rw length-drop (omega (arith, e.edge, e.has, length-drop p t));
        all = refl;
        is = sym (take-append-drop m (drop p t)) ∙ ap₂ (λ a b. a ++ b)
            (num-inj (take m (drop p t)) ed.mark (length-take-le m (drop p t) e.has) e.marked)
            (drop-drop m p t ∙ zeros-are (drop (p + m) t) e.zeros);
      }

  goes : (t : List Bool) (p y q : ℕ) (xs : List ℕ) → StepIn ed t p y q → Holds t q xs → Holds t p (y ∷ xs)
  unfolding body all_steps
  goes t p y q xs s h =
      let u : step_bits ed y ≡ s.f = ap (step_bits ed) s.word_is ∙ step-word ed s.f s.one in
      let w : wide ed y ≡ length s.f = ap (wide ed) s.word_is ∙ wide_word ed s.f s.one in
      let n : 0 < wide ed y = omega (arith, w, s.one.size, width-least ed (num (take 3 s.f)) s.one.kind) in
      record {
        z = h.z;
        edge = h.edge;
        all = simp (lt-ltb _ _ n) h.all;
        is = s.here ∙ ap₂ (λ a b. a ++ b) (sym u) h.is ∙ sym (append_assoc (step_bits ed y) (body ed xs) (ed.mark ++ replicate h.z false));
      }

  holds : (f : ℕ) (t : List Bool) (p : ℕ) (xs : List ℕ) → read_from ed f t p ≡ Ok xs → Holds t p xs
  unfolding read_from
  holds zero t p xs e = cc
  holds (suc f) t p xs e = go (read_at ed t p) refl e (λ (q : ℕ) (ys : List ℕ) (g : read_from ed f t q ≡ Ok ys). holds f t q ys g)
    where
      go : (r : Reading) → read_at ed t p ≡ r → onward r (read_from ed f t) ≡ Ok xs → ((q : ℕ) (ys : List ℕ) → read_from ed f t q ≡ Ok ys → Holds t q ys) → Holds t p xs
      go (Step y q) r e ih =
          let m = more-is y (read_from ed f t q) xs e in
          subst (Holds t p) (sym m.2) (goes t p y q m.0 (step_in ed t p y q r) (ih q m.0 m.1))
      go (Refused k) r e ih = cc
      go End r e ih = let q : [] ≡ xs = cc in subst (Holds t p) q (ends t p (end-in ed t p r))

  -- whole bytes that read as steps hold behind the head what these steps are written as
  pub part-again : (t : List Bool) (m : ℕ) (xs : List ℕ) → length t ≡ 8 * m → start ed ≤ length t → read_steps ed t ≡ Ok xs → (all_steps ed xs ≡ true) × (drop (start ed) t ≡ steps_part ed xs)
  unfolding read_steps steps_part ending pad
  part-again t m xs k l e =
      let h = holds (suc (length t)) t (start ed) xs e in
      let b = length (body ed xs) in
      let n : length (drop (start ed) t) ≡ b + (length ed.mark + h.z) = ap length h.is ∙ length-append (body ed xs) (ed.mark ++ replicate h.z false)
      ∙ ap (λ a. b + a) (length-append ed.mark (replicate h.z false) ∙ ap (λ a. length ed.mark + a) (length-replicate h.z false)) in
      let z : h.z ≡ (8 - (start ed + b + length ed.mark) % 8) % 8 = omega (arith, h.edge, length-drop (start ed) t) in
      (h.all, h.is ∙ ap (λ a. body ed xs ++ (ed.mark ++ replicate a false)) z)

-- a tape with a head of its edition's length
module _ (ed : Edition) (head : List Bool) (xs : List ℕ) (long : length head ≡ ed.head) where
  bits-tape : bits_of (tape_with ed head xs) ≡ head ++ steps_part ed xs
  unfolding tape_with
  bits-tape = bits_of-pack (2 + size ed xs) (head ++ steps_part ed xs) (tape-bits ed head xs long)

  bytes-tape : Bytes (tape_with ed head xs)
  unfolding tape_with
  bytes-tape = bytes-pack (2 + size ed xs) (head ++ steps_part ed xs)

  boxes-tape : boxes_in ed (tape_with ed head xs) ≡ num (take 16 (drop ed.boxes_at head))
  unfolding boxes_in
  boxes-tape = ap (λ z. num (take 16 (drop ed.boxes_at z))) bits-tape ∙ ap num (cut-append head (steps_part ed xs) ed.boxes_at 16 (omega (arith, ed.boxes_inside)))

  part-tape : bits_of (drop 2 (tape_with ed head xs)) ≡ drop 16 head ++ steps_part ed xs
  part-tape = sym (drop-bits_of 2 (tape_with ed head xs)) ∙ ap (drop 16) bits-tape ∙ drop-append-le 16 head (steps_part ed xs) (omega (arith, ed.boxes_inside))

  -- what is written in any edition reads back
  pub read_tape_lem : num (take 16 (drop ed.boxes_at head)) ≢ 0 → all_steps ed xs ≡ true → 2 + size ed xs ≤ 4096 → read_in ed (tape_with ed head xs) ≡ Ok xs
  read_tape_lem n a l =
      let t = tape_with ed head xs in
      let g : GoodHead ed t = record { least = rw length-tape (size-least ed xs); most = rw length-tape l; some = λ e. n (sym boxes-tape ∙ e) } in
      read-good ed t g ∙ ap (read_steps ed) part-tape
      ∙ read-part ed (drop 16 head) xs (length-drop 16 head ∙ ap (λ k. k - 16) long) a

-- the words of an accepted tape of any edition are steps, and stand in it behind the head
pub accepted-part : (ed : Edition) (s xs : List ℕ) → read_in ed s ≡ Ok xs → (all_steps ed xs ≡ true) × (drop (start ed) (bits_of (drop 2 s)) ≡ steps_part ed xs)
accepted-part ed s xs e =
    let h = head-given ed s xs e in
    let t = bits_of (drop 2 s) in
    let n : length t ≡ 8 * (length s - 2) = length-bits_of (drop 2 s) ∙ ap (λ k. 8 * k) (length-drop 2 s) in
    part-again ed t (length s - 2) xs n (omega (arith, (head-there ed s h).2)) (sym (read-good ed s h) ∙ e)

-- the whole of it is what its head and steps are written as
pub tape-again : (ed : Edition) (s xs : List ℕ) → Bytes s → read_in ed s ≡ Ok xs → (2 + size ed xs ≡ length s) × (s ≡ tape_with ed (take ed.head (bits_of s)) xs)
tape-again ed s xs b e =
    let there = head-there ed s (head-given ed s xs e) in
    let head = take ed.head (bits_of s) in
    let long : length head ≡ ed.head = length-take-le ed.head (bits_of s) (rw length-bits_of there.1) in
    let p = (accepted-part ed s xs e).1 in
    let w : 16 + start ed ≡ ed.head = omega (arith, ed.boxes_inside) in
    let r : drop ed.head (bits_of s) ≡ steps_part ed xs =
    ap (λ k. drop k (bits_of s)) (sym w) ∙ sym (drop-drop (start ed) 16 (bits_of s)) ∙ ap (drop (start ed)) (drop-bits_of 2 s) ∙ p in
    let bs : bits_of s ≡ head ++ steps_part ed xs = sym (take-append-drop ed.head (bits_of s)) ∙ ap (λ z. head ++ z) r in
    let m : 2 + size ed xs ≡ length s = omega (arith, tape-bits ed head xs long, ap length bs, length-bits_of s) in
    (m, bits_of-inj s (tape_with ed head xs) (sym (length-tape ed head xs ∙ m)) b (bytes-tape ed head xs long) (bs ∙ sym (bits-tape ed head xs long)))

-- the first edition's head is its first boxes
first-boxes : (first : ℕ) → first < 2 ^ 16 → num (take 16 (bits 16 first)) ≡ first
first-boxes first h = ap num (take_all 16 (bits 16 first) (rw length-bits (omega arith))) ∙ num-bits-small 16 first h

-- what was written reads back
pub read_written : (first : ℕ) (xs tape : List ℕ) → first < 2 ^ 16 → write_tape first xs ≡ Ok tape → (read_tape tape ≡ Ok xs) × (first_boxes tape ≡ first)
unfolding write_tape
read_written first xs tape h w = go (eqb first 0) refl (all_steps first_edition xs) refl (ltb 4096 (2 + size first_edition xs)) refl w
  where
    go : (x : Bool) → eqb first 0 ≡ x → (y : Bool) → all_steps first_edition xs ≡ y → (z : Bool) → ltb 4096 (2 + size first_edition xs) ≡ z
        → cond x (Err NoFirstBox) (cond y (cond z (Err TapeTooLong) (Ok (tape_of first xs))) (Err NoStep)) ≡ Ok tape → (read_tape tape ≡ Ok xs) × (first_boxes tape ≡ first)
    go true e y f z g w = cc
    go false e false f z g w = cc
    go false e true f true g w = cc
    go false e true f false g w =
        let q : tape_of first xs ≡ tape = cc in
        let b = first-boxes first h in (
          ap read_tape (sym q) ∙ read_tape_lem first_edition (bits 16 first) xs (length-bits 16 first) (λ z. eqb-false first 0 e (sym b ∙ z)) f (ltb-false 4096 (2 + size first_edition xs) g),
          ap first_boxes (sym q) ∙ boxes-tape first_edition (bits 16 first) xs (length-bits 16 first) ∙ b,
        )

-- an accepted tape writes again as the same bytes
pub written_again : (tape xs : List ℕ) → Bytes tape → read_tape tape ≡ Ok xs → write_tape (first_boxes tape) xs ≡ Ok tape
unfolding boxes_in
written_again s xs b e =
    let g = head-given first_edition s xs e in
    let again = tape-again first_edition s xs b e in
    let f : take 16 (bits_of s) ≡ bits 16 (first_boxes s) = sym (bits-part 16 (take 16 (bits_of s)) (length-take-le 16 (bits_of s) (rw length-bits_of (omega (arith, g.least))))) in
    write-good (first_boxes s) xs g.some (accepted-part first_edition s xs e).0 (omega (arith, again.0, g.most))
    ∙ ap Ok (ap (λ h. tape_with first_edition h xs) (sym f) ∙ sym again.1)
