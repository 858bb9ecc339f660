-- Laws of writing: the bits of several steps, the bytes of a tape, and the cases of writing one.
use mathlib.Core.Path.{◌≡◌, refl, sym, ap, ap₂, ◌∙◌}
use mathlib.Core.Logic.{◌≢◌}
use Prim.Native.Nat.{ℕ, suc, ◌+◌, ◌*◌, ◌/◌, ◌%◌, ◌^◌, ◌≤◌, ◌<◌, min}
use mathlib.Core.List.{List, [], ◌∷◌, ◌++◌, append_assoc}
use mathlib.Core.Bool.{Bool, true, false, cond}
use native.Mathlib.Nat.{add-zero}
use native.Mathlib.Numerals.{add-one}
use native.Mathlib.Omega.{arith}
use lib.ListN.{length, take, drop, get_or, length-append, replicate, length-replicate, take-append-drop}
use lib.Seq.{take-suc, split_at}
use lib.Pow.{shl_exact, shl_lt}
use lib.Dec.{ltb}
use borrow.Author.Tests.{le-ltb, lt-ltb, ltb-true, eq-eqb, ne_eqb}
use Rattle.refusals.specs.declared.Refusal.TheVariants.{TapeTooLong, NoFirstBox, NoStep}
use Rattle.tape.specs.Bits.{num, bits}
use Rattle.tape.specs.Edition.{Edition, first_edition}
use Rattle.std.specs.Prelude.{Some, None, Ok, Err}
use Rattle.tape.specs.Reading.{start, least_bytes}
use Rattle.tape.specs.Writing.{wide, step_bits, all_steps, body, pad, ending, steps_part, bytes_for, size, tape_with, tape_of, write_tape, measured}
use Rattle.tape.proofs.BitLaws.{num-lt, num-append, num-zeros, bits-part}
use Rattle.tape.proofs.ByteLaws.{append-nil, length-pack}
use Rattle.tape.proofs.LayoutLaws.{both}
use Rattle.tape.proofs.StepLaws.{length-step}

module _ (ed : Edition) where
  body-append : (a b : List ℕ) → body ed (a ++ b) ≡ body ed a ++ body ed b
  unfolding body
  body-append [] b = refl
  body-append (x ∷ a) b = ap (λ z. step_bits ed x ++ z) (body-append a b) ∙ sym (append_assoc (step_bits ed x) (body ed a) (body ed b))

  all_append : (a b : List ℕ) → all_steps ed a ≡ true → all_steps ed (a ++ b) ≡ all_steps ed b
  unfolding all_steps
  all_append [] b h = refl
  all_append (x ∷ a) b h = let c = both (ltb 0 (wide ed x)) h in simp c.0 (all_append a b c.1)

  pub all_cons : (x : ℕ) (xs : List ℕ) → all_steps ed (x ∷ xs) ≡ true → (0 < wide ed x) × (all_steps ed xs ≡ true)
  unfolding all_steps
  all_cons x xs h = let c = both (ltb 0 (wide ed x)) h in (ltb-true 0 (wide ed x) c.0, c.1)

  body-one : (x : ℕ) → body ed (x ∷ []) ≡ step_bits ed x
  unfolding body
  body-one x = append-nil (step_bits ed x)

  module _ (xs : List ℕ) (i : ℕ) (h : i < length xs) where
    take_next : take (i + 1) xs ≡ take i xs ++ (get_or xs i 0 ∷ [])
    take_next = ap (λ k. take k xs) (add-one i) ∙ take-suc xs i 0 h

    pub body-next : body ed (take (i + 1) xs) ≡ body ed (take i xs) ++ step_bits ed (get_or xs i 0)
    body-next = ap (body ed) take_next ∙ body-append (take i xs) (get_or xs i 0 ∷ []) ∙ ap (λ z. body ed (take i xs) ++ z) (body-one (get_or xs i 0))

    pub length-next : length (body ed (take (i + 1) xs)) ≡ length (body ed (take i xs)) + wide ed (get_or xs i 0)
    length-next = ap length body-next ∙ length-append (body ed (take i xs)) (step_bits ed (get_or xs i 0)) ∙ ap (λ k. length (body ed (take i xs)) + k) (length-step ed (get_or xs i 0))

    pub all-next : all_steps ed (take i xs) ≡ true → wide ed (get_or xs i 0) ≢ 0 → all_steps ed (take (i + 1) xs) ≡ true
    unfolding all_steps
    all-next a n =
        let p : 0 < wide ed (get_or xs i 0) = omega (arith, n) in
        ap (all_steps ed) take_next ∙ all_append (take i xs) (get_or xs i 0 ∷ []) a ∙ simp (lt-ltb _ _ p)

    pub all-bad : all_steps ed (take i xs) ≡ true → wide ed (get_or xs i 0) ≡ 0 → all_steps ed xs ≡ false
    unfolding all_steps
    all-bad a e = ap (all_steps ed) (split_at xs i 0 h) ∙ all_append (take i xs) (get_or xs i 0 ∷ drop (suc i) xs) a ∙ simp e

  pub length_part : (xs : List ℕ) (n : ℕ) → length (body ed (take n xs)) ≤ length (body ed xs)
  length_part xs n = omega (arith, ap length (ap (body ed) (sym (take-append-drop n xs)) ∙ body-append (take n xs) (drop n xs)), length-append (body ed (take n xs)) (body ed (drop n xs)))

  pub pad-lt : (n : ℕ) → pad n < 8
  unfolding pad
  pad-lt n = omega arith

  pub length-ending : (n : ℕ) → length (ending ed n) ≡ length ed.mark + pad (n + length ed.mark)
  unfolding ending
  length-ending n = simp (length-append, length-replicate)

  pub length-steps_part : (xs : List ℕ) → length (steps_part ed xs) ≡ length (body ed xs) + (length ed.mark + pad (start ed + length (body ed xs) + length ed.mark))
  unfolding steps_part
  length-steps_part xs = length-append (body ed xs) (ending ed (start ed + length (body ed xs))) ∙ ap (λ n. length (body ed xs) + n) (length-ending (start ed + length (body ed xs)))

  -- with the step part a tape takes whole bytes
  pub size-bits : (xs : List ℕ) → start ed + length (steps_part ed xs) ≡ 8 * size ed xs
  unfolding bytes_for pad
  size-bits xs = omega (arith, length-steps_part xs)

  -- it takes all that the head asks for
  pub size-least : (xs : List ℕ) → least_bytes ed ≤ 2 + size ed xs
  unfolding bytes_for
  size-least xs = omega (arith, ed.mark_least, ed.boxes_inside)

  -- the end mark and the zeros behind it as one field
  pub end-field : (z : ℕ) → bits (length ed.mark + z) (num ed.mark * 2 ^ z) ≡ ed.mark ++ replicate z false
  end-field z =
      let m = ed.mark in
      let n : length (m ++ replicate z false) ≡ length m + z = length-append m (replicate z false) ∙ ap (λ k. length m + k) (length-replicate z false) in
      let v : num (m ++ replicate z false) ≡ num m * 2 ^ z =
      num-append m (replicate z false) ∙ ap₂ (λ a b. num m * 2 ^ a + b) (length-replicate z false) (num-zeros z) ∙ add-zero (num m * 2 ^ z) in
      ap (bits (length m + z)) (sym v) ∙ bits-part (length m + z) (m ++ replicate z false) n

  -- its number as the code shifts it
  pub end-shifted : (z : ℕ) → z < 8 → (num ed.mark * 2 ^ z % 2 ^ 64 ≡ num ed.mark * 2 ^ z) × (num ed.mark * 2 ^ z < 2 ^ (length ed.mark + z))
  end-shifted z h = (shl_exact {a = num ed.mark} (length ed.mark) z 64 (num-lt ed.mark) (omega (arith, ed.mark_most)), shl_lt {a = num ed.mark} (length ed.mark) z (num-lt ed.mark))

  pub measured-good : (xs : List ℕ) (n : ℕ) → all_steps ed xs ≡ true → n ≡ min (length (body ed xs)) 40000 → Some n ≡ measured ed xs
  unfolding measured
  measured-good xs n a e = ap Some e ∙ sym (simp a)

  pub measured-bad : (xs : List ℕ) → all_steps ed xs ≡ false → None ≡ measured ed xs
  unfolding measured
  measured-bad xs a = sym (simp a)

  pub measured-is : (xs : List ℕ) (n : ℕ) → Some n ≡ measured ed xs → (all_steps ed xs ≡ true) × (n ≡ min (length (body ed xs)) 40000)
  unfolding measured
  measured-is xs n h = go (all_steps ed xs) refl h
    where
      go : (t : Bool) → all_steps ed xs ≡ t → Some n ≡ cond t (Some (min (length (body ed xs)) 40000)) None → (all_steps ed xs ≡ true) × (n ≡ min (length (body ed xs)) 40000)
      go true e h = (e, cc)
      go false e h = cc

  pub measured-none : (xs : List ℕ) → None ≡ measured ed xs → all_steps ed xs ≡ false
  unfolding measured
  measured-none xs h = go (all_steps ed xs) refl h
    where
      go : (t : Bool) → all_steps ed xs ≡ t → None ≡ cond t (Some (min (length (body ed xs)) 40000)) None → all_steps ed xs ≡ false
      go true e h = cc
      go false e h = e

-- a tape with a head of its edition's length
module _ (ed : Edition) (head : List Bool) (xs : List ℕ) where
  pub length-tape : length (tape_with ed head xs) ≡ 2 + size ed xs
  unfolding tape_with
  length-tape = length-pack (2 + size ed xs) (head ++ steps_part ed xs)

  -- the bits of a whole tape are those of its bytes
  pub tape-bits : length head ≡ ed.head → length (head ++ steps_part ed xs) ≡ 8 * (2 + size ed xs)
  tape-bits e = length-append head (steps_part ed xs) ∙ omega (arith, e, size-bits ed xs, ed.boxes_inside)

module _ (first : ℕ) (xs : List ℕ) where
  abbrev ed : Edition
  ed = first_edition

  pub write-boxless : first ≡ 0 → write_tape first xs ≡ Err NoFirstBox
  unfolding write_tape
  write-boxless e = simp (eq-eqb _ _ e)

  pub write-stepless : first ≢ 0 → all_steps ed xs ≡ false → write_tape first xs ≡ Err NoStep
  unfolding write_tape
  write-stepless e a = simp (ne_eqb _ _ e, a)

  pub write-long : first ≢ 0 → all_steps ed xs ≡ true → 4096 < 2 + size ed xs → write_tape first xs ≡ Err TapeTooLong
  unfolding write_tape
  write-long e a h = simp (ne_eqb _ _ e, a, lt-ltb _ _ h)

  pub write-good : first ≢ 0 → all_steps ed xs ≡ true → 2 + size ed xs ≤ 4096 → write_tape first xs ≡ Ok (tape_of first xs)
  unfolding write_tape
  write-good e a h = simp (ne_eqb _ _ e, a, le-ltb _ _ h)

-- the size by the capped number of bits
module _ (ed : Edition) (b n : ℕ) (capped : n ≡ min b 40000) where
  pub size-capped : 2 + bytes_for ed n ≤ 4096 → (n ≡ b) × (2 + bytes_for ed n ≡ 2 + bytes_for ed b)
  unfolding bytes_for
  size-capped h = let e : n ≡ b = omega arith in (e, ap (λ k. 2 + (start ed + k + length ed.mark + 7) / 8) e)

  pub size-over : 4096 < 2 + bytes_for ed n → 4096 < 2 + bytes_for ed b
  unfolding bytes_for
  size-over h = omega arith
