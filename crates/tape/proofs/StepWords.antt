-- A step word by its fields: each holds a number that it may hold (`word-may-hold`), and with the kind they settle the word (`word-by-fields`).
use mathlib.Core.Path.{◌≡◌, refl, sym, ap, ap₂, ◌∙◌}
use mathlib.Core.Logic.{◌≢◌}
use Prim.Native.Nat.{ℕ, zero, suc, ◌<◌}
use mathlib.Core.List.{List, [], ◌∷◌, ◌++◌}
use mathlib.Core.Bool.{Bool, true, false}
use native.Mathlib.Omega.{arith}
use lib.ListN.{length, take, drop, get_or, length-take, length-drop}
use lib.Seq.{take-add}
use lib.Dec.{leb, eqb}
use borrow.Author.Tests.{leb-true, eqb-true, eqb-false, ltb-true}
use Rattle.tape.specs.Bits.{num, bits, word}
use Rattle.tape.specs.Edition.{Field, span, Edition}
use Rattle.tape.specs.Layout.{fields, width, fields_allowed, legal, numbers, kind_of, fields_of, no_field}
use Rattle.tape.specs.Writing.{wide, is_step}
use Rattle.tape.specs.Statements.{MayHold}
use Rattle.tape.proofs.BitLaws.{length-bits, num-inj, num-take-lt}
use Rattle.tape.proofs.LayoutLaws.{both, step-span, legal-fields}
use Rattle.tape.proofs.StepLaws.{wide-none, wide-bad, wide_low}

-- fields that are allowed hold numbers that they may hold
numbers-may-hold : (xs : List Field) (f : List Bool) → fields_allowed xs f ≡ true → (i : ℕ) → MayHold (get_or xs i no_field) (get_or (numbers xs f) i 0)
unfolding fields_allowed numbers
numbers-may-hold [] f h i = record { least = omega arith; most = omega arith; fits = omega arith }
numbers-may-hold (x ∷ xs) f h zero =
    let n = num (take x.width f) in
    let b = both (leb x.least n) h in
    record { least = leb-true _ _ b.0; most = leb-true _ _ (both (leb n x.most) b.1).0; fits = num-take-lt f x.width }
numbers-may-hold (x ∷ xs) f h (suc i) =
    let n = num (take x.width f) in
    numbers-may-hold xs (drop x.width f) (both (leb n x.most) (both (leb x.least n) h).1).1 i

-- the numbers in some fields settle their bits
numbers-settle : (xs : List Field) (a b : List Bool) → length a ≡ length b → numbers xs a ≡ numbers xs b → take (span xs) a ≡ take (span xs) b
unfolding numbers
numbers-settle [] a b l e = refl
numbers-settle (x ∷ xs) a b l e =
    let w = x.width in
    let n : num (take w a) ≡ num (take w b) = cc in
    let m : numbers xs (drop w a) ≡ numbers xs (drop w b) = cc in
    take-add w (span xs) a
    ∙ ap₂ (λ u v. u ++ v) (num-inj (take w a) (take w b) (simp (length-take, l)) n) (numbers-settle xs (drop w a) (drop w b) (simp (length-drop, l)) m)
    ∙ sym (take-add w (span xs) b)

module _ (ed : Edition) where
  -- the bits of the width of a word's kind
  abbrev front : ℕ → List Bool
  front x = take (width ed (kind_of x)) (bits 64 x)

  -- what a step word is: these bits, in fields that are allowed
  record Made (x : ℕ) : Type 0 where
    some : width ed (kind_of x) ≢ 0
    fine : legal ed (front x) ≡ true
    same : word (front x) ≡ x

  made : (x : ℕ) → is_step ed x ≡ true → Made x
  made x h =
      let l : 0 < wide ed x = ltb-true _ _ h in
      let some : width ed (kind_of x) ≢ 0 = λ e. omega (arith, wide-none ed x e) in
      record { some = some; fine = fine l some (legal ed (front x)) refl; same = same l some (eqb (word (front x)) x) refl }
    where
      fine : 0 < wide ed x → width ed (kind_of x) ≢ 0 → (b : Bool) → legal ed (front x) ≡ b → b ≡ true
      fine l n true e = refl
      fine l n false e = absurd (omega (arith, wide-bad ed x n e))

      same : 0 < wide ed x → width ed (kind_of x) ≢ 0 → (b : Bool) → eqb (word (front x)) x ≡ b → word (front x) ≡ x
      same l n true e = eqb-true _ _ e
      same l n false e = absurd (omega (arith, wide_low ed x n (eqb-false _ _ e)))

  pub word-may-hold : (x i : ℕ) → is_step ed x ≡ true → MayHold (get_or (fields ed (kind_of x)) i no_field) (get_or (fields_of ed x) (suc i) 0)
  unfolding fields_of
  word-may-hold x i h =
      let m = made x h in
      numbers-may-hold (fields ed (kind_of x)) (drop 3 (bits 64 x)) (sym (legal-fields ed x (kind_of x) refl m.some) ∙ m.fine) i

  -- the kind and the fields of these bits
  front-is : (x : ℕ) → width ed (kind_of x) ≢ 0 → front x ≡ take 3 (bits 64 x) ++ take (span (fields ed (kind_of x))) (drop 3 (bits 64 x))
  front-is x h = ap (λ n. take n (bits 64 x)) (step-span (fields ed (kind_of x)) h) ∙ take-add 3 (span (fields ed (kind_of x))) (bits 64 x)

  pub word-by-fields : (x y : ℕ) → is_step ed x ≡ true → is_step ed y ≡ true → fields_of ed x ≡ fields_of ed y → x ≡ y
  unfolding fields_of
  word-by-fields x y hx hy e =
      let a = bits 64 x in
      let b = bits 64 y in
      let k : kind_of x ≡ kind_of y = cc in
      let xs = fields ed (kind_of y) in
      let l : length a ≡ length b = length-bits 64 x ∙ sym (length-bits 64 y) in
      let t : take 3 a ≡ take 3 b = num-inj (take 3 a) (take 3 b) (simp (length-take, l)) k in
      let n : numbers (fields ed (kind_of x)) (drop 3 a) ≡ numbers xs (drop 3 b) = cc in
      let m : numbers xs (drop 3 a) ≡ numbers xs (drop 3 b) = ap (λ j. numbers (fields ed j) (drop 3 a)) (sym k) ∙ n in
      let r : take (span (fields ed (kind_of x))) (drop 3 a) ≡ take (span xs) (drop 3 b) =
      ap (λ j. take (span (fields ed j)) (drop 3 a)) k ∙ numbers-settle xs (drop 3 a) (drop 3 b) (simp (length-drop, l)) m in
      let p = made x hx in
      let q = made y hy in
      sym p.same ∙ ap word (front-is x p.some ∙ ap₂ (λ u v. u ++ v) t r ∙ sym (front-is y q.some)) ∙ q.same
