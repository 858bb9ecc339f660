-- Laws of the end mark: how it is found in a tape and in a word, and what stands behind it.
use mathlib.Core.Path.{◌≡◌, refl, sym, ap, ap₂, ◌∙◌}
use mathlib.Core.Logic.{◌≢◌}
use Prim.Native.Nat.{ℕ, ◌+◌, ◌-◌, ◌≤◌, ◌<◌}
use mathlib.Core.List.{List, ◌++◌}
use mathlib.Core.Bool.{Bool, true, false, cond}
use native.Mathlib.Omega.{arith}
use lib.ListN.{length, take, drop, length-append, length-take, length-drop, take-append-drop}
use lib.Seq.{take-append-le, take_all, take-take, take-add, length-take-le, drop-drop}
use lib.Dec.{leb, ltb, eqb}
use borrow.Author.Tests.{lt-ltb, le-ltb, le-leb, lt-leb, eq-eqb, ne_eqb, leb-true, leb-false, eqb-false, eqb-true, ltb-true, ltb-false}
use Rattle.refusals.specs.declared.Refusal.TheVariants.{BehindTheEnd}
use Rattle.tape.specs.Bits.{num, bits, field_at, Ahead}
use Rattle.tape.specs.Reading.{end_at, begins}
use Rattle.tape.specs.declared.reading.Reading.TheVariants.{Refused, End}
use Rattle.tape.proofs.BitLaws.{length-bits, num-inj, drop-take}
use Rattle.tape.proofs.WordLaws.{field_top, field-inside}
use Rattle.tape.proofs.LayoutLaws.{both}

module _ (m l : List Bool) where
  pub begins-yes : length m ≤ length l → num (take (length m) l) ≡ num m → begins m l ≡ true
  unfolding begins
  begins-yes h e = simp (le-leb _ _ h, eq-eqb _ _ e)

  pub begins-short : length l < length m → begins m l ≡ false
  unfolding begins
  begins-short h = simp (lt-leb _ _ h)

  pub begins-is : begins m l ≡ true → (length m ≤ length l) × (num (take (length m) l) ≡ num m)
  unfolding begins
  begins-is h = let b = both (leb (length m) (length l)) h in (leb-true _ _ b.0, eqb-true _ _ b.1)

  -- what stands behind does not matter
  pub begins-append : (r : List Bool) → length m ≤ length l → begins m (l ++ r) ≡ begins m l
  unfolding begins
  begins-append r h =
      let k : length m ≤ length (l ++ r) = rw length-append (omega arith) in
      simp (le-leb _ _ h, le-leb _ _ k, take-append-le (length m) l r h)

-- the end mark is looked for in a word that has at its top what is left of a tape
module _ (m : List Bool) (x left : ℕ) (small : length m ≤ 6) where
  pub mark-short : left < length m → begins m (take left (bits 64 x)) ≡ false
  mark-short h = begins-short m (take left (bits 64 x)) (rw length-take (omega arith))

  mark-field : length m ≤ left → begins m (take left (bits 64 x)) ≡ eqb (field_at x 0 (length m)) (num m)
  unfolding begins
  mark-field h =
      let k : length m ≤ length (take left (bits 64 x)) = simp (length-take, length-bits) (omega arith) in
      simp (le-leb _ _ k, take-take (length m) left (bits 64 x) h, field_top x (length m) (omega arith))

  pub mark-ahead : (t : List Bool) (p : ℕ) → Ahead t p x → p ≤ length t → left ≡ length t - p → begins m (take left (bits 64 x)) ≡ begins m (drop p t)
  unfolding begins
  mark-ahead t p a q e = go (leb (length m) left) refl
    where
      go : (b : Bool) → leb (length m) left ≡ b → begins m (take left (bits 64 x)) ≡ begins m (drop p t)
      go true f =
          let h : length m ≤ left = leb-true _ _ f in
          let n : length m ≤ length (drop p t) = rw length-drop (omega arith) in
          mark-field h ∙ ap (λ n. eqb n (num m)) (field_top x (length m) (omega arith) ∙ ap num (a (length m) (omega arith) (omega arith)))
          ∙ sym (simp (le-leb _ _ n))
      go false f =
          let h : left < length m = leb-false _ _ f in
          mark-short h ∙ sym (begins-short m (drop p t) (rw length-drop (omega arith)))

module _ (t : List Bool) (p : ℕ) where
  pub end-long : p + 8 ≤ length t → end_at t p ≡ Refused BehindTheEnd
  unfolding end_at
  end-long h = simp (le-ltb _ _ h)

  pub end-set : num (drop p t) ≢ 0 → end_at t p ≡ Refused BehindTheEnd
  unfolding end_at
  end-set h = go (ltb (length t) (p + 8))
    where
      go : (b : Bool) → cond b (cond (eqb (num (drop p t)) 0) End (Refused BehindTheEnd)) (Refused BehindTheEnd) ≡ Refused BehindTheEnd
      go true = simp (ne_eqb _ _ h)
      go false = refl

  pub end-good : length t < p + 8 → num (drop p t) ≡ 0 → end_at t p ≡ End
  unfolding end_at
  end-good h e = simp (lt-ltb _ _ h, e)

-- the end of some bits is that of the part that is left
end-drop : (t : List Bool) (p : ℕ) → p ≤ length t → end_at (drop p t) 0 ≡ end_at t p
end-drop t p h = go (ltb (length t) (p + 8)) refl (eqb (num (drop p t)) 0) refl
  where
    go : (b : Bool) → ltb (length t) (p + 8) ≡ b → (c : Bool) → eqb (num (drop p t)) 0 ≡ c → end_at (drop p t) 0 ≡ end_at t p
    go true e true f =
        let l : length t < p + 8 = ltb-true _ _ e in
        end-good (drop p t) 0 (rw length-drop (omega arith)) (eqb-true _ _ f) ∙ sym (end-good t p l (eqb-true _ _ f))
    go true e false f = end-set (drop p t) 0 (eqb-false _ _ f) ∙ sym (end-set t p (eqb-false _ _ f))
    go false e c f =
        let l : p + 8 ≤ length t = ltb-false _ _ e in
        end-long (drop p t) 0 (rw length-drop (omega arith)) ∙ sym (end-long t p l)

-- the end by the bits ahead, behind a mark of m bits
pub end-ahead : (t : List Bool) (p x left m : ℕ) → Ahead t p x → p ≤ length t → left ≡ length t - p → m ≤ left → m ≤ 6 → end_at (take (left - m) (drop m (bits 64 x))) 0 ≡ end_at t (p + m)
end-ahead t p x left m a q e h s = go (ltb (left - m) 8) refl
  where
    go : (b : Bool) → ltb (left - m) 8 ≡ b → end_at (take (left - m) (drop m (bits 64 x))) 0 ≡ end_at t (p + m)
    go true f =
        let l : left - m < 8 = ltb-true _ _ f in
        let k : m + (left - m) ≤ 57 = omega arith in
        let n : p + (m + (left - m)) ≤ length t = omega arith in
        ap (λ z. end_at z 0)
        (sym (drop-take m (left - m) (bits 64 x) (rw length-bits (omega arith)))
        ∙ ap (drop m) (a (m + (left - m)) k n)
        ∙ drop-take m (left - m) (drop p t) (rw length-drop (omega arith))
        ∙ ap (take (left - m)) (drop-drop m p t)
        ∙ take_all (left - m) (drop (p + m) t) (rw length-drop (omega arith)))
        ∙ end-drop t (p + m) (omega arith)
    go false f =
        let l : 8 ≤ left - m = ltb-false _ _ f in
        end-long (take (left - m) (drop m (bits 64 x))) 0 (simp (length-take, length-drop, length-bits) (omega arith)) ∙ sym (end-long t (p + m) (omega arith))

-- the same by the kind that the mark begins with, and by the bits behind that
module _ (m : List Bool) (x left : ℕ) (small : length m ≤ 6) (kinded : 3 ≤ length m) where
  rest_of : drop 3 (take (length m) (bits 64 x)) ≡ take (length m - 3) (drop 3 (bits 64 x))
  rest_of =
      let e : length m ≡ 3 + (length m - 3) = omega arith in
      ap (λ n. drop 3 (take n (bits 64 x))) e ∙ drop-take 3 (length m - 3) (bits 64 x) (rw length-bits (omega arith))

  mark-there : begins m (take left (bits 64 x)) ≡ true → take (length m) (bits 64 x) ≡ m
  mark-there h =
      let b = begins-is m (take left (bits 64 x)) h in
      let l : length m ≤ left = omega (arith, b.0, length-take left (bits 64 x)) in
      let e = take-take (length m) left (bits 64 x) l in
      num-inj (take (length m) (bits 64 x)) m (length-take-le (length m) (bits 64 x) (rw length-bits (omega arith))) (ap num (sym e) ∙ b.1)

  not_there : (begins m (take left (bits 64 x)) ≡ true → ⊥) → begins m (take left (bits 64 x)) ≡ false
  not_there h = go (begins m (take left (bits 64 x))) refl
    where
      go : (b : Bool) → begins m (take left (bits 64 x)) ≡ b → b ≡ false
      go true e = absurd (h e)
      go false e = refl

  pub mark-other : num (take 3 (bits 64 x)) ≢ num (take 3 m) → begins m (take left (bits 64 x)) ≡ false
  mark-other h = not_there (λ b. h (ap num (sym (take-take 3 (length m) (bits 64 x) kinded) ∙ ap (take 3) (mark-there b))))

  pub mark-rest : field_at x 3 (length m - 3) ≢ num (drop 3 m) → begins m (take left (bits 64 x)) ≡ false
  mark-rest h = not_there (λ b. h (field-inside x 3 (length m - 3) (omega arith) ∙ ap num (sym rest_of ∙ ap (drop 3) (mark-there b))))

  pub mark-is : length m ≤ left → num (take 3 (bits 64 x)) ≡ num (take 3 m) → field_at x 3 (length m - 3) ≡ num (drop 3 m) → begins m (take left (bits 64 x)) ≡ true
  mark-is l k r =
      let e : length m ≡ 3 + (length m - 3) = omega arith in
      let f : take 3 (bits 64 x) ≡ take 3 m =
      num-inj (take 3 (bits 64 x)) (take 3 m) (length-take-le 3 (bits 64 x) (rw length-bits (omega arith)) ∙ sym (length-take-le 3 m kinded)) k in
      let g : take (length m - 3) (drop 3 (bits 64 x)) ≡ drop 3 m =
      num-inj (take (length m - 3) (drop 3 (bits 64 x))) (drop 3 m) (length-take-le (length m - 3) (drop 3 (bits 64 x)) (simp (length-drop, length-bits) (omega arith)) ∙ sym (length-drop 3 m))
      (sym (field-inside x 3 (length m - 3) (omega arith)) ∙ r) in
      let all : take (length m) (bits 64 x) ≡ m =
      ap (λ n. take n (bits 64 x)) e ∙ take-add 3 (length m - 3) (bits 64 x) ∙ ap₂ (λ a b. a ++ b) f g ∙ take-append-drop 3 m in
      begins-yes m (take left (bits 64 x)) (simp (length-take, length-bits) (omega arith)) (ap num (take-take (length m) left (bits 64 x) l ∙ all))
