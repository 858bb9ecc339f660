-- The bits of one step: they are read wherever they stand (`read_step`), and a step word is such bits at its top (`word_of`, `step-word`).
use mathlib.Core.Path.{◌≡◌, refl, sym, ap, ap₂, subst, ◌∙◌}
use mathlib.Core.Logic.{◌≢◌}
use Prim.Native.Nat.{ℕ, ◌+◌, ◌-◌, ◌≤◌, ◌<◌}
use mathlib.Core.List.{List, [], ◌++◌}
use mathlib.Core.Bool.{Bool, true, false, cond}
use native.Mathlib.Nat.{zero-add}
use native.Mathlib.Omega.{arith}
use lib.ListN.{length, take, drop, length-append, length-drop, replicate, take-append-drop}
use lib.Seq.{length-take-le, take_at, drop_at, take-append-le, take-take, drop-drop}
use lib.Dec.{eqb, ltb}
use borrow.Author.Tests.{eqb-true, eq-eqb, ne_eqb, lt-ltb, ltb-true, ltb-false}
use Rattle.std.specs.Prelude.{Some, None, unwrap_or}
use Rattle.tape.specs.Bits.{num, bits, word}
use Rattle.tape.specs.Edition.{Edition}
use Rattle.tape.specs.Layout.{width, legal}
use Rattle.tape.specs.Reading.{begins, step_at, kind_at, end_at, read_at}
use Rattle.tape.specs.Writing.{width_by, wide, step_bits, step_width}
use Rattle.tape.specs.declared.reading.Reading.{Reading}
use Rattle.tape.specs.declared.reading.Reading.TheVariants.{Step, Refused, End}
use Rattle.tape.proofs.BitLaws.{length-bits}
use Rattle.tape.proofs.WordLaws.{word-bits, take-word}
use Rattle.tape.proofs.LayoutLaws.{cond_has, width-least, width-most}
use Rattle.tape.proofs.MarkLaws.{begins-append, begins-is}
use Rattle.tape.proofs.ReadingLaws.{read_has, read-kind, kind-step, kind-none, step-good, step-bad, Moves, moves, read-mark}

module _ (ed : Edition) where
  -- the bits of one step
  pub record OneStep (f : List Bool) : Type 0 where
    pub goes_on : begins ed.mark f ≡ false
    pub kind : width ed (num (take 3 f)) ≢ 0
    pub size : length f ≡ width ed (num (take 3 f))
    pub fine : legal ed f ≡ true

  -- where they stand in a tape, as a word and the next bit position
  pub record StepIn (t : List Bool) (p y q : ℕ) : Type 0 where
    pub f : List Bool
    pub one : OneStep f
    pub word_is : y ≡ word f
    pub next : q ≡ p + length f
    pub here : drop p t ≡ f ++ drop q t

  -- the end mark, and zero bits to the byte's edge
  pub record EndIn (t : List Bool) (p : ℕ) : Type 0 where
    pub has : length ed.mark ≤ length (drop p t)
    pub marked : num (take (length ed.mark) (drop p t)) ≡ num ed.mark
    pub edge : length t < p + length ed.mark + 8
    pub zeros : num (drop (p + length ed.mark) t) ≡ 0

  abbrev Inside : List Bool → ℕ → Reading → Type 0
  Inside t p (Step y q) = StepIn t p y q
  Inside t p (Refused k) = Unit {0}
  Inside t p End = EndIn t p

  module _ (t : List Bool) (p : ℕ) where
    stands : (k : ℕ) → begins ed.mark (drop p t) ≡ false → num (take 3 (drop p t)) ≡ k → width ed k ≢ 0 → p + width ed k ≤ length t
        → legal ed (take (width ed k) (drop p t)) ≡ true → StepIn t p (word (take (width ed k) (drop p t))) (p + width ed k)
    stands k b e n l g =
        let w = width ed k in
        let f = take w (drop p t) in
        let r = drop (p + w) t in
        let six = width-least ed k n in
        let here : drop p t ≡ f ++ r = sym (take-append-drop w (drop p t)) ∙ ap (λ z. f ++ z) (drop-drop w p t) in
        let size : length f ≡ w = length-take-le w (drop p t) (rw length-drop (omega arith)) in
        let kind : num (take 3 f) ≡ k = ap num (take-take 3 w (drop p t) (omega arith)) ∙ e in
        record {
          f = f;
          one = record {
            goes_on = sym (begins-append ed.mark f r (omega (arith, ed.mark_most))) ∙ ap (begins ed.mark) (sym here) ∙ b;
            kind = subst (λ z. width ed z ≢ 0) (sym kind) n;
            size = size ∙ ap (width ed) (sym kind);
            fine = g;
          };
          word_is = refl;
          next = ap (λ z. p + z) (sym size);
          here = here;
        }

    inside : Inside t p (read_at ed t p)
    inside =
        read_has ed t p (Inside t p) (λ _. tt)
        (λ b l z. let m = begins-is ed.mark (drop p t) b in record { has = m.0; marked = m.1; edge = l; zeros = z }) stands

    pub step_in : (y q : ℕ) → read_at ed t p ≡ Step y q → StepIn t p y q
    step_in y q e = subst (Inside t p) e inside

    pub end-in : read_at ed t p ≡ End → EndIn t p
    end-in e = subst (Inside t p) e inside

  -- a step's bits are read wherever they stand
  pub read_step : (pre f rest : List Bool) → OneStep f → read_at ed (pre ++ (f ++ rest)) (length pre) ≡ Step (word f) (length pre + length f)
  read_step pre f rest o =
      let t = pre ++ (f ++ rest) in
      let p = length pre in
      let k = num (take 3 f) in
      let d : drop p t ≡ f ++ rest = drop_at pre (f ++ rest) p refl in
      let l : length t ≡ p + (length f + length rest) = length-append pre (f ++ rest) ∙ ap (λ z. p + z) (length-append f rest) in
      let w : length f ≡ width ed k = o.size in
      let six = width-least ed k o.kind in
      let b : begins ed.mark (drop p t) ≡ false = ap (begins ed.mark) d ∙ begins-append ed.mark f rest (omega (arith, ed.mark_most)) ∙ o.goes_on in
      let e3 : take 3 (drop p t) ≡ take 3 f = ap (take 3) d ∙ take-append-le 3 f rest (omega arith) in
      let ew : take (width ed k) (drop p t) ≡ f = ap (take (width ed k)) d ∙ take_at f rest (width ed k) w in
      read-kind ed t p k b (omega arith) (ap num e3) ∙ kind-step ed t p k o.kind
      ∙ step-good ed t p (width ed k) (omega arith) (ap (legal ed) ew ∙ o.fine)
      ∙ ap₂ (λ x y. Step (word x) (p + y)) ew (sym w)

  one-most : (f : List Bool) → OneStep f → length f ≤ 64
  one-most f o = omega (arith, o.size, width-most ed (num (take 3 f)))

  pub wide_word : (f : List Bool) → OneStep f → wide ed (word f) ≡ length f
  unfolding wide
  wide_word f o =
      ap (λ t. width_by (read_at ed t 0) (word f)) (word-bits f (one-most f o))
      ∙ ap (λ r. width_by r (word f)) (read_step [] f (replicate (64 - length f) false) o)
      ∙ simp (eq-eqb (word f) (word f) refl) (zero-add (length f))

  pub step-word : (f : List Bool) → OneStep f → step_bits ed (word f) ≡ f
  unfolding step_bits
  step-word f o = ap (λ n. take n (bits 64 (word f))) (wide_word f o) ∙ take-word f (length f) refl (one-most f o)

  -- a step word's bits are a step's, and their word is the word
  pub record WordIs (x : ℕ) : Type 0 where
    pub one : OneStep (step_bits ed x)
    pub same : word (step_bits ed x) ≡ x

  pub word_of : (x : ℕ) → 0 < wide ed x → WordIs x
  unfolding wide step_bits
  word_of x h = go (read_at ed (bits 64 x) 0) refl h
    where
      go : (r : Reading) → read_at ed (bits 64 x) 0 ≡ r → 0 < width_by r x → WordIs x
      go (Step y q) e h = at (eqb y x) refl h
        where
          at : (b : Bool) → eqb y x ≡ b → 0 < cond b q 0 → WordIs x
          at true g h =
              let s = step_in (bits 64 x) 0 y q e in
              let z : wide ed x ≡ q = ap (λ r. width_by r x) e ∙ simp g in
              let n : q ≡ length s.f = s.next ∙ zero-add (length s.f) in
              let u : step_bits ed x ≡ s.f = ap₂ take (z ∙ n) s.here ∙ take_at s.f (drop q (bits 64 x)) (length s.f) refl in
              record { one = subst OneStep (sym u) s.one; same = ap word u ∙ sym s.word_is ∙ eqb-true y x g }
          at false g h = absurd (omega arith)
      go (Refused k) e h = absurd (omega arith)
      go End e h = absurd (omega arith)

  pub wide-most : (x : ℕ) → wide ed x ≤ 64
  unfolding wide
  wide-most x = go (read_at ed (bits 64 x) 0) (moves ed (bits 64 x) 0)
    where
      go : (r : Reading) → Moves (bits 64 x) 0 r → width_by r x ≤ 64
      go (Step y q) m = cond_has (λ n. n ≤ 64) (eqb y x) (λ _. omega (arith, m, length-bits 64 x)) (λ _. omega arith)
      go (Refused k) m = omega arith
      go End m = omega arith

  pub length-step : (x : ℕ) → length (step_bits ed x) ≡ wide ed x
  unfolding step_bits
  length-step x = length-take-le (wide ed x) (bits 64 x) (rw length-bits (wide-most x))

  -- the cases of a word
  module _ (x : ℕ) where
    abbrev k : ℕ
    k = num (take 3 (bits 64 x))

    abbrev f : List Bool
    f = take (width ed k) (bits 64 x)

    -- with the end mark it is no step
    wide-mark : begins ed.mark (bits 64 x) ≡ true → wide ed x ≡ 0
    unfolding wide end_at
    wide-mark b =
        ap (λ r. width_by r x) (read-mark ed (bits 64 x) 0 b)
        ∙ cond_has (λ r. width_by r x ≡ 0) (ltb (length (bits 64 x)) (0 + length ed.mark + 8))
        (λ _. cond_has (λ r. width_by r x ≡ 0) (eqb (num (drop (0 + length ed.mark) (bits 64 x))) 0) (λ _. refl) (λ _. refl)) (λ _. refl)

    unless-marked : (begins ed.mark (bits 64 x) ≡ false → wide ed x ≡ 0) → wide ed x ≡ 0
    unless-marked h = go (begins ed.mark (bits 64 x)) refl
      where
        go : (b : Bool) → begins ed.mark (bits 64 x) ≡ b → wide ed x ≡ 0
        go true b = wide-mark b
        go false b = h b

    at-kind : begins ed.mark (bits 64 x) ≡ false → read_at ed (bits 64 x) 0 ≡ kind_at ed (bits 64 x) 0 k
    at-kind b = read-kind ed (bits 64 x) 0 k b (rw length-bits (omega arith)) refl

    -- a word whose kind has no step is none
    pub wide-none : width ed k ≡ 0 → wide ed x ≡ 0
    unfolding wide
    wide-none e = unless-marked (λ b. ap (λ r. width_by r x) (at-kind b ∙ kind-none ed (bits 64 x) 0 k e))

    module _ (n : width ed k ≢ 0) where
      pub room : 0 + width ed k ≤ length (bits 64 x)
      room = rw length-bits (omega (arith, width-most ed k))

      at-step : begins ed.mark (bits 64 x) ≡ false → read_at ed (bits 64 x) 0 ≡ step_at ed (bits 64 x) 0 (width ed k)
      at-step b = at-kind b ∙ kind-step ed (bits 64 x) 0 k n

      at-good : begins ed.mark (bits 64 x) ≡ false → legal ed f ≡ true → wide ed x ≡ cond (eqb (word f) x) (0 + width ed k) 0
      unfolding wide
      at-good b e = ap (λ r. width_by r x) (at-step b ∙ step-good ed (bits 64 x) 0 (width ed k) room e)

      pub wide-bad : legal ed f ≡ false → wide ed x ≡ 0
      unfolding wide
      wide-bad e = unless-marked (λ b. ap (λ r. width_by r x) (at-step b ∙ step-bad ed (bits 64 x) 0 (width ed k) room e))

      -- with a bit set below its step it is none
      pub wide_low : word f ≢ x → wide ed x ≡ 0
      wide_low h = unless-marked (λ b. go b (legal ed f) refl)
        where
          go : begins ed.mark (bits 64 x) ≡ false → (g : Bool) → legal ed f ≡ g → wide ed x ≡ 0
          go b true e = at-good b e ∙ simp (ne_eqb _ _ h)
          go b false e = wide-bad e

      pub wide_good : begins ed.mark (bits 64 x) ≡ false → legal ed f ≡ true → word f ≡ x → wide ed x ≡ width ed k
      wide_good b e h = at-good b e ∙ simp (eq-eqb _ _ h) (zero-add (width ed k))

      -- where it is a step
      pub width-good : wide ed x ≡ width ed k → Some (width ed k) ≡ step_width ed x
      width-good e =
          let h : 0 < width ed k = omega (arith, width-least ed k n) in
          sym (ap (λ w. cond (ltb 0 w) (Some w) None) e ∙ simp (lt-ltb _ _ h))

    -- where it is none
    pub width-none : wide ed x ≡ 0 → None ≡ step_width ed x
    width-none e = sym (simp e)

    -- how many bits the step in a word takes
    pub width-some : (w : ℕ) → Some w ≡ step_width ed x → (w ≡ wide ed x) × (wide ed x ≢ 0)
    width-some w h = go (ltb 0 (wide ed x)) refl h
      where
        go : (b : Bool) → ltb 0 (wide ed x) ≡ b → Some w ≡ cond b (Some (wide ed x)) None → (w ≡ wide ed x) × (wide ed x ≢ 0)
        go true e h = (cc, λ z. omega (arith, z, ltb-true 0 (wide ed x) e))
        go false e h = cc

    pub width-missing : None ≡ step_width ed x → wide ed x ≡ 0
    width-missing h = go (ltb 0 (wide ed x)) refl h
      where
        go : (b : Bool) → ltb 0 (wide ed x) ≡ b → None ≡ cond b (Some (wide ed x)) None → wide ed x ≡ 0
        go true e h = cc
        go false e h = let z = ltb-false 0 (wide ed x) e in omega arith

    pub width-or-none : unwrap_or (step_width ed x) 0 ≡ wide ed x
    width-or-none = go (ltb 0 (wide ed x)) refl
      where
        go : (b : Bool) → ltb 0 (wide ed x) ≡ b → unwrap_or (cond b (Some (wide ed x)) None) 0 ≡ wide ed x
        go true e = refl
        go false e = let z = ltb-false 0 (wide ed x) e in omega arith
