-- Numbers that the fields of a kind may hold are those of a step word (`word-for`), where the kind is not the one that the end mark begins with.
use mathlib.Core.Path.{◌≡◌, refl, sym, ap, ap₂, subst, ◌∙◌}
use mathlib.Core.Logic.{◌≢◌}
use Prim.Native.Nat.{ℕ, ◌+◌, ◌-◌, ◌<◌}
use mathlib.Core.List.{List, [], ◌∷◌, ◌++◌, append-nil, append_assoc}
use mathlib.Core.Bool.{Bool, true, false}
use native.Mathlib.Omega.{arith}
use lib.ListN.{length, take, drop, length-append, replicate}
use lib.Seq.{length-take-le, take_at, drop_at, take-take}
use borrow.Author.Tests.{le-leb, lt-ltb}
use Rattle.tape.specs.Bits.{num, bits, word}
use Rattle.tape.specs.Edition.{Field, span, Edition}
use Rattle.tape.specs.Layout.{fields, width, fields_allowed, legal, numbers, kind_of, fields_of}
use Rattle.tape.specs.Reading.{begins}
use Rattle.tape.specs.Statements.{MayHold}
use Rattle.tape.specs.Writing.{wide, is_step}
use Rattle.tape.proofs.BitLaws.{length-bits, num-inj, num-bits-small}
use Rattle.tape.proofs.WordLaws.{word-bits}
use Rattle.tape.proofs.LayoutLaws.{step-span, width-least, width-most}
use Rattle.tape.proofs.MarkLaws.{begins-is}
use Rattle.tape.proofs.StepLaws.{OneStep, wide_word}

-- each field of some may hold its number
abbrev pub EachMayHold : List Field → List ℕ → Type 0
EachMayHold [] [] = Unit {0}
EachMayHold [] (n ∷ ns) = ⊥
EachMayHold (x ∷ xs) [] = ⊥
EachMayHold (x ∷ xs) (n ∷ ns) = MayHold x n × EachMayHold xs ns

-- the bits of numbers in some fields
pub field_bits : List Field → List ℕ → List Bool
field_bits [] ns = []
field_bits (x ∷ xs) [] = []
field_bits (x ∷ xs) (n ∷ ns) = bits x.width n ++ field_bits xs ns

-- what these bits, with some behind them, hold
record Holds (xs : List Field) (ns : List ℕ) (rest : List Bool) : Type 0 where
  size : length (field_bits xs ns) ≡ span xs
  allowed : fields_allowed xs (field_bits xs ns ++ rest) ≡ true
  held : numbers xs (field_bits xs ns ++ rest) ≡ ns

holds : (xs : List Field) (ns : List ℕ) (rest : List Bool) → EachMayHold xs ns → Holds xs ns rest
unfolding field_bits fields_allowed numbers
holds [] [] rest h = record { size = refl; allowed = refl; held = refl }
holds [] (n ∷ ns) rest h = absurd h
holds (x ∷ xs) [] rest h = absurd h
holds (x ∷ xs) (n ∷ ns) rest h =
    let w = x.width in
    let a = bits w n in
    let b = field_bits xs ns in
    let more = holds xs ns rest h.1 in
    let l : length a ≡ w = length-bits w n in
    let whole : (a ++ b) ++ rest ≡ a ++ (b ++ rest) = append_assoc a b rest in
    let here : num (take w ((a ++ b) ++ rest)) ≡ n =
    ap num (ap (take w) whole ∙ take_at a (b ++ rest) w l) ∙ num-bits-small w n h.0.fits in
    let behind : drop w ((a ++ b) ++ rest) ≡ b ++ rest = ap (drop w) whole ∙ drop_at a (b ++ rest) w l in
    record {
      size = length-append a b ∙ ap₂ (λ i j. i + j) l more.size;
      allowed = rw (here, behind) (simp (le-leb _ _ h.0.least, le-leb _ _ h.0.most) more.allowed);
      held = ap₂ (λ i j. i ∷ j) here (ap (numbers xs) behind ∙ more.held);
    }

module _ (ed : Edition) (k : ℕ) (ns : List ℕ) where
  -- the bits of the kind and its fields
  pub step_of_fields : List Bool
  step_of_fields = bits 3 k ++ field_bits (fields ed k) ns

  -- a step word of the kind with these numbers
  pub record WordFor : Type 0 where
    pub word_is : ℕ
    pub is_step : is_step ed word_is ≡ true
    pub has : fields_of ed word_is ≡ k ∷ ns

  module _ (known : width ed k ≢ 0) (small : k < 8) (unmarked : k ≢ num (take 3 ed.mark)) (each : EachMayHold (fields ed k) ns) where
    -- kind and fields stand in front of whatever is behind them
    front : (rest : List Bool) → (num (take 3 (step_of_fields ++ rest)) ≡ k) × (drop 3 (step_of_fields ++ rest) ≡ field_bits (fields ed k) ns ++ rest)
    unfolding step_of_fields
    front rest =
        let b = field_bits (fields ed k) ns in
        let whole : (bits 3 k ++ b) ++ rest ≡ bits 3 k ++ (b ++ rest) = append_assoc (bits 3 k) b rest in (
          ap num (ap (take 3) whole ∙ take_at (bits 3 k) (b ++ rest) 3 (length-bits 3 k)) ∙ num-bits-small 3 k small,
          ap (drop 3) whole ∙ drop_at (bits 3 k) (b ++ rest) 3 (length-bits 3 k),
        )

    size : length step_of_fields ≡ width ed k
    unfolding step_of_fields
    size =
        length-append (bits 3 k) (field_bits (fields ed k) ns)
        ∙ ap₂ (λ i j. i + j) (length-bits 3 k) (holds (fields ed k) ns [] each).size
        ∙ sym (step-span (fields ed k) known)

    kind-first : num (take 3 step_of_fields) ≡ k
    kind-first = sym (ap (λ l. num (take 3 l)) (append-nil step_of_fields)) ∙ (front []).0

    -- the end mark begins with another kind
    goes_on : begins ed.mark step_of_fields ≡ false
    goes_on = go (begins ed.mark step_of_fields) refl
      where
        go : (b : Bool) → begins ed.mark step_of_fields ≡ b → b ≡ false
        go false e = refl
        go true e =
            let m = begins-is ed.mark step_of_fields e in
            let marked : take (length ed.mark) step_of_fields ≡ ed.mark =
            num-inj _ _ (length-take-le (length ed.mark) step_of_fields m.0) m.1 in
            absurd (unmarked
            (sym kind-first ∙ ap num (sym (take-take 3 (length ed.mark) step_of_fields ed.mark_least) ∙ ap (take 3) marked)))

    one : OneStep ed step_of_fields
    unfolding legal
    one =
        record {
          goes_on = goes_on;
          kind = subst (λ j. width ed j ≢ 0) (sym kind-first) known;
          size = size ∙ ap (width ed) (sym kind-first);
          fine =
              ap (λ j. fields_allowed (fields ed j) (drop 3 step_of_fields)) kind-first
              ∙ ap (fields_allowed (fields ed k)) (sym (ap (drop 3) (append-nil step_of_fields)) ∙ (front []).1)
              ∙ (holds (fields ed k) ns [] each).allowed;
        }

    pub word-for : WordFor
    unfolding fields_of
    word-for =
        let x = word step_of_fields in
        let zeros = replicate (64 - length step_of_fields) false in
        let least = width-least ed k known in
        let e : bits 64 x ≡ step_of_fields ++ zeros = word-bits step_of_fields (omega (arith, size, width-most ed k)) in
        let kind : kind_of x ≡ k = ap (λ l. num (take 3 l)) e ∙ (front zeros).0 in
        record {
          word_is = x;
          is_step = lt-ltb 0 (wide ed x) (omega (arith, wide_word ed step_of_fields one, size));
          has =
              ap₂ (λ i j. i ∷ j) kind
              (ap (λ j. numbers (fields ed j) (drop 3 (bits 64 x))) kind
              ∙ ap (λ l. numbers (fields ed k) (drop 3 l)) e
              ∙ ap (numbers (fields ed k)) (front zeros).1
              ∙ (holds (fields ed k) ns zeros each).held);
        }
