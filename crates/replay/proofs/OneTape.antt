-- One tape for one run of steps: a step says which kind and numbers its word has (`fields_for`, `step-fields`), so it has no two (`word-settled`);
-- it has one where it names what there is (`word-of-step`); and the first boxes and the steps settle an accepted tape (`tape-settled`).
use Rattle.std.specs.Prelude.{Option, Some, None}
use Prim.Native.Nat.{ℕ, zero, suc, ◌^◌, ◌<◌}
use mathlib.Core.Bool.{Bool, true, false}
use mathlib.Core.List.{List, [], ◌∷◌, map}
use mathlib.Core.Logic.{◌≢◌}
use mathlib.Core.Path.{◌≡◌, refl, sym, ap, ap₂, ◌∙◌}
use native.Mathlib.Nat.{lt_irrefl}
use native.Mathlib.Omega.{arith}
use lib.Dec.{leb, ltb}
use lib.ListN.{length, take, drop, get_or}
use borrow.Author.Tests.{lt-ltb, le-ltb, ltb-true, ltb-false, leb-true}
use Rattle.sets.specs.Choice.{pick}
use Rattle.tape.specs.Bits.{bit, bits, num, Bytes}
use Rattle.tape.specs.Edition.{field, first_edition}
use Rattle.tape.specs.declared.Fields.{Fields}
use Rattle.tape.specs.Layout.{fields, width, numbers, kind_of, fields_of, fields_in, no_field}
use Rattle.std.specs.Prelude.{Ok}
use Rattle.tape.specs.Reading.{words_of, read_tape, first_boxes}
use Rattle.tape.specs.Statements.{MayHold}
use Rattle.tape.specs.Writing.{wide, is_step, all_steps, write_tape}
use Rattle.tape.proofs.StepLaws.{wide-none}
use Rattle.tape.proofs.StepWords.{word-may-hold, word-by-fields}
use Rattle.tape.proofs.FieldWords.{EachMayHold, WordFor, word-for}
use Rattle.tape.proofs.WritingLaws.{all_cons}
use Rattle.tape.proofs.RoundTrip.{accepted-part}
use Rattle.tape.proofs.Statements.{statements as of-tapes}
use Rattle.devices.specs.declared.Step.{Step}
use Rattle.devices.specs.declared.Step.TheVariants.{Ask, Advance, Deliver, Lose, Repeat, Stop}
use Rattle.sets.proofs.BoundedLaws.{pick_true, pick-false}
use Rattle.rules.specs.Table.{row, in_range}
use Rattle.replay.specs.Statements.{SetsFit, HasWord}
use Rattle.replay.specs.Replay.{of_fields, step_of, decoded_number}
use Rattle.replay.proofs.Words.{step_is, step-none}
use Rattle.replay.proofs.Accepted.{word-plays}

-- ---- The word of a step

-- the kind and the numbers of a step: the short Ask has the first eight notes, the long one some of the last
fields_for : Step → List ℕ
fields_for (Ask tablet own pair) = pick (ltb own 256) 0 6 ∷ tablet ∷ own ∷ pair.added ∷ pair.removed ∷ []
fields_for (Advance tablet) = 1 ∷ tablet ∷ []
fields_for (Deliver slot) = 2 ∷ slot ∷ []
fields_for (Lose slot) = 3 ∷ slot ∷ []
fields_for (Repeat slot) = 4 ∷ slot ∷ []
fields_for (Stop device) = 5 ∷ device ∷ []

-- of what a word decodes to
decoded_fields : Option Step → List ℕ
decoded_fields (Some step) = fields_for step
decoded_fields None = []

-- the fields of a kind and some bits
kind_fields : ℕ → List Bool → List ℕ
kind_fields k b = k ∷ numbers (fields first_edition k) b

of_kind : ℕ → List Bool → Option Step
of_kind k b = of_fields (record { kind = k; first = get_or (kind_fields k b) 1 0; second = get_or (kind_fields k b) 2 0; third = get_or (kind_fields k b) 3 0; fourth = get_or (kind_fields k b) 4 0 })

kind-fields : (k : ℕ) (b : List Bool) → width first_edition k ≢ 0 → MayHold (get_or (fields first_edition k) 1 no_field) (get_or (kind_fields k b) 2 0)
    → kind_fields k b ≡ decoded_fields (of_kind k b)
unfolding kind_fields of_kind decoded_fields fields_for numbers
kind-fields zero b h may-hold =
    let most : get_or (kind_fields 0 b) 2 0 < 256 = omega (arith, may-hold.most) in
    ap (λ (k : ℕ). k ∷ numbers (fields first_edition 0) b) (pick_true 0 6 (lt-ltb _ 256 most))
kind-fields (suc zero) b h may-hold = refl
kind-fields (suc (suc zero)) b h may-hold = refl
kind-fields (suc (suc (suc zero))) b h may-hold = refl
kind-fields (suc (suc (suc (suc zero)))) b h may-hold = refl
kind-fields (suc (suc (suc (suc (suc zero))))) b h may-hold = refl
kind-fields (suc (suc (suc (suc (suc (suc zero)))))) b h may-hold =
    ap (λ (k : ℕ). k ∷ numbers (fields first_edition 6) b) (pick-false 0 6 (le-ltb _ _ may-hold.least))
kind-fields (suc (suc (suc (suc (suc (suc (suc k))))))) b h may-hold = absurd (h refl)

step-fields : (x : ℕ) (step : Step) → is_step first_edition x ≡ true → step_of x ≡ Some step → fields_of first_edition x ≡ fields_for step
unfolding kind_fields of_kind decoded_fields fields_of fields_in
step-fields x step h e =
    let some : width first_edition (kind_of x) ≢ 0 = λ e. omega (arith, wide-none first_edition x e, ltb-true 0 (wide first_edition x) h) in
    kind-fields (kind_of x) (drop 3 (bits 64 x)) some (word-may-hold first_edition x 1 h)
    ∙ ap decoded_fields (step_is x (fields_in first_edition x) (of_fields (fields_in first_edition x)) h refl refl ∙ e)

decoded-is-step : (x : ℕ) (step : Step) → step_of x ≡ Some step → is_step first_edition x ≡ true
decoded-is-step x step e = go (is_step first_edition x) refl
  where
    go : (b : Bool) → is_step first_edition x ≡ b → is_step first_edition x ≡ true
    go true h = h
    go false h = let z : ◌≡◌ {A = ℕ} 14 0 = ap decoded_number (step-none x h ∙ e) in absurd (omega arith)

pub word-settled : (x y : ℕ) (step : Step) → step_of x ≡ Some step → step_of y ≡ Some step → x ≡ y
word-settled x y step e f =
    let h = decoded-is-step x step e in
    let i = decoded-is-step y step f in
    word-by-fields first_edition x y h i (step-fields x step h e ∙ sym (step-fields y step i f))

-- ---- A word for each step

-- fields as the code has them, of the kind and the numbers
fields_from : List ℕ → Fields
fields_from l = record { kind = get_or l 0 0; first = get_or l 1 0; second = get_or l 2 0; third = get_or l 3 0; fourth = get_or l 4 0 }

from-word : (k : ℕ) (ns : List ℕ) (step : Step) → WordFor first_edition k ns → Some step ≡ of_fields (fields_from (k ∷ ns)) → HasWord step
unfolding fields_from fields_in
from-word k ns step w e =
    record { word = w.word_is; is = sym (step_is w.word_is (fields_from (k ∷ ns)) (Some step) w.is_step (ap fields_from (sym w.has)) e) }

-- a kind of the table other than the end mark's, and numbers that its fields may hold, are a step word's
known-word : (k : ℕ) (ns : List ℕ) → k < 7 → EachMayHold (fields first_edition k) ns → WordFor first_edition k ns
unfolding num bit
known-word k ns h each = word-for first_edition k ns (known k h) (omega arith) (λ e. lt_irrefl k (omega (arith, mark-kind))) each
  where
    mark-kind : num (take 3 first_edition.mark) ≡ 7
    mark-kind = refl

    known : (k : ℕ) → k < 7 → width first_edition k ≢ 0
    known zero h e = lt_irrefl 0 (omega arith)
    known (suc zero) h e = lt_irrefl 0 (omega arith)
    known (suc (suc zero)) h e = lt_irrefl 0 (omega arith)
    known (suc (suc (suc zero))) h e = lt_irrefl 0 (omega arith)
    known (suc (suc (suc (suc zero)))) h e = lt_irrefl 0 (omega arith)
    known (suc (suc (suc (suc (suc zero))))) h e = lt_irrefl 0 (omega arith)
    known (suc (suc (suc (suc (suc (suc zero)))))) h e = lt_irrefl 0 (omega arith)
    known (suc (suc (suc (suc (suc (suc (suc k))))))) h e = lt_irrefl 0 (omega arith)

-- numbers up to a bound, in the fields of the table
tablet_held : (n : ℕ) → leb n 7 ≡ true → MayHold (field 3 0 7) n
tablet_held n h = record { least = omega arith; most = leb-true n 7 h; fits = omega (arith, leb-true n 7 h) }

slot_held : (n : ℕ) → leb n 127 ≡ true → MayHold (field 7 0 127) n
slot_held n h = record { least = omega arith; most = leb-true n 127 h; fits = omega (arith, leb-true n 127 h) }

boxes_held : (n : ℕ) → n < 2 ^ 16 → MayHold (field 16 0 65535) n
boxes_held n h = record { least = omega arith; most = omega arith; fits = h }

pub word-of-step : (step : Step) → in_range (row step).names ≡ true → SetsFit step → HasWord step
unfolding fields_from
word-of-step (Ask tablet own pair) h fit = go (ltb own 256) refl
  where
    go : (b : Bool) → ltb own 256 ≡ b → HasWord (Ask tablet own pair)
    go true e =
        from-word 0 (tablet ∷ own ∷ pair.added ∷ pair.removed ∷ []) _
        (known-word 0 _ (omega arith) (
          tablet_held tablet h,
          (
            record { least = omega arith; most = omega (arith, ltb-true own 256 e); fits = omega (arith, ltb-true own 256 e) },
            (boxes_held pair.added fit.1, (boxes_held pair.removed fit.2, tt)),
          ),
        )) refl
    go false e =
        from-word 6 (tablet ∷ own ∷ pair.added ∷ pair.removed ∷ []) _
        (known-word 6 _ (omega arith) (
          tablet_held tablet h,
          (
            record { least = ltb-false own 256 e; most = omega (arith, fit.0); fits = fit.0 },
            (boxes_held pair.added fit.1, (boxes_held pair.removed fit.2, tt)),
          ),
        )) refl
word-of-step (Advance tablet) h fit = from-word 1 (tablet ∷ []) _ (known-word 1 _ (omega arith) (tablet_held tablet h, tt)) refl
word-of-step (Deliver slot) h fit = from-word 2 (slot ∷ []) _ (known-word 2 _ (omega arith) (slot_held slot h, tt)) refl
word-of-step (Lose slot) h fit = from-word 3 (slot ∷ []) _ (known-word 3 _ (omega arith) (slot_held slot h, tt)) refl
word-of-step (Repeat slot) h fit = from-word 4 (slot ∷ []) _ (known-word 4 _ (omega arith) (slot_held slot h, tt)) refl
word-of-step (Stop device) h fit =
    from-word 5 (device ∷ []) _
    (known-word 5 _ (omega arith) (record { least = omega arith; most = leb-true device 23 h; fits = omega (arith, leb-true device 23 h) }, tt)) refl

-- ---- The tape of steps

words-settled : (xs ys : List ℕ) → all_steps first_edition xs ≡ true → map step_of xs ≡ map step_of ys → xs ≡ ys
words-settled [] [] h e = refl
words-settled [] (y ∷ ys) h e = let z : 0 ≡ suc (length (map step_of ys)) = ap length e in absurd (omega arith)
words-settled (x ∷ xs) [] h e = let z : suc (length (map step_of xs)) ≡ 0 = ap length e in absurd (omega arith)
words-settled (x ∷ xs) (y ∷ ys) h e =
    let parts = all_cons first_edition x xs h in
    let plays = word-plays x parts.0 in
    let head : step_of x ≡ step_of y = ap (λ l. get_or l 0 None) e in
    let tail : map step_of xs ≡ map step_of ys = ap (drop 1) e in
    ap₂ ◌∷◌ (word-settled x y plays.step plays.is (sym head ∙ plays.is)) (words-settled xs ys parts.1 tail)

pub tape-settled : (a b xs ys : List ℕ) → Bytes a → Bytes b → read_tape a ≡ Ok xs → read_tape b ≡ Ok ys
    → first_boxes a ≡ first_boxes b → map step_of xs ≡ map step_of ys → a ≡ b
tape-settled a b xs ys ba bb ra rb first steps =
    let same = words-settled xs ys (accepted-part first_edition a xs ra).0 steps in
    let again = of-tapes.round_trip.written_again in
    ap words_of (sym (again a xs ba ra) ∙ ap₂ write_tape first same ∙ again b ys bb rb)
