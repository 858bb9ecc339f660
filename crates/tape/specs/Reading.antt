-- Reading a tape: what stands at a bit position, and what a whole tape is (01, "The tape" and "Numbers a caller gets back").
use Rattle.std.specs.Prelude.{ℕ, zero, suc, ◌+◌, ◌-◌, ◌/◌, List, [], ◌∷◌, Bool, false, cond, Result, Ok, Err, length, take, drop, leb, ltb, eqb}
use Rattle.refusals.specs.declared.Refusal.{Refusal}
use Rattle.refusals.specs.declared.Refusal.TheVariants.{TapeTooLong, NoFirstBox, EndsTooSoon, NoStep, BehindTheEnd}
use Rattle.tape.specs.Bits.{num, bits, bits_of, word}
use Rattle.tape.specs.Edition.{Edition, first_edition}
use Rattle.tape.specs.Layout.{width, legal}
use Rattle.tape.specs.declared.reading.Reading.{Reading}
use Rattle.tape.specs.declared.reading.Reading.TheVariants.{Step, Refused, End}

-- the step of w bits at p: 13 with too few bits, then 14 for a number that its field may not hold, else "its tape bits at the top, zeros below"
unfoldable pub step_at : Edition → List Bool → ℕ → ℕ → Reading
step_at ed t p w =
    cond (leb (p + w) (length t))
    (cond (legal ed (take w (drop p t))) (Step (word (take w (drop p t))) (p + w)) (Refused NoStep))
    (Refused EndsTooSoon)

-- a kind that no step has is 14 at once; in the first edition each kind has one but 7, which is the end mark
unfoldable pub kind_at : Edition → List Bool → ℕ → ℕ → Reading
kind_at ed t p k = cond (eqb (width ed k) 0) (Refused NoStep) (step_at ed t p (width ed k))

-- behind the end mark "zero bits to the byte's edge"; "a bit set or a further byte" is 15
unfoldable pub end_at : List Bool → ℕ → Reading
end_at t p = cond (ltb (length t) (p + 8)) (cond (eqb (num (drop p t)) 0) End (Refused BehindTheEnd)) (Refused BehindTheEnd)

-- some bits begin with others
unfoldable pub begins : List Bool → List Bool → Bool
begins m l = cond (leb (length m) (length l)) (eqb (num (take (length m) l)) (num m)) false

-- what a word says where no step is, having so many bits of a tape at its top: the end, by the end mark, or else a refusal
abbrev pub end_or : Edition → ℕ → ℕ → Refusal → Reading
end_or ed x left refusal =
    cond (begins ed.mark (take left (bits 64 x))) (end_at (take (left - length ed.mark) (drop (length ed.mark) (bits 64 x))) 0) (Refused refusal)

-- "Each reading ends as a step with the next bit position, or as a refusal, or as the end of the tape"
unfoldable pub read_at : Edition → List Bool → ℕ → Reading
read_at ed t p =
    cond (begins ed.mark (drop p t)) (end_at t (p + length ed.mark))
    (cond (leb (p + 3) (length t)) (kind_at ed t p (num (take 3 (drop p t)))) (Refused EndsTooSoon))

-- what reading or writing comes to: words or bytes that it gives, or a refusal
abbrev pub Outcome : Type 0
Outcome = Result (List ℕ) Refusal

-- what it gives
abbrev pub words_of : Outcome → List ℕ
words_of (Ok xs) = xs
words_of (Err e) = []

-- one word before the rest
abbrev pub more : ℕ → Outcome → Outcome
more x (Ok xs) = Ok (x ∷ xs)
more x (Err e) = Err e

abbrev pub onward : Reading → (ℕ → Outcome) → Outcome
onward (Step x q) rest = more x (rest q)
onward (Refused e) rest = Err e
onward End rest = Ok []

-- the steps from bit p on, with fuel for so many readings
unfoldable pub read_from : Edition → ℕ → List Bool → ℕ → Outcome
read_from ed zero t p = Err EndsTooSoon
read_from ed (suc fuel) t p = onward (read_at ed t p) (read_from ed fuel t)

-- where the steps begin in "the part from the third byte on"
abbrev pub start : Edition → ℕ
start ed = ed.head - 16

-- the steps of that part: each takes a bit or more, so this is fuel enough
unfoldable pub read_steps : Edition → List Bool → Outcome
read_steps ed t = read_from ed (suc (length t)) t (start ed)

-- "First the 16-bit set of first boxes"
unfoldable pub boxes_in : Edition → List ℕ → ℕ
boxes_in ed s = num (take 16 (drop ed.boxes_at (bits_of s)))

-- the bytes of a tape's head and one bit more: three in the first edition
abbrev pub least_bytes : Edition → ℕ
least_bytes ed = ed.head / 8 + 1

-- "Reading: 11; 13 under three bytes; 12", or else the first boxes
unfoldable pub head_of : Edition → List ℕ → Result ℕ Refusal
head_of ed s =
    cond (ltb 4096 (length s)) (Err TapeTooLong)
    (cond (ltb (length s) (least_bytes ed)) (Err EndsTooSoon) (cond (eqb (boxes_in ed s) 0) (Err NoFirstBox) (Ok (boxes_in ed s))))

-- what stands behind a head; nothing is read behind a head that is refused
abbrev pub behind : Result ℕ Refusal → Outcome → Outcome
behind (Ok first) rest = rest
behind (Err e) rest = Err e

-- a whole tape of an edition; "the reader works on the part from the third byte on"
unfoldable pub read_in : Edition → List ℕ → Outcome
read_in ed s = behind (head_of ed s) (read_steps ed (bits_of (drop 2 s)))

-- a whole tape, and its first boxes
abbrev pub read_tape : List ℕ → Outcome
read_tape s = read_in first_edition s

abbrev pub first_boxes : List ℕ → ℕ
first_boxes s = boxes_in first_edition s
