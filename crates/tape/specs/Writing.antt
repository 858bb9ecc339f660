-- Writing a tape: the bits of a step word, of all steps, and the bytes (01, "The tape" and "Numbers a caller gets back").
use Rattle.std.specs.Prelude.{ℕ, zero, suc, ◌+◌, ◌-◌, ◌/◌, ◌%◌, min, List, [], ◌∷◌, ◌++◌, Bool, true, false, cond, Option, None, Some, Ok, Err, length, take, drop, replicate, ltb, eqb}
use Rattle.refusals.specs.declared.Refusal.TheVariants.{TapeTooLong, NoFirstBox, NoStep}
use Rattle.tape.specs.Bits.{num, bits}
use Rattle.tape.specs.Edition.{Edition, first_edition}
use Rattle.tape.specs.Reading.{read_at, start, Outcome}
use Rattle.tape.specs.declared.reading.Reading.{Reading}
use Rattle.tape.specs.declared.reading.Reading.TheVariants.{Step, Refused, End}

-- how many bits the step in a word takes; 0 for "a step word that is none": reading the word's own bits gives the word back
abbrev pub width_by : Reading → ℕ → ℕ
width_by (Step y q) x = cond (eqb y x) q 0
width_by (Refused e) x = 0
width_by End x = 0

unfoldable pub wide : Edition → ℕ → ℕ
wide ed x = width_by (read_at ed (bits 64 x) 0) x

-- the tape bits of a step word
unfoldable pub step_bits : Edition → ℕ → List Bool
step_bits ed x = take (wide ed x) (bits 64 x)

-- a word is a step; else it is "a step word that is none"
abbrev pub is_step : Edition → ℕ → Bool
is_step ed x = ltb 0 (wide ed x)

-- how many bits the step in a word takes, if it is one
abbrev pub step_width : Edition → ℕ → Option ℕ
step_width ed x = cond (is_step ed x) (Some (wide ed x)) None

-- every word is a step
unfoldable pub all_steps : Edition → List ℕ → Bool
all_steps ed [] = true
all_steps ed (x ∷ xs) = cond (is_step ed x) (all_steps ed xs) false

-- the bits of all steps
unfoldable pub body : Edition → List ℕ → List Bool
body ed [] = []
body ed (x ∷ xs) = step_bits ed x ++ body ed xs

-- how many bits are missing from bit n to the byte's edge
unfoldable pub pad : ℕ → ℕ
pad n = (8 - n % 8) % 8

-- the end mark from bit n on, and "zero bits to the byte's edge"
unfoldable pub ending : Edition → ℕ → List Bool
ending ed n = ed.mark ++ replicate (pad (n + length ed.mark)) false

-- the steps and the end mark, from where the steps begin
unfoldable pub steps_part : Edition → List ℕ → List Bool
steps_part ed xs = body ed xs ++ ending ed (start ed + length (body ed xs))

-- n bytes of bits
unfoldable pub pack : ℕ → List Bool → List ℕ
pack zero l = []
pack (suc n) l = num (take 8 l) ∷ pack n (drop 8 l)

-- the bytes from the third on of a tape whose steps take n bits
unfoldable pub bytes_for : Edition → ℕ → ℕ
bytes_for ed n = (start ed + n + length ed.mark + 7) / 8

abbrev pub size : Edition → List ℕ → ℕ
size ed xs = bytes_for ed (length (body ed xs))

-- the tape of a head and step words
unfoldable pub tape_with : Edition → List Bool → List ℕ → List ℕ
tape_with ed head xs = pack (2 + size ed xs) (head ++ steps_part ed xs)

-- the tape of first boxes and step words
abbrev pub tape_of : ℕ → List ℕ → List ℕ
tape_of first xs = tape_with first_edition (bits 16 first) xs

-- "Writing: 12; 14; 11"; 16 is the buffer's
unfoldable pub write_tape : ℕ → List ℕ → Outcome
write_tape first xs =
    cond (eqb first 0) (Err NoFirstBox)
    (cond (all_steps first_edition xs) (cond (ltb 4096 (2 + size first_edition xs)) (Err TapeTooLong) (Ok (tape_of first xs))) (Err NoStep))

-- the bits of some words as steps, counted up to 40,000, which is more than a tape has; none where a word is no step
unfoldable pub measured : Edition → List ℕ → Option ℕ
measured ed xs = cond (all_steps ed xs) (Some (min (length (body ed xs)) 40000)) None
