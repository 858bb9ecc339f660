-- The tape that 01 prints, seen by computing: its steps' words. The edges marked P stand in one table, in the crate edges.
use Rattle.std.specs.Prelude.{ℕ, ◌≡◌, refl, List, [], ◌∷◌, Ok}
use Rattle.tape.specs.Bits.{bit, odd, bits, num, bits_of, word}
use Rattle.tape.specs.Edition.{first_edition}
use Rattle.tape.specs.Layout.{fields_allowed, legal, numbers, fields_of}
use Rattle.tape.specs.Reading.{begins, step_at, end_at, kind_at, read_at, read_from, read_steps, boxes_in, head_of, read_in, read_tape}

-- `00 07 00 04 00 00 00 01 00 40 50 04 04 8e`
abbrev pub printed : List ℕ
printed =
    0x00 ∷ 0x07 ∷ 0x00 ∷ 0x04 ∷ 0x00 ∷ 0x00 ∷ 0x00 ∷ 0x01 ∷ 0x00 ∷ 0x40 ∷ 0x50 ∷ 0x04 ∷ 0x04 ∷ 0x8e ∷ []

-- an Ask, four times Deliver, an Advance: "its tape bits at the top, zeros below"
abbrev pub printed_words : List ℕ
printed_words =
    0x4000000000000 ∷ 0x4000000000000000 ∷ 0x4040000000000000 ∷ 0x4000000000000000 ∷ 0x4040000000000000 ∷ 0x2000000000000000 ∷ []

pub printed-reads : read_tape printed ≡ Ok printed_words
unfolding bit odd bits num bits_of word fields_allowed legal begins step_at end_at kind_at read_at read_from read_steps boxes_in head_of read_in
printed-reads = refl

-- Stop of device 23, which is box 15, as a step word: kind 5, then the device
abbrev pub stops_box15 : ℕ
stops_box15 = 0xb700000000000000

pub stop-fields : fields_of first_edition stops_box15 ≡ 5 ∷ 23 ∷ []
unfolding bit odd bits num numbers fields_of
stop-fields = refl
