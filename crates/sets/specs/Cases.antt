-- Small cases of the majority, computed.
use Rattle.std.specs.Prelude.{true, false, ◌≡◌, refl}
use Rattle.sets.specs.Majority.{weigh, one, majority, majority_of}

-- "1 of 2 members is no majority, 2 of 3 is, 0 of 0 is not": boxes 0, 1 with an answer of 0; boxes 0, 1, 2 with answers of 0 and 2; box 0 removed again
pub majority-edges : (majority_of 0x3 0 0x1 ≡ false) × (majority_of 0x7 0 0x5 ≡ true) × (majority_of 0x1 0x1 0xffff ≡ false)
unfolding majority_of majority weigh one
majority-edges = (refl, refl, refl)
