-- The two words in which the rules choose: `pick` for "if .. then .. else", `both` for "and".
use Rattle.std.specs.Prelude.{Bool, true, false, ◌&&◌}

-- the first where the test holds, else the second
abbrev pub pick {ℓ} : {A : Type ℓ} → Bool → A → A → A
pick true a b = a
pick false a b = b

-- the first test holds, and the second does
abbrev pub both : Bool → Bool → Bool
both a b = a && b
