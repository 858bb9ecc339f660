-- After n readings the row begins with the first n words of the part, and the rest of them is what reading from bit p on gives.
use Prim.Native.Nat.{ℕ, suc, ◌-◌, ◌*◌, ◌≤◌}
use mathlib.Core.Path.{◌≡◌}
use mathlib.Core.List.{List, ◌++◌}
use lib.ListN.{length, take, drop}
use Rattle.tape.specs.Bits.{bits_of}
use Rattle.tape.specs.Edition.{Edition, edition_of}
use Rattle.std.specs.Prelude.{Ok}
use Rattle.tape.specs.Reading.{words_of, read_from, read_steps}
use Rattle.tape.proofs.reading.Part.fill_row.Given as goal

-- the words of the part from the third byte on
abbrev pub xs : Edition → List ℕ → List ℕ
xs ed s = words_of (read_steps ed (bits_of s))

pub record Filled (ed : Edition) (s row₀ row : List ℕ) (p n : ℕ) : Type 0 where
  pub within : p ≤ 8 * length s
  pub count : n ≤ p
  pub some : n ≤ length (xs ed s)
  pub left : read_from ed (suc (length (bits_of s)) - n) (bits_of s) p ≡ Ok (drop n (xs ed s))
  pub laid : row ≡ take n (xs ed s) ++ drop n row₀

abbrev pub invariant-loop-place : goal.invariant-loop-place
invariant-loop-place l = Filled (edition_of l.self.edition) l.self.bytes.now l.initial.row l.row l.at l.place-index
