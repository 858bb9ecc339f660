-- After i words their steps lie in the buffer, from where the steps begin, and the next bit is p.
use Prim.Native.Nat.{ℕ, ◌+◌, ◌≤◌}
use mathlib.Core.Path.{◌≡◌}
use mathlib.Core.List.{List}
use lib.ListN.{length, take}
use Rattle.tape.specs.Bits.{bits_of, overlaid}
use Rattle.tape.specs.Edition.{Edition, edition_of}
use Rattle.tape.specs.Reading.{start}
use Rattle.tape.specs.Writing.{body}
use Rattle.tape.proofs.edition.Edition.pack_steps.Given as goal

-- the first i steps of xs lie in b, laid over s, and the next bit is p
pub record Packed (ed : Edition) (xs s b : List ℕ) (p i : ℕ) : Type 0 where
  pub some : i ≤ length xs
  pub next : p ≡ start ed + length (body ed (take i xs))
  pub same : length b ≡ length s
  pub laid : bits_of b ≡ overlaid (bits_of s) (start ed) (body ed (take i xs))

abbrev pub invariant-loop-word : goal.invariant-loop-word
invariant-loop-word l = Packed (edition_of l.self) l.words l.initial.buffer l.buffer l.at l.word-index
