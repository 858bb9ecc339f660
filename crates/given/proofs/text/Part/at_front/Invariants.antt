-- What is left of the text grows no longer.
use Rattle.std.proofs.Common.{◌≤◌, length}
use Rattle.given.proofs.text.Part.at_front.Given as goal

abbrev pub invariant-loop-place : goal.invariant-loop-place
invariant-loop-place l = length l.rest ≤ length l.text
