-- Each read that brings something leaves less of the buffer, and no byte of it is lost.
use Rattle.std.proofs.Common.{length, ◌-◌, ◌≡◌, ◌≤◌}
use Rattle.streams.proofs.input.read_all.Given as goal

abbrev pub invariant-loop-length : goal.invariant-loop-length
invariant-loop-length g l = (l.length ≤ length l.buffer) × (length l.buffer ≡ length l.initial.buffer)

abbrev pub decreases-loop-length : goal.decreases-loop-length
decreases-loop-length g l = length l.buffer - l.length
