-- What is left to fill is a part of the buffer, and each read that gives octets leaves less of it.
use Rattle.std.proofs.Common.{◌≤◌, length}
use Rattle.cases.proofs.read_full.Given as goal

abbrev pub invariant-loop-from : goal.invariant-loop-from
invariant-loop-from g l = length l.rest ≤ l.length

abbrev pub decreases-loop-from : goal.decreases-loop-from
decreases-loop-from g l = length l.rest
