-- The loop of `weighed`: the planes so far, from the last one on, and their number.
use Rattle.std.proofs.Common.{◌≡◌, ℕ, List, ◌++◌}
use Rattle.row.specs.Survey.{weighed}
use Rattle.row.proofs.planes.Planes.weighed.Given as goal

abbrev pub invariant-loop-plane : goal.invariant-loop-plane
invariant-loop-plane l = (done : List ℕ) × (l.plane-iterator.iter.rest.now ++ done ≡ l.fn.self.each) × (l.n ≡ weighed done l.k)
