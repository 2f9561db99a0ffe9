-- The loop of `weighed_each`: the numbers at the first k places.
use Rattle.std.proofs.Common.{◌≡◌}
use Rattle.row.specs.Survey.{weighed_each}
use Rattle.row.proofs.planes.Planes.weighed_each.Given as goal

abbrev pub invariant-loop-k : goal.invariant-loop-k
invariant-loop-k l = l.n-items ≡ weighed_each l.self.each l.k
