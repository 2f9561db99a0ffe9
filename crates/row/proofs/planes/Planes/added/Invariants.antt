-- The loop of `added`: the first planes are done, the others are as they were, and the carry goes on into them.
use Rattle.std.proofs.Common.{◌≡◌, length, take, drop, ◌++◌}
use Rattle.row.specs.Survey.{plane_count, added}
use Rattle.row.proofs.planes.Planes.added.Given as goal

abbrev pub invariant-loop-plane : goal.invariant-loop-plane
invariant-loop-plane l = record {
  long : length l.plane-items ≡ plane_count;
  done : added l.fn.self.each l.fn.members ≡ take l.plane-index l.plane-items ++ added (drop l.plane-index l.plane-items) l.carry;
}
