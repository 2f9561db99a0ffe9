-- `kinds::kinds_by`: the kinds are those of the first places of the table. Assumes nothing.
use Rattle.std.proofs.Common.{◌≡◌}
use Rattle.sets.specs.Set.{chosen}
use Rattle.kinds.specs.Kinds.{kind_count}
use Rattle.kinds.specs.ByKind.{stand_for}
use Rattle.kinds.proofs.kinds_by.Given as goal

abbrev pub invariant-loop-kind : goal.invariant-loop-kind
invariant-loop-kind l = l.kinds ≡ chosen kind_count (stand_for l.fn.table l.members) l.kind
