-- The loop of `below_limit_by`: of the applications 1 to k, those that are below their limit.
use Rattle.std.proofs.Common.{◌≡◌}
use Rattle.sets.specs.Set.{chosen}
use Rattle.kinds.specs.Kinds.{application_count}
use Rattle.row.specs.Counting.{is_below}
use Rattle.row.proofs.Tally.below_limit_by.Given as goal

abbrev pub invariant-loop-k : goal.invariant-loop-k
invariant-loop-k l = l.out ≡ chosen application_count (is_below l.count-items l.limits.each) l.k
