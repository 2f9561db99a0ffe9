-- `lists::sac_list`: the set is that after the elements so far. Assumes nothing.
use Rattle.std.proofs.Common.{◌≡◌, ◌≤◌, length}
use Rattle.lists.specs.Sac.{sac_after}
use Rattle.lists.proofs.sac_list.Given as goal

abbrev pub invariant-loop-x : goal.invariant-loop-x
invariant-loop-x l = (l.x-index ≤ length l.elements) × (l.set ≡ sac_after l.value l.opening l.disabled l.x-index)
