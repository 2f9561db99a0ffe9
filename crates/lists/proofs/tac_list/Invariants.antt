-- `lists::tac_list`: the set is that after the elements so far, and what was met is what they had. Assumes nothing.
use Rattle.std.proofs.Common.{◌≡◌, ◌≤◌, length}
use Rattle.lists.specs.Tac.{after}
use Rattle.lists.specs.Met.{met}
use Rattle.lists.proofs.tac_list.Given as goal

abbrev pub invariant-loop-high : goal.invariant-loop-high
invariant-loop-high l =
    (l.high-index ≤ length l.elements) × (l.set ≡ after l.value l.opening l.listed l.high-index) × (l.met ≡ met l.value l.high-index)
