-- `area::found_in`: reading on from `at`, with what was found, gives what reading the whole gives. Assumes nothing.
use Rattle.std.proofs.Common.{length, ◌-◌}
use Rattle.area.specs.Found.{nothing_found, told}
use Rattle.area.specs.Area.{read_from}
use Rattle.area.proofs.Turn.{Reads}
use Rattle.area.proofs.found_in.Given as goal

abbrev pub invariant-loop-at : goal.invariant-loop-at
invariant-loop-at l = Reads l.area l.at (told l.found) (read_from (length l.area) l.area 0 nothing_found)

abbrev pub decreases-loop-at : goal.decreases-loop-at
decreases-loop-at l = length l.area - l.at
