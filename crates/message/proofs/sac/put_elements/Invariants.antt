-- `message::put_elements`: the elements of the first i places stand in front, and n is how many they are. Assumes nothing.
use Rattle.std.proofs.Common.{◌≡◌, ◌≤◌, length}
use Rattle.kinds.specs.Kinds.{app_count}
use Rattle.octets.specs.Octets.{over}
use Rattle.message.specs.Sac.{wish_elements}
use Rattle.message.proofs.sac.put_elements.Given as goal

abbrev pub invariant-loop-i : goal.invariant-loop-i
invariant-loop-i l =
    (l.i ≤ app_count) × (l.n ≡ length (wish_elements l.wishes l.i)) × (l.room ≡ over (wish_elements l.wishes l.i) l.fn.room)
    × (length l.room ≡ length l.fn.room)
