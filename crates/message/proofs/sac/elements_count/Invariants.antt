-- `message::elements_count`: n is how many elements the first i places have. Assumes nothing.
use Rattle.std.proofs.Common.{◌≡◌, ◌≤◌, length}
use Rattle.kinds.specs.Kinds.{app_count}
use Rattle.message.specs.Sac.{wish_elements}
use Rattle.message.proofs.sac.elements_count.Given as goal

abbrev pub invariant-loop-i : goal.invariant-loop-i
invariant-loop-i l = (l.i ≤ app_count) × (l.n ≡ length (wish_elements l.wishes l.i))
