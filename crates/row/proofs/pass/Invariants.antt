-- The loop of `pass`: the pass goes on over what is left of the row to what the whole row comes to.
use Rattle.std.proofs.Common.{◌≡◌, drop}
use Rattle.row.specs.Counting.{counting, noted}
use Rattle.row.specs.Survey.{surveyed}
use Rattle.row.proofs.Surveyed.{onward}
use Rattle.row.proofs.pass.Given as goal

abbrev pub invariant-loop-s : goal.invariant-loop-s
invariant-loop-s l = onward (counting l.counted) (noted l.counted) l.planes.each (drop l.s-index l.row) ≡ surveyed (counting l.counted) (noted l.counted) l.row
