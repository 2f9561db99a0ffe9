-- The kinds below the next one are brought up to date, none of them goes outside, and of the others those that move are left. Assumes nothing.
use Rattle.std.proofs.Common.{◌≡◌, ◌≤◌, ◌-◌, false}
use Rattle.kinds.specs.Kinds.{kind_count}
use Rattle.totals.specs.Totals.{moved_each, one_outside}
use Rattle.totals.proofs.Rest.{Rest}
use Rattle.totals.proofs.Totals.moved.Given as goal

abbrev pub invariant-loop-rest : goal.invariant-loop-rest
invariant-loop-rest l =
    record {
      within : l.next ≤ kind_count;
      out : l.out ≡ moved_each l.each l.lost l.gained l.next;
      inside : one_outside l.each l.lost l.gained l.next ≡ false;
      left : Rest l.lost l.gained l.rest l.next;
    }

abbrev pub decreases-loop-rest : goal.decreases-loop-rest
decreases-loop-rest l = kind_count - l.next
