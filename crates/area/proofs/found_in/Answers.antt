-- A TLV that is not refused has its two first fields within the area. Assumes nothing.
use Rattle.std.proofs.Common.{sym, ap, arith}
use Rattle.area.specs.declared.Reading.{Reading}
use Rattle.area.proofs.Turn.{onward}
use Rattle.area.proofs.found_in.Goals as goal

pub at16-requires : goal.at16-requires
at16-requires c =
    let t = c.in_ok-found.ensures in
    omega (arith, onward _ _ _ _ c.loop-at-test.true c.loop-at.invariant (sym (ap (λ (r : Reading). r.refusal) t)))
