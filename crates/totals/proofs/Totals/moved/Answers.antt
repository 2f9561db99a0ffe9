-- By the laws of what is left, and of what a total that moves comes to. Assumes nothing.
use Rattle.std.proofs.Common.{ℕ, List, Ok, sym, ap, ◌∙◌, arith}
use Rattle.kinds.specs.Kinds.{kind_count}
use Rattle.totals.specs.Totals.{any_outside}
use Rattle.totals.proofs.Rest.{none_left, kind_lt, next_le, moves, between, rest_next}
use Rattle.totals.proofs.Laws.{no_step, one_step, moves_to, moves_outside, moved_more, outside_more, still_to, inside_to, outside_at, moved_outside, moved_inside}
use Rattle.totals.proofs.Totals.moved.Goals as goal

-- the kind that is next is one
pub bounds-each-k : goal.bounds-each-k
bounds-each-k c = kind_lt _ _ _ _ c.loop-rest.invariant.left c.loop-rest-test.true _ c.first-kind.ensures

pub bounds-out-k : goal.bounds-out-k
bounds-out-k c = kind_lt _ _ _ _ c.loop-rest.invariant.left c.loop-rest-test.true _ c.first-kind.ensures

pub without-rest-requires : goal.without-rest-requires
without-rest-requires c = let inside = kind_lt _ _ _ _ c.loop-rest.invariant.left c.loop-rest-test.true _ c.first-kind.ensures in omega arith

pub returns-in_default : goal.returns-in_default
unfolding any_outside
returns-in_default c =
    let l = c.loop-rest in
    let a = c.args in
    let some = c.loop-rest-test.true in
    let is = c.first-kind.ensures in
    let outside = no_step _ _ c.stepped.ensures c.in_default.is in
    sym (moved_outside a.self a.lost a.gained (outside_at _ _ _ kind_count _ (kind_lt _ _ _ _ l.invariant.left some _ is)
    (sym (moves_outside _ _ _ (moves _ _ _ _ l.invariant.left some _ is)) ∙ (rw c.has.ensures at outside))))

pub loop-rest-smaller : goal.loop-rest-smaller
loop-rest-smaller c =
    let l = c.loop-rest in
    let inside = kind_lt _ _ _ _ l.invariant.left c.loop-rest-test.true _ c.first-kind.ensures in
    let least = next_le _ _ _ _ l.invariant.left c.loop-rest-test.true _ c.first-kind.ensures in
    omega arith

pub loop-rest-preserved : goal.loop-rest-preserved
loop-rest-preserved c =
    let l = c.loop-rest in
    let some = c.loop-rest-test.true in
    let is = c.first-kind.ensures in
    let k = c.first-kind.result in
    let lost = c.has.ensures in
    let inside = kind_lt _ _ _ _ l.invariant.left some k is in
    let least = next_le _ _ _ _ l.invariant.left some k is in
    let still = between _ _ _ _ l.invariant.left some k is in
    let goes = moves _ _ _ _ l.invariant.left some k is in
    let step = one_step _ _ _ c.stepped.ensures c.in-Some.is in
    let stays = step.0 in
    record {
      within = omega arith;
      out = rw (step.1, lost, moves_to _ _ _ goes, l.invariant.out ∙ still_to _ _ _ l.next k least still) (moved_more _ _ _ k);
      inside = outside_more _ _ _ k (inside_to _ _ _ l.next k least still l.invariant.inside) (sym (moves_outside _ _ _ goes) ∙ (rw lost at stays));
      left = rw c.without-rest.ensures (rest_next _ _ _ _ l.invariant.left some k is);
    }

pub returns : goal.returns
returns c =
    let l = c.loop-rest in
    let a = c.args in
    ap (λ (out : List ℕ). Ok (record { each = out })) l.invariant.out
    ∙ sym (moved_inside a.self a.lost a.gained l.next l.invariant.within (none_left _ _ _ _ l.invariant.left c.loop-rest-test.false) l.invariant.inside)
