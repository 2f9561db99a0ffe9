-- `message::put_elements` meets its contract: the element of the next place stands behind those before it, where there is one. Assumes nothing.
use Prim.Native.Nat.{ℕ, ◌+◌, ◌<◌, ◌≤◌}
use mathlib.Core.Path.{◌≡◌, refl, sym, ap, ◌∙◌}
use mathlib.Core.Bool.{true}
use mathlib.Core.List.{[], ◌∷◌, append-nil}
use native.Mathlib.Omega.{arith}
use lib.ListN.{length, set, length-set, length-append}
use Rattle.choice.proofs.Branch.{taken, left}
use Rattle.octets.proofs.Front.{over_fits, one_more}
use Rattle.kinds.specs.Kinds.{app_count}
use Rattle.message.specs.Sac.{app_element, wish_element, wish_elements}
use Rattle.message.proofs.Elements.{elements_grow, elements_more}
use Rattle.message.proofs.sac.put_elements.Goals as goal
use Rattle.message.proofs.sac.put_elements.Goals.{then-has, else-has}

-- there is room for one more
enough : (wishes i long n : ℕ) → i < app_count → length (wish_elements wishes app_count) ≤ long → wish_element wishes i ≡ n ∷ []
    → length (wish_elements wishes i) < long
enough wishes i long n h k is =
    let small : i + 1 ≤ app_count = omega arith in
    omega (arith, elements_grow wishes (i + 1) app_count small, ap length (elements_more wishes i), length-append (wish_elements wishes i) (wish_element wishes i), ap length is)

pub loop-i-init : goal.loop-i-init
unfolding wish_elements
loop-i-init c = (omega arith, refl, sym (over_fits [] c.args.room.now (omega arith)), refl)

pub bounds-room-n : goal.bounds-room-n
bounds-room-n c =
    let l = c.loop-i in
    let is = taken (app_element (l.i + 1) true ∷ []) [] (sym c.has.ensures ∙ c.if-has.true) in
    omega (arith, enough c.args.wishes l.i (length c.args.room.now) _ (omega arith) c.requires is)

pub loop-i-preserved : goal.loop-i-preserved
loop-i-preserved c =
    let l = c.loop-i in
    let wishes = c.args.wishes in
    let before = wish_elements wishes l.i in
    rw (elements_more wishes l.i) (elim c.if-has.branch [
      | then-has w ↦
          let x = app_element (l.i + 1) true in
          let is : wish_element wishes l.i ≡ x ∷ [] = taken _ _ (sym c.has.ensures ∙ w.if-has.true) in
          let room : length before < length c.args.room.now = enough wishes l.i (length c.args.room.now) _ (omega arith) c.requires is in
          rw (is, w.room-is, w.n-is) (
            omega arith,
            omega (arith, length-append before (x ∷ [])),
            (λ j. set (l.invariant.2 j) (l.invariant.1 j) (w.app_element.ensures j)) ∙ one_more c.args.room.now before x room,
            omega (arith, length-set l.room l.n w.app_element.result),
          )
      | else-has w ↦
          let is : wish_element wishes l.i ≡ [] = left _ _ (sym c.has.ensures ∙ w.if-has.false) in
          rw (is, w.room-is, w.n-is, append-nil) (omega arith, l.invariant.1, l.invariant.2, l.invariant.3)
    ])
