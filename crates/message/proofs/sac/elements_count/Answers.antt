-- `message::elements_count` meets its contract: there is at most one element a place. Assumes nothing.
use native.Mathlib.Omega.{arith}
use Rattle.message.proofs.Elements.{element_most, elements_most}
use Rattle.message.proofs.sac.elements_count.Goals as goal

pub overflow_add-n : goal.overflow_add-n
overflow_add-n c =
    let l = c.loop-i in
    let wishes = c.args.wishes in
    omega (arith, c.element_count-n.ensures, elements_most wishes l.i, element_most wishes l.i)
