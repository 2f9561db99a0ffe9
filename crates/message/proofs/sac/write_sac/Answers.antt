-- `message::write_sac` meets its contract: nothing, the SAC, or no room for it. Assumes nothing.
use Prim.Native.Nat.{ℕ, ◌+◌}
use mathlib.Core.Path.{◌≡◌, sym, ap}
use mathlib.Core.Bool.{false}
use native.Mathlib.Omega.{arith}
use lib.ListN.{length}
use borrow.Author.Rules.{rules}
use borrow.Author.Tests.{ne_eqb}
use Rattle.sets.specs.Set.{empty}
use Rattle.kinds.specs.Kinds.{app_count}
use Rattle.octets.proofs.Front.{over_short}
use Rattle.message.specs.Sac.{wish_elements, sac_octets}
use Rattle.message.proofs.Elements.{elements_most, sac_one}
use Rattle.message.proofs.sac.write_sac.Goals as goal

-- how many octets it has
whole_is : (wishes n : ℕ) → empty wishes ≡ false → n ≡ length (wish_elements wishes app_count) → 5 + n ≡ length (sac_octets wishes)
whole_is wishes n some e = omega (arith, ap length (sac_one wishes some))

pub overflow_add-whole-2 : goal.overflow_add-whole-2
overflow_add-whole-2 c = omega (arith, c.elements_count-n.ensures, elements_most c.args.wishes app_count)

pub returns-then-whole-room : goal.returns-then-whole-room
unfolding empty
returns-then-whole-room c =
    let wishes = c.args.wishes in
    let some : empty wishes ≡ false = search (rules, ne_eqb) in
    (whole_is wishes _ some c.elements_count-n.ensures, rw (sac_one wishes some) c.put_sac.ensures)

pub returns-else-whole-room : goal.returns-else-whole-room
unfolding empty
returns-else-whole-room c =
    let wishes = c.args.wishes in
    let some : empty wishes ≡ false = search (rules, ne_eqb) in
    let whole = whole_is wishes _ some c.elements_count-n.ensures in
    (whole, sym (over_short _ _ (omega (arith, whole))))
