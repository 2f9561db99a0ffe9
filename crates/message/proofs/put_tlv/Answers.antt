-- `message::put_tlv` meets its contract: the value stands behind the head. Assumes nothing.
use mathlib.Core.Path.{refl, ap, ◌∙◌}
use mathlib.Core.List.{List}
use Prim.Native.Nat.{ℕ, ◌+◌}
use native.Mathlib.Omega.{arith}
use lib.ListN.{length}
use Rattle.octets.specs.Octets.{over}
use Rattle.octets.proofs.Front.{then}
use Rattle.area.specs.Area.{u_bit}
use Rattle.area.specs.Tlvs.{tlv_head}
use Rattle.message.proofs.put_tlv.Goals as goal

pub returns : goal.returns
returns c =
    let a = c.args in
    then (tlv_head (u_bit + a.t) (length a.value.now)) a.value.now a.room.now (omega (arith, c.requires))
    (c.put.ensures ∙ ap (λ (l : List ℕ). over l a.room.now) c.tlv_head-head.ensures) refl c.put_at.ensures
