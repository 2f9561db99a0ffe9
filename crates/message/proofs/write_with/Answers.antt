-- `message::write_with` meets its contract: without room for all of it nothing is written, and else the TLV stands behind the head. Assumes nothing.
use Prim.Native.Nat.{ℕ, ◌+◌}
use mathlib.Core.Path.{◌≡◌, refl, sym, ap, ◌∙◌}
use mathlib.Core.List.{List, ◌++◌, append-nil}
use native.Mathlib.Omega.{arith}
use lib.ListN.{length}
use Rattle.octets.specs.Octets.{over}
use Rattle.octets.proofs.Front.{over_short, behind, then}
use Rattle.area.specs.Area.{head_length}
use Rattle.area.specs.Tlvs.{ours, tlv_octets}
use Rattle.message.specs.Message.{message_head, message_head_length, message, capability_type, capability_with}
use Rattle.message.proofs.write_with.Goals as goal

-- the message in its two parts
parts : (number t : ℕ) (value : List ℕ)
    → message_head capability_type (head_length + length value) number ++ tlv_octets (ours t value) ≡ capability_with number t value
parts number t value =
    let tlv = tlv_octets (ours t value) in
    let counted : head_length + length value ≡ length tlv = omega arith in
    ap (λ (n : ℕ). message_head capability_type n number ++ tlv) counted ∙ ap (message capability_type number) (sym (append-nil tlv))

pub returns-then-room-area : goal.returns-then-room-area
returns-then-room-area c =
    let a = c.args in
    rw (← parts a.number a.t a.value.now) (sym (over_short _ _ (omega (arith, c.if-room-area.true))))

pub returns : goal.returns
returns c =
    let a = c.args in
    let head = message_head capability_type (head_length + length a.value.now) a.number in
    let tlv = tlv_octets (ours a.t a.value.now) in
    rw (← parts a.number a.t a.value.now)
    (then head tlv a.room.now (omega arith) (c.put.ensures ∙ ap (λ (l : List ℕ). over l a.room.now) c.message_head-head.ensures) refl
    (behind message_head_length _ tlv _ c.put_tlv.ensures))
