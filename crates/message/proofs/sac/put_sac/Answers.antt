-- `message::put_sac` meets its contract: one part stands behind the other. Assumes nothing.
use Prim.Native.Nat.{ℕ, suc, ◌+◌}
use mathlib.Core.Path.{◌≡◌, refl, ap, ◌∙◌}
use mathlib.Core.Bool.{true}
use mathlib.Core.List.{List, [], ◌∷◌, ◌++◌}
use native.Mathlib.Omega.{arith}
use lib.Dec.{lit<}
use lib.ListN.{length}
use Rattle.kinds.specs.Kinds.{app_count}
use Rattle.octets.specs.Octets.{top_bit, over}
use Rattle.octets.proofs.Front.{behind, then}
use Rattle.area.specs.Area.{u_bit, sac_type}
use Rattle.area.specs.Tlvs.{tlv_head}
use Rattle.message.specs.Sac.{wish_elements}
use Rattle.message.proofs.Elements.{elements_most}
use Rattle.message.proofs.sac.put_sac.Goals as goal

pub tlv_head-head-requires : goal.tlv_head-head-requires
tlv_head-head-requires c = (lit< tt, omega (arith, c.requires.0, elements_most c.args.wishes app_count))

pub returns : goal.returns
returns c =
    let room = c.args.room.now in
    let e = wish_elements c.args.wishes app_count in
    let n = c.requires.0 in
    let h = tlv_head (u_bit + sac_type) (1 + length e) in
    let head = c.tlv_head-head.ensures ∙ ap (λ (k : ℕ). tlv_head (u_bit + sac_type) (1 + k)) n in
    let s = ap (λ (x : ℕ). x ∷ []) c.top_bit.ensures in
    let counted : 1 + length e ≡ suc (length e) = omega arith in
    then (h ++ (top_bit true ∷ [])) e room (omega (arith, c.requires))
    (then h (top_bit true ∷ []) room (omega (arith, c.requires)) (c.put.ensures ∙ ap (λ (l : List ℕ). over l room) head) s c.put_at.ensures)
    refl (behind 5 _ e _ c.put_elements.ensures)
    ∙ ap (λ (k : ℕ). over ((tlv_head (u_bit + sac_type) k ++ (top_bit true ∷ [])) ++ e) room) counted
