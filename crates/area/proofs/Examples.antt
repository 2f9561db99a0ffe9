-- Of document 01's examples those that reading decides, computed from the definitions: 9 and 10 whole, of the others the values that are handed
-- back. Assumes nothing.
use mathlib.Core.Path.{◌≡◌, refl}
use mathlib.Core.List.{[], ◌∷◌}
use Rattle.choice.specs.Pick.{pick}
use Rattle.refusals.specs.Refusals.{cut_short, bad_length, unknown_type, repeated}
use Rattle.area.specs.Found.{refused, nothing_found}
use Rattle.area.specs.Area.{at16, take_tlv, pass_other, by_type, tlv_at, read_from, read_area, part, tac_of, sac_of}

refusals : (read_area (0x85 ∷ 0x0F ∷ 0 ∷ 4 ∷ 0x80 ∷ 0 ∷ 4 ∷ 0x80 ∷ []) ≡ refused bad_length)
    × (read_area (0x85 ∷ 0x0F ∷ 0 ∷ 5 ∷ 0x80 ∷ []) ≡ refused cut_short)
    × (read_area (0x06 ∷ 0 ∷ 0 ∷ 0 ∷ []) ≡ refused unknown_type)
    × (read_area (0x86 ∷ 0 ∷ 0 ∷ 0 ∷ []) ≡ nothing_found)
unfolding pick at16 take_tlv pass_other by_type tlv_at read_from read_area
refusals = (refl, refl, refl, refl)

-- a second TAC is tried for 5 before its length is tried for 3
order : read_area (0x85 ∷ 0x0F ∷ 0 ∷ 1 ∷ 0x80 ∷ 0x85 ∷ 0x0F ∷ 0 ∷ 0 ∷ []) ≡ refused repeated
unfolding pick at16 take_tlv pass_other by_type tlv_at read_from read_area
order = refl

-- examples 1, 2, 3, 4, 5, 6, 7, 8 and 11: an absent TAC has no octets, an empty one has its first
values : (read_area [] ≡ nothing_found)
    × (tac_of (0x85 ∷ 0x0F ∷ 0 ∷ 5 ∷ 0x80 ∷ 0 ∷ 4 ∷ 0x80 ∷ 0 ∷ []) ≡ 0x80 ∷ 0 ∷ 4 ∷ 0x80 ∷ 0 ∷ [])
    × (tac_of (0x85 ∷ 0x0F ∷ 0 ∷ 1 ∷ 0x80 ∷ []) ≡ 0x80 ∷ [])
    × (tac_of (0x85 ∷ 0x0F ∷ 0 ∷ 9 ∷ 0x80 ∷ 0 ∷ 4 ∷ 0x80 ∷ 0 ∷ 0 ∷ 7 ∷ 0x80 ∷ 0 ∷ []) ≡ 0x80 ∷ 0 ∷ 4 ∷ 0x80 ∷ 0 ∷ 0 ∷ 7 ∷ 0x80 ∷ 0 ∷ [])
    × (sac_of (0x85 ∷ 0x0D ∷ 0 ∷ 2 ∷ 0x80 ∷ 0xC0 ∷ []) ≡ 0x80 ∷ 0xC0 ∷ [])
    × (sac_of (0x85 ∷ 0x0D ∷ 0 ∷ 2 ∷ 0x80 ∷ 0x40 ∷ []) ≡ 0x80 ∷ 0x40 ∷ [])
    × (tac_of (0x85 ∷ 0x0F ∷ 0 ∷ 9 ∷ 0x80 ∷ 0 ∷ 7 ∷ 0 ∷ 0 ∷ 0 ∷ 7 ∷ 0x80 ∷ 0 ∷ []) ≡ 0x80 ∷ 0 ∷ 7 ∷ 0 ∷ 0 ∷ 0 ∷ 7 ∷ 0x80 ∷ 0 ∷ [])
    × (tac_of (0x85 ∷ 0x0F ∷ 0 ∷ 1 ∷ 0 ∷ []) ≡ 0 ∷ [])
    × (tac_of (0x85 ∷ 0x0F ∷ 0 ∷ 5 ∷ 0x80 ∷ 0 ∷ 14 ∷ 0x80 ∷ 0 ∷ []) ≡ 0x80 ∷ 0 ∷ 14 ∷ 0x80 ∷ 0 ∷ [])
    × (tac_of (0x85 ∷ 0x0F ∷ 0 ∷ 5 ∷ 0x80 ∷ 0 ∷ 4 ∷ 0 ∷ 0 ∷ []) ≡ 0x80 ∷ 0 ∷ 4 ∷ 0 ∷ 0 ∷ [])
unfolding pick at16 take_tlv pass_other by_type tlv_at read_from read_area part
values = (refl, refl, refl, refl, refl, refl, refl, refl, refl, refl)
