-- Of document 01's examples the lists, and what a reader of one remembers, computed from the definitions: values as `area` hands them back, sets
-- with application n at bit n - 1 and App n at bit n - 1. Assumes nothing.
use mathlib.Core.Path.{◌≡◌, refl}
use mathlib.Core.List.{[], ◌∷◌}
use mathlib.Core.Bool.{true, false}
use Rattle.choice.specs.Pick.{pick}
use Rattle.sets.specs.Set.{union, minus, with, without, numbered, switched}
use Rattle.area.specs.Area.{at16, s_bit}
use Rattle.lists.specs.Tac.{id_at, e_at, stood, after, tac_list}
use Rattle.lists.specs.Met.{met}
use Rattle.lists.specs.Sac.{sac_element, sac_after, sac_list}

-- Initialization: example 2 lists 4, 3 none, 4 lists 4 and 7, 11 none and then 4 although its E is 0
listed : (tac_list (0x80 ∷ 0 ∷ 4 ∷ 0x80 ∷ 0 ∷ []) true 0 ≡ 0x08)
    × (tac_list (0x80 ∷ []) true 0 ≡ 0)
    × (tac_list (0x80 ∷ 0 ∷ 4 ∷ 0x80 ∷ 0 ∷ 0 ∷ 7 ∷ 0x80 ∷ 0 ∷ []) true 0 ≡ 0x48)
    × (tac_list (0x80 ∷ 0 ∷ 14 ∷ 0x80 ∷ 0 ∷ []) true 0 ≡ 0)
    × (tac_list (0x80 ∷ 0 ∷ 4 ∷ 0 ∷ 0 ∷ []) true 0 ≡ 0x08)
unfolding pick union minus with without numbered switched at16 id_at e_at stood after tac_list
listed = (refl, refl, refl, refl, refl)

-- Capability message: example 7 removes 7, whatever the second element says; 8 has S = 0
changed : (tac_list (0x80 ∷ 0 ∷ 7 ∷ 0 ∷ 0 ∷ 0 ∷ 7 ∷ 0x80 ∷ 0 ∷ []) false 0x48 ≡ 0x08)
    × (s_bit (0x80 ∷ 0 ∷ 7 ∷ 0 ∷ 0 ∷ 0 ∷ 7 ∷ 0x80 ∷ 0 ∷ []) ≡ true)
    × (s_bit (0 ∷ []) ≡ false)
unfolding pick union minus with without numbered switched at16 id_at e_at stood after tac_list s_bit
changed = (refl, refl, refl)

-- 17, 0 and 65,535 are not remembered, so that 1, which has the low bits of 17, is the first of its own: its E removes it; 2 is remembered though its
-- E is 0, and what repeats it counts for nothing
remembered : (met (0x80 ∷ 0 ∷ 17 ∷ 0x80 ∷ 0 ∷ 0 ∷ 0 ∷ 0x80 ∷ 0 ∷ 0xFF ∷ 0xFF ∷ 0x80 ∷ 0 ∷ []) 3 ≡ 0)
    × (tac_list (0x80 ∷ 0 ∷ 17 ∷ 0x80 ∷ 0 ∷ 0 ∷ 1 ∷ 0 ∷ 0 ∷ []) false 0x03 ≡ 0x02)
    × (met (0x80 ∷ 0 ∷ 2 ∷ 0 ∷ 0 ∷ 0 ∷ 9 ∷ 0x80 ∷ 0 ∷ 0 ∷ 2 ∷ 0x80 ∷ 0 ∷ []) 2 ≡ 0x102)
    × (tac_list (0x80 ∷ 0 ∷ 2 ∷ 0 ∷ 0 ∷ 0 ∷ 9 ∷ 0x80 ∷ 0 ∷ 0 ∷ 2 ∷ 0x80 ∷ 0 ∷ []) false 0x03 ≡ 0x101)
unfolding pick union minus with without numbered switched at16 id_at e_at stood after tac_list
remembered = (refl, refl, refl, refl)

-- Capability message: example 5 disables App 4, which controls kind 8, and 6 enables it again; in an opening the same octets do nothing
disabled : (sac_list (0x80 ∷ 0xC0 ∷ []) false 0 ≡ 8)
    × (sac_list (0x80 ∷ 0x40 ∷ []) false 8 ≡ 0)
    × (sac_list (0x80 ∷ 0x40 ∷ []) true 8 ≡ 8)
    × (sac_list (0x80 ∷ 0xC0 ∷ 0x40 ∷ []) true 0 ≡ 8)
unfolding pick union minus with without numbered switched sac_element sac_after sac_list
disabled = (refl, refl, refl, refl)
