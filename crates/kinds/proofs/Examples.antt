-- The two layouts side by side at some numbers, computed: sets have application n at bit n - 1, kind k at bit k. Assumes nothing.
use mathlib.Core.Path.{◌≡◌, refl}
use mathlib.Core.Bool.{true, false}
use Rattle.choice.specs.Pick.{pick}
use Rattle.sets.specs.Set.{has, union, minus, with, numbered}
use Rattle.kinds.specs.Kinds.{is_in, set_of, opens, needed, gather, barred}
use Rattle.kinds.specs.ByKind.{placed, openers_always, openers, controllers}

-- kind 0 is opened by 1, 4 and 12, and by 8 where it is protected; kind 9 by 10; kind 12, which is none, by 8 where a set has that bit, and else by none
asked : (openers 0 0 ≡ 0x0809)
    × (openers 0x001 0 ≡ 0x0889)
    × (openers 0x001 9 ≡ 0x0200)
    × (openers 0x1000 12 ≡ 0x0080)
    × (openers 0x0FFF 12 ≡ 0)
unfolding pick has union with placed openers_always openers
asked = (refl, refl, refl, refl, refl)

-- 8 opens kinds 1 and 9 where these are protected; 4 opens kind 0, the App 4 controls kind 8; 0 and 14 open none and are among no openers
by_number : (opens 0x202 8 ≡ 0x202)
    × (is_in (openers 0x202 9) 8 ≡ true)
    × (is_in (openers 0x202 0) 8 ≡ false)
    × (is_in (openers 0 0) 4 ≡ true)
    × (controllers 8 ≡ 0x08)
    × (opens 0x3FF 14 ≡ 0)
    × (is_in (openers 0x3FF 0) 0 ≡ false)
    × (is_in (openers 0x3FF 0) 14 ≡ false)
unfolding pick has union with numbered is_in set_of opens placed openers_always openers controllers
by_number = (refl, refl, refl, refl, refl, refl, refl, refl)

-- nothing held bars kinds 2 to 6; P2MP frees kind 2 alone, MP2MP kinds 3 and 4, HSMP kinds 5 and 6; a bit that is no capability's frees none
capable : (barred 0 ≡ 0x7C)
    × (barred 1 ≡ 0x78)
    × (barred 2 ≡ 0x64)
    × (barred 4 ≡ 0x1C)
    × (barred 8 ≡ 0x7C)
unfolding pick has union minus with numbered set_of needed gather barred
capable = (refl, refl, refl, refl, refl)
