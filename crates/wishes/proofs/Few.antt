-- Sound wishes are a set of the four Apps, and their SAC has nine octets at the most. Assumes nothing.
use Prim.Native.Nat.{ℕ, ◌^◌, ◌<◌, ◌≤◌}
use mathlib.Core.Path.{◌≡◌, ap}
use mathlib.Core.Bool.{Bool, true, false}
use mathlib.Core.Path.{refl}
use native.Mathlib.Omega.{arith}
use lib.ListN.{length}
use Rattle.sets.specs.Set.{empty}
use Rattle.sets.proofs.Bounds.{below_lt, lt_below}
use Rattle.kinds.specs.Kinds.{app_count}
use Rattle.message.specs.Sac.{sac_octets}
use Rattle.message.proofs.Elements.{elements_most, sac_none, sac_one}
use Rattle.wishes.specs.Wishes.{sound_wishes}

pub sound_few : (wishes : ℕ) → sound_wishes wishes ≡ true → wishes < 2 ^ app_count
unfolding sound_wishes
sound_few wishes h = below_lt app_count wishes h

pub few_sound : (wishes : ℕ) → wishes < 2 ^ app_count → sound_wishes wishes ≡ true
unfolding sound_wishes
few_sound wishes h = lt_below app_count wishes h

pub sac_short : (wishes : ℕ) → length (sac_octets wishes) ≤ 9
sac_short wishes = go (empty wishes) refl
  where
    go : (x : Bool) → empty wishes ≡ x → length (sac_octets wishes) ≤ 9
    go true e = omega (arith, ap length (sac_none wishes e))
    go false e = omega (arith, ap length (sac_one wishes e), elements_most wishes app_count)
