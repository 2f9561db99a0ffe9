-- Our own disinterest: the kinds of which we want no bindings, as a set of Apps beside the session, App n at bit n - 1. Assumes nothing.
use Rattle.std.specs.Prelude.{ℕ, Bool, List, Result, length, eqb, ltb, leb}
use Rattle.choice.specs.Pick.{pick}
use Rattle.sets.specs.Set.{has, below, switched}
use Rattle.refusals.specs.declared.Refusal.{Refusal}
use Rattle.refusals.specs.Refusals.{not_refused, out_of_range, no_room, not_sound, told_as}
use Rattle.kinds.specs.Kinds.{kind_count, app_count, disables}
use Rattle.octets.specs.Octets.{over}
use Rattle.message.specs.Sac.{sac_octets}
use Rattle.wishes.specs.declared.Want.{Want}
use Rattle.wishes.specs.declared.Written.{Written}

-- 10 "for kept wishes with spare bits"
unfoldable pub sound_wishes : ℕ → Bool
sound_wishes wishes = below app_count wishes

-- the wishes after one about App n, which answered with this refusal: refused, as they were handed in
unfoldable pub wishes_after : ℕ → ℕ → Bool → ℕ → ℕ
wishes_after wishes n disable refusal = pick (eqb refusal not_refused) (switched app_count wishes n disable) wishes

-- ---- "for an arriving binding of a kind, whether it is wanted: exactly when our wish does not disable that kind"
-- refused, it is not
abbrev pub not_wanted : ℕ → Want
not_wanted n = record { refusal = n; wanted = 0 }

-- what C is told of it
abbrev pub want_of : Result Bool Refusal → Want
want_of = told_as (λ wanted. record { refusal = not_refused; wanted = pick wanted 1 0 }) not_wanted

-- 10, then "6 for a kind over 9"
unfoldable pub wanted : ℕ → ℕ → Want
wanted wishes kind =
    pick (sound_wishes wishes)
    (pick (ltb kind kind_count) (record { refusal = not_refused; wanted = pick (has (disables wishes) kind) 0 1 }) (not_wanted out_of_range))
    (not_wanted not_sound)

-- ---- the SAC for an Initialization, put into a room
abbrev pub unwritten : ℕ → Written
unwritten n = record { refusal = n; written = 0 }

-- what C is told of it
abbrev pub written_of : Result ℕ Refusal → Written
written_of = told_as (λ long. record { refusal = not_refused; written = long }) unwritten

-- 10, then 8 for a room of fewer octets than it has; "omitted when there are none", it has none
unfoldable pub wish_sac : ℕ → ℕ → Written
wish_sac wishes room =
    let long : ℕ = length (sac_octets wishes) in
    pick (sound_wishes wishes) (pick (leb long room) (record { refusal = not_refused; written = long }) (unwritten no_room)) (unwritten not_sound)

-- the room after it: what has no room is not written
unfoldable pub sac_room : ℕ → List ℕ → List ℕ
sac_room wishes room = pick (sound_wishes wishes) (over (sac_octets wishes) room) room
