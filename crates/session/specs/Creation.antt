-- Creation: "a fresh session has state Ready and no Hello recorded". Assumes nothing.
use Rattle.std.specs.Prelude.{ℕ, Bool, ◌&&◌, Result, Ok, Err}
use Rattle.choice.specs.Pick.{pick}
use Rattle.sets.specs.Set.{one, union, below}
use Rattle.refusals.specs.declared.Refusal.{Refusal}
use Rattle.refusals.specs.declared.Refusal.TheVariants.{OutOfRange}
use Rattle.refusals.specs.Refusals.{number_told}
use Rattle.kinds.specs.Kinds.{application_count, kind_count, capability_count}
use Rattle.wishes.specs.Wishes.{sound_wishes}
use Rattle.session.specs.declared.Session.{Session}
use Rattle.session.specs.declared.Settings.{Settings}
use Rattle.session.specs.Session.{initiating_bit, active_bit, uses_tac_bit, drops_bit}
use Rattle.session.specs.With.{fresh}

-- flags with more of them, where a test holds
unfoldable pub raised : ℕ → Bool → ℕ → ℕ
raised flags on more = pick on (union flags more) flags

-- "Flags from bit 0: initiating, active, uses TAC, drops"
abbrev pub role_flags : Bool → Bool → Bool → Bool → ℕ
role_flags initiating active uses_tac drops =
    raised (raised (raised (raised 0 initiating (one initiating_bit)) active (one active_bit)) uses_tac (one uses_tac_bit)) drops (one drops_bit)

-- the fresh session of what is settled
abbrev pub fresh_by : Settings → Session
fresh_by t = fresh (role_flags t.initiating t.active t.uses_tac t.drops) t.protected_kinds t.enabled t.capabilities t.first_number

-- 6 for "a set with bits beyond these": kinds 0 to 9, applications 1 to 13, of our wishes, which stand beside the session, Apps 1 to 4, and of our
-- capabilities "bits beyond the three"
unfoldable pub created : Settings → Result Session Refusal
created t =
    pick
    (below kind_count t.protected_kinds && (below application_count t.enabled && (sound_wishes t.wishes && below capability_count t.capabilities)))
    (Ok (fresh_by t))
    (Err OutOfRange)

-- the refusal's number, "0 for none"
abbrev pub refusal_of : {A : Type 0} → Result A Refusal → ℕ
refusal_of = number_told
