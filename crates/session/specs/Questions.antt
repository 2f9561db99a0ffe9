-- The questions that change nothing: "creation and the question about a kind: 10, 6"; "retry interval: 10; refused, it is 0". Assumes nothing.
use Rattle.std.specs.Prelude.{ℕ, Bool, not, ◌&&◌, nat_lt, Option, None, Some, Result}
use Rattle.choice.specs.Pick.{pick}
use Rattle.sets.specs.Set.{has}
use Rattle.refusals.specs.declared.Refusal.{Refusal}
use Rattle.refusals.specs.Refusals.{not_refused, out_of_range, not_sound, told_as}
use Rattle.kinds.specs.Kinds.{kind_count, opened, disables, barred}
use Rattle.session.specs.declared.Session.{Session}
use Rattle.session.specs.declared.Permission.{Permission}
use Rattle.session.specs.declared.Kinds.{Kinds}
use Rattle.session.specs.declared.Reason.{Reason}
use Rattle.session.specs.declared.Retry.{Retry}
use Rattle.session.specs.declared.questions.Obstacle.{Obstacle}
use Rattle.session.specs.declared.questions.Obstacle.TheVariants.{NotOpen, DisabledByPeer, NotEnabled, NotListed, CapabilityNotOurs, CapabilityNotTheirs}
use Rattle.session.specs.Session.{is_open, is_held, in_force, negotiated, sound, permitted}

-- refused, no kind
abbrev pub no_kind : ℕ → Kinds
no_kind n = record { refusal = n; kinds = 0 }

-- what C is told
abbrev pub kinds_of : Result ℕ Refusal → Kinds
kinds_of = told_as (λ kinds. record { refusal = not_refused; kinds = kinds }) no_kind

-- the set of the permitted kinds
unfoldable pub permitted_kinds : Session → Kinds
permitted_kinds s =
    pick (sound s) (record { refusal = not_refused; kinds = permitted s }) (record { refusal = not_sound; kinds = 0 })

-- refused, no permission
abbrev pub no_permission : ℕ → Permission
no_permission n = record { refusal = n; permitted = 0 }

-- what C is told
abbrev pub permission_of : Result Bool Refusal → Permission
permission_of = told_as (λ permitted. record { refusal = not_refused; permitted = pick permitted 1 0 }) no_permission

-- one kind: 6 for "a kind over 9"
unfoldable pub permission : Session → ℕ → Permission
permission s kind =
    pick (sound s)
    (pick (nat_lt kind kind_count) (record { refusal = not_refused; permitted = pick (has (permitted s) kind) 1 0 }) (no_permission out_of_range))
    (no_permission not_sound)

-- ---- why a kind may not be sent
-- nothing is in the way
abbrev pub why_permitted : ℕ
why_permitted = 0

-- the session is not Open
abbrev pub why_not_open : ℕ
why_not_open = 1

-- the peer has disabled the kind
abbrev pub why_disabled_by_peer : ℕ
why_disabled_by_peer = 2

-- negotiation is in force and no application that opens the kind is enabled here
abbrev pub why_not_enabled : ℕ
why_not_enabled = 3

-- negotiation is in force, some application that opens the kind is enabled here, and none of these is listed by the peer
abbrev pub why_not_listed : ℕ
why_not_listed = 4

-- the capability that the kind needs is not ours
abbrev pub why_not_ours : ℕ
why_not_ours = 5

-- it is not the peer's
abbrev pub why_not_theirs : ℕ
why_not_theirs = 6

-- the number of each obstacle, and of none
abbrev pub number_of : Obstacle → ℕ
number_of NotOpen = why_not_open
number_of DisabledByPeer = why_disabled_by_peer
number_of NotEnabled = why_not_enabled
number_of NotListed = why_not_listed
number_of CapabilityNotOurs = why_not_ours
number_of CapabilityNotTheirs = why_not_theirs

abbrev pub reason_number : Option Obstacle → ℕ
reason_number None = why_permitted
reason_number (Some obstacle) = number_of obstacle

-- negotiation is in force and none of these applications opens the kind
unfoldable pub unopened : Session → ℕ → ℕ → Bool
unopened s applications kind = in_force s && not (has (opened s.protects applications) kind)

-- the reasons by capabilities, asked "also where negotiation is not in force"
unfoldable pub why_barred : Session → ℕ → ℕ
why_barred s kind = pick (has (barred s.ours) kind) why_not_ours (pick (has (barred s.theirs) kind) why_not_theirs why_permitted)

-- the first of the reasons that holds
unfoldable pub why : Session → ℕ → ℕ
why s kind =
    pick (not (is_open s)) why_not_open
    (pick (has (disables s.disabled) kind) why_disabled_by_peer
    (pick (unopened s s.enabled kind) why_not_enabled (pick (unopened s (negotiated s) kind) why_not_listed (why_barred s kind))))

-- refused, no reason
abbrev pub no_reason : ℕ → Reason
no_reason n = record { refusal = n; reason = why_permitted }

-- what C is told
abbrev pub reason_of : Result (Option Obstacle) Refusal → Reason
reason_of = told_as (λ obstacle. record { refusal = not_refused; reason = reason_number obstacle }) no_reason

-- of one kind, refused as the question whether it is permitted
unfoldable pub why_not : Session → ℕ → Reason
why_not s kind =
    pick (sound s)
    (pick (nat_lt kind kind_count) (record { refusal = not_refused; reason = why s kind }) (no_reason out_of_range))
    (no_reason not_sound)

-- "The retry interval is 65,535 in Held and 0 otherwise"
abbrev pub interval_in_held : ℕ
interval_in_held = 65535

-- refused, no interval
abbrev pub no_interval : ℕ → Retry
no_interval n = record { refusal = n; interval = 0 }

-- what C is told
abbrev pub retry_of : Result ℕ Refusal → Retry
retry_of = told_as (λ interval. record { refusal = not_refused; interval = interval }) no_interval

unfoldable pub retry_interval : Session → Retry
retry_interval s =
    pick (sound s)
    (record { refusal = not_refused; interval = pick (is_held s) interval_in_held 0 })
    (record { refusal = not_sound; interval = 0 })
