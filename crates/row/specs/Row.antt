-- A row of sessions: how many use an application, how many permit a kind, and an event of one of them. Assumes nothing.
use Rattle.std.specs.Prelude.{ℕ, zero, suc, ◌+◌, Bool, true, ◌&&◌, List, [], ◌∷◌, length, get_or, set, ltb, leb}
use Rattle.choice.specs.Pick.{pick}
use Rattle.sets.specs.Set.{has, chosen}
use Rattle.kinds.specs.Kinds.{application_count, kind_count, known_application, is_in}
use Rattle.refusals.specs.Refusals.{not_refused, out_of_range, not_sound, outside_row}
use Rattle.message.specs.Message.{room_with}
use Rattle.session.specs.declared.Session.{Session}
use Rattle.session.specs.declared.After.{After}
use Rattle.session.specs.Session.{sound, permitted}
use Rattle.session.specs.With.{no_session}
use Rattle.session.specs.Limits.{used}
use Rattle.session.specs.Decisions.{refused}
use Rattle.session.specs.Events.{Event, step, message_for}
use Rattle.totals.specs.declared.Totals.{Totals}
use Rattle.totals.specs.declared.RowAnswer.{RowAnswer}
use Rattle.totals.specs.declared.Totalled.{Totalled}
use Rattle.totals.specs.Totals.{no_totals, totalled}
use Rattle.row.specs.declared.EventNumbers.{EventNumbers}
use Rattle.row.specs.declared.Limits.{Limits}
use Rattle.row.specs.declared.Count.{Count}
use Rattle.row.specs.declared.RowTotals.{RowTotals}
use Rattle.row.specs.Limiting.{most_sessions, limit_of}
use Rattle.row.specs.Events.{event_of}

-- the session with the row number `at`, from 0; past the end there is none
abbrev pub session_at : List Session → ℕ → Session
session_at row at = get_or row at no_session

-- "used by": Open, in force, both enabled and listed
abbrev pub uses : Session → ℕ → Bool
uses s n = is_in (used s) n

-- 1 where it is so
abbrev pub once : Bool → ℕ
once so = pick so 1 0

-- how many sessions of the row are so
unfoldable pub how_many : (Session → Bool) → List Session → ℕ
how_many so [] = 0
how_many so (s ∷ row) = once (so s) + how_many so row

-- how many use the application n
abbrev pub count : List Session → ℕ → ℕ
count row n = how_many (λ s. uses s n) row

-- "the walk": how many permit the kind k
abbrev pub walk : List Session → ℕ → ℕ
walk row k = how_many (λ s. has (permitted s) k) row

-- the applications that are "used by fewer Open sessions than" their limit
unfoldable pub below_limit : Limits → List Session → ℕ
below_limit l row = chosen application_count (λ n. ltb (count row n) (limit_of l n)) application_count

-- "any session in it is unsound"
unfoldable pub all_sound : List Session → Bool
all_sound [] = true
all_sound (s ∷ row) = sound s && all_sound row

-- a row that is not empty and not over 64
abbrev pub is_row : List Session → Bool
is_row row = ltb 0 (length row) && leb (length row) most_sessions

-- "the row number is outside the row or the row is over 64"
abbrev pub in_row : List Session → ℕ → Bool
in_row row at = ltb at (length row) && leb (length row) most_sessions

-- the event of one session of the row: an Initialization is told which applications are below their limit
abbrev pub event_in : List Session → EventNumbers → Limits → List ℕ → ℕ → Event
event_in row e l area room = event_of e (below_limit l row) area room

-- "Refusals: 11 .., before all others; 10, any session in it is unsound", then what the event does to the session by itself
unfoldable pub event_at : List Session → ℕ → EventNumbers → Limits → List ℕ → ℕ → After
event_at row at e l area room =
    let s : Session = session_at row at in
    pick (in_row row at) (pick (all_sound row) (step s (event_in row e l area room)) (refused s not_sound)) (refused s outside_row)

-- "last, 16": the same with the totals that are kept with the row
abbrev pub event_with : List Session → ℕ → EventNumbers → Limits → Totals → List ℕ → ℕ → Totalled
event_with row at e l t area room = totalled t (session_at row at) (event_at row at e l area room)

-- the answer where there is no such session
abbrev pub outside : Totals → RowAnswer
outside t = record { answer = (refused no_session outside_row).answer; totals = t }

-- "an event changes no other session"
abbrev pub row_after : List Session → ℕ → EventNumbers → Limits → Totals → List ℕ → ℕ → List Session
row_after row at e l t area room = set row at (event_with row at e l t area room).session

-- the room after it: the message where the answer says that octets were written, else as found
unfoldable pub room_after : List Session → ℕ → EventNumbers → Limits → Totals → List ℕ → List ℕ → List ℕ
room_after row at e l t area room =
    room_with (event_with row at e l t area (length room)).answer.answer.written (message_for (session_at row at) (event_in row e l area (length room))) room

-- refused, no count
abbrev pub not_counted : ℕ → Count
not_counted refusal = record { refusal = refusal; count = 0 }

-- how many use the application n: 11, 10, 6
unfoldable pub count_of : List Session → ℕ → Count
count_of row n =
    pick (is_row row)
    (pick (all_sound row) (pick (known_application n) (record { refusal = not_refused; count = count row n }) (not_counted out_of_range)) (not_counted not_sound))
    (not_counted outside_row)

-- ---- the totals counted anew
-- the first k of them, and 0 at the others
unfoldable pub walked : List Session → ℕ → List ℕ
walked row zero = no_totals.each
walked row (suc k) = set (walked row k) k (walk row k)

abbrev pub walk_totals : List Session → Totals
walk_totals row = record { each = walked row kind_count }

-- refused, totals of 0
abbrev pub not_totalled : ℕ → RowTotals
not_totalled refusal = record { refusal = refusal; totals = no_totals }

-- how many permit each kind: 11, 10
unfoldable pub recount : List Session → RowTotals
recount row =
    pick (is_row row)
    (pick (all_sound row) (record { refusal = not_refused; totals = walk_totals row }) (not_totalled not_sound))
    (not_totalled outside_row)
