-- An event of a session in a row comes as numbers. Assumes nothing.
use Rattle.std.specs.Prelude.{ℕ, Bool, not, Option, None, Some, List, eqb}
use Rattle.choice.specs.Pick.{pick}
use Rattle.message.specs.declared.Message.{Message}
use Rattle.message.specs.declared.Message.TheVariants.{Change}
use Rattle.session.specs.declared.Session.{Session}
use Rattle.session.specs.Events.{Event, Initialization, Capability, LocalChange, Mismatch, Hello, Closed, Unknown}
use Rattle.row.specs.declared.EventNumbers.{EventNumbers}
use Rattle.row.specs.declared.RowEvent.{RowEvent}
use Rattle.row.specs.declared.RowEvent.TheVariants as case

-- 0 to 5, in the order in which the events are numbered
abbrev pub initialization_number : ℕ
initialization_number = 0

abbrev pub capability_number : ℕ
capability_number = 1

abbrev pub local_change_number : ℕ
local_change_number = 2

abbrev pub mismatch_number : ℕ
mismatch_number = 3

abbrev pub hello_number : ℕ
hello_number = 4

abbrev pub closed_number : ℕ
closed_number = 5

-- on or off
abbrev pub is_on : EventNumbers → Bool
is_on e = not (eqb e.on 0)

-- the event, with the applications that are below their limit, the octets of its area, and how many octets of room there are
unfoldable pub event_of : EventNumbers → ℕ → List ℕ → ℕ → Event
event_of e below_limit area room =
    pick (eqb e.which initialization_number) (Initialization area below_limit)
    (pick (eqb e.which capability_number) (Capability area)
    (pick (eqb e.which local_change_number) (LocalChange e.ta_id (is_on e) room)
    (pick (eqb e.which mismatch_number) Mismatch
    (pick (eqb e.which hello_number) (Hello e.number)
    (pick (eqb e.which closed_number) Closed Unknown)))))

-- the message that it may write, which no area and no limit enters
unfoldable pub message_in : EventNumbers → Session → Option Message
message_in e s = pick (eqb e.which local_change_number) (Some (Change s.next e.ta_id (is_on e))) None

-- the same by its case, as code has it
unfoldable pub case_of : EventNumbers → RowEvent
case_of e =
    pick (eqb e.which initialization_number) case.Initialization
    (pick (eqb e.which capability_number) case.Capability
    (pick (eqb e.which local_change_number) (case.LocalChange e.ta_id (is_on e))
    (pick (eqb e.which mismatch_number) case.Mismatch
    (pick (eqb e.which hello_number) (case.Hello e.number)
    (pick (eqb e.which closed_number) case.Closed case.Unknown)))))
