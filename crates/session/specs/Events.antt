-- States and events: what each event is decided to come to, by its tests in their order. "Order: 10, 7, 1, then TLVs from the left";
-- "local change: 10, 6, Unchanged, 9, 8"; a wish: 10, 15, Unchanged, 7, 9, 8. Assumes nothing.
use Rattle.std.specs.Prelude.{ℕ, ◌^◌, ◌<◌, Bool, true, false, not, ◌&&◌, ◌||◌, Option, None, Some, List, [], ◌∷◌, ◌==◌, nat_le, nat_lt}
use Rattle.choice.specs.Pick.{pick}
use Rattle.sets.specs.Set.{one, union, minus, holds}
use Rattle.refusals.specs.Refusals.{not_refused, out_of_range, wrong_state, no_room, peer_not_dynamic, not_sound, unknown_app}
use Rattle.kinds.specs.Kinds.{app_count, known_application, is_in, known_app}
use Rattle.area.specs.declared.Reading.{Reading}
use Rattle.area.specs.Found.{tac_stood}
use Rattle.area.specs.Area.{read_area, part, s_bit}
use Rattle.lists.specs.Tac.{tac_list}
use Rattle.lists.specs.Sac.{sac_list}
use Rattle.message.specs.declared.Message.{Message}
use Rattle.message.specs.declared.Message.TheVariants.{Change, Wish as WishMessage}
use Rattle.message.specs.Message.{change_length, wish_length, room_with}
use Rattle.wishes.specs.Wishes.{sound_wishes}
use Rattle.session.specs.declared.Session.{Session}
use Rattle.session.specs.declared.After.{After}
use Rattle.session.specs.Session.{state_ready, state_open, is_ready, is_open, is_gone, uses_tac, in_force, dynamic, recorded, in_force_bit, dynamic_bit, sound}
use Rattle.session.specs.With.{with_state, with_flags, with_disabled, with_listed, with_theirs, back_to_ready, held_to_ready, greeted, changed}
use Rattle.session.specs.Capabilities.{theirs_at_opening, theirs_after}
use Rattle.session.specs.Creation.{raised}
use Rattle.session.specs.Decisions.{Decision, Refused, Unchanged, Done, AsMismatch, Negotiate, Admit, Send, Tell, settled}

-- 10 for a session that is not sound, before all others
abbrev pub checked : Session → Decision → Decision
checked s otherwise = pick (sound s) otherwise (Refused not_sound)

-- the refusal of an area, or else what the message comes to
abbrev pub unless_refused : Reading → Decision → Decision
unless_refused r otherwise = pick (r.refusal == not_refused) otherwise (Refused r.refusal)

-- ---- Initialization (Ready only)
-- "the session uses TAC and the area holds one"
abbrev pub takes_tac : Session → Reading → Bool
takes_tac s r = uses_tac s && tac_stood r

-- "each opening begins with nothing disabled"; negotiation is in force where TAC is taken, "otherwise the session opens as RFC 5036 has it"; the peer's
-- capabilities are those that the area holds
unfoldable pub after_initialization : Session → List ℕ → Reading → Session
after_initialization s a r =
    with_theirs
    (with_listed
    (with_disabled
    (with_flags (with_state s state_open) (raised (raised s.flags (takes_tac s r) (one in_force_bit)) r.dynamic (one dynamic_bit)))
    (sac_list (part a r.sac) true 0))
    (pick (takes_tac s r) (tac_list (part a r.tac) true 0) 0))
    (theirs_at_opening r)

-- told which applications are below their limit: all of them where there is no row
unfoldable pub on_initialization : Session → List ℕ → ℕ → Decision
on_initialization s a below_limit =
    let r : Reading = read_area a in
    checked s (pick (is_ready s) (unless_refused r (Admit (after_initialization s a r) below_limit)) (Refused wrong_state))

-- ---- Capability message (Open only)
-- "With S = 0 the TAC's elements count for nothing, the list is emptied and negotiation goes out of force. With S = 1 and negotiation in force, E = 1
-- adds to the peer's list and E = 0 removes. With S = 1 and negotiation not in force, the list starts empty, the elements apply and negotiation comes
-- into force"
unfoldable pub list_after : Session → List ℕ → ℕ
list_after s v = pick (s_bit v) (tac_list v false (pick (in_force s) s.listed 0)) 0

unfoldable pub flags_after : Session → List ℕ → ℕ
flags_after s v = pick (s_bit v) (union s.flags (one in_force_bit)) (minus s.flags (one in_force_bit))

-- "No TAC, or a session that does not use TAC: the list and the force stay as they are"; capabilities are read alike
unfoldable pub after_capability : Session → List ℕ → Reading → Session
after_capability s a r =
    with_theirs
    (with_listed
    (with_disabled
    (with_flags s (pick (takes_tac s r) (flags_after s (part a r.tac)) s.flags))
    (sac_list (part a r.sac) false s.disabled))
    (pick (takes_tac s r) (list_after s (part a r.tac)) s.listed))
    (theirs_after s.theirs r)

unfoldable pub on_capability : Session → List ℕ → Decision
on_capability s a =
    let r : Reading = read_area a in
    checked s (pick (is_open s) (unless_refused r (Negotiate (after_capability s a r))) (Refused wrong_state))

-- ---- Local change of one application, on or off
abbrev pub same : Bool → Bool → Bool
same a b = (a && b) || (not a && not b)

-- "Already so"
abbrev pub already : Session → ℕ → Bool → Bool
already s n on = same (is_in s.enabled n) on

-- "In Open with TAC used it is written as a Capability message; where negotiation is in force and no common application remains it is a mismatch and
-- nothing is written". 9, "peer not dynamic", and 8, "under 17 octets of room", "are asked even if a mismatch follows"
unfoldable pub writing : Session → Session → ℕ → Decision
writing before after room =
    pick (is_open before && uses_tac before)
    (pick (dynamic before) (pick (nat_le change_length room) (Send after change_length) (Refused no_room)) (Refused peer_not_dynamic))
    (Done after)

-- told how many octets of room there are
unfoldable pub on_local_change : Session → ℕ → Bool → ℕ → Decision
on_local_change s n on room =
    checked s
    (pick (known_application n)
    (pick (already s n on) Unchanged (writing s (changed s n on) room))
    (Refused out_of_range))

-- ---- Our wish about one App, beside the wishes that are kept
-- "7 when not Open, 9 when the peer is not dynamic (TAC used or not), 8 under 14 octets"
unfoldable pub telling : Session → ℕ → Decision
telling s room =
    pick (is_open s)
    (pick (dynamic s) (pick (nat_le wish_length room) (Tell wish_length) (Refused no_room)) (Refused peer_not_dynamic))
    (Refused wrong_state)

-- "10, also for kept wishes with spare bits; 15, App outside 1 to 4; then Unchanged"
unfoldable pub on_wish : Session → ℕ → ℕ → Bool → ℕ → Decision
on_wish s wishes n disable room =
    checked s
    (pick (sound_wishes wishes)
    (pick (known_app n)
    (pick (same (holds app_count wishes n) disable) Unchanged (telling s room))
    (Refused unknown_app))
    (Refused not_sound))

-- ---- Mismatch notification received (Ready or Open): as a mismatch
unfoldable pub on_mismatch : Session → Decision
on_mismatch s = checked s (pick (is_ready s || is_open s) (AsMismatch s) (Refused wrong_state))

-- ---- Hello. "In Gone: recorded, Ready. None recorded yet: recorded only. Strictly higher than the recorded one: recorded, and Held becomes Ready.
-- Otherwise Unchanged"
unfoldable pub on_hello : Session → ℕ → Decision
on_hello s number =
    checked s
    (pick (is_gone s) (Done (greeted s state_ready number))
    (pick (not (recorded s)) (Done (greeted s s.state number))
    (pick (nat_lt s.hello number) (Done (greeted s (held_to_ready s) number))
    Unchanged)))

-- ---- Connection closed (Open only): Ready
unfoldable pub on_closed : Session → Decision
on_closed s = checked s (pick (is_open s) (Done (back_to_ready s)) (Refused wrong_state))

-- ---- an event by a number that none of them has: it is for no state
unfoldable pub on_unknown : Session → Decision
on_unknown s = checked s (Refused wrong_state)

-- ---- all of them as one, each with the octets and numbers that it takes, and how many octets of room there are
pub data Event : Type 0 where
  Initialization : List ℕ → ℕ → Event
  Capability : List ℕ → Event
  LocalChange : ℕ → Bool → ℕ → Event
  Wish : ℕ → ℕ → Bool → ℕ → Event
  Mismatch : Event
  Hello : ℕ → Event
  Closed : Event
  Unknown : Event

-- "Hello with a sequence number of 0 to 4,294,967,295"
abbrev pub Numbered : Event → Type 0
Numbered (Initialization area below_limit) = Unit {0}
Numbered (Capability area) = Unit {0}
Numbered (LocalChange n on room) = Unit {0}
Numbered (Wish wishes n disable room) = Unit {0}
Numbered Mismatch = Unit {0}
Numbered (Hello number) = number < 2 ^ 32
Numbered Closed = Unit {0}
Numbered Unknown = Unit {0}

abbrev pub decision : Session → Event → Decision
decision s (Initialization area below_limit) = on_initialization s area below_limit
decision s (Capability area) = on_capability s area
decision s (LocalChange n on room) = on_local_change s n on room
decision s (Wish wishes n disable room) = on_wish s wishes n disable room
decision s Mismatch = on_mismatch s
decision s (Hello number) = on_hello s number
decision s Closed = on_closed s
decision s Unknown = on_unknown s

-- "Each event takes a session and yields the session after it", and the answer
abbrev pub step : Session → Event → After
step s e = settled s (decision s e)

-- the session after events, one after another
abbrev pub run : Session → List Event → Session
run s [] = s
run s (e ∷ es) = run (step s e).session es

-- ---- what is written, under the number that the session had
abbrev pub message_for : Session → Event → Option Message
message_for s (Initialization area below_limit) = None
message_for s (Capability area) = None
message_for s (LocalChange n on room) = Some (Change s.next n on)
message_for s (Wish wishes n disable room) = Some (WishMessage s.next n disable)
message_for s Mismatch = None
message_for s (Hello number) = None
message_for s Closed = None
message_for s Unknown = None

-- the room after the event: the message where the answer says that octets were written, else as found
unfoldable pub room_after : Session → Event → List ℕ → List ℕ
room_after s e room = room_with (step s e).answer.written (message_for s e) room
