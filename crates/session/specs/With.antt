-- Sessions with other fields. A session is put together here, and where a record is read, and nowhere else in specs/: a new field is a word in these lines. Assumes nothing.
use Rattle.std.specs.Prelude.{ℕ, ◌+◌, ◌%◌, ◌^◌, Bool}
use Rattle.choice.specs.Pick.{pick}
use Rattle.sets.specs.Set.{one, union, minus, switched}
use Rattle.kinds.specs.Kinds.{application_count, app_count}
use Rattle.session.specs.declared.Session.{Session}
use Rattle.session.specs.Session.{state_ready, state_held, state_gone, no_state, is_held, active, leaves_gone, in_force_bit, recorded_bit, cleared_out_of_open, cleared_in_gone}

-- all fields in order
abbrev pub session_of : ℕ → ℕ → ℕ → ℕ → ℕ → ℕ → ℕ → ℕ → ℕ → ℕ → Session
session_of state flags disabled enabled listed protects ours theirs hello next =
    record {
      state = state;
      flags = flags;
      disabled = disabled;
      enabled = enabled;
      listed = listed;
      protects = protects;
      ours = ours;
      theirs = theirs;
      hello = hello;
      next = next;
    }

-- ---- one field
abbrev pub with_state : Session → ℕ → Session
with_state s state = session_of state s.flags s.disabled s.enabled s.listed s.protects s.ours s.theirs s.hello s.next

abbrev pub with_flags : Session → ℕ → Session
with_flags s flags = session_of s.state flags s.disabled s.enabled s.listed s.protects s.ours s.theirs s.hello s.next

abbrev pub with_disabled : Session → ℕ → Session
with_disabled s disabled = session_of s.state s.flags disabled s.enabled s.listed s.protects s.ours s.theirs s.hello s.next

abbrev pub with_enabled : Session → ℕ → Session
with_enabled s enabled = session_of s.state s.flags s.disabled enabled s.listed s.protects s.ours s.theirs s.hello s.next

abbrev pub with_listed : Session → ℕ → Session
with_listed s listed = session_of s.state s.flags s.disabled s.enabled listed s.protects s.ours s.theirs s.hello s.next

abbrev pub with_protects : Session → ℕ → Session
with_protects s protects = session_of s.state s.flags s.disabled s.enabled s.listed protects s.ours s.theirs s.hello s.next

abbrev pub with_ours : Session → ℕ → Session
with_ours s ours = session_of s.state s.flags s.disabled s.enabled s.listed s.protects ours s.theirs s.hello s.next

abbrev pub with_theirs : Session → ℕ → Session
with_theirs s theirs = session_of s.state s.flags s.disabled s.enabled s.listed s.protects s.ours theirs s.hello s.next

abbrev pub with_hello : Session → ℕ → Session
with_hello s hello = session_of s.state s.flags s.disabled s.enabled s.listed s.protects s.ours s.theirs hello s.next

abbrev pub with_next : Session → ℕ → Session
with_next s next = session_of s.state s.flags s.disabled s.enabled s.listed s.protects s.ours s.theirs s.hello next

-- ---- none, and a fresh one
-- what stands where there is no session: past the end of a row, or in a record with another length, kind or zero octet. It is not sound
abbrev pub no_session : Session
no_session = session_of no_state 0 0 0 0 0 0 0 0 0

-- "A fresh session has state Ready and no Hello recorded"
abbrev pub fresh : ℕ → ℕ → ℕ → ℕ → ℕ → Session
fresh flags protects enabled ours first = session_of state_ready flags 0 enabled 0 protects ours 0 0 first

-- ---- the sessions that events make
-- out of Open, in a state: "clears the peer's list, the disabled kinds, the force and the peer's dynamic flag", and by L4 its capabilities; also other
-- flags where named
abbrev pub out_of_open : Session → ℕ → ℕ → ℕ → Session
out_of_open s state off hello = with_hello (with_theirs (with_listed (with_disabled (with_flags (with_state s state) (minus s.flags off)) 0) 0) 0) hello

-- the session Ready again: connection closed, or the mismatch of a passive end
abbrev pub back_to_ready : Session → Session
back_to_ready s = out_of_open s state_ready cleared_out_of_open s.hello

-- "Mismatch: an active end goes to Held, except that an initiating one set to drop goes to Gone and forgets the recorded Hello; a passive end
-- goes to Ready"
unfoldable pub mismatched : Session → Session
mismatched s =
    pick (active s)
    (pick (leaves_gone s) (out_of_open s state_gone cleared_in_gone 0) (out_of_open s state_held cleared_out_of_open s.hello))
    (back_to_ready s)

-- the state, where "Held becomes Ready"
unfoldable pub held_to_ready : Session → ℕ
held_to_ready s = pick (is_held s) state_ready s.state

-- a Hello recorded, in a state
abbrev pub greeted : Session → ℕ → ℕ → Session
greeted s state number = with_hello (with_flags (with_state s state) (union s.flags (one recorded_bit))) number

-- one application set on or off, "and a Held session becomes Ready"
abbrev pub changed : Session → ℕ → Bool → Session
changed s n on = with_enabled (with_state s (held_to_ready s)) (switched application_count s.enabled n on)

-- "The number then goes up by one; after 4,294,967,295 comes 0"
abbrev pub with_next_number : Session → Session
with_next_number s = with_next s ((s.next + 1) % 2 ^ 32)

-- alike in all but the enabled applications and the next message number
abbrev pub with_other_enabled : Session → ℕ → ℕ → Session
with_other_enabled s enabled next = with_next (with_enabled s enabled) next

-- the application n in the peer's list, or not
abbrev pub with_listing : Session → ℕ → Bool → Session
with_listing s n on = with_listed s (switched application_count s.listed n on)

-- the App n disabled by the peer, or not
abbrev pub with_disabling : Session → ℕ → Bool → Session
with_disabling s n disable = with_disabled s (switched app_count s.disabled n disable)

-- negotiation in force, with a list that starts empty and the application n in it, or not
abbrev pub with_first_listing : Session → ℕ → Bool → Session
with_first_listing s n on = with_listed (with_flags s (union s.flags (one in_force_bit))) (switched application_count 0 n on)
