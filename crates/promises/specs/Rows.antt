-- Rows of sessions with the totals that are kept with them, and runs of their events. `totalled_step` is the definition that the contract of `tacit_row_event`
-- cites. Assumes nothing.
use Rattle.std.specs.Prelude.{ℕ, ◌+◌, ◌<◌, ◌≡◌, Bool, true, false, not, ◌&&◌, List, [], ◌∷◌, ◌↔◌, length}
use Rattle.sets.specs.Set.{empty}
use Rattle.kinds.specs.Kinds.{all_applications, kind_count, is_in}
use Rattle.area.specs.Area.{read_area}
use Rattle.session.specs.declared.Session.{Session}
use Rattle.session.specs.declared.After.{After}
use Rattle.refusals.specs.Refusals.{not_refused}
use Rattle.session.specs.Session.{is_ready, in_force, negotiated}
use Rattle.session.specs.With.{fresh}
use Rattle.session.specs.Creation.{role_flags}
use Rattle.session.specs.Decisions.{outcome_at_limit}
use Rattle.session.specs.Events.{after_initialization, Mismatch, step}
use Rattle.row.specs.declared.EventNumbers.{EventNumbers}
use Rattle.row.specs.declared.Limits.{Limits}
use Rattle.row.specs.Limiting.{no_limits, limit_of}
use Rattle.row.specs.Events.{initialization_number, event_of}
use Rattle.totals.specs.declared.Totals.{Totals}
use Rattle.totals.specs.declared.Totalled.{Totalled}
use Rattle.totals.specs.Totals.{total_of}
use Rattle.row.specs.Row.{session_at, uses, once, count, walk, all_sound, in_row, event_at, event_with, row_after, room_after}

-- a row, and the totals that are kept with it
pub record TotalledRow : Type 0 where
  pub sessions : List Session
  pub totals : Totals

-- an event of the session with the row number `at`, with the limits, octets and room that it takes
pub record RowEvent : Type 0 where
  pub at : ℕ
  pub event : EventNumbers
  pub limits : Limits
  pub area : List ℕ
  pub room : List ℕ

-- what it does by itself, without totals
abbrev pub own_step : List Session → RowEvent → After
own_step row e = event_at row e.at e.event e.limits e.area (length e.room)

abbrev pub totalled_step : TotalledRow → RowEvent → Totalled
totalled_step w e = event_with w.sessions e.at e.event e.limits w.totals e.area (length e.room)

-- the session after it, and the answer
abbrev pub row_step : TotalledRow → RowEvent → After
row_step w e = record { session = (totalled_step w e).session; answer = (totalled_step w e).answer.answer }

-- the row after it with its totals, and the room
abbrev pub row_then : TotalledRow → RowEvent → TotalledRow
row_then w e =
    record {
      sessions = row_after w.sessions e.at e.event e.limits w.totals e.area (length e.room);
      totals = (totalled_step w e).answer.totals;
    }

abbrev pub room_then : TotalledRow → RowEvent → List ℕ
room_then w e = room_after w.sessions e.at e.event e.limits w.totals e.area e.room

-- after events, one after another
abbrev pub row_run : TotalledRow → List RowEvent → TotalledRow
row_run w [] = w
row_run w (e ∷ es) = row_run (row_then w e) es

-- "totals that equal the walk's": each of the ten is how many sessions permit its kind
pub record EqualWalk (w : TotalledRow) : Type 0 where
  pub ten : length w.totals.each ≡ kind_count
  pub each : (k : ℕ) → k < kind_count → total_of w.totals k ≡ walk w.sessions k

-- a row of sound sessions stays one
abbrev pub SoundOverRows : Type 0
SoundOverRows = (w : TotalledRow) (es : List RowEvent) → all_sound w.sessions ≡ true → all_sound (row_run w es).sessions ≡ true

-- "an event changes no other session", refused or not
abbrev pub OthersStay : Type 0
OthersStay = (w : TotalledRow) (e : RowEvent) (k : ℕ) → (k ≡ e.at → ⊥) → session_at (row_then w e).sessions k ≡ session_at w.sessions k

-- refused, it changes none, and the totals and the room stay
abbrev pub RowRefusedIsNothing : Type 0
RowRefusedIsNothing = (w : TotalledRow) (e : RowEvent) → ((row_step w e).answer.refusal ≡ not_refused → ⊥) → (row_then w e ≡ w) × (room_then w e ≡ e.room)

-- ---- "each application's count equals the times a session gained it as a negotiated application less the times one lost it"
-- the session of the event uses n after it and not before; before it and not after
abbrev pub gained_by : TotalledRow → RowEvent → ℕ → Bool
gained_by w e n = uses (row_step w e).session n && not (uses (session_at w.sessions e.at) n)

abbrev pub lost_by : TotalledRow → RowEvent → ℕ → Bool
lost_by w e n = uses (session_at w.sessions e.at) n && not (uses (row_step w e).session n)

-- how often in a run
abbrev pub gains : TotalledRow → List RowEvent → ℕ → ℕ
gains w [] n = 0
gains w (e ∷ es) n = once (gained_by w e n) + gains (row_then w e) es n

abbrev pub losses : TotalledRow → List RowEvent → ℕ → ℕ
losses w [] n = 0
losses w (e ∷ es) n = once (lost_by w e n) + losses (row_then w e) es n

-- a fresh session, as creation makes it
pub record IsFresh (s : Session) : Type 0 where
  pub initiating : Bool
  pub active : Bool
  pub uses_tac : Bool
  pub drops : Bool
  pub protects : ℕ
  pub enabled : ℕ
  pub ours : ℕ
  pub first : ℕ
  pub made : s ≡ fresh (role_flags initiating active uses_tac drops) protects enabled ours first

abbrev pub AllFresh : List Session → Type 0
AllFresh [] = Unit {0}
AllFresh (s ∷ row) = IsFresh s × AllFresh row

-- "From a row of fresh sessions, over any sequence of events"
abbrev pub CountsFollow : Type 0
CountsFollow = (w : TotalledRow) (es : List RowEvent) (n : ℕ) → AllFresh w.sessions → count (row_run w es).sessions n + losses w es n ≡ gains w es n

-- ---- "Otherwise outcome 3, the state as in a mismatch"
-- the session is what a mismatch notification would have left, and nothing is lost, gained or written
pub record TurnedAway (s : Session) (after : After) : Type 0 where
  pub session : after.session ≡ (step s Mismatch).session
  pub answer : after.answer ≡ record { refusal = not_refused; outcome = outcome_at_limit; lost = 0; gained = 0; written = 0 }

abbrev pub LimitIsMismatch : Type 0
LimitIsMismatch =
    (w : TotalledRow) (es : List RowEvent) (e : RowEvent) → (row_step (row_run w es) e).answer.outcome ≡ outcome_at_limit
    → TurnedAway (session_at (row_run w es).sessions e.at) (row_step (row_run w es) e)

-- ---- "opens only if at least one of them is used by fewer Open sessions than its limit"
-- the session that an Initialization makes, before anything is looked for
abbrev pub opening : TotalledRow → RowEvent → Session
opening w e = after_initialization (session_at w.sessions e.at) e.area (read_area e.area)

-- an event of a session in a sound row, whose totals equal the walk's
pub record InRow (w : TotalledRow) (e : RowEvent) : Type 0 where
  pub inside : in_row w.sessions e.at ≡ true
  pub all_sound : all_sound w.sessions ≡ true
  pub equal_walk : EqualWalk w

-- an Initialization that finds common applications, of a Ready session there
pub record FindsCommon (w : TotalledRow) (e : RowEvent) : Type 0 where
  pub in_row_law : InRow w e
  pub is_initialization : e.event.which ≡ initialization_number
  pub ready : is_ready (session_at w.sessions e.at) ≡ true
  pub readable : (read_area e.area).refusal ≡ not_refused
  pub in_force_law : in_force (opening w e) ≡ true
  pub common : empty (negotiated (opening w e)) ≡ false

-- a common application that is below its limit
pub record BelowLimit (w : TotalledRow) (e : RowEvent) : Type 0 where
  pub application : ℕ
  pub is_common : is_in (negotiated (opening w e)) application ≡ true
  pub fewer : count w.sessions application < limit_of e.limits application

-- it opens, all common applications negotiated, exactly when there is one; else it is turned away
pub record LimitDecides (w : TotalledRow) (e : RowEvent) : Type 0 where
  pub opens : ((row_step w e).session ≡ opening w e) ↔ BelowLimit w e
  pub turns_away : ((row_step w e).answer.outcome ≡ outcome_at_limit) ↔ (BelowLimit w e → ⊥)

abbrev pub LimitsDecide : Type 0
LimitsDecide = (w : TotalledRow) (e : RowEvent) → FindsCommon w e → LimitDecides w e

-- ---- where no limit binds the event is that of the session by itself, with every application below its limit
abbrev pub BaseWhereNoLimitBinds : Type 0
BaseWhereNoLimitBinds =
    (w : TotalledRow) (e : RowEvent) → InRow w e → ((row_step w e).answer.outcome ≡ outcome_at_limit → ⊥)
    → row_step w e ≡ step (session_at w.sessions e.at) (event_of e.event all_applications e.area (length e.room))

-- and none binds before one is set: "64 until set"
abbrev pub NoLimitBindsUnset : Type 0
NoLimitBindsUnset = (w : TotalledRow) (e : RowEvent) → e.limits ≡ no_limits → (row_step w e).answer.outcome ≡ outcome_at_limit → ⊥
