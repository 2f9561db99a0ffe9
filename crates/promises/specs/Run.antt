-- Runs of a session's events: what holds over any of them. Assumes nothing.
use Rattle.std.specs.Prelude.{ℕ, ◌≡◌, true, List, [], ◌∷◌, ◌++◌}
use Rattle.choice.specs.Pick.{pick}
use Rattle.refusals.specs.Refusals.{not_refused, wrong_state}
use Rattle.sets.specs.Set.{switched}
use Rattle.kinds.specs.Kinds.{application_count, all_applications}
use Rattle.area.specs.Area.{read_area}
use Rattle.session.specs.declared.Session.{Session}
use Rattle.session.specs.Session.{is_ready, is_open, sound}
use Rattle.session.specs.With.{with_enabled}
use Rattle.session.specs.Decisions.{outcome_mismatch, refused, Refused, Negotiate, settled}
use Rattle.session.specs.Events.{checked, unless_refused, after_initialization, Event, Initialization, Capability, LocalChange, Wish, Mismatch, Hello, Closed, Unknown, step, run, room_after}

-- the session is Open after each of the events
abbrev pub StaysOpen : Session → List Event → Type 0
StaysOpen s [] = Unit {0}
StaysOpen s (e ∷ es) = (is_open (step s e).session ≡ true) × StaysOpen (step s e).session es

-- "any stored session": from a sound session every run leads to a sound one
abbrev pub SoundOverRuns : Type 0
SoundOverRuns = (s : Session) (es : List Event) → sound s ≡ true → sound (run s es) ≡ true

-- "A refusal loses, gains and writes nothing", and the session stays exactly as found
abbrev pub RefusedIsNothing : Type 0
RefusedIsNothing =
    (s : Session) (e : Event) → ((step s e).answer.refusal ≡ not_refused → ⊥) → step s e ≡ refused s (step s e).answer.refusal

-- and so does the room lent for writing, wherever nothing was written
abbrev pub RoomStays : Type 0
RoomStays = (s : Session) (e : Event) (room : List ℕ) → (step s e).answer.written ≡ 0 → room_after s e room ≡ room

-- so over any run an event that is refused might as well not have come
abbrev pub RefusedCanGo : Type 0
RefusedCanGo =
    (s : Session) (before : List Event) (e : Event) (behind : List Event) → ((step (run s before) e).answer.refusal ≡ not_refused → ⊥)
    → run s (before ++ (e ∷ behind)) ≡ run s (before ++ behind)

-- an Initialization of a session that is in no row, by document 01 alone: "In force with no application both enabled and listed: mismatch. Else Open"
abbrev pub WithoutLimits : Type 0
WithoutLimits =
    (s : Session) (a : List ℕ)
    → step s (Initialization a all_applications)
    ≡ settled s (checked s (pick (is_ready s) (unless_refused (read_area a) (Negotiate (after_initialization s a (read_area a)))) (Refused wrong_state)))

-- "Finding it ourselves and being told have one effect": outcome 2 leaves of the session what a mismatch notification would have left, but that a local
-- change has set its application, and answers as that would have
abbrev pub enabled_after : Session → Event → ℕ
enabled_after s (Initialization area below_limit) = s.enabled
enabled_after s (Capability area) = s.enabled
enabled_after s (LocalChange n on room) = switched application_count s.enabled n on
enabled_after s (Wish wishes n disable room) = s.enabled
enabled_after s Mismatch = s.enabled
enabled_after s (Hello number) = s.enabled
enabled_after s Closed = s.enabled
enabled_after s Unknown = s.enabled

pub record OneEffect (s : Session) (e : Event) : Type 0 where
  pub session : (step s e).session ≡ with_enabled (step s Mismatch).session (enabled_after s e)
  pub answer : (step s e).answer ≡ (step s Mismatch).answer

abbrev pub FoundOrTold : Type 0
FoundOrTold = (s : Session) (e : Event) → (step s e).answer.outcome ≡ outcome_mismatch → OneEffect s e
