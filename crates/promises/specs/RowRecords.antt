-- Sessions in a row and their records: a session goes through the events of a row as it would by itself, so one that is loaded, led through them and stored
-- is the record that the same events lead to. Assumes nothing.
use Rattle.std.specs.Prelude.{ℕ, ◌<◌, ◌^◌, ◌≡◌, true, List, [], ◌∷◌, eqb, length}
use Rattle.choice.specs.Pick.{pick}
use Rattle.refusals.specs.Refusals.{not_refused}
use Rattle.session.specs.declared.Session.{Session}
use Rattle.session.specs.Session.{Narrow}
use Rattle.session.specs.Events.{Event, run}
use Rattle.record.specs.Loaded.{load, store_octets}
use Rattle.row.specs.Row.{session_at, all_sound, in_row, event_in}
use Rattle.promises.specs.Records.{Octets, record_run}
use Rattle.promises.specs.Rows.{TotalledRow, RowEvent, row_then, row_run, EqualWalk}

-- numbers of 32 bits in each of the events
abbrev pub RowNumbered : List RowEvent → Type 0
RowNumbered [] = Unit {0}
RowNumbered (e ∷ es) = (e.event.number < 2 ^ 32) × RowNumbered es

-- and in each session of a row
abbrev pub AllNarrow : List Session → Type 0
AllNarrow row = (k : ℕ) → Narrow (session_at row k)

-- they stay so over any run of a row
abbrev pub NarrowOverRows : Type 0
NarrowOverRows = (w : TotalledRow) (es : List RowEvent) → AllNarrow w.sessions → RowNumbered es → AllNarrow (row_run w es).sessions

-- the events of one session of the row, each with the applications that were below their limit when it came
abbrev pub events_of : ℕ → TotalledRow → List RowEvent → List Event
events_of at w [] = []
events_of at w (e ∷ es) =
    let rest : List Event = events_of at (row_then w e) es in
    pick (eqb e.at at) (event_in w.sessions e.event e.limits e.area (length e.room) ∷ rest) rest

-- with totals that equal the walk's, the session is the one that these lead to by themselves
abbrev pub RowIsRun : Type 0
RowIsRun =
    (w : TotalledRow) (es : List RowEvent) (at : ℕ) → all_sound w.sessions ≡ true → EqualWalk w → in_row w.sessions at ≡ true
    → session_at (row_run w es).sessions at ≡ run (session_at w.sessions at) (events_of at w es)

-- loaded from a record, led through the events of a row and stored there: the record that the same events lead to
abbrev pub RowRecordsFollow : Type 0
RowRecordsFollow =
    (w : TotalledRow) (es : List RowEvent) (at : ℕ) (l : List ℕ) → all_sound w.sessions ≡ true → EqualWalk w → in_row w.sessions at ≡ true → Octets l → RowNumbered es
    → load l ≡ record { refusal = not_refused; session = session_at w.sessions at }
    → store_octets (session_at (row_run w es).sessions at) l ≡ record_run l (events_of at w es)
