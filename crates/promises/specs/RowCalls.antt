-- The C calls for an event in a row, for the total of a kind and for the recount, over their contracts: the first is the row's event, with the totals handed in
-- and handed back; what is promised of totals, and condition 3 of two rows, stand under them. Assumes nothing.
use Rattle.std.specs.Prelude.{ℕ, ◌<◌, ◌≡◌, true, List, [], ◌∷◌, refl}
use Rattle.refusals.specs.Refusals.{not_refused}
use Rattle.kinds.specs.Kinds.{kind_count}
use Rattle.session.specs.declared.Session.{Session}
use Rattle.session.specs.Session.{is_open}
use Rattle.totals.specs.declared.RowAnswer.{RowAnswer}
use Rattle.tacit.specs.contracts.tacit_kind_total as kind-total
use Rattle.row.specs.Row.{session_at, walk, all_sound, is_row}
use Rattle.promises.specs.Condition3.{NeverLess}
use Rattle.promises.specs.Rows.{TotalledRow, RowEvent, row_step, row_then, room_then, row_run, AllFresh}
use Rattle.promises.specs.RowTotals.{starts_with}
use Rattle.promises.specs.RowCondition3.{RowPair}
use Rattle.promises.specs.Allowed.{Allows}
use Rattle.promises.specs.Walked.{RowEventCall, Recount}

-- by its contract `tacit_row_event`, handed a row and totals, may answer r and leave the row row' and the room room'
pub data RowCalled : RowEvent → TotalledRow → RowAnswer → List Session → List ℕ → Type 0 where
  tacit_row_event : (κs : _) (a r s : _) → RowEventCall κs a r s
      → RowCalled
      (record { at = a.1.0; event = a.1.1.0; limits = a.1.1.1.0; area = a.1.1.1.1.1.0.now; room = a.1.1.1.1.1.1.0.now })
      (record { sessions = a.0.now; totals = a.1.1.1.1.0 }) r s.0.now s.1.1.1.1.1.1.0.now

-- it is the row's event: the answer, the whole row with its totals, and the room
pub record IsRowEvent (e : RowEvent) (w : TotalledRow) (r : RowAnswer) (row' : List Session) (room' : List ℕ) : Type 0 where
  pub answer : r.answer ≡ (row_step w e).answer
  pub whole : record { sessions = row'; totals = r.totals } ≡ row_then w e
  pub room : room' ≡ room_then w e

abbrev pub RowCallsAreEvents : Type 0
RowCallsAreEvents =
    (e : RowEvent) (w : TotalledRow) (r : RowAnswer) (row' : List Session) (room' : List ℕ) → RowCalled e w r row' room' → IsRowEvent e w r row' room'

-- one call after another, each on the row that the one before it left and with the totals that it handed back
pub data RowCalledRun : List RowEvent → TotalledRow → TotalledRow → Type 0 where
  ended : (w : TotalledRow) → RowCalledRun [] w w
  called : (e : RowEvent) (es : List RowEvent) (w : TotalledRow) (r : RowAnswer) (row' : List Session) (room' : List ℕ) (last : TotalledRow)
      → RowCalled e w r row' room' → RowCalledRun es (record { sessions = row'; totals = r.totals }) last → RowCalledRun (e ∷ es) w last

-- over any calls the row and its totals are those that the events lead to
abbrev pub RowCallsFollow : Type 0
RowCallsFollow = (es : List RowEvent) (w last : TotalledRow) → RowCalledRun es w last → last ≡ row_run w es

-- ---- totals: after any calls from totals of 0 over fresh sessions
pub record RowCallsTotal : Type 0 where
  -- what is asked of the totals that the last call handed back is what a walk over the row would find
  pub tacit_kind_total :
      (es : List RowEvent) (row : List Session) (last : TotalledRow) → AllFresh row → RowCalledRun es (starts_with row) last
      → (a r s : _) → Allows kind-total.ended (λ w. kind-total.clauses) (λ w. refl) tt a r s → a.0 ≡ last.totals → a.1.0 < kind_count
      → r ≡ record { refusal = not_refused; total = walk last.sessions a.1.0 }
  -- and a recount of the row hands back these totals
  pub tacit_recount :
      (es : List RowEvent) (row : List Session) (last : TotalledRow) → AllFresh row → RowCalledRun es (starts_with row) last
      → is_row last.sessions ≡ true → all_sound last.sessions ≡ true
      → (κs : _) (a r s : _) → Recount κs a r s → a.0.now ≡ last.sessions → r ≡ record { refusal = not_refused; totals = last.totals }

-- ---- condition 3
-- the session is Open after each call
abbrev pub StaysOpenAtUnder : ℕ → (es : List RowEvent) (w last : TotalledRow) → RowCalledRun es w last → Type 0
StaysOpenAtUnder at es w last (ended w') = Unit {0}
StaysOpenAtUnder at es w last (called e fs before r row' room' last' c cs) =
    (is_open (session_at row' at) ≡ true) × StaysOpenAtUnder at fs (record { sessions = row'; totals = r.totals }) last' cs

abbrev pub RowCallsCondition3 : Type 0
RowCallsCondition3 =
    (r t : TotalledRow) (first : RowEvent) (es : List RowEvent) (r' t' : TotalledRow) → RowPair r t first.at
    → (calls : RowCalledRun (first ∷ es) r r') → RowCalledRun (first ∷ es) t t'
    → StaysOpenAtUnder first.at (first ∷ es) r r' calls → NeverLess (session_at r'.sessions first.at) (session_at t'.sessions first.at)
