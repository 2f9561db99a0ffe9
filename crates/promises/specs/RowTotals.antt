-- L3, how many sessions may get a kind: "From totals of 0 over fresh sessions, the answer equals the walk's after any events, refused ones included", refusal 16
-- comes last and never from there, and a recount is the walk. Assumes nothing.
use Rattle.std.specs.Prelude.{ℕ, ◌+◌, ◌<◌, ◌≤◌, ◌≡◌, true, ◌⊎◌, ◌↔◌, List}
use Rattle.sets.specs.Set.{has}
use Rattle.refusals.specs.Refusals.{not_refused, total_outside}
use Rattle.kinds.specs.Kinds.{kind_count}
use Rattle.session.specs.declared.Session.{Session}
use Rattle.totals.specs.Totals.{total_of, highest_total, no_totals, kind_total}
use Rattle.row.specs.Row.{walk, all_sound, is_row, recount}
use Rattle.promises.specs.Rows.{TotalledRow, RowEvent, own_step, row_step, row_then, row_run, EqualWalk, AllFresh}

-- ---- "last, 16"
-- where the event is refused for a reason of its own, that is the answer, and the totals stay
abbrev pub OwnRefusalsFirst : Type 0
OwnRefusalsFirst =
    (w : TotalledRow) (e : RowEvent) → ((own_step w.sessions e).answer.refusal ≡ not_refused → ⊥)
    → (row_step w e ≡ own_step w.sessions e) × ((row_then w e).totals ≡ w.totals)

-- unless it is refused with 16, it is what it is without totals
abbrev pub OwnUnlessOutside : Type 0
OwnUnlessOutside = (w : TotalledRow) (e : RowEvent) → ((row_step w e).answer.refusal ≡ total_outside → ⊥) → row_step w e ≡ own_step w.sessions e

-- "would take a total outside 0 to 64": one that is to be lowered stands at 0 or over 65, or one that is to be raised at 64 or over
pub record TakesOutside (w : TotalledRow) (e : RowEvent) : Type 0 where
  pub kind : ℕ
  pub is_kind : kind < kind_count
  pub outside :
      ((has (own_step w.sessions e).answer.lost kind ≡ true) × ((total_of w.totals kind ≡ 0) ⊎ (highest_total + 1 < total_of w.totals kind)))
      ⊎ ((has (own_step w.sessions e).answer.gained kind ≡ true) × (highest_total ≤ total_of w.totals kind))

-- exactly then it is refused with 16
abbrev pub OutsideMeans : Type 0
OutsideMeans = (w : TotalledRow) (e : RowEvent) → ((row_step w e).answer.refusal ≡ total_outside) ↔ TakesOutside w e

-- ---- totals that equal the walk's
-- stay so by any event, refused or not
abbrev pub TotalsStayEqual : Type 0
TotalsStayEqual = (w : TotalledRow) (e : RowEvent) → EqualWalk w → EqualWalk (row_then w e)

-- and from them no event is refused with 16
abbrev pub NeverOutside : Type 0
NeverOutside = (w : TotalledRow) (e : RowEvent) → EqualWalk w → (row_step w e).answer.refusal ≡ total_outside → ⊥

-- ---- "From totals of 0 over fresh sessions", after any events
abbrev pub starts_with : List Session → TotalledRow
starts_with row = record { sessions = row; totals = no_totals }

pub record TotalsAfter (w : TotalledRow) : Type 0 where
  -- each total is how many sessions permit that kind
  pub equal_walk : EqualWalk w
  -- "the answer equals the walk's"
  pub answer : (k : ℕ) → k < kind_count → kind_total w.totals k ≡ record { refusal = not_refused; total = walk w.sessions k }
  -- "(never from that start)"
  pub never_outside : (e : RowEvent) → (row_step w e).answer.refusal ≡ total_outside → ⊥

abbrev pub TotalsFollow : Type 0
TotalsFollow = (row : List Session) (es : List RowEvent) → AllFresh row → TotalsAfter (row_run (starts_with row) es)

-- ---- the recount of a row that is not refused
-- is the walk
abbrev pub RecountIsWalk : Type 0
RecountIsWalk = (row : List Session) → (recount row).refusal ≡ not_refused → EqualWalk (record { sessions = row; totals = (recount row).totals })

-- so a restarted daemon is where it was
abbrev pub RecountIsKept : Type 0
RecountIsKept = (w : TotalledRow) → EqualWalk w → is_row w.sessions ≡ true → all_sound w.sessions ≡ true → recount w.sessions ≡ record { refusal = not_refused; totals = w.totals }
