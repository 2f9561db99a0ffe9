-- Condition 3 for a session in a row: "Condition 3 then speaks of Initializations that do not end in outcome 3", and "of totals that equal the walk's". Assumes
-- nothing.
use Rattle.std.specs.Prelude.{ℕ, ◌≡◌, true, List, [], ◌∷◌, length}
use Rattle.session.specs.Session.{is_open}
use Rattle.row.specs.Row.{session_at, all_sound}
use Rattle.promises.specs.Condition3.{ReadyPair, NeverLess}
use Rattle.promises.specs.Rows.{TotalledRow, RowEvent, row_then, row_run, EqualWalk}

-- two rows alike but for one session, which is Ready and in the second row enables every application that it enables in the first, perhaps more; "totals that
-- equal the walk's"
pub record RowPair (r t : TotalledRow) (at : ℕ) : Type 0 where
  pub same_length : length r.sessions ≡ length t.sessions
  pub others : (k : ℕ) → (k ≡ at → ⊥) → session_at r.sessions k ≡ session_at t.sessions k
  pub first_sound : all_sound r.sessions ≡ true
  pub second_sound : all_sound t.sessions ≡ true
  pub first_totals : EqualWalk r
  pub second_totals : EqualWalk t
  pub pair : ReadyPair (session_at r.sessions at) (session_at t.sessions at)

-- the session is Open after each of the events
abbrev pub StaysOpenAt : ℕ → TotalledRow → List RowEvent → Type 0
StaysOpenAt at w [] = Unit {0}
StaysOpenAt at w (e ∷ es) = (is_open (session_at (row_then w e).sessions at) ≡ true) × StaysOpenAt at (row_then w e) es

-- the first event opens it in the first row, so is an Initialization that does not end in outcome 3; then any events of any sessions of the row, with the
-- same limits and room, each row with its own totals. While it is Open in the first row it is in the second too, and permits at least as much, further kinds
-- exactly as condition 3 has them. Of the other sessions nothing is said: what the one uses more may bring a limit down on them
abbrev pub RowCondition3 : Type 0
RowCondition3 =
    (r t : TotalledRow) (first : RowEvent) (es : List RowEvent) → RowPair r t first.at → StaysOpenAt first.at r (first ∷ es)
    → NeverLess (session_at (row_run r (first ∷ es)).sessions first.at) (session_at (row_run t (first ∷ es)).sessions first.at)
