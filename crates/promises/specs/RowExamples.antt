-- Rows computed: a ring's responder with a limit, and why condition 3 speaks of the one session. Areas are those of specs/Examples.antt. Assumes nothing.
use Rattle.std.specs.Prelude.{ℕ, ◌≡◌, true, false, List, [], ◌∷◌}
use Rattle.session.specs.declared.Session.{Session}
use Rattle.session.specs.Session.{is_ready, is_open, permitted}
use Rattle.session.specs.With.{fresh}
use Rattle.session.specs.Creation.{role_flags}
use Rattle.row.specs.declared.Limits.{Limits}
use Rattle.row.specs.Events.{initialization_number}
use Rattle.row.specs.Row.{session_at, count}
use Rattle.promises.specs.Examples.{tac4, tac4and7}
use Rattle.promises.specs.Rows.{TotalledRow, RowEvent, row_step, row_run}
use Rattle.promises.specs.RowTotals.{starts_with}

-- a fresh responding, passive session that uses TAC
abbrev pub responds : ℕ → Session
responds enabled = fresh (role_flags false false true false) 0 enabled 0 1

-- 4, LDPv4 Remote LFA, limited and no other application
abbrev pub limit4 : ℕ → Limits
limit4 limit = record { each = 64 ∷ 64 ∷ 64 ∷ limit ∷ 64 ∷ 64 ∷ 64 ∷ 64 ∷ 64 ∷ 64 ∷ 64 ∷ 64 ∷ 64 ∷ [] }

-- an Initialization for one session of the row
abbrev pub opens_at : ℕ → ℕ → List ℕ → RowEvent
opens_at at limit area = record { at = at; event = record { which = initialization_number; ta_id = 0; on = 0; number = 0 }; limits = limit4 limit; area = area; room = [] }

abbrev pub tac7 : List ℕ
tac7 = 0x85 ∷ 0x0F ∷ 0 ∷ 5 ∷ 0x80 ∷ 0 ∷ 7 ∷ 0x80 ∷ 0 ∷ []

-- four responders that enable 4 and 7, of which two have opened with 4 under a limit of two, with the totals from 0 on
abbrev pub ring : TotalledRow
ring = row_run (starts_with (responds 0x48 ∷ responds 0x48 ∷ responds 0x48 ∷ responds 0x48 ∷ [])) (opens_at 0 2 tac4 ∷ opens_at 1 2 tac4 ∷ [])

pub record RowExamples : Type 0 where
  pub two_open : count ring.sessions 4 ≡ 2
  -- the third remote LFA session is turned away, and is Ready as a passive end is after a mismatch
  pub third : (row_step ring (opens_at 2 2 tac4)).answer.outcome ≡ 3
  pub third_ready : is_ready (row_step ring (opens_at 2 2 tac4)).session ≡ true
  -- the pseudowire session after it is taken
  pub fourth : (row_step (row_run ring (opens_at 2 2 tac4 ∷ [])) (opens_at 3 2 tac7)).answer.gained ≡ 256
  -- with 7 beside 4 the third opens, 7 being under its limit, and uses both: the count of 4 passes its limit
  pub both : is_open (row_step ring (opens_at 2 2 tac4and7)).session ≡ true
  pub passed : count (row_run ring (opens_at 2 2 tac4and7 ∷ [])).sessions 4 ≡ 3

-- Why condition 3 speaks of the one session: the first of two sessions enables 7 in one row, 4 and 7 in the other, and 4 may be used once. Its peer lists
-- both; then the second session's peer lists 4. What the first session uses more turns the second away
abbrev pub one_place : List RowEvent
one_place = opens_at 0 1 tac4and7 ∷ opens_at 1 1 tac4 ∷ []

pub record WhyTheOneSession : Type 0 where
  pub first_row : permitted (session_at (row_run (starts_with (responds 0x40 ∷ responds 0x08 ∷ [])) one_place).sessions 1) ≡ 1
  pub second_row : permitted (session_at (row_run (starts_with (responds 0x48 ∷ responds 0x08 ∷ [])) one_place).sessions 1) ≡ 0
