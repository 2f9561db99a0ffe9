-- Totals computed, over the ring of specs/RowExamples.antt: what two openings bring them to, what refusal 16 asks, the question, and the recount. Assumes nothing.
use Rattle.std.specs.Prelude.{ℕ, ◌≡◌, [], ◌∷◌}
use Rattle.totals.specs.declared.Totals.{Totals}
use Rattle.totals.specs.declared.Totalled.{Totalled}
use Rattle.totals.specs.Totals.{kind_total}
use Rattle.row.specs.Events.{closed_number}
use Rattle.row.specs.Row.{recount}
use Rattle.promises.specs.Examples.{tac4}
use Rattle.promises.specs.Rows.{RowEvent, totalled_step, row_then}
use Rattle.promises.specs.RowExamples.{limit4, opens_at, ring}

-- so many for kinds 0 and 1, and 0 for the others
abbrev pub totals01 : ℕ → ℕ → Totals
totals01 zeroth first = record { each = zeroth ∷ first ∷ 0 ∷ 0 ∷ 0 ∷ 0 ∷ 0 ∷ 0 ∷ 0 ∷ 0 ∷ [] }

-- the connection of the first session, which permits kind 0 alone
abbrev pub closes_first : RowEvent
closes_first = record { at = 0; event = record { which = closed_number; ta_id = 0; on = 0; number = 0 }; limits = limit4 2; area = []; room = [] }

-- an event with other totals than those that are kept
abbrev pub told : RowEvent → ℕ → ℕ → Totalled
told e zeroth first = totalled_step (record { sessions = ring.sessions; totals = totals01 zeroth first }) e

-- the third session opens, and gains kind 0
abbrev pub opens_third : RowEvent
opens_third = opens_at 2 3 tac4

pub record TotalExamples : Type 0 where
  -- two sessions have opened with 4, LDPv4 Remote LFA
  pub two : ring.totals ≡ totals01 2 0
  pub one_left : (row_then ring closes_first).totals ≡ totals01 1 0
  -- "a total of 65 that loses one becomes 64 and is fine"; from 66, and from 0, it is outside
  pub loses_65 : (told closes_first 65 0).answer.totals ≡ totals01 64 0
  pub loses_66 : (told closes_first 66 0).answer.answer.refusal ≡ 16
  pub loses_0 : (told closes_first 0 0).answer.answer.refusal ≡ 16
  -- one more goes to 64 and no further
  pub gains_63 : (told opens_third 63 0).answer.totals ≡ totals01 64 0
  pub gains_64 : (told opens_third 64 0).answer.answer.refusal ≡ 16
  -- "a total of 200 for a kind that does not move is left as it is"
  pub left_200 : (told closes_first 2 200).answer.totals ≡ totals01 1 200
  -- the question: "6 for a kind over 9"
  pub asked : kind_total ring.totals 0 ≡ record { refusal = 0; total = 2 }
  pub over_9 : kind_total ring.totals 10 ≡ record { refusal = 6; total = 0 }
  -- the recount is what was kept
  pub recounted : recount ring.sessions ≡ record { refusal = 0; totals = ring.totals }
