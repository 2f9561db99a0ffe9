-- What the pass finds serves as a tally of the whole row: where all sessions are sound it has the counts that an Initialization, a count or a recount asks
-- for, where one is not nothing is asked of it, and no other event asks for a count. So an event by what the pass found is the event of the row. Assumes
-- empty_tally.
use Prim.Native.Nat.{ℕ, zero, suc, ◌-◌, ◌<◌}
use mathlib.Core.Path.{◌≡◌, refl, ap, ◌∙◌}
use mathlib.Core.Bool.{Bool, true}
use mathlib.Core.List.{List, [], ◌∷◌}
use lib.ListN.{length, get_or, set}
use Rattle.std.proofs.lemmas.List.{get_or_default}
use lib.Dec.{eqb, ltb}
use native.Mathlib.Omega.{arith}
use borrow.Author.Tests.{ltb-true}
use Rattle.choice.specs.Pick.{pick}
use Rattle.choice.proofs.Branch.{taken, pick_both, pick_true}
use Rattle.choice.proofs.Tests.{and_first, and_second}
use Rattle.sets.specs.Set.{chosen}
use Rattle.kinds.specs.Kinds.{application_count, kind_count, known_application}
use Rattle.refusals.specs.Refusals.{not_refused, out_of_range, not_sound}
use Rattle.message.specs.Message.{room_with}
use Rattle.session.specs.declared.Session.{Session}
use Rattle.session.specs.declared.After.{After}
use Rattle.session.specs.Session.{sound}
use Rattle.session.specs.With.{no_session}
use Rattle.session.specs.Events.{Initialization, step}
use Rattle.totals.specs.declared.Totals.{Totals}
use Rattle.totals.specs.declared.Totalled.{Totalled}
use Rattle.totals.specs.Totals.{totalled}
use Rattle.row.specs.declared.EventNumbers.{EventNumbers}
use Rattle.row.specs.declared.Limits.{Limits}
use Rattle.row.specs.declared.Counted.{Counted}
use Rattle.row.specs.declared.Tally.{Tally}
use Rattle.row.specs.Events.{initialization_number, event_of, message_in}
use Rattle.row.specs.Row.{session_at, all_sound, is_row, in_row, event_with, row_after, room_after, not_counted, count_of, not_totalled, recount}
use Rattle.row.specs.Counting.{applications_counted, kinds_counted, counting, counted_for, noted, empty_tally, tallied, is_below, below_limit_by, decided_by, totalled_by, room_by, count_by, leading_counts, recount_by}
use Rattle.row.specs.Survey.{leading, surveyed}
use Rattle.row.proofs.Tallied.{tallied_sound, event_in_row, room_in_row, count_in_row, recount_in_row}

-- ---- where all are sound
leading_all : (row : List Session) → all_sound row ≡ true → leading row ≡ row
unfolding leading all_sound
leading_all [] all = refl
leading_all (s ∷ row) all = taken _ _ (and_first (sound s) (all_sound row) all) ∙ ap (λ (l : List Session). s ∷ l) (leading_all row (and_second (sound s) (all_sound row) all))

surveyed_all : (of : Session → ℕ) (row : List Session) → all_sound row ≡ true → (surveyed true of row).counts ≡ (tallied of empty_tally row).counts
unfolding surveyed
surveyed_all of row all = pick_true _ _ ∙ ap (λ (l : List Session). (tallied of empty_tally l).counts) (leading_all row all)

-- and then each of them is
pub sound_at : (row : List Session) (at : ℕ) → all_sound row ≡ true → at < length row → sound (session_at row at) ≡ true
unfolding all_sound
sound_at [] at all l = absurd (omega arith)
sound_at (s ∷ row) zero all l = and_first (sound s) (all_sound row) all
sound_at (s ∷ row) (suc at) all l = sound_at row at (and_second (sound s) (all_sound row) all) (omega arith)

pub sound_found : (row : List Session) (at : ℕ) (counting : Bool) (of : Session → ℕ) → in_row row at ≡ true → (surveyed counting of row).sound ≡ true → sound (session_at row at) ≡ true
unfolding surveyed
sound_found row at counting of inside all = sound_at row at all (ltb-true at (length row) (and_first (ltb at (length row)) _ inside))

-- ---- by what the pass found
module _ (row : List Session) (at : ℕ) (e : EventNumbers) (l : Limits) (area : List ℕ) where
  abbrev pub Found : Tally
  Found = surveyed (counting (counted_for e)) (noted (counted_for e)) row

  abbrev Whole : Tally
  Whole = tallied (noted applications_counted) empty_tally row

  -- only an Initialization asks for a count
  event_same : (room : ℕ) → all_sound row ≡ true → event_of e (below_limit_by Found l) area room ≡ event_of e (below_limit_by Whole l) area room
  unfolding event_of below_limit_by counted_for
  event_same room all =
      pick_both ◌≡◌ (eqb e.which initialization_number)
      (λ is. ap (λ (cs : List ℕ). Initialization area (chosen application_count (is_below cs l.each) application_count)) (ap (λ (c : Counted). (surveyed (counting c) (noted c) row).counts) (taken _ _ is) ∙ surveyed_all (noted applications_counted) row all))
      (λ _. refl)

  decided_same : (room : ℕ) (s : Session) → decided_by s Found e l area room ≡ decided_by s Whole e l area room
  unfolding decided_by surveyed tallied
  decided_same room s = rw (tallied_sound (noted applications_counted) empty_tally row) (pick_both ◌≡◌ (all_sound row) (λ all. ap (step s) (event_same room all)) (λ _. refl))

  pub event_found : (t : Totals) (room : ℕ) → in_row row at ≡ true → totalled_by (session_at row at) Found e l t area room ≡ event_with row at e l t area room
  event_found t room inside = ap (totalled t (session_at row at)) (decided_same room (session_at row at) ∙ event_in_row row at e l area room inside)

  pub room_found : (t : Totals) (room : List ℕ) → in_row row at ≡ true → room_by (session_at row at) Found e l t area room ≡ room_after row at e l t area room
  unfolding room_by
  room_found t room inside =
      let s = session_at row at in
      ap (λ (a : After). room_with (totalled t s a).answer.answer.written (message_in e s) room) (decided_same (length room) s) ∙ room_in_row row at e l area t room inside

-- ---- where something is asked of the counts alone
module _ {A : Type 0} (of : Session → ℕ) (row : List Session) (asked : List ℕ → A) (otherwise : A) where
  same_asked : pick (surveyed true of row).sound (asked (surveyed true of row).counts) otherwise ≡ pick (tallied of empty_tally row).sound (asked (tallied of empty_tally row).counts) otherwise
  unfolding surveyed
  same_asked = rw (tallied_sound of empty_tally row) (pick_both ◌≡◌ (all_sound row) (λ all. ap asked (surveyed_all of row all)) (λ _. refl))

pub count_found : (row : List Session) (n : ℕ) → is_row row ≡ true → count_by (surveyed (counting applications_counted) (noted applications_counted) row) n ≡ count_of row n
unfolding count_by
count_found row n there =
    same_asked (noted applications_counted) row (λ cs. pick (known_application n) (record { refusal = not_refused; count = get_or cs (n - 1) 0 }) (not_counted out_of_range)) (not_counted not_sound)
    ∙ count_in_row row n there

pub recount_found : (row : List Session) → is_row row ≡ true → recount_by (surveyed (counting kinds_counted) (noted kinds_counted) row) ≡ recount row
unfolding recount_by
recount_found row there =
    same_asked (noted kinds_counted) row (λ cs. record { refusal = not_refused; totals = record { each = leading_counts cs kind_count } }) (not_totalled not_sound) ∙ recount_in_row row there

-- ---- the session at a place of the row, read with any other behind its end
session_told : (row : List Session) (at : ℕ) (d : Session) → in_row row at ≡ true → get_or row at d ≡ session_at row at
session_told row at d inside = get_or_default row at d no_session (ltb-true at (length row) (and_first (ltb at (length row)) _ inside))

pub sound_told : (row : List Session) (at : ℕ) (d : Session) (counting : Bool) (of : Session → ℕ) (t : Tally) → in_row row at ≡ true → t ≡ surveyed counting of row → t.sound ≡ true → sound (get_or row at d) ≡ true
sound_told row at d counting of t inside found all = rw (session_told row at d inside) (sound_found row at counting of inside (rw found at all))

-- what a call makes of the row, by what the pass over it found
pub event_told : (row : List Session) (at : ℕ) (d : Session) (e : EventNumbers) (l : Limits) (t : Totals) (area room room' : List ℕ) (counted : Counted) (found : Tally) (after : Totalled)
    → in_row row at ≡ true → counted ≡ counted_for e → found ≡ surveyed (counting counted) (noted counted) row
    → (after ≡ totalled_by (get_or row at d) found e l t area (length room)) × (room' ≡ room_by (get_or row at d) found e l t area room)
    → (after.answer ≡ (event_with row at e l t area (length room)).answer) × (set row at after.session ≡ row_after row at e l t area (length room)) × (room' ≡ room_after row at e l t area room)
event_told row at d e l t area room room' counted found after inside asked seen said =
    let q = rw (seen, asked, session_told row at d inside) at said in
    let same = q.0 ∙ event_found row at e l area t (length room) inside in
    (ap (λ (x : Totalled). x.answer) same, ap (λ (x : Totalled). set row at x.session) same, q.1 ∙ room_found row at e l area t room inside)
