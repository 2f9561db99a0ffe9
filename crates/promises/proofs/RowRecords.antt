-- A session of a row is the one that its own events lead to, since an event touches no other and totals that equal the walk's refuse none; so the laws of
-- records and of numbers of 32 bits carry over. By induction over the events of the row. Assumes nothing.
use Prim.Native.Nat.{ℕ, ◌<◌, ◌^◌}
use mathlib.Core.Path.{◌≡◌, refl, sym, ap, ◌∙◌, subst}
use mathlib.Core.Bool.{Bool, true, false, ◌&&◌}
use mathlib.Core.List.{List, [], ◌∷◌}
use lib.Dec.{eqb, ltb, leb}
use lib.ListN.{length}
use native.Mathlib.Decide.{dec_lt, ℕ_discrete}
use native.Mathlib.Omega.{arith}
use borrow.Author.Tests.{ltb-true, eq-eqb, ne_eqb}
use Rattle.choice.specs.Pick.{pick}
use Rattle.choice.proofs.Branch.{by_test, taken, left}
use Rattle.choice.proofs.Tests.{and_first}
use Rattle.refusals.specs.Refusals.{not_refused}
use Rattle.session.specs.declared.Session.{Session}
use Rattle.session.specs.declared.After.{After}
use Rattle.session.specs.Session.{sound, Sound, Narrow}
use Rattle.session.specs.Events.{Event, step, run}
use Rattle.session.proofs.SoundMeans.{sound_means, means_sound}
use Rattle.session.proofs.Steps.{step_narrow}
use Rattle.record.specs.declared.Loaded.{Loaded}
use Rattle.record.specs.Record.{encoded, stored_in, decoded}
use Rattle.record.specs.Loaded.{load, store_octets}
use Rattle.row.specs.Limiting.{most_sessions}
use Rattle.row.specs.Row.{session_at, all_sound, in_row, event_in, event_at}
use Rattle.row.proofs.EventCases.{numbered_own}
use Rattle.row.proofs.Found.{sound_at}
use Rattle.promises.specs.Records.{record_run, AllNumbered}
use Rattle.promises.specs.Rows.{TotalledRow, RowEvent, own_step, row_step, row_then, row_run, EqualWalk}
use Rattle.promises.specs.RowRecords.{RowNumbered, AllNarrow, NarrowOverRows, events_of, RowIsRun, RowRecordsFollow}
use Rattle.promises.proofs.Records.{holds, run_holds, records_follow}
use Rattle.promises.proofs.Rows.{at_set, others_stay, rows_length, row_by, then_sound, outside_then}
use Rattle.promises.proofs.RowTotals.{own_inside, totals_stay_equal}

-- ---- the events of one session
all_numbered : (at : ℕ) (w : TotalledRow) (es : List RowEvent) → RowNumbered es → AllNumbered (events_of at w es)
all_numbered at w [] k = tt
all_numbered at w (e ∷ es) k =
    let rest = all_numbered at (row_then w e) es k.1 in
    by_test AllNumbered (λ _. (numbered_own e.event _ e.area (length e.room) k.0, rest)) (λ _. rest)

-- ---- numbers of 32 bits
own_narrow : (row : List Session) (e : RowEvent) → AllNarrow row → e.event.number < 2 ^ 32 → Narrow (own_step row e).session
unfolding event_at
own_narrow row e n k =
    let s = session_at row e.at in
    by_test Fits
    (λ i. by_test Fits
    (λ h. step_narrow s (sound_means s (sound_at row e.at h (ltb-true e.at (length row) (and_first (ltb e.at (length row)) _ i)))) (n e.at)
    (event_in row e.event e.limits e.area (length e.room)) (numbered_own e.event _ e.area (length e.room) k))
    (λ _. n e.at))
    (λ _. n e.at)
  where
    Fits : After → Type 0
    Fits after = Narrow after.session

module _ (w : TotalledRow) (e : RowEvent) (n : AllNarrow w.sessions) (k : e.event.number < 2 ^ 32) where
  then_narrow : AllNarrow (row_then w e).sessions
  then_narrow at = go (ℕ_discrete at e.at) (dec_lt e.at (length w.sessions))
    where
      go : Dec (at ≡ e.at) → Dec (e.at < length w.sessions) → Narrow (session_at (row_then w e).sessions at)
      go (no d) _ = subst Narrow (sym (others_stay w e at d)) (n at)
      go (yes same) (yes l) =
          subst Narrow (sym (ap (session_at (row_then w e).sessions) same ∙ at_set w.sessions e.at (row_step w e).session l))
          (row_by Narrow w e (n e.at) (own_narrow w.sessions e n k))
      go (yes same) (no d) = subst Narrow (sym (ap (λ (r : TotalledRow). session_at r.sessions at) (outside_then w e (omega arith)))) (n at)

pub narrow_over_rows : NarrowOverRows
narrow_over_rows w [] n k = n
narrow_over_rows w (e ∷ es) n k = narrow_over_rows (row_then w e) es (then_narrow w e n k.0) k.1

-- ---- the session is the one that its own events lead to
module _ (w : TotalledRow) (e : RowEvent) (at : ℕ) (h : all_sound w.sessions ≡ true) (q : EqualWalk w) (i : in_row w.sessions at ≡ true) where
  own_step_law : e.at ≡ at → session_at (row_then w e).sessions at ≡ (step (session_at w.sessions at) (event_in w.sessions e.event e.limits e.area (length e.room))).session
  unfolding event_at
  own_step_law same =
      let row = w.sessions in
      let inside : at < length row = ltb-true at (length row) (and_first (ltb at (length row)) _ i) in
      ap (session_at (row_then w e).sessions) (sym same) ∙ at_set row e.at (row_step w e).session (rw same inside)
      ∙ ap (λ (a : After). a.session) (own_inside w e q ∙ taken _ _ (rw same i) ∙ taken _ _ h)
      ∙ ap (λ (k : ℕ). (step (session_at row k) (event_in row e.event e.limits e.area (length e.room))).session) same

  still_in : in_row (row_then w e).sessions at ≡ true
  still_in = ap (λ (n : ℕ). ltb at n && leb n most_sessions) (rows_length w e) ∙ i

pub row_is_run : RowIsRun
row_is_run w [] at h q i = refl
row_is_run w (e ∷ es) at h q i = row_is_run (row_then w e) es at (then_sound w e h) (totals_stay_equal w e q) (still_in w e at h q i) ∙ go (ℕ_discrete e.at at)
  where
    rest : List Event
    rest = events_of at (row_then w e) es

    own : Event
    own = event_in w.sessions e.event e.limits e.area (length e.room)

    go : Dec (e.at ≡ at) → run (session_at (row_then w e).sessions at) rest ≡ run (session_at w.sessions at) (pick (eqb e.at at) (own ∷ rest) rest)
    go (yes same) =
        ap (λ (s : Session). run s rest) (own_step_law w e at h q i same) ∙ sym (ap (run (session_at w.sessions at)) (taken (own ∷ rest) rest (eq-eqb e.at at same)))
    go (no d) =
        ap (λ (s : Session). run s rest) (others_stay w e at (λ q. d (sym q)))
        ∙ sym (ap (run (session_at w.sessions at)) (left (own ∷ rest) rest (ne_eqb e.at at d)))

-- ---- and so is its record
record LoadedFrom (l : List ℕ) (s : Session) : Type 0 where
  pub is_sound : sound (decoded l) ≡ true
  pub holds_it : decoded l ≡ s

loaded_from : (l : List ℕ) (s : Session) → load l ≡ record { refusal = not_refused; session = s } → LoadedFrom l s
unfolding load
loaded_from l s = go (sound (decoded l)) refl
  where
    go : (x : Bool) → sound (decoded l) ≡ x → load l ≡ record { refusal = not_refused; session = s } → LoadedFrom l s
    go true h q = record { is_sound = h; holds_it = ap (λ (z : Loaded). z.session) (sym (taken _ _ h) ∙ q) }
    go false h q = absurd (omega (arith, ap (λ (z : Loaded). z.refusal) (sym (left _ _ h) ∙ q)))

pub row_records_follow : RowRecordsFollow
unfolding store_octets stored_in
row_records_follow w es at l h e i o k q =
    let from = loaded_from l (session_at w.sessions at) q in
    let events = events_of at w es in
    let numbers = all_numbered at w es k in
    let first = holds l o from.is_sound in
    let last = run_holds l events first numbers in
    let is : decoded (record_run l events) ≡ session_at (row_run w es).sessions at =
    records_follow l events o from.is_sound numbers ∙ ap (λ (s : Session). run s events) from.holds_it ∙ sym (row_is_run w es at h e i) in
    taken _ _ (means_sound (session_at (row_run w es).sessions at) (subst Sound is last.is_sound)) ∙ taken _ _ (eq-eqb _ _ first.is_long) ∙ ap encoded (sym is) ∙ last.is_stored
