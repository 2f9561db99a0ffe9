-- Rows of sessions with their totals: sound rows stay sound, an event touches one session, counts follow what is gained and lost, and what is refused changes
-- nothing. By the laws of one event and of one place in a list, and induction over the row and the events. Assumes nothing.
use Prim.Native.Nat.{ℕ, zero, suc, ◌+◌, ◌-◌, ◌<◌, ◌≤◌}
use mathlib.Core.Path.{◌≡◌, refl, ap, ap₂, ◌∙◌}
use mathlib.Core.Bool.{Bool, true, false, not, ◌&&◌}
use mathlib.Core.List.{List, [], ◌∷◌}
use lib.ListN.{length, set, length-set}
use lib.Seq.{get_or-set_same, get_or-set_other, set-get_or}
use lib.Dec.{leb}
use native.Mathlib.Decide.{dec_lt}
use native.Mathlib.Nat.{zero-add}
use native.Mathlib.Omega.{arith}
use borrow.Author.Tests.{le-ltb}
use Rattle.choice.specs.Pick.{pick}
use Rattle.choice.proofs.Branch.{by_test, left}
use Rattle.choice.proofs.Tests.{and_first, and_second, and_both}
use Rattle.sets.specs.Set.{has, common, union}
use Rattle.sets.proofs.Members.{has_none, union_none}
use Rattle.refusals.specs.Refusals.{not_refused}
use Rattle.kinds.specs.Kinds.{known_application, is_in}
use Rattle.session.specs.declared.Session.{Session}
use Rattle.session.specs.declared.After.{After}
use Rattle.session.specs.Session.{Sound, sound}
use Rattle.session.specs.With.{no_session}
use Rattle.session.specs.Limits.{used}
use Rattle.session.specs.Decisions.{refused}
use Rattle.session.proofs.SoundMeans.{sound_means, means_sound}
use Rattle.session.proofs.Steps.{step_sound, step_bare}
use Rattle.totals.specs.declared.Totals.{Totals}
use Rattle.totals.specs.declared.Totalled.{Totalled}
use Rattle.totals.proofs.Laws.{Happens, totalled_by_law, totals_stay, totalled_still}
use Rattle.row.specs.Limiting.{most_sessions}
use Rattle.row.specs.Row.{session_at, uses, once, how_many, count, all_sound, in_row, event_in, event_at, outside}
use Rattle.row.proofs.Tallied.{refused_outside, room_stays}
use Rattle.row.proofs.Found.{sound_at}
use Rattle.row.proofs.HowMany.{how_many_set}
use Rattle.promises.specs.Rows.{TotalledRow, RowEvent, own_step, totalled_step, row_step, row_then, row_run, SoundOverRows, OthersStay, RowRefusedIsNothing, gains, losses, gained_by, lost_by, IsFresh, AllFresh, CountsFollow}

-- ---- one place of a row
pub at_set : (row : List Session) (at : ℕ) (s : Session) → at < length row → session_at (set row at s) at ≡ s
at_set row at s l = get_or-set_same row at s no_session l

pub others_stay : OthersStay
others_stay w e k d = get_or-set_other w.sessions e.at k (row_step w e).session no_session d

pub rows_length : (w : TotalledRow) (e : RowEvent) → length (row_then w e).sessions ≡ length w.sessions
rows_length w e = length-set w.sessions e.at (row_step w e).session

-- an event that leaves the session and the totals leaves the row
module _ (w : TotalledRow) (e : RowEvent) where
  pub then_same : (row_step w e).session ≡ session_at w.sessions e.at → (row_then w e).totals ≡ w.totals → row_then w e ≡ w
  then_same session totals =
      ap₂ (λ (l : List Session) (t : Totals). record { sessions = l; totals = t }) (ap (set w.sessions e.at) session ∙ set-get_or w.sessions e.at no_session) totals

  -- outside there is no session, and none after the event
  past_row : length w.sessions ≤ e.at → in_row w.sessions e.at ≡ false
  past_row past = ap (λ (b : Bool). b && leb (length w.sessions) most_sessions) (le-ltb e.at (length w.sessions) past)

  outside_step : length w.sessions ≤ e.at → totalled_step w e ≡ record { session = session_at w.sessions e.at; answer = outside w.totals }
  outside_step past = refused_outside w.sessions e.at e.event e.limits e.area w.totals (past_row past) (length e.room)

  pub outside_then : length w.sessions ≤ e.at → row_then w e ≡ w
  outside_then past = then_same (ap (λ (a : Totalled). a.session) (outside_step past)) (ap (λ (a : Totalled). a.answer.totals) (outside_step past))

-- ---- sound rows
sound_set : (row : List Session) (at : ℕ) (s : Session) → all_sound row ≡ true → (at < length row → sound s ≡ true) → all_sound (set row at s) ≡ true
unfolding all_sound
sound_set [] at s h f = refl
sound_set (x ∷ row) zero s h f = and_both (sound s) (all_sound row) (f (omega arith)) (and_second (sound x) (all_sound row) h)
sound_set (x ∷ row) (suc at) s h f =
    and_both (sound x) (all_sound (set row at s)) (and_first (sound x) (all_sound row) h)
    (sound_set row at s (and_second (sound x) (all_sound row) h) (λ l. f (omega arith)))

own_sound : (row : List Session) (e : RowEvent) → Sound (session_at row e.at) → Sound (own_step row e).session
unfolding event_at
own_sound row e r =
    by_test Kept (λ _. by_test Kept (λ _. step_sound (session_at row e.at) r (event_in row e.event e.limits e.area (length e.room))) (λ _. r)) (λ _. r)
  where
    Kept : After → Type 0
    Kept after = Sound after.session

-- what holds of the session before an event and of the one after its own holds of the one after it, whatever the totals
pub row_by : (P : Session → Type 0) (w : TotalledRow) (e : RowEvent) → P (session_at w.sessions e.at) → P (own_step w.sessions e).session → P (row_step w e).session
row_by P w e before after =
    totalled_by_law w.totals (session_at w.sessions e.at) (own_step w.sessions e) (λ (t : Totalled). P t.session) (λ _. before) (λ _. after)

row_step_sound : (w : TotalledRow) (e : RowEvent) → Sound (session_at w.sessions e.at) → Sound (row_step w e).session
row_step_sound w e r = row_by Sound w e r (own_sound w.sessions e r)

pub then_sound : (w : TotalledRow) (e : RowEvent) → all_sound w.sessions ≡ true → all_sound (row_then w e).sessions ≡ true
then_sound w e h =
    sound_set w.sessions e.at (row_step w e).session h
    (λ l. means_sound (row_step w e).session (row_step_sound w e (sound_means (session_at w.sessions e.at) (sound_at w.sessions e.at h l))))

pub sound_over_rows : SoundOverRows
sound_over_rows w [] h = h
sound_over_rows w (e ∷ es) h = sound_over_rows (row_then w e) es (then_sound w e h)

-- ---- counts
-- a change of one is a gain, a loss or neither
pub changed_by : (before after : Bool) → once after + once (before && not after) ≡ once before + once (after && not before)
unfolding pick
changed_by true true = refl
changed_by true false = refl
changed_by false true = refl
changed_by false false = refl

-- one place replaced, and the change of what it uses
pub one_place : (c c' a b g l : ℕ) → c' + b ≡ c + a → a + l ≡ b + g → c' + l ≡ c + g
one_place c c' a b g l h k = omega arith

never_both : (b : Bool) → once (b && not b) ≡ 0
unfolding pick
never_both true = refl
never_both false = refl

step_counts : (w : TotalledRow) (e : RowEvent) (n : ℕ) → count (row_then w e).sessions n + once (lost_by w e n) ≡ count w.sessions n + once (gained_by w e n)
step_counts w e n = go (dec_lt e.at (length w.sessions))
  where
    row : List Session
    row = w.sessions

    go : Dec (e.at < length w.sessions) → count (row_then w e).sessions n + once (lost_by w e n) ≡ count w.sessions n + once (gained_by w e n)
    go (yes l) =
        one_place (count w.sessions n) (count (row_then w e).sessions n) (once (uses (row_step w e).session n)) (once (uses (session_at w.sessions e.at) n))
        (once (gained_by w e n)) (once (lost_by w e n))
        (how_many_set (λ s. uses s n) w.sessions e.at (row_step w e).session l) (changed_by (uses (session_at w.sessions e.at) n) (uses (row_step w e).session n))
    go (no d) =
        let past : length w.sessions ≤ e.at = omega arith in
        let s = session_at w.sessions e.at in
        let same : (row_step w e).session ≡ s = ap (λ (a : Totalled). a.session) (outside_step w e past) in
        let lost : once (lost_by w e n) ≡ 0 = ap (λ (z : Session). once (uses s n && not (uses z n))) same ∙ never_both (uses s n) in
        let gained : once (gained_by w e n) ≡ 0 = ap (λ (z : Session). once (uses z n && not (uses s n))) same ∙ never_both (uses s n) in
        let stays : count (row_then w e).sessions n ≡ count w.sessions n = ap (λ (r : TotalledRow). count r.sessions n) (outside_then w e past) in
        rw (lost, gained, stays) refl

one_step : (c c' c'' g l g' l' : ℕ) → c' + l ≡ c + g → c'' + l' ≡ c' + g' → c'' + (l + l') ≡ c + (g + g')
one_step c c' c'' g l g' l' h k = omega arith

run_counts : (w : TotalledRow) (es : List RowEvent) (n : ℕ) → count (row_run w es).sessions n + losses w es n ≡ count w.sessions n + gains w es n
run_counts w [] n = refl
run_counts w (e ∷ es) n =
    one_step (count w.sessions n) (count (row_then w e).sessions n) (count (row_run (row_then w e) es).sessions n) (once (gained_by w e n)) (once (lost_by w e n))
    (gains (row_then w e) es n) (losses (row_then w e) es n) (step_counts w e n) (run_counts (row_then w e) es n)

-- a fresh session is not Open and uses nothing
fresh_uses : (s : Session) (n : ℕ) → IsFresh s → uses s n ≡ false
unfolding is_in used
fresh_uses s n f = ap (λ (z : Session). uses z n) f.made ∙ go (known_application n)
  where
    go : (b : Bool) → (b && has (pick false (common f.enabled 0) 0) (n - 1)) ≡ false
    go true = ap (λ (u : ℕ). has u (n - 1)) (left _ _ refl) ∙ has_none (n - 1)
    go false = refl

-- what is so of no fresh session is so of none of a row of them
pub fresh_none : (so : Session → Bool) → ((s : Session) → IsFresh s → so s ≡ false) → (row : List Session) → AllFresh row → how_many so row ≡ 0
unfolding how_many
fresh_none so never [] f = refl
fresh_none so never (s ∷ row) f = ap₂ ◌+◌ (left _ _ (never s f.0)) (fresh_none so never row f.1)

pub counts_follow : CountsFollow
counts_follow w es n f =
    run_counts w es n ∙ ap (λ (c : ℕ). c + gains w es n) (fresh_none (λ s. uses s n) (λ s. fresh_uses s n) w.sessions f) ∙ zero-add (gains w es n)

-- ---- what is refused changes nothing
-- neither by itself
pub own_bare : (row : List Session) (e : RowEvent) → ((own_step row e).answer.refusal ≡ not_refused → ⊥) → own_step row e ≡ refused (session_at row e.at) (own_step row e).answer.refusal
unfolding event_at
own_bare row e =
    by_test Bare (λ _. by_test Bare (λ _. step_bare s (event_in row e.event e.limits e.area (length e.room))) (λ _ _. refl)) (λ _ _. refl)
  where
    s : Session
    s = session_at row e.at

    Bare : After → Type 0
    Bare after = (after.answer.refusal ≡ not_refused → ⊥) → after ≡ refused s after.answer.refusal

-- and then the totals are not asked
pub own_refused : (w : TotalledRow) (e : RowEvent) (n : ℕ) → own_step w.sessions e ≡ refused (session_at w.sessions e.at) n
    → totalled_step w e ≡ Happens w.totals (session_at w.sessions e.at) (own_step w.sessions e) w.totals
own_refused w e n bare =
    totalled_still w.totals (session_at w.sessions e.at) (own_step w.sessions e) (ap (λ (a : After). union a.answer.lost a.answer.gained) bare ∙ union_none 0)

-- nor where they refuse it
row_bare : (w : TotalledRow) (e : RowEvent) → ((row_step w e).answer.refusal ≡ not_refused → ⊥)
    → totalled_step w e ≡ record { session = session_at w.sessions e.at; answer = record { answer = (refused (session_at w.sessions e.at) (row_step w e).answer.refusal).answer; totals = w.totals } }
row_bare w e =
    totalled_by_law w.totals s (own_step w.sessions e) Bare (λ _ _. refl)
    (λ _ h.
    let bare = own_bare w.sessions e h in
    ap₂ (λ (a : After) (t : Totals). record { session = a.session; answer = record { answer = a.answer; totals = t } }) bare
    (totals_stay w.totals _ _ (ap (λ (a : After). union a.answer.lost a.answer.gained) bare ∙ union_none 0)))
  where
    s : Session
    s = session_at w.sessions e.at

    Bare : Totalled → Type 0
    Bare t =
        (t.answer.answer.refusal ≡ not_refused → ⊥)
        → t ≡ record { session = s; answer = record { answer = (refused s t.answer.answer.refusal).answer; totals = w.totals } }

pub row_refused_is_nothing : RowRefusedIsNothing
row_refused_is_nothing w e h =
    let bare = row_bare w e h in (
      then_same w e (ap (λ (z : Totalled). z.session) bare) (ap (λ (z : Totalled). z.answer.totals) bare),
      room_stays w.sessions e.at e.event e.limits e.area w.totals e.room (ap (λ (z : Totalled). z.answer.answer.written) bare),
    )
