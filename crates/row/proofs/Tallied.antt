-- A tally of a row has what the row has: whether all are sound, and for each application how many use it, or for each kind how many permit it, as far as a
-- limit or a total can ask: one law over the set that is counted. So an event by the tally is the event of the row. Counts stop at 64 and no limit is over 64,
-- so that fewer than its limit comes out the same. By induction over the row and over the places. Assumes empty_tally.
use Prim.Native.Nat.{ℕ, zero, suc, ◌+◌, ◌-◌, ◌<◌, ◌≤◌, zero-le}
use mathlib.Core.Path.{◌≡◌, refl, sym, ap, ap₂, ◌∙◌}
use mathlib.Core.Bool.{Bool, true, false, ◌&&◌, and-true, and_assoc, false≢true}
use mathlib.Core.List.{List, [], ◌∷◌}
use Rattle.std.specs.Prelude.{Option}
use lib.ListN.{length, get_or, set, get_or-replicate}
use lib.Seq.{set-get_or}
use lib.Dec.{ltb, leb}
use native.Mathlib.Decide.{dec_lt}
use native.Mathlib.Nat.{le_refl, zero-add}
use native.Mathlib.Omega.{arith}
use borrow.Author.Tests.{ltb-true, ltb-false, le-ltb, le-leb, leb-true, lt-leb}
use Rattle.choice.specs.Pick.{pick}
use Rattle.choice.proofs.Branch.{taken, left, by_test, pick_both}
use Rattle.choice.proofs.Tests.{and_second}
use Rattle.sets.specs.Set.{has}
use Rattle.sets.proofs.Members.{union_none}
use Rattle.sets.proofs.Chosen.{chosen_same}
use Rattle.sets.proofs.Switches.{is_numbered, numbered_is}
use Rattle.kinds.specs.Kinds.{application_count, kind_count, known_application, is_in}
use Rattle.refusals.specs.Refusals.{not_refused, not_sound, outside_row}
use Rattle.message.specs.declared.Message.{Message}
use Rattle.message.specs.Message.{room_with}
use Rattle.session.specs.declared.Session.{Session}
use Rattle.session.specs.declared.After.{After}
use Rattle.session.specs.Session.{sound}
use Rattle.session.specs.With.{no_session}
use Rattle.session.specs.Decisions.{refused}
use Rattle.session.specs.Events.{step}
use Rattle.session.specs.Limits.{used}
use Rattle.totals.specs.declared.Totals.{Totals}
use Rattle.totals.specs.declared.Totalled.{Totalled}
use Rattle.totals.specs.Totals.{totalled}
use Rattle.totals.proofs.Laws.{totalled_still}
use Rattle.row.specs.declared.EventNumbers.{EventNumbers}
use Rattle.row.specs.declared.Limits.{Limits}
use Rattle.row.specs.declared.Tally.{Tally}
use Rattle.row.specs.declared.Count.{Count}
use Rattle.row.specs.Limiting.{most_sessions, capped, limit_of}
use Rattle.row.specs.Events.{event_of}
use Rattle.row.specs.Row.{session_at, uses, how_many, count, walk, below_limit, all_sound, is_row, in_row, event_at, event_with, outside, row_after, room_after, not_counted, count_of, walked, not_totalled, recount}
use Rattle.row.specs.Counting.{applications_counted, kinds_counted, noted, times, empty_tally, more, counted, tally, tallied, is_below, below_limit_by, decided_by, room_by, count_by, leading_counts, recount_by}
use Rattle.totals.proofs.Filled.{filled_length, filled_at}
use Rattle.row.proofs.EventCases.{message_same}
use Rattle.row.proofs.HowMany.{same_question, how_many_le}

-- ---- one set of counts
module _ (c : List ℕ) (a : ℕ) where
  counted_length : length (counted c a application_count) ≡ length c
  unfolding counted
  counted_length = filled_length (λ k. more (get_or c k 0) (has a k)) (counted c a) (λ m. refl) application_count

  counted_at : (k : ℕ) → k < application_count → k < length c → get_or (counted c a application_count) k 0 ≡ more (get_or c k 0) (has a k)
  unfolding counted
  counted_at = filled_at (λ k. more (get_or c k 0) (has a k)) (counted c a) (λ m. refl) application_count

-- ---- counts that stop at most_sessions
pub capped_is : (n : ℕ) → n ≤ most_sessions → capped n ≡ n
unfolding capped
capped_is n l = taken _ _ (le-leb n most_sessions l)

capped_most : (n : ℕ) → most_sessions ≤ n → capped n ≡ most_sessions
unfolding capped
capped_most n l = go (dec_lt n (most_sessions + 1))
  where
    go : Dec (n < most_sessions + 1) → pick (leb n most_sessions) n most_sessions ≡ most_sessions
    go (yes h) = let e : n ≡ most_sessions = omega arith in taken _ _ (le-leb n most_sessions (omega arith)) ∙ e
    go (no d) = left _ _ (lt-leb n most_sessions (omega arith))

pub capped_le : (n : ℕ) → capped n ≤ most_sessions
unfolding capped
capped_le n = by_test (λ (m : ℕ). m ≤ most_sessions) (λ h. leb-true n most_sessions h) (λ _. le_refl most_sessions)

more_le : (n : ℕ) (on : Bool) → n ≤ most_sessions → more n on ≤ most_sessions
unfolding more
more_le n true l = by_test (λ (m : ℕ). m ≤ most_sessions) (λ h. let k = ltb-true n most_sessions h in omega arith) (λ _. l)
more_le n false l = by_test (λ (m : ℕ). m ≤ most_sessions) (λ h. absurd (false≢true h)) (λ _. l)

more_capped : (n m : ℕ) (on : Bool) → n ≤ most_sessions → capped (more n on + m) ≡ capped (n + (pick on 1 0 + m))
unfolding more pick
more_capped n m false l = let e : n + (0 + m) ≡ n + m = omega arith in sym (ap capped e)
more_capped n m true l = go (ltb n most_sessions) refl
  where
    go : (t : Bool) → ltb n most_sessions ≡ t → capped (pick t (n + 1) n + m) ≡ capped (n + (1 + m))
    go true h = let e : n + 1 + m ≡ n + (1 + m) = omega arith in ap capped e
    go false h = let k = ltb-false n most_sessions h in capped_most (n + m) (omega arith) ∙ sym (capped_most (n + (1 + m)) (omega arith))

-- less than a limit, stopped or not
capped_ltb : (n m : ℕ) → m ≤ most_sessions → ltb (capped n) m ≡ ltb n m
capped_ltb n m l = go (dec_lt n (most_sessions + 1))
  where
    go : Dec (n < most_sessions + 1) → ltb (capped n) m ≡ ltb n m
    go (yes h) = ap (λ (k : ℕ). ltb k m) (capped_is n (omega arith))
    go (no d) = ap (λ (k : ℕ). ltb k m) (capped_most n (omega arith)) ∙ le-ltb most_sessions m l ∙ sym (le-ltb n m (omega arith))

-- ---- the whole row, of which the set `of` is counted
module _ (of : Session → ℕ) where
  pub tallied_sound : (t : Tally) (row : List Session) → (tallied of t row).sound ≡ t.sound && all_sound row
  unfolding tallied tally all_sound
  tallied_sound t [] = sym (and-true t.sound)
  tallied_sound t (s ∷ row) = tallied_sound (tally of t s) row ∙ and_assoc t.sound (sound s) (all_sound row)

  tallied_times : (t : Tally) (row : List Session) (k : ℕ) → k < application_count → length t.counts ≡ application_count → get_or t.counts k 0 ≤ most_sessions
      → get_or (tallied of t row).counts k 0 ≡ capped (get_or t.counts k 0 + times of row k)
  unfolding tallied tally how_many
  tallied_times t [] k l len small =
      let e : get_or t.counts k 0 + 0 ≡ get_or t.counts k 0 = omega arith in
      sym (ap capped e ∙ capped_is (get_or t.counts k 0) small)
  tallied_times t (s ∷ row) k l len small =
      let n = get_or t.counts k 0 in
      let one = counted_at t.counts (of s) k l (rw len l) in
      tallied_times (tally of t s) row k l (counted_length t.counts (of s) ∙ len) (rw one (more_le n (has (of s) k) small))
      ∙ ap (λ (m : ℕ). capped (m + times of row k)) one ∙ more_capped n (times of row k) (has (of s) k) small

  pub tallied_length : (t : Tally) (row : List Session) → length (tallied of t row).counts ≡ length t.counts
  unfolding tallied tally
  tallied_length t [] = refl
  tallied_length t (s ∷ row) = tallied_length (tally of t s) row ∙ counted_length t.counts (of s)

  -- from nothing counted, to most_sessions
  pub row_times : (row : List Session) (k : ℕ) → k < application_count → get_or (tallied of empty_tally row).counts k 0 ≡ capped (times of row k)
  row_times row k l =
      let start : get_or empty_tally.counts k 0 ≡ 0 = get_or-replicate application_count k 0 0 l in
      tallied_times empty_tally row k l refl (rw start zero-le) ∙ ap capped (ap (λ (m : ℕ). m + times of row k) start ∙ zero-add (times of row k))

-- ---- what is counted is what is asked for
-- applications
times_count : (row : List Session) (n : ℕ) → 1 ≤ n → n ≤ application_count → times (noted applications_counted) row (n - 1) ≡ count row n
unfolding is_in
times_count row n least most =
    same_question _ (λ s. uses s n)
    (λ s. sym (ap (λ (b : Bool). b && has (used s) (n - 1)) (is_numbered application_count n least most))) row

-- kinds
times_walk : (row : List Session) (k : ℕ) → times (noted kinds_counted) row k ≡ walk row k
times_walk row k = refl

-- how many use the application n, to most_sessions
row_count : (row : List Session) (n : ℕ) → 1 ≤ n → n ≤ application_count → get_or (tallied (noted applications_counted) empty_tally row).counts (n - 1) 0 ≡ capped (count row n)
row_count row n least most = row_times (noted applications_counted) row (n - 1) (omega arith) ∙ ap capped (times_count row n least most)

below_limit_law : (row : List Session) (l : Limits) → below_limit_by (tallied (noted applications_counted) empty_tally row) l ≡ below_limit l row
unfolding below_limit_by below_limit
below_limit_law row l =
    chosen_same application_count (is_below (tallied (noted applications_counted) empty_tally row).counts l.each) (λ n. ltb (count row n) (limit_of l n)) application_count
    (λ n least most. ap (λ (m : ℕ). ltb m (limit_of l n)) (row_count row n least most) ∙ capped_ltb (count row n) (limit_of l n) (capped_le _))

-- ---- by the tally
abbrev Tallied : List Session → Tally
Tallied row = tallied (noted applications_counted) empty_tally row

module _ (row : List Session) (at : ℕ) (e : EventNumbers) (l : Limits) (area : List ℕ) where
  pub event_in_row : (room : ℕ) → in_row row at ≡ true → decided_by (session_at row at) (Tallied row) e l area room ≡ event_at row at e l area room
  unfolding decided_by event_at
  event_in_row room inside =
      let s = session_at row at in
      ap (λ (u : ℕ). pick (Tallied row).sound (step s (event_of e u area room)) (refused s not_sound)) (below_limit_law row l)
      ∙ ap (λ (b : Bool). pick b (step s (event_of e (below_limit l row) area room)) (refused s not_sound)) (tallied_sound (noted applications_counted) empty_tally row)
      ∙ sym (taken _ _ inside)

  module _ (t : Totals) where
    pub room_in_row : (room : List ℕ) → in_row row at ≡ true → room_by (session_at row at) (Tallied row) e l t area room ≡ room_after row at e l t area room
    unfolding room_by room_after
    room_in_row room inside =
        let s = session_at row at in
        ap₂ (λ (a : After) (m : Option Message). room_with (totalled t s a).answer.answer.written m room) (event_in_row (length room) inside) (message_same e (below_limit l row) area (length room) s)

    -- where nothing was written the room stays
    pub room_stays : (room : List ℕ) → (event_with row at e l t area (length room)).answer.answer.written ≡ 0 → room_after row at e l t area room ≡ room
    unfolding room_after room_with
    room_stays room none = left _ _ (ap (λ (w : ℕ). ltb 0 w) none)

    -- ---- where there is no such session: nothing changes
    module _ (none : in_row row at ≡ false) where
      pub refused_outside : (room : ℕ) → event_with row at e l t area room ≡ record { session = session_at row at; answer = outside t }
      unfolding event_at
      refused_outside room = ap (totalled t (session_at row at)) (left _ _ none) ∙ totalled_still t (session_at row at) (refused (session_at row at) outside_row) (union_none 0)

      pub outside_answer : (room : ℕ) → outside t ≡ (event_with row at e l t area room).answer
      outside_answer room = sym (ap (λ (a : Totalled). a.answer) (refused_outside room))

      pub outside_row_law : (room : ℕ) → row ≡ row_after row at e l t area room
      outside_row_law room = sym (ap (λ (a : Totalled). set row at a.session) (refused_outside room) ∙ set-get_or row at no_session)

      pub outside_room : (room : List ℕ) → room ≡ room_after row at e l t area room
      outside_room room = sym (room_stays room (ap (λ (a : Totalled). a.answer.answer.written) (refused_outside (length room))))

-- a row has no more sessions than it may
row_few : (row : List Session) → is_row row ≡ true → length row ≤ most_sessions
row_few row h = leb-true (length row) most_sessions (and_second (ltb 0 (length row)) (leb (length row) most_sessions) h)

-- ---- the count that is asked for
pub count_in_row : (row : List Session) (n : ℕ) → is_row row ≡ true → count_by (Tallied row) n ≡ count_of row n
unfolding count_by count_of
count_in_row row n h =
    rw (tallied_sound (noted applications_counted) empty_tally row)
    (pick_both ◌≡◌ (all_sound row)
    (λ _. pick_both ◌≡◌ (known_application n) (λ k. let l = numbered_is application_count n k in ap found (row_count row n l.0 l.1 ∙ capped_is (count row n) small)) (λ _. refl))
    (λ _. refl))
    ∙ sym (taken _ _ h)
  where
    found : ℕ → Count
    found m = record { refusal = not_refused; count = m }

    small : count row n ≤ most_sessions
    small = let c = how_many_le (λ s. uses s n) row in let r = row_few row h in omega arith

pub not_counted_law : (row : List Session) (n : ℕ) → is_row row ≡ false → not_counted outside_row ≡ count_of row n
unfolding count_of
not_counted_law row n h = sym (left _ _ h)

-- ---- the totals that are asked for
-- the counts of the ten kinds are those of the walk
leading_walked : (row : List Session) → length row ≤ most_sessions → (m : ℕ) → m ≤ kind_count → leading_counts (tallied (noted kinds_counted) empty_tally row).counts m ≡ walked row m
unfolding leading_counts walked
leading_walked row few zero l = refl
leading_walked row few (suc m) l =
    let c = how_many_le (λ s. has (noted kinds_counted s) m) row in
    ap₂ (λ (list : List ℕ) (n : ℕ). set list m n) (leading_walked row few m (omega arith))
    (row_times (noted kinds_counted) row m (omega arith) ∙ capped_is (times (noted kinds_counted) row m) (omega arith) ∙ times_walk row m)

pub recount_in_row : (row : List Session) → is_row row ≡ true → recount_by (tallied (noted kinds_counted) empty_tally row) ≡ recount row
unfolding recount_by recount
recount_in_row row h =
    rw (tallied_sound (noted kinds_counted) empty_tally row)
    (pick_both ◌≡◌ (all_sound row)
    (λ _. ap (λ (list : List ℕ). record { refusal = not_refused; totals = record { each = list } }) (leading_walked row (row_few row h) kind_count (le_refl kind_count))) (λ _. refl))
    ∙ sym (taken _ _ h)

pub not_totalled_law : (row : List Session) → is_row row ≡ false → not_totalled outside_row ≡ recount row
unfolding recount
not_totalled_law row h = sym (left _ _ h)
