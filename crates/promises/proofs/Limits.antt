-- What limits do in a row: outcome 3 leaves the session as a mismatch would; limits decide as asked; none binds before one is set; and where none binds an
-- event is that of the session by itself. Outcome 3 is read off the view of the session's event. Assumes nothing.
use Prim.Native.Nat.{ℕ, ◌+◌, ◌-◌, ◌^◌, ◌<◌, ◌≤◌}
use mathlib.Core.Path.{◌≡◌, refl, sym, ap, ◌∙◌, subst}
use mathlib.Core.Bool.{Bool, true, false, ◌&&◌, and-true, and-false, true≢false}
use mathlib.Core.List.{List}
use lib.ListN.{length, get_or-replicate}
use lib.Dec.{eqb, ltb, leb, lit≤}
use native.Mathlib.Decide.{dec_lt}
use native.Mathlib.Omega.{arith}
use borrow.Author.Tests.{ltb-true, lt-ltb, leb-true, eq-eqb}
use Rattle.choice.specs.Pick.{pick}
use Rattle.choice.proofs.Branch.{by_test, pick_both, taken, left}
use Rattle.choice.proofs.Tests.{and_first, and_second, and_both}
use Rattle.sets.specs.Set.{has, common, empty}
use Rattle.sets.proofs.Bounds.{common_lt}
use Rattle.sets.proofs.Chosen.{chosen_has}
use Rattle.sets.proofs.Found.{member_of}
use Rattle.sets.proofs.Members.{has_common, has_none, has_above, ext}
use Rattle.sets.proofs.Subsets.{empty_lacks}
use Rattle.sets.proofs.Switches.{numbered_is, is_numbered}
use Rattle.kinds.specs.Kinds.{application_count, known_application, is_in}
use Rattle.session.specs.declared.Session.{Session}
use Rattle.session.specs.declared.After.{After}
use Rattle.session.specs.Session.{is_open, in_force, negotiated, nothing_common, sound, Sound}
use Rattle.session.specs.With.{mismatched}
use Rattle.session.specs.Limits.{used, at_limit}
use Rattle.session.specs.Decisions.{outcome_done, outcome_at_limit, answered, settled}
use Rattle.session.specs.Events.{after_initialization, on_initialization, Event, step}
use Rattle.session.proofs.SoundMeans.{sound_means}
use Rattle.session.proofs.Made.{mismatched_shut}
use Rattle.session.proofs.Steps.{initialization_unlimited, away, away_facts, away_shut, away_session, away_answer}
use Rattle.row.specs.declared.Limits.{Limits}
use Rattle.row.specs.Limiting.{most_sessions, no_limits, capped, limit_of}
use Rattle.row.specs.Events.{initialization_number, event_of}
use Rattle.row.specs.Row.{session_at, uses, count, below_limit, all_sound, in_row, event_in, event_at}
use Rattle.row.proofs.EventCases.{admits_own}
use Rattle.totals.specs.declared.Totalled.{Totalled}
use Rattle.totals.proofs.Laws.{totalled_by_law}
use Rattle.row.proofs.Tallied.{capped_is}
use Rattle.row.proofs.Found.{sound_at}
use Rattle.row.proofs.HowMany.{how_many_lt}
use Rattle.promises.specs.Rows.{TotalledRow, RowEvent, own_step, row_step, row_run, opening, TurnedAway, LimitIsMismatch, FindsCommon, BelowLimit, LimitDecides, LimitsDecide, BaseWhereNoLimitBinds, NoLimitBindsUnset}
use Rattle.promises.proofs.RowTotals.{own_inside}

-- ---- outcome 3
module _ (row : List Session) (e : RowEvent) where
  -- the session, and its event
  abbrev one : Session
  one = session_at row e.at

  abbrev own : Event
  own = event_in row e.event e.limits e.area (length e.room)

  one_sound : in_row row e.at ≡ true → all_sound row ≡ true → Sound one
  one_sound inside all_sound =
      sound_means one (sound_at row e.at all_sound (ltb-true e.at (length row) (and_first (ltb e.at (length row)) (leb (length row) most_sessions) inside)))

  record RowAway (after : After) : Type 0 where
    pub inside : in_row row e.at ≡ true
    pub all_sound : all_sound row ≡ true
    pub is : after ≡ step one own

  -- it is the session's own
  away_means : (own_step row e).answer.outcome ≡ outcome_at_limit → RowAway (own_step row e)
  unfolding event_at
  away_means = by_test Means (λ i. by_test Means (λ a _. record { inside = i; all_sound = a; is = refl }) (λ _ h. absurd (omega arith))) (λ _ h. absurd (omega arith))
    where
      Means : After → Type 0
      Means after = after.answer.outcome ≡ outcome_at_limit → RowAway after

  -- the state as in a mismatch
  as_mismatch : (own_step row e).answer.outcome ≡ outcome_at_limit → TurnedAway one (own_step row e)
  as_mismatch h =
      let found = away_means h in
      let r = one_sound found.inside found.all_sound in
      let there = sym (ap (λ (z : After). z.answer.outcome) found.is) ∙ h in
      record {
        session = ap (λ (z : After). z.session) found.is ∙ away_session one r own there;
        answer = ap (λ (z : After). z.answer) found.is ∙ away_answer one r own there;
      }

-- what totals refuse does not end in outcome 3, so an event that does is the event's own
own_at_limit : (w : TotalledRow) (e : RowEvent) → (row_step w e).answer.outcome ≡ outcome_at_limit → row_step w e ≡ own_step w.sessions e
own_at_limit w e =
    totalled_by_law w.totals (one w.sessions e) (own_step w.sessions e)
    (λ (t : Totalled). t.answer.answer.outcome ≡ outcome_at_limit → record { session = t.session; answer = t.answer.answer } ≡ own_step w.sessions e)
    (λ _ h. absurd (omega arith)) (λ _ _. refl)

pub limit_is_mismatch : LimitIsMismatch
limit_is_mismatch w es e h =
    let v = row_run w es in
    let own = own_at_limit v e h in
    subst (TurnedAway (one v.sessions e)) (sym own) (as_mismatch v.sessions e (sym (ap (λ (a : After). a.answer.outcome) own) ∙ h))

-- ---- where no limit binds
pub base_where_no_limit_binds : BaseWhereNoLimitBinds
unfolding event_at event_of
base_where_no_limit_binds w e i f =
    let there = own_inside w e i.equal_walk ∙ taken _ _ i.inside ∙ taken _ _ i.all_sound in
    there
    ∙ pick_both Same (eqb e.event.which initialization_number)
    (λ _. initialization_unlimited (one w.sessions e) e.area (below_limit e.limits w.sessions)) (λ _ _. refl)
    (λ h. f (ap (λ (z : After). z.answer.outcome) there ∙ h))
  where
    Same : Event → Event → Type 0
    Same x y = ((step (one w.sessions e) x).answer.outcome ≡ outcome_at_limit → ⊥) → step (one w.sessions e) x ≡ step (one w.sessions e) y

-- ---- limits decide
-- an application of a set is below its limit: the member that the set shares with those below theirs
module _ (row : List Session) (l : Limits) where
  below_has : (n : ℕ) → 1 ≤ n → n ≤ application_count → has (below_limit l row) (n - 1) ≡ ltb (count row n) (limit_of l n)
  unfolding below_limit
  below_has n least most = chosen_has application_count (λ m. ltb (count row m) (limit_of l m)) application_count n (lit≤ tt) least most

  one_below : (applications n : ℕ) → is_in applications n ≡ true → count row n < limit_of l n → empty (common applications (below_limit l row)) ≡ true → ⊥
  unfolding is_in
  one_below applications n i f h =
      let k = numbered_is application_count n (and_first (known_application n) (has applications (n - 1)) i) in
      true≢false
      (sym (has_common applications (below_limit l row) (n - 1)
      ∙ and_both _ _ (and_second (known_application n) (has applications (n - 1)) i) (below_has n k.0 k.1 ∙ lt-ltb (count row n) (limit_of l n) f))
      ∙ empty_lacks (common applications (below_limit l row)) (n - 1) h)

  -- the same the other way round
  some_below : (applications : ℕ) → applications < 2 ^ application_count → empty (common applications (below_limit l row)) ≡ false
      → (n : ℕ) × ((is_in applications n ≡ true) × (count row n < limit_of l n))
  unfolding is_in
  some_below applications small h =
      let m = member_of application_count (common applications (below_limit l row)) (common_lt application_count applications (below_limit l row) small) h in
      let k = m.place in
      let both = sym (has_common applications (below_limit l row) k) ∙ m.is_in_law in
      let mine = and_first (has applications k) (has (below_limit l row) k) both in
      let place : k + 1 - 1 ≡ k = omega arith in
      let known = is_numbered application_count (k + 1) (omega arith) (within k mine (dec_lt k application_count)) in (
        k + 1,
        (
          and_both (known_application (k + 1)) _ known (rw place mine),
          ltb-true (count row (k + 1)) (limit_of l (k + 1)) (sym (below_has (k + 1) (omega arith) (within k mine (dec_lt k application_count))) ∙ rw place (and_second (has applications k) (has (below_limit l row) k) both)),
        ),
      )
    where
      within : (k : ℕ) → has applications k ≡ true → Dec (k < application_count) → k + 1 ≤ application_count
      within k h (yes l) = omega arith
      within k h (no d) = absurd (true≢false (sym h ∙ has_above application_count applications k small (omega arith)))

module _ (w : TotalledRow) (e : RowEvent) (f : FindsCommon w e) where
  abbrev open_one : Session
  open_one = opening w e

  abbrev below : ℕ
  below = below_limit e.limits w.sessions

  is_sound : sound (one w.sessions e) ≡ true
  is_sound =
      sound_at w.sessions e.at f.in_row_law.all_sound
      (ltb-true e.at (length w.sessions) (and_first (ltb e.at (length w.sessions)) (leb (length w.sessions) most_sessions) f.in_row_law.inside))

  small : negotiated open_one < 2 ^ application_count
  unfolding after_initialization
  small = common_lt application_count (one w.sessions e).enabled open_one.listed (sound_means (one w.sessions e) is_sound).enabled

  together : nothing_common open_one ≡ false
  unfolding nothing_common
  together = ap (λ (b : Bool). in_force open_one && b) f.common ∙ and-false (in_force open_one)

  at_limit_is : at_limit open_one below ≡ empty (common (negotiated open_one) below)
  unfolding at_limit
  at_limit_is = ap (λ (b : Bool). b && empty (common (negotiated open_one) below)) f.in_force_law

  -- only the limit is left to be asked
  asked : row_step w e ≡ pick (at_limit open_one below) (answered (one w.sessions e) (mismatched open_one) outcome_at_limit 0) (answered (one w.sessions e) open_one outcome_done 0)
  unfolding event_at event_of on_initialization settled
  asked =
      own_inside w e f.in_row_law.equal_walk ∙ taken _ _ f.in_row_law.inside ∙ taken _ _ f.in_row_law.all_sound
      ∙ ap (λ (ev : Event). step (one w.sessions e) ev) (taken _ _ (eq-eqb _ _ f.is_initialization))
      ∙ ap (settled (one w.sessions e)) (taken _ _ is_sound ∙ taken _ _ f.ready ∙ taken _ _ (eq-eqb _ _ f.readable))
      ∙ left _ _ together

  open_open : is_open open_one ≡ true
  unfolding after_initialization
  open_open = refl

  decided : (b : Bool) → at_limit open_one below ≡ b → LimitDecides w e
  unfolding answered
  decided true h =
      let none : BelowLimit w e → ⊥ = λ u. one_below w.sessions e.limits (negotiated open_one) u.application u.is_common u.fewer (sym at_limit_is ∙ h) in
      record {
        opens = (
          (λ o. absurd (true≢false (sym open_open ∙ ap is_open (sym o ∙ ap (λ (a : After). a.session) (asked ∙ taken _ _ h)) ∙ mismatched_shut open_one))),
          (λ u. absurd (none u)),
        );
        turns_away = ((λ _. none), (λ _. ap (λ (a : After). a.answer.outcome) (asked ∙ taken _ _ h)));
      }
  decided false h =
      let some = some_below w.sessions e.limits (negotiated open_one) small (sym at_limit_is ∙ h) in
      let u : BelowLimit w e = record { application = some.0; is_common = some.1.0; fewer = some.1.1 } in
      record {
        opens = ((λ _. u), (λ _. ap (λ (a : After). a.session) (asked ∙ left _ _ h)));
        turns_away = ((λ o. absurd (omega (arith, sym (ap (λ (a : After). a.answer.outcome) (asked ∙ left _ _ h)) ∙ o))), (λ none. absurd (none u)));
      }

pub limits_decide : LimitsDecide
limits_decide w e f = decided w e f (at_limit (open_one w e f) (below_limit e.limits w.sessions)) refl

-- ---- none is set
pub shut_uses : (s : Session) (n : ℕ) → is_open s ≡ false → uses s n ≡ false
unfolding used is_in
shut_uses s n h = ap (λ (u : ℕ). known_application n && has u (n - 1)) (left _ _ (ap (λ (b : Bool). b && in_force s) h)) ∙ ap (λ (b : Bool). known_application n && b) (has_none (n - 1)) ∙ and-false (known_application n)

unset : (n : ℕ) → 1 ≤ n → n ≤ application_count → limit_of no_limits n ≡ most_sessions
unset n least most = ap capped (get_or-replicate application_count (n - 1) most_sessions 0 (omega arith)) ∙ capped_is most_sessions (lit≤ tt)

module _ (row : List Session) (e : RowEvent) (u : e.limits ≡ no_limits) (h : (own_step row e).answer.outcome ≡ outcome_at_limit) where
  found : RowAway row e (own_step row e)
  found = away_means row e h

  is_one : Sound (one row e)
  is_one = one_sound row e found.inside found.all_sound

  there : (step (one row e) (own row e)).answer.outcome ≡ outcome_at_limit
  there = sym (ap (λ (z : After). z.answer.outcome) found.is) ∙ h

  few : (n : ℕ) → count row n < most_sessions
  few n =
      let l = ltb-true e.at (length row) (and_first (ltb e.at (length row)) (leb (length row) most_sessions) found.inside) in
      let m = leb-true (length row) most_sessions (and_second (ltb e.at (length row)) (leb (length row) most_sessions) found.inside) in
      let c = how_many_lt (λ s. uses s n) row e.at l (shut_uses (one row e) n (away_shut (one row e) is_one (own row e) there)) in
      omega arith

  -- so every application is below its limit
  all_below : (k : ℕ) → k < application_count → has (below_limit e.limits row) k ≡ true
  all_below k l =
      let place : k + 1 - 1 ≡ k = omega arith in
      let limit : limit_of e.limits (k + 1) ≡ most_sessions = ap (λ (m : Limits). limit_of m (k + 1)) u ∙ unset (k + 1) (omega arith) (omega arith) in
      sym (ap (has (below_limit e.limits row)) place) ∙ below_has row e.limits (k + 1) (omega arith) (omega arith)
      ∙ ap (ltb (count row (k + 1))) limit ∙ lt-ltb (count row (k + 1)) most_sessions (few (k + 1))

  never : ⊥
  unfolding at_limit nothing_common
  never =
      let a = away (one row e) is_one (own row e) there in
      let f = away_facts (one row e) is_one (own row e) there in
      let t = a.session in
      let told : a.below_limit ≡ below_limit e.limits row = admits_own e.event (below_limit e.limits row) e.area (length e.room) (one row e) t a.below_limit f.1 in
      let narrow = common_lt application_count t.enabled t.listed f.0.makes.basic.enabled in
      let whole : common (negotiated t) (below_limit e.limits row) ≡ negotiated t =
      ext application_count _ _ (common_lt application_count (negotiated t) (below_limit e.limits row) narrow) narrow
      (λ k l. has_common (negotiated t) (below_limit e.limits row) k ∙ ap (λ (b : Bool). has (negotiated t) k && b) (all_below k l) ∙ and-true (has (negotiated t) k)) in
      true≢false (sym a.at_limit_law ∙ ap (λ (m : ℕ). in_force t && empty (common (negotiated t) m)) told ∙ ap (λ (m : ℕ). in_force t && empty m) whole ∙ a.common)

pub no_limit_binds_unset : NoLimitBindsUnset
no_limit_binds_unset w e u h = never w.sessions e u (sym (ap (λ (a : After). a.answer.outcome) (own_at_limit w e h)) ∙ h)
