-- Totals that are kept with a row: what an event loses and gains is the difference of what its session permits before and after it, so totals that equal the
-- walk's move as the walk does, and never go outside, a row having 64 sessions at the most. By the law of one place in a row, at each of the ten kinds, and
-- induction over the events. Assumes nothing.
use Prim.Native.Nat.{ℕ, ◌+◌, ◌<◌}
use mathlib.Core.Path.{◌≡◌, refl, sym, ap, ap₂, ◌∙◌, subst}
use mathlib.Core.Bool.{Bool, true, false, not, ◌&&◌, true≢false}
use mathlib.Core.Logic.{⊎_elim}
use mathlib.Core.List.{List, [], ◌∷◌}
use lib.ListN.{length, set, get_or-replicate}
use lib.Dec.{ltb, leb, lit<}
use native.Mathlib.Decide.{dec_lt}
use native.Mathlib.Omega.{arith}
use borrow.Author.Tests.{ltb-true, leb-true, lt-ltb, not-true}
use Rattle.choice.specs.Pick.{pick}
use Rattle.choice.proofs.Branch.{by_test, taken, left}
use Rattle.choice.proofs.Tests.{and_first, and_second}
use Rattle.sets.specs.Set.{has, union}
use Rattle.sets.proofs.Members.{has_minus, has_none, union_none}
use Rattle.refusals.specs.Refusals.{not_refused, total_outside, outside_row, not_sound}
use Rattle.kinds.specs.Kinds.{kind_count}
use Rattle.session.specs.declared.Session.{Session}
use Rattle.session.specs.declared.After.{After}
use Rattle.session.specs.Session.{permitted}
use Rattle.session.specs.Decisions.{refused}
use Rattle.session.proofs.Steps.{Moves, refused_moves, step_moves, step_refusal}
use Rattle.session.proofs.Shapes.{ready_permits}
use Rattle.totals.specs.declared.Totals.{Totals}
use Rattle.totals.specs.declared.Totalled.{Totalled}
use Rattle.totals.specs.Totals.{total_of, total_after, goes_outside, any_outside, totals_after, kind_total}
use Rattle.totals.proofs.Laws.{Happens, outside_where, lowered_outside, raised_outside, stays_inside, stay_inside, after_length, after_at, some_outside, is_outside, all_inside, totalled_by_law, totalled_inside}
use Rattle.row.specs.declared.RowTotals.{RowTotals}
use Rattle.row.specs.Limiting.{most_sessions}
use Rattle.row.specs.Row.{session_at, once, walk, walk_totals, all_sound, is_row, in_row, event_in, event_at, recount}
use Rattle.row.proofs.HowMany.{how_many_le, how_many_lt, how_many_some, how_many_set}
use Rattle.row.proofs.Walked.{walk_length, walk_at, are_the_walk}
use Rattle.promises.specs.Rows.{TotalledRow, RowEvent, own_step, totalled_step, row_step, row_then, row_run, EqualWalk, IsFresh, AllFresh}
use Rattle.promises.specs.RowTotals.{OwnRefusalsFirst, OwnUnlessOutside, TakesOutside, OutsideMeans, TotalsStayEqual, NeverOutside, starts_with, TotalsFollow, RecountIsWalk, RecountIsKept}
use Rattle.promises.proofs.Rows.{changed_by, one_place, outside_then, own_bare, own_refused, fresh_none}

-- ---- 16 comes last
pub own_refusals_first : OwnRefusalsFirst
own_refusals_first w e h =
    let is = own_refused w e _ (own_bare w.sessions e h) in
    (ap (λ (t : Totalled). record { session = t.session; answer = t.answer.answer }) is, ap (λ (t : Totalled). t.answer.totals) is)

pub own_unless_outside : OwnUnlessOutside
own_unless_outside w e =
    totalled_by_law w.totals (session_at w.sessions e.at) (own_step w.sessions e)
    (λ (t : Totalled). (t.answer.answer.refusal ≡ total_outside → ⊥) → record { session = t.session; answer = t.answer.answer } ≡ own_step w.sessions e)
    (λ _ h. absurd (h refl)) (λ _ _. refl)

-- ---- a total by what was permitted before and is after
moves_so : (b a : Bool) (c c' : ℕ) → c' + once (b && not a) ≡ c + once (a && not b) → total_after c (b && not a) (a && not b) ≡ c'
unfolding total_after pick
moves_so true true c c' h = omega arith
moves_so true false c c' h = omega arith
moves_so false true c c' h = omega arith
moves_so false false c c' h = omega arith

-- ---- one event by itself
module _ (row : List Session) (e : RowEvent) where
  abbrev before : Session
  before = session_at row e.at

  abbrev after : Session
  after = (own_step row e).session

  moves : Moves before (own_step row e)
  unfolding event_at
  moves =
      by_test (Moves before)
      (λ _. by_test (Moves before) (λ _. step_moves before (event_in row e.event e.limits e.area (length e.room))) (λ _. refused_moves before not_sound))
      (λ _. refused_moves before outside_row)

  lost_at : (k : ℕ) → has (own_step row e).answer.lost k ≡ has (permitted before) k && not (has (permitted after) k)
  lost_at k = ap (λ (s : ℕ). has s k) moves.lost ∙ has_minus (permitted before) (permitted after) k

  gained_at : (k : ℕ) → has (own_step row e).answer.gained k ≡ has (permitted after) k && not (has (permitted before) k)
  gained_at k = ap (λ (s : ℕ). has s k) moves.gained ∙ has_minus (permitted after) (permitted before) k

  -- in a row the walk has one to lose, and room for one to gain
  walk_inside : in_row row e.at ≡ true → (k : ℕ) → goes_outside (walk row k) (has (own_step row e).answer.lost k) (has (own_step row e).answer.gained k) ≡ false
  walk_inside inside k =
      let l = ltb-true e.at (length row) (and_first (ltb e.at (length row)) (leb (length row) most_sessions) inside) in
      let few = leb-true (length row) most_sessions (and_second (ltb e.at (length row)) (leb (length row) most_sessions) inside) in
      let most = how_many_le (λ s. has (permitted s) k) row in
      stays_inside (walk row k) _ _
      (λ lost. (how_many_some (λ s. has (permitted s) k) row e.at l (and_first _ _ (sym (lost_at k) ∙ lost)), omega arith))
      (λ gained.
      let less = how_many_lt (λ s. has (permitted s) k) row e.at l (not-true _ (and_second (has (permitted after) k) _ (sym (gained_at k) ∙ gained))) in
      omega arith)

  -- and a total moves as the walk does
  walk_moves : e.at < length row → (k : ℕ)
      → total_after (walk row k) (has (own_step row e).answer.lost k) (has (own_step row e).answer.gained k) ≡ walk (set row e.at after) k
  walk_moves l k =
      let b = has (permitted before) k in
      let a = has (permitted after) k in
      let moved =
      one_place (walk row k) (walk (set row e.at after) k) (once a) (once b) (once (a && not b)) (once (b && not a)) (how_many_set (λ s. has (permitted s) k) row e.at after l) (changed_by b a) in
      ap₂ (total_after (walk row k)) (lost_at k) (gained_at k) ∙ moves_so b a (walk row k) (walk (set row e.at after) k) moved

  own_outside : in_row row e.at ≡ false → own_step row e ≡ refused before outside_row
  unfolding event_at
  own_outside none = left _ _ none

  -- 16 is none of its own refusals
  own_refusal : (own_step row e).answer.refusal < total_outside
  unfolding event_at
  own_refusal =
      by_test (λ (a : After). a.answer.refusal < total_outside)
      (λ _. by_test (λ (a : After). a.answer.refusal < total_outside) (λ _. step_refusal before (event_in row e.event e.limits e.area (length e.room))) (λ _. lit< tt))
      (λ _. lit< tt)

-- ---- exactly when it is refused with 16
module _ (w : TotalledRow) (e : RowEvent) where
  abbrev alone : After
  alone = own_step w.sessions e

  abbrev Outside : Bool
  Outside = any_outside w.totals alone.answer.lost alone.answer.gained

  stopped : (row_step w e).answer.refusal ≡ total_outside → Outside ≡ true
  stopped =
      totalled_by_law w.totals (session_at w.sessions e.at) alone (λ (t : Totalled). t.answer.answer.refusal ≡ total_outside → Outside ≡ true)
      (λ out _. out) (λ _ h. let few = own_refusal w.sessions e in absurd (omega arith))

  takes_outside : Outside ≡ true → TakesOutside w e
  takes_outside out =
      let found = some_outside w.totals alone.answer.lost alone.answer.gained out in
      record { kind = found.0; is_kind = found.1.0; outside = outside_where _ _ _ found.1.1 }

  -- what is gained is not lost
  not_lost : (k : ℕ) → has alone.answer.gained k ≡ true → has alone.answer.lost k ≡ false
  not_lost k gained =
      let b = has (permitted (session_at w.sessions e.at)) k in
      let none : b ≡ false = not-true _ (and_second (has (permitted alone.session) k) _ (sym (gained_at w.sessions e k) ∙ gained)) in
      lost_at w.sessions e k ∙ ap (λ (x : Bool). x && not (has (permitted alone.session) k)) none

  is_taken : TakesOutside w e → Outside ≡ true
  is_taken t =
      is_outside w.totals _ _ t.kind t.is_kind
      (⊎_elim
      (λ lost. ap (λ (x : Bool). goes_outside (total_of w.totals t.kind) x (has alone.answer.gained t.kind)) lost.0 ∙ lowered_outside _ _ lost.1)
      (λ gained. ap₂ (goes_outside (total_of w.totals t.kind)) (not_lost t.kind gained.0) gained.0 ∙ raised_outside _ gained.1)
      t.outside)

  refused_so : Outside ≡ true → (row_step w e).answer.refusal ≡ total_outside
  refused_so out =
      totalled_by_law w.totals (session_at w.sessions e.at) alone (λ (t : Totalled). t.answer.answer.refusal ≡ total_outside) (λ _. refl) (λ inside. absurd (true≢false (sym out ∙ inside)))

pub outside_means : OutsideMeans
outside_means w e = ((λ h. takes_outside w e (stopped w e h)), (λ t. refused_so w e (is_taken w e t)))

-- ---- totals that equal the walk's
module _ (w : TotalledRow) (e : RowEvent) (q : EqualWalk w) where
  abbrev own : After
  own = own_step w.sessions e

  none_outside : any_outside w.totals own.answer.lost own.answer.gained ≡ false
  none_outside = go (in_row w.sessions e.at) refl
    where
      go : (b : Bool) → in_row w.sessions e.at ≡ b → any_outside w.totals own.answer.lost own.answer.gained ≡ false
      go true inside = all_inside w.totals _ _ (λ k l. rw (q.each k l) (walk_inside w.sessions e inside k))
      go false none = stay_inside w.totals _ _ (ap (λ (a : After). union a.answer.lost a.answer.gained) (own_outside w.sessions e none) ∙ union_none 0)

  happens : totalled_step w e ≡ Happens w.totals (session_at w.sessions e.at) own (totals_after w.totals own.answer.lost own.answer.gained)
  happens = totalled_inside w.totals (session_at w.sessions e.at) own none_outside

  -- so the event is its own
  pub own_inside : row_step w e ≡ own
  own_inside = ap (λ (t : Totalled). record { session = t.session; answer = t.answer.answer }) happens

  moved_totals_law : (row_then w e).totals ≡ totals_after w.totals own.answer.lost own.answer.gained
  moved_totals_law = ap (λ (t : Totalled). t.answer.totals) happens

  moved_sessions : (row_then w e).sessions ≡ set w.sessions e.at own.session
  moved_sessions = ap (λ (t : Totalled). set w.sessions e.at t.session) happens

  still_equal : e.at < length w.sessions → EqualWalk (row_then w e)
  still_equal inside =
      record {
        ten = ap (λ (t : Totals). length t.each) moved_totals_law ∙ after_length w.totals _ _ ∙ q.ten;
        each = λ k l.
            ap (λ (t : Totals). total_of t k) moved_totals_law ∙ after_at w.totals _ _ k l (rw q.ten l)
            ∙ ap (λ (n : ℕ). total_after n (has own.answer.lost k) (has own.answer.gained k)) (q.each k l)
            ∙ walk_moves w.sessions e inside k ∙ ap (λ (r : List Session). walk r k) (sym moved_sessions);
      }

pub totals_stay_equal : TotalsStayEqual
totals_stay_equal w e q = go (dec_lt e.at (length w.sessions))
  where
    go : Dec (e.at < length w.sessions) → EqualWalk (row_then w e)
    go (yes l) = still_equal w e q l
    go (no d) = subst EqualWalk (sym (outside_then w e (omega arith))) q

pub never_outside : NeverOutside
never_outside w e q h = let few = own_refusal w.sessions e in let is = sym (ap (λ (a : After). a.answer.refusal) (own_inside w e q)) ∙ h in omega arith

-- ---- from totals of 0 over fresh sessions
fresh_permits : (s : Session) → IsFresh s → permitted s ≡ 0
fresh_permits s f = ap permitted f.made ∙ ready_permits _ refl

begins : (row : List Session) → AllFresh row → EqualWalk (starts_with row)
begins row f =
    record {
      ten = refl;
      each = λ k l.
          get_or-replicate kind_count k 0 0 l
          ∙ sym (fresh_none (λ s. has (permitted s) k) (λ s g. ap (λ (p : ℕ). has p k) (fresh_permits s g) ∙ has_none k) row f);
    }

over_events : (w : TotalledRow) (es : List RowEvent) → EqualWalk w → EqualWalk (row_run w es)
over_events w [] q = q
over_events w (e ∷ es) q = over_events (row_then w e) es (totals_stay_equal w e q)

-- the answer to the question
pub asked_walk : (w : TotalledRow) → EqualWalk w → (k : ℕ) → k < kind_count → kind_total w.totals k ≡ record { refusal = not_refused; total = walk w.sessions k }
unfolding kind_total
asked_walk w q k l = taken _ _ (lt-ltb k kind_count l) ∙ ap (λ (n : ℕ). record { refusal = not_refused; total = n }) (q.each k l)

pub totals_follow : TotalsFollow
totals_follow row es f =
    let w = row_run (starts_with row) es in
    let q = over_events (starts_with row) es (begins row f) in
    record { equal_walk = q; answer = asked_walk w q; never_outside = λ e. never_outside w e q }

-- ---- the recount
equal_walk : (row : List Session) → EqualWalk (record { sessions = row; totals = walk_totals row })
equal_walk row = record { ten = walk_length row; each = walk_at row }

counted : (row : List Session) → is_row row ≡ true → all_sound row ≡ true → recount row ≡ record { refusal = not_refused; totals = walk_totals row }
unfolding recount
counted row there all = taken _ _ there ∙ taken _ _ all

pub recount_is_walk : RecountIsWalk
unfolding recount
recount_is_walk row =
    by_test Is (λ _. by_test Is (λ _ _. equal_walk row) (λ _ h. absurd (omega arith))) (λ _ h. absurd (omega arith))
  where
    Is : RowTotals → Type 0
    Is r = r.refusal ≡ not_refused → EqualWalk (record { sessions = row; totals = r.totals })

pub recount_is_kept : RecountIsKept
recount_is_kept w q there all =
    counted w.sessions there all ∙ ap (λ (t : Totals). record { refusal = not_refused; totals = t }) (sym (are_the_walk w.totals w.sessions q.ten q.each))
