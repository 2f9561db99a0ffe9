-- Condition 3 for a session in a row. The invariant of the two rows: as long, both sound, with totals that equal the walk's, the one session alike in both and,
-- where it is Ready, the same applications under their limits. It is Ready only at the start, where the rows are alike but for it and it uses nothing in either;
-- later an Initialization is refused in both. By the laws of one event, and induction over the events. Assumes nothing.
use Prim.Native.Nat.{ℕ, ◌<◌}
use mathlib.Core.Path.{◌≡◌, refl, sym, ap, ◌∙◌, subst}
use mathlib.Core.Bool.{Bool, true, false, ◌&&◌}
use mathlib.Core.List.{List, [], ◌∷◌}
use lib.ListN.{length, get_or-eq_default}
use lib.Dec.{eqb, ltb, leb}
use native.Mathlib.Decide.{dec_lt, ℕ_discrete}
use native.Mathlib.Omega.{arith}
use borrow.Author.Tests.{eqb-true}
use Rattle.choice.specs.Pick.{pick}
use Rattle.choice.proofs.Branch.{taken, pick_both}
use Rattle.sets.proofs.Chosen.{chosen_same}
use Rattle.session.specs.declared.Session.{Session}
use Rattle.session.specs.declared.After.{After}
use Rattle.session.specs.Session.{Sound, sound, is_ready, is_open}
use Rattle.session.specs.With.{no_session, with_other_enabled}
use Rattle.session.specs.Decisions.{refused}
use Rattle.session.specs.Events.{Event, step}
use Rattle.session.proofs.SoundMeans.{sound_means}
use Rattle.session.proofs.Made.{ready_shut}
use Rattle.session.proofs.Alike.{Alike, Follows}
use Rattle.session.proofs.View.{view}
use Rattle.session.proofs.Steps.{not_ready}
use Rattle.refusals.specs.Refusals.{outside_row}
use Rattle.kinds.specs.Kinds.{application_count}
use Rattle.row.specs.declared.EventNumbers.{EventNumbers}
use Rattle.row.specs.declared.Limits.{Limits}
use Rattle.row.specs.Limiting.{most_sessions, limit_of}
use Rattle.row.specs.Events.{initialization_number, event_of}
use Rattle.row.specs.Row.{session_at, uses, count, below_limit, all_sound, in_row, event_at}
use Rattle.row.proofs.Found.{sound_at}
use Rattle.row.proofs.HowMany.{alike_but_one}
use Rattle.promises.specs.Condition3.{NeverLess}
use Rattle.promises.specs.Rows.{TotalledRow, RowEvent, own_step, row_step, row_then, row_run, EqualWalk}
use Rattle.promises.specs.RowCondition3.{RowPair, StaysOpenAt, RowCondition3}
use Rattle.promises.proofs.Condition3.{alike_less, members}
use Rattle.promises.proofs.Rows.{at_set, others_stay, rows_length, then_sound}
use Rattle.promises.proofs.RowTotals.{own_inside, totals_stay_equal}
use Rattle.promises.proofs.Limits.{shut_uses}

-- ---- one event of the one session: only a Ready session asks which applications are below their limit
asks_none : (s : Session) → is_ready s ≡ false → (ev : EventNumbers) (b b' : ℕ) (area : List ℕ) (room : ℕ) → step s (event_of ev b area room) ≡ step s (event_of ev b' area room)
unfolding event_of
asks_none s h ev b b' area room = pick_both (λ (x y : Event). step s x ≡ step s y) (eqb ev.which initialization_number) (λ _. not_ready s h area b b') (λ _. refl)

-- ---- the two rows
record Both (r t : List Session) (at : ℕ) : Type 0 where
  pub inside : at < length r
  pub same_length : length r ≡ length t
  pub first_sound : all_sound r ≡ true
  pub second_sound : all_sound t ≡ true
  pub like : Alike (session_at r at) (session_at t at)
  pub same_below : is_ready (session_at r at) ≡ true → (l : Limits) → below_limit l r ≡ below_limit l t

module _ (r t : List Session) (at : ℕ) (b : Both r t at) where
  first_is : Sound (session_at r at)
  first_is = sound_means (session_at r at) (sound_at r at b.first_sound b.inside)

  second_is : Sound (session_at t at)
  second_is = sound_means (session_at t at) (sound_at t at b.second_sound (rw (sym b.same_length) b.inside))

  -- the event of the one session
  step_both : (ev : EventNumbers) (l : Limits) (area : List ℕ) (room : ℕ)
      → Follows (step (session_at r at) (event_of ev (below_limit l r) area room)) (step (session_at t at) (event_of ev (below_limit l t) area room))
  step_both ev l area room = subst (Follows (step s (event_of ev (below_limit l r) area room))) (go (is_ready s) refl) same_event
    where
      s : Session
      s = session_at r at

      same_event : Follows (step s (event_of ev (below_limit l r) area room)) (step (session_at t at) (event_of ev (below_limit l r) area room))
      same_event =
          let like = b.like in
          subst (λ (z : Session). Follows (step s (event_of ev (below_limit l r) area room)) (step z (event_of ev (below_limit l r) area room))) (sym like.same_else)
          (view s (session_at t at).enabled (session_at t at).next like.more first_is (subst Sound like.same_else second_is) (event_of ev (below_limit l r) area room)).follows

      go : (x : Bool) → is_ready s ≡ x → step (session_at t at) (event_of ev (below_limit l r) area room) ≡ step (session_at t at) (event_of ev (below_limit l t) area room)
      go true q = ap (λ (m : ℕ). step (session_at t at) (event_of ev m area room)) (b.same_below q l)
      go false q = asks_none (session_at t at) (ap is_ready b.like.same_else ∙ q) ev (below_limit l r) (below_limit l t) area room

  own_event : (ev : EventNumbers) (l : Limits) (area room : List ℕ) → Follows (event_at r at ev l area (length room)) (event_at t at ev l area (length room))
  unfolding event_at
  own_event ev l area room =
      subst (Follows (event_at r at ev l area (length room))) (sym second_step) (subst (λ (z : After). Follows z (in_second (in_row r at))) (sym first_step)
      (pick_both Follows (in_row r at) (λ _. step_both ev l area (length room)) (λ _ _. b.like)))
    where
      in_second : Bool → After
      in_second x = pick x (step (session_at t at) (event_of ev (below_limit l t) area (length room))) (refused (session_at t at) outside_row)

      first_step : event_at r at ev l area (length room) ≡ pick (in_row r at) (step (session_at r at) (event_of ev (below_limit l r) area (length room))) (refused (session_at r at) outside_row)
      first_step = ap (λ (z : After). pick (in_row r at) z (refused (session_at r at) outside_row)) (taken _ _ b.first_sound)

      second_step : event_at t at ev l area (length room) ≡ in_second (in_row r at)
      second_step = ap (λ (z : After). pick (in_row t at) z (refused (session_at t at) outside_row)) (taken _ _ b.second_sound) ∙ ap in_second (ap (λ (k : ℕ). ltb at k && leb k most_sessions) (sym b.same_length))

-- Open is not Ready
open_ready : (s : Session) → is_open s ≡ true → is_ready s ≡ true → ⊥
open_ready s o r = let one = eqb-true s.state 1 o in let none = eqb-true s.state 0 r in omega arith

-- and each with totals that equal the walk's
record BothTotalled (r t : TotalledRow) (at : ℕ) : Type 0 where
  pub rows : Both r.sessions t.sessions at
  pub first_totals : EqualWalk r
  pub second_totals : EqualWalk t

-- every event: the two rows after it
both_after : (r t : TotalledRow) (at : ℕ) (e : RowEvent) → BothTotalled r t at → is_open (session_at (row_then r e).sessions at) ≡ true → BothTotalled (row_then r e) (row_then t e) at
both_after r t at e z o =
    let b = z.rows in
    record {
      rows = record {
        inside = rw (rows_length r e) b.inside;
        same_length = rows_length r e ∙ b.same_length ∙ sym (rows_length t e);
        first_sound = then_sound r e b.first_sound;
        second_sound = then_sound t e b.second_sound;
        like = go (ℕ_discrete at e.at);
        same_below = λ q. absurd (open_ready (session_at (row_then r e).sessions at) o q);
      };
      first_totals = totals_stay_equal r e z.first_totals;
      second_totals = totals_stay_equal t e z.second_totals;
    }
  where
    -- the session of the event is the one that its own event leaves
    own_at : (w : TotalledRow) → EqualWalk w → at ≡ e.at → at < length w.sessions → session_at (row_then w e).sessions at ≡ (own_step w.sessions e).session
    own_at w q same inside =
        ap (session_at (row_then w e).sessions) same ∙ at_set w.sessions e.at (row_step w e).session (rw (sym same) inside)
        ∙ ap (λ (a : After). a.session) (own_inside w e q)

    go : Dec (at ≡ e.at) → Alike (session_at (row_then r e).sessions at) (session_at (row_then t e).sessions at)
    go (yes same) =
        let b = z.rows in
        let first = own_at r z.first_totals same b.inside in
        let second = own_at t z.second_totals same (rw (sym b.same_length) b.inside) in
        let b' : Both r.sessions t.sessions e.at = subst (Both r.sessions t.sessions) same b in
        subst (λ (x : Session). Alike (session_at (row_then r e).sessions at) x) (sym second) (subst (λ (x : Session). Alike x (own_step t.sessions e).session) (sym first)
        (own_event r.sessions t.sessions e.at b' e.event e.limits e.area e.room (sym (ap is_open first) ∙ o)))
    go (no d) =
        subst (λ (x : Session). Alike (session_at (row_then r e).sessions at) x) (sym (others_stay t e at d))
        (subst (λ (x : Session). Alike x (session_at t.sessions at)) (sym (others_stay r e at d)) z.rows.like)

-- ---- over the events
over : (r t : TotalledRow) (at : ℕ) (e : RowEvent) (es : List RowEvent) → BothTotalled r t at → StaysOpenAt at r (e ∷ es)
    → NeverLess (session_at (row_run r (e ∷ es)).sessions at) (session_at (row_run t (e ∷ es)).sessions at)
over r t at e [] b o =
    let b' = (both_after r t at e b o.0).rows in
    alike_less (session_at (row_then r e).sessions at) (session_at (row_then t e).sessions at) b'.like (first_is (row_then r e).sessions (row_then t e).sessions at b')
    (second_is (row_then r e).sessions (row_then t e).sessions at b') o.0
over r t at e (next ∷ es) b o = over (row_then r e) (row_then t e) at next es (both_after r t at e b o.0) o.1

-- ---- the start
-- past the end of a row no session is sound
is_inside : (r : List Session) (at : ℕ) → sound (session_at r at) ≡ true → at < length r
is_inside r at h = go (dec_lt at (length r))
  where
    go : Dec (at < length r) → at < length r
    go (yes l) = l
    go (no d) =
        let none : sound no_session ≡ true = sym (ap sound (get_or-eq_default r no_session {n = at} (omega arith))) ∙ h in
        let state = (sound_means no_session none).state in
        absurd (omega arith)

module _ (r t : TotalledRow) (at : ℕ) (p : RowPair r t at) where
  begins : Both r.sessions t.sessions at
  unfolding below_limit
  begins =
      let s = session_at r.sessions at in
      let u = session_at t.sessions at in
      let pair = p.pair in
      let first = sound_means s pair.first_sound in
      let second = sound_means u pair.second_sound in
      let next : u.next ≡ s.next = ap (λ (z : Session). z.next) pair.alike in
      let ready : is_ready u ≡ true = ap is_ready pair.alike ∙ pair.first_ready in
      let shut : is_open s ≡ false = ready_shut s.state first.state pair.first_ready in
      let shut' : is_open u ≡ false = ready_shut u.state second.state ready in
      record {
        inside = is_inside r.sessions at pair.first_sound;
        same_length = p.same_length;
        first_sound = p.first_sound;
        second_sound = p.second_sound;
        like = record { same_else = pair.alike ∙ ap (with_other_enabled s u.enabled) (sym next); more = members s.enabled u.enabled first.enabled pair.more };
        same_below = λ _ l.
            chosen_same application_count (λ n. ltb (count r.sessions n) (limit_of l n)) (λ n. ltb (count t.sessions n) (limit_of l n)) application_count
            (λ n _ _. ap (λ (c : ℕ). ltb c (limit_of l n))
            (alike_but_one (λ z. uses z n) r.sessions t.sessions at p.same_length p.others (shut_uses s n shut ∙ sym (shut_uses u n shut'))));
      }

pub row_condition_3 : RowCondition3
row_condition_3 r t first es p o =
    over r t first.at first es (record { rows = begins r t first.at p; first_totals = p.first_totals; second_totals = p.second_totals }) o
