-- What is promised of rows and of their totals is promised of the C calls: by its contract the call for an event is the row's event, so a run of calls leaves the
-- row and the totals that the events lead to, and those for the total of a kind and for the recount answer of them. Assumes nothing.
use Prim.Native.Nat.{ℕ}
use mathlib.Core.Path.{refl, sym, ap, ap₂, ◌∙◌, subst}
use mathlib.Core.List.{List, ◌∷◌}
use Rattle.session.specs.declared.Session.{Session}
use Rattle.session.specs.Session.{is_open}
use Rattle.totals.specs.declared.Totals.{Totals}
use Rattle.totals.specs.declared.RowAnswer.{RowAnswer}
use Rattle.totals.specs.Totals.{kind_total}
use Rattle.row.specs.Row.{session_at, recount}
use Rattle.promises.specs.Condition3.{NeverLess}
use Rattle.promises.specs.Rows.{TotalledRow, RowEvent, row_run, AllFresh}
use Rattle.promises.specs.RowTotals.{starts_with, TotalsAfter}
use Rattle.promises.specs.RowCondition3.{StaysOpenAt}
use Rattle.promises.specs.RowCalls.{tacit_row_event, RowCallsAreEvents, RowCalledRun, ended, called, RowCallsFollow, RowCallsTotal, StaysOpenAtUnder, RowCallsCondition3}
use Rattle.promises.proofs.RowTotals.{totals_follow, recount_is_kept}
use Rattle.promises.proofs.RowCondition3.{row_condition_3}

pub row_calls_are_events : RowCallsAreEvents
row_calls_are_events _ _ _ _ _ (tacit_row_event κs a r s p) =
    record {
      answer = ap (λ (x : RowAnswer). x.answer) p.0;
      whole = ap₂ (λ (l : List Session) (t : Totals). record { sessions = l; totals = t }) p.1 (ap (λ (x : RowAnswer). x.totals) p.0);
      room = p.2;
    }

pub row_calls_follow : RowCallsFollow
row_calls_follow _ _ _ (ended w) = refl
row_calls_follow _ _ _ (called e es w r row' room' last c cs) =
    row_calls_follow es (record { sessions = row'; totals = r.totals }) last cs ∙ ap (λ (v : TotalledRow). row_run v es) (row_calls_are_events e w r row' room' c).whole

-- ---- totals
follow : (es : List RowEvent) (row : List Session) (last : TotalledRow) → AllFresh row → RowCalledRun es (starts_with row) last → TotalsAfter last
follow es row last f calls = subst TotalsAfter (sym (row_calls_follow es (starts_with row) last calls)) (totals_follow row es f)

pub row_calls_total : RowCallsTotal
row_calls_total =
    record {
      tacit_kind_total = λ es row last f calls a r s p is l. p ∙ ap (λ (t : Totals). kind_total t a.1.0) is ∙ (follow es row last f calls).answer a.1.0 l;
      tacit_recount = λ es row last f calls there all κs a r s p is. p ∙ ap recount is ∙ recount_is_kept last (follow es row last f calls).equal_walk there all;
    }

-- ---- condition 3
stays_open : (at : ℕ) (es : List RowEvent) (w last : TotalledRow) (c : RowCalledRun es w last) → StaysOpenAtUnder at es w last c → StaysOpenAt at w es
stays_open at _ _ _ (ended w) o = tt
stays_open at _ _ _ (called e es w r row' room' last c cs) o =
    let v : TotalledRow = record { sessions = row'; totals = r.totals } in
    let is = (row_calls_are_events e w r row' room' c).whole in
    (sym (ap (λ (t : TotalledRow). is_open (session_at t.sessions at)) is) ∙ o.0, subst (λ (t : TotalledRow). StaysOpenAt at t es) is (stays_open at es v last cs o.1))

pub row_calls_condition_3 : RowCallsCondition3
row_calls_condition_3 r t first es r' t' pair calls others o =
    let at = first.at in
    subst (λ (z : TotalledRow). NeverLess (session_at z.sessions at) (session_at t'.sessions at)) (sym (row_calls_follow (first ∷ es) r r' calls))
    (subst (λ (z : TotalledRow). NeverLess (session_at (row_run r (first ∷ es)).sessions at) (session_at z.sessions at)) (sym (row_calls_follow (first ∷ es) t t' others))
    (row_condition_3 r t first es pair (stays_open at (first ∷ es) r r' calls o)))
