-- What holds of the moves holds under their calls, since each call's contract is the definition. And a record of kind 1 is no record of kind 2, so that it
-- holds no sound session for any other call. Assumes nothing.
use Prim.Native.Nat.{ℕ}
use mathlib.Core.Path.{◌≡◌, sym, ap, ◌∙◌}
use mathlib.Core.Bool.{false}
use mathlib.Core.List.{List}
use native.Mathlib.Omega.{arith}
use borrow.Author.Tests.{ne_eqb}
use Rattle.choice.proofs.Branch.{left}
use Rattle.choice.proofs.Tests.{fails_if}
use Rattle.refusals.specs.Refusals.{not_refused, not_sound}
use Rattle.session.specs.declared.Answer.{Answer}
use Rattle.session.specs.declared.After.{After}
use Rattle.session.specs.declared.Kinds.{Kinds}
use Rattle.session.specs.declared.Permission.{Permission}
use Rattle.session.specs.declared.Reason.{Reason}
use Rattle.session.specs.declared.Retry.{Retry}
use Rattle.session.specs.Session.{sound}
use Rattle.session.specs.With.{no_session}
use Rattle.session.specs.Events.{Event, step}
use Rattle.session.specs.Questions.{permitted_kinds, permission, why_not, retry_interval}
use Rattle.session.proofs.Steps.{unsound_refused}
use Rattle.record.specs.declared.Moved.{Moved}
use Rattle.record.specs.Record.{decoded}
use Rattle.record.specs.Carried.{record_after}
use Rattle.record.specs.Loaded.{load}
use Rattle.record.specs.Moves.{forward, forward_room, back_refusal, back_room}
use Rattle.record.proofs.RoundTrip.{never_sound}
use Rattle.record.proofs.ThereAndBack.{there_and_back, back_and_there, one_kind}
use Rattle.record.proofs.MovedSession.{kept_sound, kept_long}
use Rattle.promises.specs.Calls.{Called}
use Rattle.promises.specs.Moves.{CallsMove, Kind1Refused}
use Rattle.promises.proofs.Calls.{calls_are_events}

pub calls_move : CallsMove
calls_move =
    record {
      there_and_back = λ κs a r s p κs' b q t p' o done is n.
          let e = sym (ap (λ (m : Moved). m.refusal) p.0) ∙ done in
          let again = there_and_back a.0.now a.1.0.now b.1.0.now o (kept_sound a.0.now a.1.0.now e) (kept_long a.0.now a.1.0.now e) n in
          let moved = is ∙ p.1 in (
            p'.0 ∙ ap (λ (l : List ℕ). back_refusal l b.1.0.now) moved ∙ again.back,
            p'.1 ∙ ap (λ (l : List ℕ). back_room l b.1.0.now) moved ∙ again.octets,
          );
      back_and_there = λ κs a r s p κs' b q t p' o done is n.
          let again = back_and_there a.0.now a.1.0.now b.1.0.now o (sym p.0 ∙ done) n in
          let moved = is ∙ p.1 in (
            ap (λ (m : Moved). m.refusal) p'.0 ∙ ap (λ (l : List ℕ). (forward l b.1.0.now).refusal) moved ∙ again.there,
            p'.1 ∙ ap (λ (l : List ℕ). forward_room l b.1.0.now) moved ∙ again.octets,
          );
    }

pub kind1_refused : Kind1Refused
unfolding permitted_kinds permission why_not retry_interval load record_after
kind1_refused l h =
    record {
      event = event;
      kinds = ap (λ (k : Kinds). k.refusal) (left _ _ unsound);
      kind = λ k. ap (λ (p : Permission). p.refusal) (left _ _ unsound);
      why = λ k. ap (λ (w : Reason). w.refusal) (left _ _ unsound);
      retry = ap (λ (w : Retry). w.refusal) (left _ _ unsound);
      unsound = unsound;
      loaded = left _ _ unsound;
    }
  where
    unsound : sound (decoded l) ≡ false
    unsound = ap sound (one_kind.kind1 l h) ∙ fails_if (sound no_session) never_sound

    event : (e : Event) (r : Answer) (l' : List ℕ) → Called e l r l' → (r.refusal ≡ not_sound) × (l' ≡ l)
    event e r l' c =
        let is = calls_are_events e l r l' c in
        let no : (step (decoded l) e).answer.refusal ≡ not_sound = ap (λ (a : After). a.answer.refusal) (unsound_refused (decoded l) e unsound) in
        (ap (λ (a : Answer). a.refusal) is.answer ∙ no, is.octets ∙ left _ _ (ne_eqb _ _ (λ (z : (step (decoded l) e).answer.refusal ≡ not_refused). omega (arith, sym no ∙ z))))
