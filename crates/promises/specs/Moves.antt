-- L5 under the calls: what was moved there and back, or back and there, is as it was; and "every call but the moves refuses a kind 1 record with 10". Over
-- the contracts as the check reads them: κs are the lifetimes of what is lent, a what is handed in, r what is handed back and s what is left in what was
-- lent. Assumes nothing.
use Rattle.std.specs.Prelude.{ℕ, ◌≡◌, true, false, List, length, refl}
use Rattle.refusals.specs.Refusals.{not_refused, not_sound}
use Rattle.session.specs.declared.Answer.{Answer}
use Rattle.session.specs.Session.{sound}
use Rattle.session.specs.With.{no_session}
use Rattle.session.specs.Events.{Event}
use Rattle.session.specs.Questions.{permitted_kinds, permission, why_not, retry_interval}
use Rattle.record.specs.Record.{record_length, kind1_length, decoded, decoded_kind1}
use Rattle.record.specs.Loaded.{load}
use Rattle.tacit.specs.contracts.tacit_forward as forward
use Rattle.tacit.specs.contracts.tacit_back as back
use Rattle.promises.specs.Records.{Octets}
use Rattle.promises.specs.Calls.{Called}
use Rattle.promises.specs.Allowed.{Allows}

-- a record of kind 1 that was moved forward, moved back; and a record that was moved back, moved forward. Each time the second call is handed what the first
-- left, and a room of the size that it asks for
pub record CallsMove : Type 0 where
  pub there_and_back :
      (κs : _) (a r s : _) → Allows forward.ended (λ w. forward.clauses) (λ w. refl) κs a r s → (κs' : _) (b q t : _) → Allows back.ended (λ w. back.clauses) (λ w. refl) κs' b q t
      → Octets a.0.now → r.refusal ≡ not_refused → b.0.now ≡ s.1.0.now → length b.1.0.now ≡ kind1_length
      → (q ≡ not_refused) × (t.1.0.now ≡ a.0.now)
  pub back_and_there :
      (κs : _) (a r s : _) → Allows back.ended (λ w. back.clauses) (λ w. refl) κs a r s → (κs' : _) (b q t : _) → Allows forward.ended (λ w. forward.clauses) (λ w. refl) κs' b q t
      → Octets a.0.now → r ≡ not_refused → b.0.now ≡ s.1.0.now → length b.1.0.now ≡ record_length
      → (q.refusal ≡ not_refused) × (t.1.0.now ≡ a.0.now)

-- what every other call makes of a record of kind 1: an event is refused and leaves it, a question is refused, and no session is loaded
pub record RefusedAsKind1 (l : List ℕ) : Type 0 where
  pub event : (e : Event) (r : Answer) (l' : List ℕ) → Called e l r l' → (r.refusal ≡ not_sound) × (l' ≡ l)
  pub kinds : (permitted_kinds (decoded l)).refusal ≡ not_sound
  pub kind : (k : ℕ) → (permission (decoded l) k).refusal ≡ not_sound
  pub why : (k : ℕ) → (why_not (decoded l) k).refusal ≡ not_sound
  pub retry : (retry_interval (decoded l)).refusal ≡ not_sound
  pub unsound : sound (decoded l) ≡ false
  pub loaded : load l ≡ record { refusal = not_sound; session = no_session }

abbrev pub Kind1Refused : Type 0
Kind1Refused = (l : List ℕ) → sound (decoded_kind1 l) ≡ true → RefusedAsKind1 l
