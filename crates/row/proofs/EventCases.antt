-- The event that numbers make, by cases: an Initialization, a local change, or one that writes nothing and is not admitted. The tests of `event_of` are gone
-- along here and nowhere else. Assumes nothing.
use Prim.Native.Nat.{ℕ, ◌^◌, ◌<◌}
use mathlib.Core.Path.{◌≡◌, refl, sym, ap, ◌∙◌}
use mathlib.Core.Bool.{true, false}
use mathlib.Core.List.{List}
use Rattle.std.specs.Prelude.{None}
use lib.Dec.{eqb}
use borrow.Author.Tests.{eqb-true}
use Rattle.choice.proofs.Branch.{by_test, taken, left}
use Rattle.session.specs.declared.Session.{Session}
use Rattle.session.specs.Events.{Event, Initialization, Capability, LocalChange, Mismatch, Hello, Closed, Unknown, Numbered, message_for}
use Rattle.session.proofs.View.{Admits}
use Rattle.row.specs.declared.EventNumbers.{EventNumbers}
use Rattle.row.specs.Events.{initialization_number, capability_number, local_change_number, is_on, event_of, message_in}

-- it writes nothing and is not admitted, whatever the session, and has no number but the one handed in
pub record Quiet (number : ℕ) (ev : Event) : Type 0 where
  pub unwritten : (s : Session) → message_for s ev ≡ None
  pub not_admitted : (s t : Session) (b : ℕ) → Admits s ev t b → ⊥
  pub numbered : number < 2 ^ 32 → Numbered ev

module _ (e : EventNumbers) (b : ℕ) (area : List ℕ) (room : ℕ) where
  event_by : (P : Event → Type 0) → (eqb e.which local_change_number ≡ false → P (Initialization area b))
      → (eqb e.which local_change_number ≡ true → P (LocalChange e.ta_id (is_on e) room))
      → (eqb e.which local_change_number ≡ false → (ev : Event) → Quiet e.number ev → P ev) → P (event_of e b area room)
  unfolding event_of
  event_by P opens changes other =
      by_test P (λ w. opens (ap (λ (k : ℕ). eqb k local_change_number) (eqb-true e.which initialization_number w)))
      (λ _. by_test P (λ w. other (ap (λ (k : ℕ). eqb k local_change_number) (eqb-true e.which capability_number w)) (Capability area) (record { unwritten = λ s. refl; not_admitted = λ s t x f. f; numbered = λ h. tt }))
      (λ _. by_test P changes
      (λ n. by_test P (λ _. other n Mismatch (record { unwritten = λ s. refl; not_admitted = λ s t x f. f; numbered = λ h. tt })) (λ _. by_test P (λ _. other n (Hello e.number) (record { unwritten = λ s. refl; not_admitted = λ s t x f. f; numbered = λ h. h })) (λ _. by_test P (λ _. other n Closed (record { unwritten = λ s. refl; not_admitted = λ s t x f. f; numbered = λ h. tt })) (λ _. other n Unknown (record { unwritten = λ s. refl; not_admitted = λ s t x f. f; numbered = λ h. tt })))))))

  -- what it may write, which no area and no limit enters
  pub message_same : (s : Session) → message_in e s ≡ message_for s (event_of e b area room)
  unfolding message_in
  message_same s =
      event_by (λ ev. message_in e s ≡ message_for s ev) (λ n. left _ _ n) (λ w. taken _ _ w) (λ n ev q. left _ _ n ∙ sym (q.unwritten s))

  -- it is admitted by what it was told
  pub admits_own : (s t : Session) (x : ℕ) → Admits s (event_of e b area room) t x → x ≡ b
  admits_own s t x = event_by (λ ev. Admits s ev t x → x ≡ b) (λ _ f. f.1) (λ _ f. absurd f) (λ _ ev q f. absurd (q.not_admitted s t x f))

  -- it has a number of 32 bits where it was handed one
  pub numbered_own : e.number < 2 ^ 32 → Numbered (event_of e b area room)
  numbered_own h = event_by Numbered (λ _. tt) (λ _. tt) (λ _ ev q. q.numbered h)
