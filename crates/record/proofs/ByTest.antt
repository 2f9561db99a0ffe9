-- Storing a session, and the way back, test by test: what is answered where each test leads, and what is then in the room. Assumes nothing.
use Prim.Native.Nat.{ℕ}
use mathlib.Core.Path.{◌≡◌, refl, sym, ◌∙◌}
use mathlib.Core.Bool.{true, false, ◌&&◌, true≢false}
use mathlib.Core.List.{List}
use native.Mathlib.Omega.{arith}
use borrow.Author.Tests.{eqb-true, eq-eqb, ne_eqb}
use lib.Dec.{eqb}
use lib.ListN.{length}
use Rattle.choice.proofs.Branch.{taken, left, by_test}
use Rattle.choice.proofs.Tests.{holds_if, and_both}
use Rattle.refusals.specs.Refusals.{not_refused, not_sound, capabilities_held}
use Rattle.session.specs.declared.Session.{Session}
use Rattle.session.specs.Session.{sound}
use Rattle.record.specs.Record.{record_length, kind1_length, encoded_kind1, stored_in, decoded}
use Rattle.record.specs.Loaded.{store_refusal, store_octets}
use Rattle.record.specs.Moves.{holds_none, back_refusal, back_room}

-- ---- storing a session
-- it is not refused exactly where the session is sound and the room of its size; 10 where not
pub store_done : (s : Session) (room : List ℕ) → sound s ≡ true → length room ≡ record_length → store_refusal s room ≡ not_refused
unfolding store_refusal
store_done s room h n = taken _ _ h ∙ taken _ _ (eq-eqb _ _ n)

module _ (s : Session) (room : List ℕ) (done : store_refusal s room ≡ not_refused) where
  pub done_sound : sound s ≡ true
  unfolding store_refusal
  done_sound = holds_if (sound s) (λ e. omega (arith, sym (left _ _ e) ∙ done))

  pub done_long : length room ≡ record_length
  unfolding store_refusal
  done_long =
      eqb-true (length room) record_length (holds_if (eqb (length room) record_length) (λ e. omega (arith, sym (taken _ _ done_sound ∙ left _ _ e) ∙ done)))

pub store_stays : (s : Session) (room : List ℕ) → (store_refusal s room ≡ not_refused → ⊥) → store_octets s room ≡ room
unfolding store_octets stored_in
store_stays s room refused =
    by_test Stays (λ h. by_test Stays (λ n. absurd (refused (store_done s room h (eqb-true _ _ n)))) (λ _. refl)) (λ _. refl)
  where
    Stays : List ℕ → Type 0
    Stays l = l ≡ room

pub store_refused : (s : Session) (room : List ℕ) → (sound s && eqb (length room) record_length) ≡ false → store_refusal s room ≡ not_sound
unfolding store_refusal
store_refused s room h =
    by_test No (λ e. by_test No (λ n. absurd (true≢false (sym (and_both _ _ e n) ∙ h))) (λ _. refl)) (λ _. refl)
  where
    No : ℕ → Type 0
    No r = r ≡ not_sound

-- ---- the way back
module _ (l room : List ℕ) where
  pub back_unsound : sound (decoded l) ≡ false → back_refusal l room ≡ not_sound
  unfolding back_refusal
  back_unsound h = left _ _ h

  pub back_size : eqb (length room) kind1_length ≡ false → back_refusal l room ≡ not_sound
  unfolding back_refusal
  back_size n = by_test (λ (r : ℕ). r ≡ not_sound) (λ _. left _ _ n) (λ _. refl)

  pub back_held : sound (decoded l) ≡ true → eqb (length room) kind1_length ≡ true → holds_none (decoded l) ≡ false → back_refusal l room ≡ capabilities_held
  unfolding back_refusal
  back_held h n e = taken _ _ h ∙ taken _ _ n ∙ left _ _ e

  pub back_done : sound (decoded l) ≡ true → eqb (length room) kind1_length ≡ true → holds_none (decoded l) ≡ true → back_refusal l room ≡ not_refused
  unfolding back_refusal
  back_done h n e = taken _ _ h ∙ taken _ _ n ∙ taken _ _ e

  pub done_room : back_refusal l room ≡ not_refused → back_room l room ≡ encoded_kind1 (decoded l)
  unfolding back_room
  done_room e = taken _ _ (eq-eqb _ _ e)

  pub stays_room : (back_refusal l room ≡ not_refused → ⊥) → back_room l room ≡ room
  unfolding back_room
  stays_room e = left _ _ (ne_eqb _ _ e)
