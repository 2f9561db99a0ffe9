-- A record holds the session that its events lead to. A refused event leaves both as they were; after any other the record is that of the session
-- after it, which reads back as it was stored, since it is sound and its two numbers stay below 2 ^ 32. Assumes nothing.
use Prim.Native.Nat.{ℕ}
use mathlib.Core.Path.{◌≡◌, refl, sym, ap, ◌∙◌, subst}
use mathlib.Core.Bool.{true}
use mathlib.Core.List.{List, [], ◌∷◌}
use native.Mathlib.Decide.{ℕ_discrete}
use lib.ListN.{length}
use borrow.Author.Tests.{eq-eqb, ne_eqb}
use Rattle.choice.proofs.Branch.{by_test, taken, left}
use Rattle.session.specs.declared.Session.{Session}
use Rattle.session.specs.declared.After.{After}
use Rattle.session.specs.Session.{sound, Sound, Narrow}
use Rattle.session.specs.Events.{Event, Numbered, step, run}
use Rattle.session.proofs.SoundMeans.{sound_means, means_sound}
use Rattle.session.proofs.Steps.{step_sound, step_narrow}
use Rattle.record.specs.Record.{record_length, encoded, stored_in, decoded}
use Rattle.record.specs.Carried.{record_after}
use Rattle.record.proofs.RoundTrip.{read, narrow, read_back, stored_back}
use Rattle.promises.specs.Records.{Octets, record_run, AllNumbered, RecordsFollow}
use Rattle.promises.proofs.Runs.{refused_is_nothing}

-- ---- one event
-- what is known of a record and its session between two events
pub record Holds (l : List ℕ) : Type 0 where
  pub is_long : length l ≡ record_length
  pub is_sound : Sound (decoded l)
  pub is_narrow : Narrow (decoded l)
  pub is_stored : encoded (decoded l) ≡ l

pub holds : (l : List ℕ) → Octets l → sound (decoded l) ≡ true → Holds l
holds l o h = record { is_long = (read l h).is_long; is_sound = sound_means (decoded l) h; is_narrow = narrow l o; is_stored = stored_back l o h }

module _ (l : List ℕ) (h : Holds l) (e : Event) (k : Numbered e) where
  abbrev pub after : After
  after = step (decoded l) e

  sound_after : Sound after.session
  sound_after = step_sound (decoded l) h.is_sound e

  narrow_after : Narrow after.session
  narrow_after = step_narrow (decoded l) h.is_sound h.is_narrow e k

  -- not refused, the record is that of the session after the event; refused, it is as it was
  is_after : after.answer.refusal ≡ 0 → record_after after l ≡ encoded after.session
  unfolding record_after stored_in
  is_after p = taken _ _ (eq-eqb _ _ p) ∙ taken _ _ (eq-eqb _ _ h.is_long)

  as_before : (after.answer.refusal ≡ 0 → ⊥) → record_after after l ≡ l
  unfolding record_after
  as_before p = left _ _ (ne_eqb _ _ p)

  -- the record after the event holds the session after it
  pub holds_after : decoded (record_after after l) ≡ after.session
  holds_after = go (ℕ_discrete after.answer.refusal 0)
    where
      go : Dec (after.answer.refusal ≡ 0) → decoded (record_after after l) ≡ after.session
      go (yes p) =
          ap decoded (is_after p)
          ∙ read_back after.session (means_sound after.session sound_after) narrow_after.hello narrow_after.next
      go (no p) =
          ap decoded (as_before p) ∙ sym (ap (λ (a : After). a.session) (refused_is_nothing (decoded l) e p))

  long_after : length (record_after after l) ≡ record_length
  unfolding record_after stored_in
  long_after = by_test Long (λ _. by_test Long (λ _. refl) (λ _. h.is_long)) (λ _. h.is_long)
    where
      Long : List ℕ → Type 0
      Long m = length m ≡ record_length

  stored_after : encoded (decoded (record_after after l)) ≡ record_after after l
  stored_after = go (ℕ_discrete after.answer.refusal 0)
    where
      go : Dec (after.answer.refusal ≡ 0) → encoded (decoded (record_after after l)) ≡ record_after after l
      go (yes p) = ap encoded holds_after ∙ sym (is_after p)
      go (no p) = subst (λ (m : List ℕ). encoded (decoded m) ≡ m) (sym (as_before p)) h.is_stored

  pub still : Holds (record_after after l)
  still =
      record {
        is_long = long_after;
        is_sound = subst Sound (sym holds_after) sound_after;
        is_narrow = subst Narrow (sym holds_after) narrow_after;
        is_stored = stored_after;
      }

-- ---- over the events
follow : (l : List ℕ) (es : List Event) → Holds l → AllNumbered es → decoded (record_run l es) ≡ run (decoded l) es
follow l [] h k = refl
follow l (e ∷ es) h k =
    follow (record_after (step (decoded l) e) l) es (still l h e k.0) k.1 ∙ ap (λ (s : Session). run s es) (holds_after l h e k.0)

pub run_holds : (l : List ℕ) (es : List Event) → Holds l → AllNumbered es → Holds (record_run l es)
run_holds l [] h k = h
run_holds l (e ∷ es) h k = run_holds (record_after (step (decoded l) e) l) es (still l h e k.0) k.1

pub records_follow : RecordsFollow
records_follow l es o h k = follow l es (holds l o h) k
