-- Over any run a sound session stays sound, and what is refused changes nothing. By the laws of one event, and induction over the events.
-- Assumes nothing.
use Prim.Native.Nat.{ℕ}
use mathlib.Core.Path.{◌≡◌, refl, sym, ap, ◌∙◌}
use mathlib.Core.Bool.{Bool, true, false}
use mathlib.Core.List.{List, [], ◌∷◌}
use native.Mathlib.Omega.{arith}
use lib.Dec.{ltb}
use Rattle.choice.proofs.Branch.{left}
use Rattle.kinds.specs.Kinds.{all_applications}
use Rattle.message.specs.Message.{room_with}
use Rattle.area.specs.Area.{read_area}
use Rattle.session.specs.declared.Session.{Session}
use Rattle.session.specs.declared.After.{After}
use Rattle.session.specs.Session.{sound, Sound}
use Rattle.session.specs.With.{with_enabled}
use Rattle.session.specs.Decisions.{Negotiate, settled}
use Rattle.session.specs.Events.{after_initialization, Event, Initialization, Capability, LocalChange, Wish, Mismatch, Hello, Closed, Unknown, step, run, room_after}
use Rattle.session.proofs.SoundMeans.{sound_means, means_sound}
use Rattle.session.proofs.View.{Enabling}
use Rattle.session.proofs.Steps.{step_sound, step_bare, unsound_refused, admit_all, initialization_along, as_told}
use Rattle.promises.specs.Run.{SoundOverRuns, RefusedIsNothing, RoomStays, RefusedCanGo, WithoutLimits, enabled_after, OneEffect, FoundOrTold}

run_sound : (s : Session) (es : List Event) → Sound s → Sound (run s es)
run_sound s [] r = r
run_sound s (e ∷ es) r = run_sound (step s e).session es (step_sound s r e)

pub sound_over_runs : SoundOverRuns
sound_over_runs s es h = means_sound (run s es) (run_sound s es (sound_means s h))

pub refused_is_nothing : RefusedIsNothing
refused_is_nothing = step_bare

pub room_stays : RoomStays
unfolding room_after room_with
room_stays s e room h = left _ _ (ap (λ (w : ℕ). ltb 0 w) h)

pub refused_can_go : RefusedCanGo
refused_can_go s [] e behind h = ap (λ (t : Session). run t behind) (ap (λ (a : After). a.session) (refused_is_nothing s e h))
refused_can_go s (b ∷ before) e behind h = refused_can_go (step s b).session before e behind h

-- of a sound session every application that is enabled is one, and so is below its limit
pub without_limits : WithoutLimits
unfolding after_initialization
without_limits s a =
    let t = after_initialization s a (read_area a) in
    initialization_along (λ c c'. settled s c ≡ settled s c') s a all_applications (Negotiate t) (λ h. admit_all s t (sound_means s h).enabled) (λ _. refl)

-- a session that is not sound is refused with 10; of a sound one it is a fact of every event
pub found_or_told : FoundOrTold
found_or_told s e h = go (sound s) refl
  where
    enabled : (e : Event) (t : Session) → Enabling s e t → t.enabled ≡ enabled_after s e
    enabled (Initialization area below_limit) t f = f
    enabled (Capability area) t f = f
    enabled (LocalChange n on room) t f = ap (λ (z : Session). z.enabled) f.is
    enabled (Wish wishes n disable room) t f = f
    enabled Mismatch t f = f
    enabled (Hello number) t f = f
    enabled Closed t f = f
    enabled Unknown t f = f

    go : (x : Bool) → sound s ≡ x → OneEffect s e
    go true k =
        let f = as_told s (sound_means s k) e h in
        record { session = f.session ∙ ap (with_enabled (step s Mismatch).session) (enabled e f.found_in f.makes.enabling); answer = f.answer }
    go false k = absurd (omega (arith, sym (ap (λ (a : After). a.answer.outcome) (unsound_refused s e k)) ∙ h))
