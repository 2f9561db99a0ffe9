-- Capabilities over any run: ours stay, the peer's are none outside Open, and since the last Initialization they are what the messages say. By the laws of one
-- event, and induction over the events. Assumes nothing.
use Prim.Native.Nat.{ℕ}
use mathlib.Core.Path.{◌≡◌, refl, sym, ap, ◌∙◌}
use mathlib.Core.Bool.{true, false}
use mathlib.Core.List.{List, [], ◌∷◌}
use lib.Dec.{eqb}
use borrow.Author.Tests.{eqb-true}
use Rattle.choice.specs.Pick.{pick}
use Rattle.choice.proofs.Branch.{taken, left}
use Rattle.refusals.specs.Refusals.{not_refused, wrong_state}
use Rattle.session.specs.declared.Session.{Session}
use Rattle.session.specs.declared.After.{After}
use Rattle.session.specs.Session.{state_ready, state_open, is_ready, is_open, Sound}
use Rattle.session.specs.Decisions.{answered, settled}
use Rattle.session.specs.Events.{after_initialization, on_initialization, on_closed, Event, Initialization, Capability, LocalChange, Wish, Mismatch, Hello, Closed, Unknown, step, run}
use Rattle.session.proofs.SoundMeans.{sound_means, means_sound}
use Rattle.session.proofs.Made.{never}
use Rattle.session.proofs.View.{heard}
use Rattle.session.proofs.Steps.{step_sound, step_ours, step_theirs, opened_is}
use Rattle.promises.specs.Run.{StaysOpen}
use Rattle.promises.specs.Capabilities.{OursStay, TheirsOnlyOpen, said_by, said, TheirsFollow}
use Rattle.promises.proofs.Runs.{sound_over_runs}

pub ours_stay : OursStay
ours_stay s [] = refl
ours_stay s (e ∷ es) = ours_stay (step s e).session es ∙ step_ours s e

pub theirs_only_open : TheirsOnlyOpen
theirs_only_open s es h shut = (sound_means (run s es) (sound_over_runs s es h)).shut_theirs shut

-- ---- one event of an Open session that stays Open: an Initialization is refused there, and a closed connection is not Open
module _ (s : Session) (r : Sound s) (opened : is_open s ≡ true) where
  abbrev says : Event → ℕ
  says e = pick (eqb (step s e).answer.refusal not_refused) (said_by s.theirs e) s.theirs

  abbrev hears : Event → ℕ
  hears e = pick (eqb (step s e).answer.refusal not_refused) (heard s.theirs e) s.theirs

  not_ready : is_ready s ≡ false
  not_ready = ap (λ (n : ℕ). eqb n state_ready) (eqb-true s.state state_open opened)

  opening_refused : (area : List ℕ) (below_limit : ℕ) → (step s (Initialization area below_limit)).answer.refusal ≡ wrong_state
  unfolding on_initialization settled
  opening_refused area below_limit =
      ap (λ (z : After). z.answer.refusal) (ap (settled s) (taken _ _ (means_sound s r) ∙ left _ _ not_ready))

  closed_shut : is_open (step s Closed).session ≡ false
  unfolding on_closed settled answered
  closed_shut = ap (λ (z : After). is_open z.session) (ap (settled s) (taken _ _ (means_sound s r) ∙ taken _ _ opened))

  as_said : (e : Event) → is_open (step s e).session ≡ true → hears e ≡ says e
  as_said (Initialization area below_limit) k =
      let refused = ap (λ (n : ℕ). eqb n not_refused) (opening_refused area below_limit) in
      left _ _ refused ∙ sym (left _ _ refused)
  as_said (Capability area) k = refl
  as_said (LocalChange n on room) k = refl
  as_said (Wish wishes n disable room) k = refl
  as_said Mismatch k = refl
  as_said (Hello number) k = refl
  as_said Closed k = never k closed_shut
  as_said Unknown k = refl

-- ---- events, one after another
over : (s : Session) (es : List Event) → Sound s → is_open s ≡ true → StaysOpen s es → (run s es).theirs ≡ said s s.theirs es
over s [] r o k = refl
over s (e ∷ es) r o k =
    over (step s e).session es (step_sound s r e) k.0 k.1
    ∙ ap (λ (t : ℕ). said (step s e).session t es) (step_theirs s e r k.0 ∙ as_said s r o e k.0)

pub theirs_follow : TheirsFollow
unfolding after_initialization
theirs_follow s area below_limit es h ready k =
    let first = Initialization area below_limit in
    let t = (step s first).session in
    over t es (step_sound s (sound_means s h) first) k.0 k.1
    ∙ ap (λ (theirs : ℕ). said t theirs es) (ap (λ (u : Session). u.theirs) (opened_is s area below_limit ready k.0).1)
