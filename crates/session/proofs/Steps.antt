-- What holds after every event, read off what it was decided to come to: the session is sound if it was, its numbers stay below 2 ^ 32, what is refused
-- changes nothing, lost and gained are by the permitted kinds before and after, our capabilities stay and the peer's are what the event tells of them, outcome 2
-- is what a mismatch notification leaves, and outcome 3 a session that was to be admitted. By cases on the decision, and the facts of its view. Assumes nothing.
use Rattle.std.proofs.Common.{◌≡◌, ℕ, ◌+◌, ◌^◌, ◌<◌, Bool, true, false, ◌&&◌, ◌||◌, eqb, List, sym, refl, ap, ◌∙◌, subst, ap₂, mod-lt, arith, lit<, pow_pos, ne_eqb, eqb-true}
use mathlib.Core.Bool.{and-true}
use Rattle.choice.specs.Pick.{pick}
use Rattle.choice.proofs.Branch.{pick_true, by_test, pick_both, taken, left}
use Rattle.sets.specs.Set.{has, common, empty, minus}
use Rattle.sets.proofs.Bounds.{common_lt}
use Rattle.sets.proofs.Members.{has_common, has_all, ext}
use Rattle.sets.proofs.Subsets.{within_self, nothing_left}
use Rattle.refusals.specs.Refusals.{not_refused, wrong_state, not_sound, total_outside}
use Rattle.kinds.specs.Kinds.{application_count, all_applications}
use Rattle.area.specs.Area.{read_area}
use Rattle.session.specs.declared.Session.{Session}
use Rattle.session.specs.declared.After.{After}
use Rattle.session.specs.Session.{state_ready, state_open, is_ready, is_open, in_force, negotiated, nothing_common, sound, Sound, Narrow, permitted}
use Rattle.session.specs.With.{with_enabled, mismatched}
use Rattle.session.specs.Limits.{at_limit}
use Rattle.session.specs.Decisions.{outcome_mismatch, outcome_at_limit, refused, answered, Decision, Refused, Unchanged, Done, AsMismatch, Negotiate, Admit, Send, Tell, settled}
use Rattle.session.specs.Events.{checked, unless_refused, after_initialization, on_initialization, on_capability, on_local_change, on_wish, on_mismatch, on_hello, on_closed, on_unknown, Event, Initialization, Capability, LocalChange, Wish, Mismatch, Hello, Closed, Unknown, Numbered, decision, step}
use Rattle.session.proofs.SoundMeans.{sound_means, means_sound}
use Rattle.session.proofs.Shapes.{shut_permits}
use Rattle.session.proofs.Made.{never, ready_shut, mismatched_sound, mismatched_shut, next_sound, own_mismatched}
use Rattle.session.proofs.View.{heard, Makes, MakesFound, admits_opens, tells_unheard, Facts, facts_of}

-- ---- sound
module _ (s : Session) (r : Sound s) where
  abbrev Kept : After → Type 0
  Kept after = Sound after.session

  settled_sound : (e : Event) (c : Decision) → Facts s e c → Kept (settled s c)
  unfolding settled answered
  settled_sound e (Refused n) f = r
  settled_sound e Unchanged f = r
  settled_sound e (Done t) f = f.makes.is_sound f.common
  settled_sound e (AsMismatch t) f = mismatched_sound t f.makes.basic
  settled_sound e (Negotiate t) f = by_test Kept (λ _. mismatched_sound t f.makes.basic) f.makes.is_sound
  settled_sound e (Admit t below_limit) f =
      by_test Kept (λ _. mismatched_sound t f.0.makes.basic) (λ q. by_test Kept (λ _. mismatched_sound t f.0.makes.basic) (λ _. f.0.makes.is_sound q))
  settled_sound e (Send t written) f = by_test Kept (λ _. mismatched_sound t f.0.makes.basic) (λ q. next_sound t _ (f.0.makes.is_sound q))
  settled_sound e (Tell written) f = next_sound s _ r

  pub step_sound : (e : Event) → Sound (step s e).session
  step_sound e = settled_sound e (decision s e) (facts_of s r e)

-- ---- numbers of 32 bits
mismatched_narrow : (t : Session) → Narrow t → Narrow (mismatched t)
unfolding mismatched
mismatched_narrow t n =
    by_test Narrow
    (λ _. by_test Narrow (λ _. record { hello = lit< tt; next = n.next }) (λ _. record { hello = n.hello; next = n.next }))
    (λ _. record { hello = n.hello; next = n.next })

module _ (s : Session) (r : Sound s) (n : Narrow s) where
  abbrev Fits : After → Type 0
  Fits after = Narrow after.session

  settled_narrow : (e : Event) → Numbered e → (c : Decision) → Facts s e c → Fits (settled s c)
  unfolding settled answered
  settled_narrow e k (Refused i) f = n
  settled_narrow e k Unchanged f = n
  settled_narrow e k (Done t) f = f.makes.narrow n k
  settled_narrow e k (AsMismatch t) f = mismatched_narrow t (f.makes.narrow n k)
  settled_narrow e k (Negotiate t) f = by_test Fits (λ _. mismatched_narrow t (f.makes.narrow n k)) (λ _. f.makes.narrow n k)
  settled_narrow e k (Admit t below_limit) f =
      let small = f.0.makes.narrow n k in
      by_test Fits (λ _. mismatched_narrow t small) (λ _. by_test Fits (λ _. mismatched_narrow t small) (λ _. small))
  settled_narrow e k (Send t written) f =
      let small = f.0.makes.narrow n k in
      by_test Fits (λ _. mismatched_narrow t small) (λ _. record { hello = small.hello; next = mod-lt (t.next + 1) (pow_pos 32) })
  settled_narrow e k (Tell written) f = record { hello = n.hello; next = mod-lt (s.next + 1) (pow_pos 32) }

  pub step_narrow : (e : Event) → Numbered e → Narrow (step s e).session
  step_narrow e k = settled_narrow e k (decision s e) (facts_of s r e)

-- ---- what is refused changes nothing, whatever the session
module _ (s : Session) where
  -- a refusal is the refusal of that number, and nothing else
  abbrev Bare : After → Type 0
  Bare after = (after.answer.refusal ≡ not_refused → ⊥) → after ≡ refused s after.answer.refusal

  settled_bare : (c : Decision) → Bare (settled s c)
  unfolding settled answered
  settled_bare (Refused n) = λ h. refl
  settled_bare Unchanged = λ h. absurd (h refl)
  settled_bare (Done t) = λ h. absurd (h refl)
  settled_bare (AsMismatch t) = λ h. absurd (h refl)
  settled_bare (Negotiate t) = by_test Bare (λ _ h. absurd (h refl)) (λ _ h. absurd (h refl))
  settled_bare (Admit t below_limit) = by_test Bare (λ _ h. absurd (h refl)) (λ _. by_test Bare (λ _ h. absurd (h refl)) (λ _ h. absurd (h refl)))
  settled_bare (Send t written) = by_test Bare (λ _ h. absurd (h refl)) (λ _ h. absurd (h refl))
  settled_bare (Tell written) = λ h. absurd (h refl)

  pub step_bare : (e : Event) → Bare (step s e)
  step_bare e = settled_bare (decision s e)

-- ---- lost is what was permitted before and is not after, gained the other way round; where the session stays that is nothing
pub record Moves (s : Session) (after : After) : Type 0 where
  pub lost : after.answer.lost ≡ minus (permitted s) (permitted after.session)
  pub gained : after.answer.gained ≡ minus (permitted after.session) (permitted s)

pub refused_moves : (s : Session) (n : ℕ) → Moves s (refused s n)
refused_moves s n =
    let nothing = sym (nothing_left (permitted s) (permitted s) (within_self (permitted s))) in
    record { lost = nothing; gained = nothing }

module _ (s : Session) where
  settled_moves : (c : Decision) → Moves s (settled s c)
  unfolding settled answered
  settled_moves (Refused n) = refused_moves s n
  settled_moves Unchanged = let nothing = refused_moves s not_refused in record { lost = nothing.lost; gained = nothing.gained }
  settled_moves (Done t) = record { lost = refl; gained = refl }
  settled_moves (AsMismatch t) = record { lost = refl; gained = refl }
  settled_moves (Negotiate t) = by_test (Moves s) (λ _. record { lost = refl; gained = refl }) (λ _. record { lost = refl; gained = refl })
  settled_moves (Admit t below_limit) =
      by_test (Moves s) (λ _. record { lost = refl; gained = refl })
      (λ _. by_test (Moves s) (λ _. record { lost = refl; gained = refl }) (λ _. record { lost = refl; gained = refl }))
  settled_moves (Send t written) = by_test (Moves s) (λ _. record { lost = refl; gained = refl }) (λ _. record { lost = refl; gained = refl })
  settled_moves (Tell written) = record { lost = refl; gained = refl }

  pub step_moves : (e : Event) → Moves s (step s e)
  step_moves e = settled_moves (decision s e)

-- ---- 10 before all others: a session that is not sound is refused whatever the event
unsound_decided : (s : Session) (e : Event) → sound s ≡ false → decision s e ≡ Refused not_sound
unfolding on_initialization on_capability on_local_change on_wish on_mismatch on_hello on_closed on_unknown
unsound_decided s (Initialization area below_limit) h = left _ _ h
unsound_decided s (Capability area) h = left _ _ h
unsound_decided s (LocalChange n on room) h = left _ _ h
unsound_decided s (Wish wishes n disable room) h = left _ _ h
unsound_decided s Mismatch h = left _ _ h
unsound_decided s (Hello number) h = left _ _ h
unsound_decided s Closed h = left _ _ h
unsound_decided s Unknown h = left _ _ h

pub unsound_refused : (s : Session) (e : Event) → sound s ≡ false → step s e ≡ refused s not_sound
unfolding settled
unsound_refused s e h = ap (settled s) (unsound_decided s e h)

-- ---- 16 is no refusal of a session's own
module _ (s : Session) where
  abbrev OwnRefusal : After → Type 0
  OwnRefusal after = after.answer.refusal < total_outside

  settled_refusal : (e : Event) (c : Decision) → Facts s e c → OwnRefusal (settled s c)
  unfolding settled answered
  settled_refusal e (Refused n) f = f.1
  settled_refusal e Unchanged f = lit< tt
  settled_refusal e (Done t) f = lit< tt
  settled_refusal e (AsMismatch t) f = lit< tt
  settled_refusal e (Negotiate t) f = by_test OwnRefusal (λ _. lit< tt) (λ _. lit< tt)
  settled_refusal e (Admit t below_limit) f = by_test OwnRefusal (λ _. lit< tt) (λ _. by_test OwnRefusal (λ _. lit< tt) (λ _. lit< tt))
  settled_refusal e (Send t written) f = by_test OwnRefusal (λ _. lit< tt) (λ _. lit< tt)
  settled_refusal e (Tell written) f = lit< tt

  pub step_refusal : (e : Event) → (step s e).answer.refusal < total_outside
  step_refusal e = go (sound s) refl
    where
      go : (b : Bool) → sound s ≡ b → (step s e).answer.refusal < total_outside
      go true h = settled_refusal e (decision s e) (facts_of s (sound_means s h) e)
      go false h = subst OwnRefusal (sym (unsound_refused s e h)) (lit< tt)

-- ---- ours never change, and the peer's are what the event tells of them
mismatched_ours : (t : Session) → (mismatched t).ours ≡ t.ours
unfolding mismatched
mismatched_ours t = by_test Kept-ours (λ _. by_test Kept-ours (λ _. refl) (λ _. refl)) (λ _. refl)
  where
    Kept-ours : Session → Type 0
    Kept-ours u = u.ours ≡ t.ours

module _ (s : Session) (e : Event) where
  abbrev Ours : After → Type 0
  Ours after = after.session.ours ≡ s.ours

  settled_ours : (c : Decision) → Facts s e c → Ours (settled s c)
  unfolding settled answered
  settled_ours (Refused n) f = refl
  settled_ours Unchanged f = refl
  settled_ours (Done t) f = f.makes.ours
  settled_ours (AsMismatch t) f = mismatched_ours t ∙ f.makes.ours
  settled_ours (Negotiate t) f = by_test Ours (λ _. mismatched_ours t ∙ f.makes.ours) (λ _. f.makes.ours)
  settled_ours (Admit t below_limit) f =
      let lost = mismatched_ours t ∙ f.0.makes.ours in
      by_test Ours (λ _. lost) (λ _. by_test Ours (λ _. lost) (λ _. f.0.makes.ours))
  settled_ours (Send t written) f = by_test Ours (λ _. mismatched_ours t ∙ f.0.makes.ours) (λ _. f.0.makes.ours)
  settled_ours (Tell written) f = refl

  pub step_ours : (step s e).session.ours ≡ s.ours
  step_ours = go (sound s) refl
    where
      go : (b : Bool) → sound s ≡ b → (step s e).session.ours ≡ s.ours
      go true h = settled_ours (decision s e) (facts_of s (sound_means s h) e)
      go false h = ap (λ (z : After). z.session.ours) (unsound_refused s e h)

  -- of a session that is Open after it
  abbrev Theirs : After → Type 0
  Theirs after = is_open after.session ≡ true → after.session.theirs ≡ pick (eqb after.answer.refusal not_refused) (heard s.theirs e) s.theirs

  settled_theirs : (c : Decision) → Facts s e c → Theirs (settled s c)
  unfolding settled answered
  settled_theirs (Refused n) f = λ _. sym (left _ _ (ne_eqb n not_refused (λ is. absurd (omega (arith, f.0)))))
  settled_theirs Unchanged f = λ _. f ∙ sym (pick_true _ _)
  settled_theirs (Done t) f = λ _. f.makes.theirs ∙ sym (pick_true _ _)
  settled_theirs (AsMismatch t) f = λ k. never k (mismatched_shut t)
  settled_theirs (Negotiate t) f = by_test Theirs (λ _ k. never k (mismatched_shut t)) (λ _ _. f.makes.theirs ∙ sym (pick_true _ _))
  settled_theirs (Admit t below_limit) f =
      by_test Theirs (λ _ k. never k (mismatched_shut t))
      (λ _. by_test Theirs (λ _ k. never k (mismatched_shut t)) (λ _ _. f.0.makes.theirs ∙ sym (pick_true _ _)))
  settled_theirs (Send t written) f = by_test Theirs (λ _ k. never k (mismatched_shut t)) (λ _ _. f.0.makes.theirs ∙ sym (pick_true _ _))
  settled_theirs (Tell written) f = λ _. tells_unheard s e written f ∙ sym (pick_true _ _)

  pub step_theirs : Sound s → Theirs (step s e)
  step_theirs r = settled_theirs (decision s e) (facts_of s r e)

-- ---- outcome 3: to be admitted, with something common and nothing of it below its limit
pub record TurnedAway (s : Session) (c : Decision) : Type 0 where
  pub session : Session
  pub below_limit : ℕ
  pub admit : c ≡ Admit session below_limit
  pub common : nothing_common session ≡ false
  pub at_limit_law : at_limit session below_limit ≡ true
  pub is : settled s c ≡ answered s (mismatched session) outcome_at_limit 0

module _ (s : Session) where
  abbrev AtLimit : Decision → After → Type 0
  AtLimit c after = after.answer.outcome ≡ outcome_at_limit → TurnedAway s c

  pub turned_away : (c : Decision) → AtLimit c (settled s c)
  unfolding settled answered
  turned_away (Refused n) = λ h. absurd (omega arith)
  turned_away Unchanged = λ h. absurd (omega arith)
  turned_away (Done t) = λ h. absurd (omega arith)
  turned_away (AsMismatch t) = λ h. absurd (omega arith)
  turned_away (Negotiate t) = by_test (AtLimit (Negotiate t)) (λ _ h. absurd (omega arith)) (λ _ h. absurd (omega arith))
  turned_away (Admit t below_limit) =
      by_test (AtLimit (Admit t below_limit)) (λ _ h. absurd (omega arith))
      (λ q. by_test (AtLimit (Admit t below_limit))
      (λ l _. record { session = t; below_limit = below_limit; admit = refl; common = q; at_limit_law = l; is = left _ _ q ∙ taken _ _ l })
      (λ _ h. absurd (omega arith)))
  turned_away (Send t written) = by_test (AtLimit (Send t written)) (λ _ h. absurd (omega arith)) (λ _ h. absurd (omega arith))
  turned_away (Tell written) = λ h. absurd (omega arith)

-- ---- where every application is below its limit, none turns a session away
-- a set of applications has nothing but applications
pub common_all : (s : ℕ) → s < 2 ^ application_count → common s all_applications ≡ s
common_all s small =
    ext application_count (common s all_applications) s (common_lt application_count s all_applications small) small
    (λ k l. has_common s all_applications k ∙ ap (λ (b : Bool). has s k && b) (has_all application_count k l) ∙ and-true (has s k))

pub all_below : (t : Session) → t.enabled < 2 ^ application_count → at_limit t all_applications ≡ nothing_common t
unfolding at_limit nothing_common
all_below t small = ap (λ (n : ℕ). in_force t && empty n) (common_all (negotiated t) (common_lt application_count t.enabled t.listed small))

-- asked twice, a test is asked once
twice : (b : Bool) (x y z : After) → pick b x (pick b y z) ≡ pick b x z
unfolding pick
twice true x y z = refl
twice false x y z = refl

pub admit_all : (s t : Session) → t.enabled < 2 ^ application_count → settled s (Admit t all_applications) ≡ settled s (Negotiate t)
unfolding settled
admit_all s t small = rw (all_below t small) (twice (nothing_common t) _ _ _)

-- a limit that does not turn a session away might as well not be there
pub admit_unlimited : (s t : Session) (below_limit : ℕ) → t.enabled < 2 ^ application_count → ((settled s (Admit t below_limit)).answer.outcome ≡ outcome_at_limit → ⊥)
    → settled s (Admit t below_limit) ≡ settled s (Admit t all_applications)
unfolding settled answered
admit_unlimited s t below_limit small =
    let all = all_below t small in
    pick_both Same (nothing_common t) (λ _ _. refl)
    (λ q. by_test (λ (z : After). Same z (pick (at_limit t all_applications) (answered s (mismatched t) outcome_at_limit 0) (answered s t 0 0))) (λ _ f. absurd (f refl)) (λ _ _. sym (left _ _ (all ∙ q))))
  where
    Same : After → After → Type 0
    Same z z' = (z.answer.outcome ≡ outcome_at_limit → ⊥) → z ≡ z'

-- two Initializations that differ only in what is asked of the session that they open: what holds of that, and of every refusal, holds of both
pub initialization_along : (R : Decision → Decision → Type 0) (s : Session) (a : List ℕ) (b : ℕ) (c : Decision)
    → (sound s ≡ true → R (Admit (after_initialization s a (read_area a)) b) c) → ((n : ℕ) → R (Refused n) (Refused n))
    → R (on_initialization s a b) (checked s (pick (is_ready s) (unless_refused (read_area a) c) (Refused wrong_state)))
unfolding on_initialization
initialization_along R s a b c f g =
    pick_both R (sound s)
    (λ h. pick_both R (is_ready s) (λ _. pick_both R (eqb (read_area a).refusal not_refused) (λ _. f h) (λ _. g (read_area a).refusal)) (λ _. g wrong_state))
    (λ _. g not_sound)

-- where there is no row nothing but a mismatch is looked for
pub initialization_all : (s : Session) (a : List ℕ) → step s (Initialization a all_applications)
    ≡ settled s (checked s (pick (is_ready s) (unless_refused (read_area a) (Negotiate (after_initialization s a (read_area a)))) (Refused wrong_state)))
unfolding after_initialization
initialization_all s a =
    let t = after_initialization s a (read_area a) in
    initialization_along (λ (c c' : Decision). settled s c ≡ settled s c') s a all_applications (Negotiate t) (λ h. admit_all s t (sound_means s h).enabled) (λ _. refl)

pub initialization_unlimited : (s : Session) (a : List ℕ) (below_limit : ℕ) → ((step s (Initialization a below_limit)).answer.outcome ≡ outcome_at_limit → ⊥)
    → step s (Initialization a below_limit) ≡ step s (Initialization a all_applications)
unfolding on_initialization after_initialization
initialization_unlimited s a below_limit =
    let t = after_initialization s a (read_area a) in
    initialization_along Same s a below_limit (Admit t all_applications) (λ h. admit_unlimited s t below_limit (sound_means s h).enabled) (λ _ _. refl)
  where
    Same : Decision → Decision → Type 0
    Same c c' = ((settled s c).answer.outcome ≡ outcome_at_limit → ⊥) → settled s c ≡ settled s c'

-- an Initialization that opens the session was readable, and the session is the one that it makes
pub opened_is : (s : Session) (a : List ℕ) (b : ℕ) → is_ready s ≡ true → is_open (step s (Initialization a b)).session ≡ true
    → ((read_area a).refusal ≡ not_refused) × ((step s (Initialization a b)).session ≡ after_initialization s a (read_area a))
unfolding on_initialization settled answered
opened_is s a b ready =
    by_test Opened (λ _. by_test Opened
    (λ _. by_test Opened
    (λ q. by_test Is (λ _ k. never k (mismatched_shut t)) (λ _. by_test Is (λ _ k. never k (mismatched_shut t)) (λ _ _. (eqb-true _ not_refused q, refl))))
    (λ _. shut))
    (λ _. shut)) (λ _. shut)
  where
    t : Session
    t = after_initialization s a (read_area a)

    Is : After → Type 0
    Is z = is_open z.session ≡ true → ((read_area a).refusal ≡ not_refused) × (z.session ≡ t)

    Opened : Decision → Type 0
    Opened c = Is (settled s c)

    shut : is_open s ≡ true → ((read_area a).refusal ≡ not_refused) × (s ≡ t)
    shut k = never k (ap (λ (n : ℕ). eqb n state_open) (eqb-true s.state state_ready ready))

-- limits are asked of nothing but an Initialization in Ready
pub not_ready : (s : Session) → is_ready s ≡ false → (a : List ℕ) (b b' : ℕ) → step s (Initialization a b) ≡ step s (Initialization a b')
unfolding on_initialization
not_ready s h a b b' = ap (λ (c : Decision). settled s (checked s c)) (left _ _ h ∙ sym (left _ _ h))

-- from a session that is not Open to one that is not Open nothing is lost or gained
pub nothing_lost : (s t : Session) (outcome : ℕ) → is_open s ≡ false → is_open t ≡ false
    → (answered s t outcome 0).answer ≡ record { refusal = not_refused; outcome = outcome; lost = 0; gained = 0; written = 0 }
unfolding answered minus
nothing_lost s t outcome h k =
    ap₂ (λ (x y : ℕ). record { refusal = not_refused; outcome = outcome; lost = minus x y; gained = minus y x; written = 0 }) (shut_permits s h) (shut_permits t k)

-- ---- "Finding it ourselves and being told have one effect"
-- a notification, where it is for the state
told : (s : Session) → Sound s → (is_ready s || is_open s) ≡ true → step s Mismatch ≡ answered s (mismatched s) outcome_mismatch 0
unfolding on_mismatch settled
told s r h = ap (settled s) (taken _ _ (means_sound s r) ∙ taken _ _ h)

-- what is not Open permits nothing, so all that was permitted is lost
same_loss : (s t u : Session) → is_open t ≡ false → is_open u ≡ false → (answered s t outcome_mismatch 0).answer ≡ (answered s u outcome_mismatch 0).answer
unfolding answered
same_loss s t u h k =
    ap (λ (p : ℕ). record { refusal = not_refused; outcome = outcome_mismatch; lost = minus (permitted s) p; gained = minus p (permitted s); written = 0 })
    (shut_permits t h ∙ sym (shut_permits u k))

-- outcome 2: the session is the one that a notification leaves, with the enabled applications of the one in which the mismatch was found
pub record AsTold (s : Session) (e : Event) (after : After) : Type 0 where
  pub found_in : Session
  pub makes : Makes s e found_in
  pub session : after.session ≡ with_enabled (step s Mismatch).session found_in.enabled
  pub answer : after.answer ≡ (step s Mismatch).answer

module _ (s : Session) (r : Sound s) (e : Event) where
  abbrev OneEffect : After → Type 0
  OneEffect after = after.answer.outcome ≡ outcome_mismatch → AsTold s e after

  finds : (t : Session) → MakesFound s e t → OneEffect (answered s (mismatched t) outcome_mismatch 0)
  unfolding answered
  finds t f _ =
      let is = told s r f.found.told in
      record {
        found_in = t;
        makes = f.makes;
        session = f.found.leaves ∙ ap (λ (z : After). with_enabled z.session t.enabled) (sym is);
        answer = same_loss s (mismatched t) (mismatched s) (mismatched_shut t) (mismatched_shut s) ∙ ap (λ (z : After). z.answer) (sym is);
      }

  settled_told : (c : Decision) → Facts s e c → OneEffect (settled s c)
  unfolding settled answered
  settled_told (Refused n) f = λ h. absurd (omega arith)
  settled_told Unchanged f = λ h. absurd (omega arith)
  settled_told (Done t) f = λ h. absurd (omega arith)
  settled_told (AsMismatch t) f = finds t f
  settled_told (Negotiate t) f = by_test OneEffect (λ _. finds t f) (λ _ h. absurd (omega arith))
  settled_told (Admit t below_limit) f =
      by_test OneEffect (λ _. finds t f.0) (λ _. by_test OneEffect (λ _ h. absurd (omega arith)) (λ _ h. absurd (omega arith)))
  settled_told (Send t written) f = by_test OneEffect (λ _. finds t f.0) (λ _ h. absurd (omega arith))
  settled_told (Tell written) f = λ h. absurd (omega arith)

  pub as_told : OneEffect (step s e)
  as_told = settled_told (decision s e) (facts_of s r e)

-- ---- "Otherwise outcome 3, the state as in a mismatch"
module _ (s : Session) (r : Sound s) (e : Event) (h : (step s e).answer.outcome ≡ outcome_at_limit) where
  abbrev pub away : TurnedAway s (decision s e)
  away = turned_away s (decision s e) h

  pub away_facts : Facts s e (Admit away.session away.below_limit)
  away_facts = subst (Facts s e) away.admit (facts_of s r e)

  pub away_shut : is_open s ≡ false
  away_shut = ready_shut s.state r.state (admits_opens s e away.session away.below_limit away_facts.1).1.ready

  pub away_session : (step s e).session ≡ (step s Mismatch).session
  unfolding answered after_initialization
  away_session =
      let found = admits_opens s e away.session away.below_limit away_facts.1 in
      let enabled : away.session.enabled ≡ s.enabled = ap (λ (t : Session). t.enabled) found.1.is in
      let f = away_facts.0.found in
      ap (λ (z : After). z.session) away.is ∙ f.leaves ∙ ap (with_enabled (mismatched s)) enabled ∙ sym (own_mismatched s) ∙ sym (ap (λ (z : After). z.session) (told s r f.told))

  pub away_answer : (step s e).answer ≡ record { refusal = not_refused; outcome = outcome_at_limit; lost = 0; gained = 0; written = 0 }
  away_answer =
      ap (λ (z : After). z.answer) away.is ∙ nothing_lost s (mismatched away.session) outcome_at_limit away_shut (mismatched_shut away.session)
