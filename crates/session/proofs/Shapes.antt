-- What an event answers by what it moves of the permitted kinds: nothing, so that none is lost or gained; all of them lost, where the session after it
-- permits none; all of them gained, where the one before it permitted none. And which sessions permit none, or the same. Assumes nothing.
use Rattle.std.proofs.Common.{◌≡◌, ℕ, Bool, true, false, ◌&&◌, eqb, sym, refl, ap, ◌∙◌, ap₂}
use Rattle.choice.specs.Pick.{pick}
use Rattle.choice.proofs.Branch.{left, pick_both}
use Rattle.choice.proofs.Tests.{and_both}
use Rattle.sets.specs.Set.{has, one, minus}
use Rattle.sets.proofs.Flags as flag
use Rattle.sets.proofs.Subsets.{within_self, within_none, nothing_left, all_left}
use Rattle.refusals.specs.Refusals.{not_refused}
use Rattle.kinds.specs.Kinds.{all_kinds, opened, disables, barred}
use Rattle.session.specs.declared.Session.{Session}
use Rattle.session.specs.declared.After.{After}
use Rattle.session.specs.Session.{state_ready, state_open, is_open, uses_tac, in_force, in_force_bit, recorded_bit, negotiated, held, Sound, permitted_by_base, permitted}
use Rattle.session.specs.With.{mismatched, held_to_ready, greeted, changed}
use Rattle.session.specs.Decisions.{answered}
use Rattle.session.proofs.Made.{never, mismatched_shut, to_ready_law}

-- ---- the three shapes of an answer
module _ (s t : Session) (outcome written : ℕ) where
  -- to t, with these kinds lost and gained
  abbrev moving : ℕ → ℕ → After
  moving lost gained =
      record { session = t; answer = record { refusal = not_refused; outcome = outcome; lost = lost; gained = gained; written = written } }

  pub unmoved : permitted t ≡ permitted s → answered s t outcome written ≡ moving 0 0
  unfolding answered
  unmoved same =
      ap₂ moving (ap (minus (permitted s)) same ∙ nothing_left (permitted s) (permitted s) (within_self (permitted s)))
      (ap (λ (p : ℕ). minus p (permitted s)) same ∙ nothing_left (permitted s) (permitted s) (within_self (permitted s)))

  pub only_lost : permitted t ≡ 0 → answered s t outcome written ≡ moving (permitted s) 0
  unfolding answered
  only_lost none =
      ap₂ moving (ap (minus (permitted s)) none ∙ all_left (permitted s))
      (ap (λ (p : ℕ). minus p (permitted s)) none ∙ nothing_left 0 (permitted s) (within_none (permitted s)))

  pub only_gained : permitted s ≡ 0 → answered s t outcome written ≡ moving 0 (permitted t)
  unfolding answered
  only_gained none =
      ap₂ moving (ap (λ (p : ℕ). minus p (permitted t)) none ∙ nothing_left 0 (permitted t) (within_none (permitted t)))
      (ap (minus (permitted t)) none ∙ all_left (permitted t))

-- ---- what permits none
pub shut_permits : (s : Session) → is_open s ≡ false → permitted s ≡ 0
unfolding permitted permitted_by_base
shut_permits s shut = ap (λ (p : ℕ). minus p (barred (held s))) (left _ _ shut) ∙ nothing_left 0 (barred (held s)) (within_none (barred (held s)))

pub ready_permits : (s : Session) → s.state ≡ state_ready → permitted s ≡ 0
ready_permits s is = shut_permits s (ap (λ (n : ℕ). eqb n state_open) is)

pub mismatched_permits : (s : Session) → permitted (mismatched s) ≡ 0
mismatched_permits s = shut_permits (mismatched s) (mismatched_shut s)

-- ---- what permits the same: a Hello is recorded, and the session is Open where it was
pub greeted_permits : (s : Session) (state number : ℕ) → eqb state state_open ≡ is_open s → permitted (greeted s state number) ≡ permitted s
unfolding permitted permitted_by_base has
greeted_permits s state number same =
    ap₂ (λ (is_open force : Bool). minus (pick is_open (minus (pick force (opened s.protects (negotiated s)) all_kinds) (disables s.disabled)) 0) (barred (held s))) same
    (flag.kept_on s.flags (one recorded_bit) in_force_bit refl)

-- an application is changed where negotiation is not in force
pub changed_permits : (s : Session) → Sound s → (n : ℕ) (on : Bool) → (is_open s ≡ true → in_force s ≡ false) → permitted (changed s n on) ≡ permitted s
unfolding permitted permitted_by_base held_to_ready
changed_permits s r n on unforced =
    ap (λ (p : ℕ). minus p (barred (held s)))
    (ap (λ (is_open : Bool). pick is_open (minus (pick (in_force s) (opened s.protects (negotiated (changed s n on))) all_kinds) (disables s.disabled)) 0)
    (to_ready_law s.state r.state).as_open
    ∙ pick_both (λ (x y : ℕ). x ≡ y) (is_open s)
    (λ is_open. ap (λ (k : ℕ). minus k (disables s.disabled)) (left _ _ (unforced is_open) ∙ sym (left _ _ (unforced is_open)))) (λ _. refl))

-- nor is it in force in Open where TAC is not used
pub unused_unforced : (s : Session) → Sound s → (is_open s && uses_tac s) ≡ false → is_open s ≡ true → in_force s ≡ false
unused_unforced s r unused o = go (in_force s) refl
  where
    go : (f : Bool) → in_force s ≡ f → f ≡ false
    go false e = refl
    go true e = never (and_both (is_open s) (uses_tac s) o (r.force_uses e)) unused
