-- No two answers to a question are told alike. Assumes nothing.
use Rattle.std.proofs.Common.{◌≡◌, refl, ℕ, Bool, true, false, nat_eq, List, [], ◌∷◌, get_or, Option, None, Some, Result}
use Rattle.choice.specs.Pick.{pick}
use Rattle.refusals.specs.declared.Refusal.{Refusal}
use Rattle.refusals.proofs.Told.{told_same}
use Rattle.session.specs.declared.Permission.{Permission}
use Rattle.session.specs.declared.Kinds.{Kinds}
use Rattle.session.specs.declared.Reason.{Reason}
use Rattle.session.specs.declared.Retry.{Retry}
use Rattle.session.specs.declared.questions.Obstacle.{Obstacle}
use Rattle.session.specs.declared.questions.Obstacle.TheVariants.{NotOpen, DisabledByPeer, NotEnabled, NotListed, CapabilityNotOurs, CapabilityNotTheirs}
use Rattle.session.specs.Questions.{no_kind, kinds_of, no_permission, permission_of, reason_number, no_reason, reason_of, no_interval, retry_of}

pub kinds_same : (r s : Result ℕ Refusal) → kinds_of r ≡ kinds_of s → r ≡ s
kinds_same = told_same _ no_kind (λ (k : Kinds). k.refusal) (λ k. k.kinds) (λ _. refl) (λ _. refl) (λ _. refl)

pub permission_same : (r s : Result Bool Refusal) → permission_of r ≡ permission_of s → r ≡ s
unfolding pick
permission_same = told_same _ no_permission (λ (p : Permission). p.refusal) (λ p. nat_eq p.permitted 1) (λ _. refl) (λ _. refl) same
  where
    same : (permitted : Bool) → nat_eq (pick permitted 1 0) 1 ≡ permitted
    same true = refl
    same false = refl

-- by its number
by_number : List (Option Obstacle)
by_number = None ∷ Some NotOpen ∷ Some DisabledByPeer ∷ Some NotEnabled ∷ Some NotListed ∷ Some CapabilityNotOurs ∷ Some CapabilityNotTheirs ∷ []

pub reason_same : (r s : Result (Option Obstacle) Refusal) → reason_of r ≡ reason_of s → r ≡ s
unfolding by_number
reason_same = told_same _ no_reason (λ (w : Reason). w.refusal) (λ w. get_or by_number w.reason None) (λ _. refl) (λ _. refl) back
  where
    back : (obstacle : Option Obstacle) → get_or by_number (reason_number obstacle) None ≡ obstacle
    back None = refl
    back (Some NotOpen) = refl
    back (Some DisabledByPeer) = refl
    back (Some NotEnabled) = refl
    back (Some NotListed) = refl
    back (Some CapabilityNotOurs) = refl
    back (Some CapabilityNotTheirs) = refl

pub retry_same : (r s : Result ℕ Refusal) → retry_of r ≡ retry_of s → r ≡ s
retry_same = told_same _ no_interval (λ (w : Retry). w.refusal) (λ w. w.interval) (λ _. refl) (λ _. refl) (λ _. refl)
