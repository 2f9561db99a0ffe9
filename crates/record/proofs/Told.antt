-- No two answers are told alike. Assumes nothing.
use Rattle.std.proofs.Common.{◌≡◌, refl, ℕ, Result}
use Rattle.refusals.specs.declared.Refusal.{Refusal}
use Rattle.refusals.proofs.Told.{told_same}
use Rattle.session.specs.declared.Session.{Session}
use Rattle.session.specs.With.{no_session}
use Rattle.record.specs.declared.Loaded.{Loaded}
use Rattle.record.specs.declared.Moved.{Moved}
use Rattle.record.specs.Loaded.{loaded_of}
use Rattle.record.specs.Moves.{moved_of}

pub loaded_same : (r s : Result Session Refusal) → loaded_of r ≡ loaded_of s → r ≡ s
loaded_same = told_same _ (λ n. record { refusal = n; session = no_session }) (λ (l : Loaded). l.refusal) (λ l. l.session) (λ _. refl) (λ _. refl) (λ _. refl)

pub moved_same : (r s : Result ℕ Refusal) → moved_of r ≡ moved_of s → r ≡ s
moved_same = told_same _ (λ n. record { refusal = n; lost = 0 }) (λ (m : Moved). m.refusal) (λ m. m.lost) (λ _. refl) (λ _. refl) (λ _. refl)
