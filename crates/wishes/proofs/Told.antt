-- No two answers are told alike. Assumes nothing.
use Rattle.std.proofs.Common.{◌≡◌, refl, ℕ, Bool, true, false, nat_eq, Result}
use Rattle.choice.specs.Pick.{pick}
use Rattle.refusals.specs.declared.Refusal.{Refusal}
use Rattle.refusals.proofs.Told.{told_same}
use Rattle.wishes.specs.declared.Want.{Want}
use Rattle.wishes.specs.declared.Written.{Written}
use Rattle.wishes.specs.Wishes.{not_wanted, want_of, unwritten, written_of}

pub want_same : (r s : Result Bool Refusal) → want_of r ≡ want_of s → r ≡ s
unfolding pick
want_same = told_same _ not_wanted (λ (w : Want). w.refusal) (λ w. nat_eq w.wanted 1) (λ _. refl) (λ _. refl) same
  where
    same : (wanted : Bool) → nat_eq (pick wanted 1 0) 1 ≡ wanted
    same true = refl
    same false = refl

pub written_same : (r s : Result ℕ Refusal) → written_of r ≡ written_of s → r ≡ s
written_same = told_same _ unwritten (λ (w : Written). w.refusal) (λ w. w.written) (λ _. refl) (λ _. refl) (λ _. refl)
