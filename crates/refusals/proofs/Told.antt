-- An answer as C has it says which answer or refusal it was. Assumes nothing.
use Rattle.std.proofs.Common.{◌≡◌, ◌∙◌, sym, ap, refl, ℕ, Result, Ok, Err}
use Rattle.refusals.specs.declared.Refusal.{Refusal}
use Rattle.refusals.specs.Refusals.{not_refused, told_as, number_told}
use Rattle.refusals.proofs.Numbers.{refuses, same_number}

module _ {A B : Type 0} (answered : A → B) (refused : ℕ → B) (refusal : B → ℕ) (value : B → A) (none : (a : A) → refusal (answered a) ≡ not_refused)
    (number : (n : ℕ) → refusal (refused n) ≡ n) (same : (a : A) → value (answered a) ≡ a) where
  pub told_same : (r s : Result A Refusal) → told_as answered refused r ≡ told_as answered refused s → r ≡ s
  told_same (Ok a) (Ok b) h = ap Ok (sym (same a) ∙ ap value h ∙ same b)
  told_same (Ok a) (Err n) h = absurd (refuses n (sym (number _) ∙ sym (ap refusal h) ∙ none a))
  told_same (Err n) (Ok b) h = absurd (refuses n (sym (number _) ∙ ap refusal h ∙ none b))
  told_same (Err n) (Err m) h = ap Err (same_number n m (sym (number _) ∙ ap refusal h ∙ number _))

pub number_same : (r s : Result (Unit {0}) Refusal) → number_told r ≡ number_told s → r ≡ s
number_same = told_same _ _ (λ n. n) (λ _. tt) (λ _. refl) (λ _. refl) (λ _. refl)
