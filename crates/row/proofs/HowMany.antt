-- How many sessions of a row are so, whatever is asked of them: the same where two questions agree, no more than there are sessions, fewer where one is not so,
-- some where one is, and what one place of the row changes. By induction over the row. Assumes nothing.
use Prim.Native.Nat.{ℕ, zero, suc, ◌+◌, ◌<◌, ◌≤◌}
use mathlib.Core.Path.{◌≡◌, refl, sym, ap, ap₂, subst}
use mathlib.Core.Bool.{Bool, true, false}
use mathlib.Core.List.{List, [], ◌∷◌}
use lib.ListN.{length, set}
use native.Mathlib.Nat.{le_refl}
use native.Mathlib.Omega.{arith}
use Rattle.choice.proofs.Branch.{taken, left, by_test}
use Rattle.session.specs.declared.Session.{Session}
use Rattle.row.specs.Row.{session_at, once, how_many}

pub same_question : (so other : Session → Bool) → ((s : Session) → so s ≡ other s) → (row : List Session) → how_many so row ≡ how_many other row
unfolding how_many
same_question so other same [] = refl
same_question so other same (s ∷ row) = ap₂ (λ (b : Bool) (n : ℕ). once b + n) (same s) (same_question so other same row)

module _ (so : Session → Bool) where
  -- no more than there are sessions
  pub how_many_le : (row : List Session) → how_many so row ≤ length row
  unfolding how_many
  how_many_le [] = le_refl 0
  how_many_le (s ∷ row) = let h = how_many_le row in by_test (λ (m : ℕ). m + how_many so row ≤ suc (length row)) (λ _. omega arith) (λ _. omega arith)

  -- one that is not so leaves a place
  pub how_many_lt : (row : List Session) (at : ℕ) → at < length row → so (session_at row at) ≡ false → how_many so row < length row
  unfolding how_many
  how_many_lt [] at l h = absurd (omega arith)
  how_many_lt (s ∷ row) zero l h = let most = how_many_le row in subst (λ (m : ℕ). m + how_many so row < suc (length row)) (sym (left _ _ h)) (omega arith)
  how_many_lt (s ∷ row) (suc at) l h =
      let less = how_many_lt row at (omega arith) h in
      by_test (λ (m : ℕ). m + how_many so row < suc (length row)) (λ _. omega arith) (λ _. omega arith)

  -- one that is so counts
  pub how_many_some : (row : List Session) (at : ℕ) → at < length row → so (session_at row at) ≡ true → 1 ≤ how_many so row
  unfolding how_many
  how_many_some [] at l h = absurd (omega arith)
  how_many_some (s ∷ row) zero l h = subst (λ (m : ℕ). 1 ≤ m + how_many so row) (sym (taken _ _ h)) (omega arith)
  how_many_some (s ∷ row) (suc at) l h = let some = how_many_some row at (omega arith) h in omega arith

  -- one session replaced
  pub how_many_set : (row : List Session) (at : ℕ) (s : Session) → at < length row
      → how_many so (set row at s) + once (so (session_at row at)) ≡ how_many so row + once (so s)
  unfolding how_many
  how_many_set [] at s l = absurd (omega arith)
  how_many_set (x ∷ row) zero s l = swap (once (so s)) (how_many so row) (once (so x))
    where
      swap : (a b c : ℕ) → a + b + c ≡ c + b + a
      swap a b c = omega arith
  how_many_set (x ∷ row) (suc at) s l =
      under_one (once (so x)) (how_many so (set row at s)) (once (so (session_at row at))) (how_many so row) (once (so s)) (how_many_set row at s (omega arith))
    where
      under_one : (a b c d f : ℕ) → b + c ≡ d + f → a + b + c ≡ a + d + f
      under_one a b c d f h = omega arith

  -- two rows of the same sessions
  same_sessions : (r t : List Session) → length r ≡ length t → ((k : ℕ) → session_at r k ≡ session_at t k) → how_many so r ≡ how_many so t
  unfolding how_many
  same_sessions [] [] len same = refl
  same_sessions [] (y ∷ t) len same = absurd (omega arith)
  same_sessions (x ∷ r) [] len same = absurd (omega arith)
  same_sessions (x ∷ r) (y ∷ t) len same =
      ap₂ (λ (c d : ℕ). c + d) (ap (λ (s : Session). once (so s)) (same zero)) (same_sessions r t (omega arith) (λ k. same (suc k)))

  -- two rows alike but for one session, of which the same is so in both
  pub alike_but_one : (r t : List Session) (at : ℕ) → length r ≡ length t → ((k : ℕ) → (k ≡ at → ⊥) → session_at r k ≡ session_at t k)
      → so (session_at r at) ≡ so (session_at t at) → how_many so r ≡ how_many so t
  unfolding how_many
  alike_but_one [] [] at len same one = refl
  alike_but_one [] (y ∷ t) at len same one = absurd (omega arith)
  alike_but_one (x ∷ r) [] at len same one = absurd (omega arith)
  alike_but_one (x ∷ r) (y ∷ t) zero len same one =
      ap₂ (λ (c d : ℕ). c + d) (ap once one) (same_sessions r t (omega arith) (λ k. same (suc k) (λ z. absurd (omega arith))))
  alike_but_one (x ∷ r) (y ∷ t) (suc at) len same one =
      ap₂ (λ (c d : ℕ). c + d) (ap (λ (s : Session). once (so s)) (same zero (λ z. absurd (omega arith))))
      (alike_but_one r t at (omega arith) (λ k d. same (suc k) (λ z. d (omega arith))) one)
