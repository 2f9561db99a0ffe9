-- The set of the numbers for which a test holds: its members are those numbers, it has no bits beyond its width, and of two tests that agree it is one
-- set. By the laws of switching one number on or off, and induction over the numbers. Assumes nothing.
use Prim.Native.Nat.{ℕ, zero, suc, ◌+◌, ◌-◌, ◌^◌, ◌<◌, ◌≤◌}
use mathlib.Core.Path.{◌≡◌, refl, ◌∙◌}
use mathlib.Core.Bool.{Bool}
use lib.Pow.{pow_pos}
use native.Mathlib.Nat.{le_refl}
use native.Mathlib.Decide.{dec_lt}
use native.Mathlib.Omega.{arith}
use Rattle.sets.specs.Set.{has, switched, chosen}
use Rattle.sets.proofs.Switches.{switched_same, switched_other, switched_lt}

module _ (w : ℕ) (test : ℕ → Bool) where
  pub chosen_has : (k n : ℕ) → k ≤ w → 1 ≤ n → n ≤ k → has (chosen w test k) (n - 1) ≡ test n
  unfolding chosen
  chosen_has zero n le least most = absurd (omega arith)
  chosen_has (suc k) n le least most = go (dec_lt n (k + 1)) (λ l. chosen_has k n (omega arith) least (omega arith))
    where
      go : Dec (n < k + 1) → (n < k + 1 → has (chosen w test k) (n - 1) ≡ test n) → has (switched w (chosen w test k) (k + 1) (test (k + 1))) (n - 1) ≡ test n
      go (yes l) before = switched_other w (chosen w test k) (k + 1) (test (k + 1)) (n - 1) (λ e. absurd (omega arith)) ∙ before l
      go (no d) before =
          let e : n ≡ k + 1 = omega arith in
          rw e (switched_same w (chosen w test k) (k + 1) (test (k + 1)) (omega arith) (omega arith))

  pub chosen_lt : (k : ℕ) → chosen w test k < 2 ^ w
  unfolding chosen
  chosen_lt zero = pow_pos w
  chosen_lt (suc k) = switched_lt w (chosen w test k) (k + 1) (test (k + 1)) w (le_refl w) (chosen_lt k)

pub chosen_same : (w : ℕ) (test other : ℕ → Bool) (k : ℕ) → ((n : ℕ) → 1 ≤ n → n ≤ k → test n ≡ other n) → chosen w test k ≡ chosen w other k
unfolding chosen
chosen_same w test other zero f = refl
chosen_same w test other (suc k) f =
    let before = chosen_same w test other k (λ n l m. f n l (omega arith)) in
    let this : test (k + 1) ≡ other (k + 1) = f (k + 1) (omega arith) (omega arith) in
    rw (before, this) refl
