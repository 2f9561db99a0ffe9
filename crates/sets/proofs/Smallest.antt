-- The smallest member of a set that has one: it is in it, and nothing below it is. By induction over the digits. Assumes nothing.
use Prim.Native.Nat.{ℕ, zero, suc, ◌/◌, ◌%◌, ◌^◌, ◌<◌}
use mathlib.Core.Path.{◌≡◌, refl, sym, ap, ◌∙◌}
use mathlib.Core.Bool.{true, false}
use lib.Count.{count_trailing_zeros, under}
use lib.Dec.{eqb}
use native.Mathlib.Nat.{mod-lt, zero-lt-suc, div-add-mod'}
use native.Mathlib.Omega.{arith}
use Rattle.sets.specs.Set.{set_width, has, first}
use Rattle.sets.proofs.Members.{has_half, has_zeroth, half_lt}

-- by the lowest digit
lowest : (P : ℕ → Type 0) (s : ℕ) → (s % 2 ≡ 0 → P 0) → (s % 2 ≡ 1 → P 1) → P (s % 2)
lowest P s even odd = go (s % 2) refl (mod-lt s (zero-lt-suc 1))
  where
    go : (r : ℕ) → s % 2 ≡ r → r < 2 → P r
    go zero e l = even e
    go (suc zero) e l = odd e
    go (suc (suc r)) e l = absurd (omega arith)

within_digits : (d s : ℕ) → s < 2 ^ d → (s ≡ 0 → ⊥) → has s (count_trailing_zeros d s) ≡ true
unfolding count_trailing_zeros
within_digits zero s l some = absurd (some (omega arith))
within_digits (suc d) s l some =
    lowest (λ (r : ℕ). has s (under r (count_trailing_zeros d (s / 2))) ≡ true) s
    (λ even. sym (has_half s (count_trailing_zeros d (s / 2))) ∙ within_digits d (s / 2) (half_lt s d l) (λ none. some (sym (div-add-mod' s 2) ∙ rw (none, even) refl)))
    (λ odd. has_zeroth s ∙ ap (λ (r : ℕ). eqb r 1) odd)

below_digits : (d s k : ℕ) → k < count_trailing_zeros d s → has s k ≡ false
unfolding count_trailing_zeros
below_digits zero s k = λ l. absurd (omega arith)
below_digits (suc d) s k =
    lowest (λ (r : ℕ). k < under r (count_trailing_zeros d (s / 2)) → has s k ≡ false) s (go k (λ j. below_digits d (s / 2) j)) (λ odd l. absurd (omega arith))
  where
    go : (k : ℕ) → ((j : ℕ) → j < count_trailing_zeros d (s / 2) → has (s / 2) j ≡ false) → s % 2 ≡ 0 → k < suc (count_trailing_zeros d (s / 2)) → has s k ≡ false
    go zero rest even l = has_zeroth s ∙ ap (λ (r : ℕ). eqb r 1) even
    go (suc k) rest even l = sym (has_half s k) ∙ rest k (omega arith)

pub first_has : (s : ℕ) → s < 2 ^ set_width → (s ≡ 0 → ⊥) → has s (first s) ≡ true
unfolding first
first_has s = within_digits set_width s

pub below_first : (s k : ℕ) → k < first s → has s k ≡ false
unfolding first
below_first s k = below_digits set_width s k
