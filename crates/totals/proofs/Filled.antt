-- A list that is filled place by place, as a loop over an array goes: it stays as long as it was, each place that was passed has its value, and the others are
-- as they were. For any list with one place more at each step. By induction over the places. Assumes nothing.
use Prim.Native.Nat.{ℕ, zero, suc, ◌<◌, ◌≤◌}
use mathlib.Core.Path.{◌≡◌, refl, sym, ◌∙◌}
use mathlib.Core.List.{List}
use lib.ListN.{length, get_or, set, length-set}
use lib.Seq.{get_or-set_same, get_or-set_other}
use native.Mathlib.Decide.{dec_lt}
use native.Mathlib.Omega.{arith}

module _ (value : ℕ → ℕ) (list : ℕ → List ℕ) (more : (m : ℕ) → list (suc m) ≡ set (list m) m (value m)) where
  pub filled_length : (m : ℕ) → length (list m) ≡ length (list 0)
  filled_length zero = refl
  filled_length (suc m) = rw (more m, length-set) (filled_length m)

  pub filled_at : (m k : ℕ) → k < m → k < length (list 0) → get_or (list m) k 0 ≡ value k
  filled_at zero k l s = absurd (omega arith)
  filled_at (suc m) k l s = rw (more m) (go (dec_lt k m) (λ h. filled_at m k h s))
    where
      go : Dec (k < m) → (k < m → get_or (list m) k 0 ≡ value k) → get_or (set (list m) m (value m)) k 0 ≡ value k
      go (yes h) before = get_or-set_other (list m) m k (value m) 0 (λ e. absurd (omega arith)) ∙ before h
      go (no d) before = let e : k ≡ m = omega arith in rw (sym e) (get_or-set_same (list k) k (value k) 0 (rw (filled_length k) s))

  pub filled_past : (m k : ℕ) → m ≤ k → get_or (list m) k 0 ≡ get_or (list 0) k 0
  filled_past zero k l = refl
  filled_past (suc m) k l = rw (more m) (get_or-set_other (list m) m k (value m) 0 (λ e. absurd (omega arith)) ∙ filled_past m k (omega arith))
