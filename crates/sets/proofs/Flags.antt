-- A set of flags with some taken off or put on: what is off or on, and what stays. Where the sets and the place are numbers, `refl` shows the
-- premise. Assumes nothing.
use mathlib.Core.Path.{◌≡◌, refl, sym, ap, ◌∙◌}
use mathlib.Core.Bool.{Bool, true, false, not, ◌&&◌, ◌||◌, or-true, or-false, and-true, and-false}
use Prim.Native.Nat.{ℕ, ◌^◌, ◌<◌}
use Rattle.sets.specs.Set.{has, union, minus, Within}
use Rattle.sets.proofs.Bounds.{union_lt, minus_lt}
use Rattle.sets.proofs.Members.{has_union, has_minus, ext}

module _ (a m k : ℕ) where
  pub off : has m k ≡ true → has (minus a m) k ≡ false
  off h = has_minus a m k ∙ ap (λ (b : Bool). has a k && not b) h ∙ and-false (has a k)

  pub kept_off : has m k ≡ false → has (minus a m) k ≡ has a k
  kept_off h = has_minus a m k ∙ ap (λ (b : Bool). has a k && not b) h ∙ and-true (has a k)

  pub on : has m k ≡ true → has (union a m) k ≡ true
  on h = has_union a m k ∙ ap (λ (b : Bool). has a k || b) h ∙ or-true (has a k)

  pub kept_on : has m k ≡ false → has (union a m) k ≡ has a k
  kept_on h = has_union a m k ∙ ap (λ (b : Bool). has a k || b) h ∙ or-false (has a k)

-- flags that are lowered next may as well not be raised
pub lowered_next : (w a m b : ℕ) → a < 2 ^ w → m < 2 ^ w → Within m b → minus (union a m) b ≡ minus a b
lowered_next w a m b la lm h =
    ext w (minus (union a m) b) (minus a b) (minus_lt w (union a m) b (union_lt w a m la lm)) (minus_lt w a b la)
    (λ k _. has_minus (union a m) b k ∙ ap (λ (x : Bool). x && not (has b k)) (has_union a m k) ∙ go (has a k) (has m k) (has b k) (h k) ∙ sym (has_minus a b k))
  where
    go : (x y z : Bool) → (y ≡ true → z ≡ true) → (x || y) && not z ≡ x && not z
    go x false z f = ap (λ (v : Bool). v && not z) (or-false x)
    go x true z f = rw (f refl) (and-false (x || true) ∙ sym (and-false x))

-- and as well not be lowered before
pub lowered_twice : (w a m b : ℕ) → a < 2 ^ w → Within m b → minus (minus a m) b ≡ minus a b
lowered_twice w a m b la h =
    ext w (minus (minus a m) b) (minus a b) (minus_lt w (minus a m) b (minus_lt w a m la)) (minus_lt w a b la)
    (λ k _. has_minus (minus a m) b k ∙ ap (λ (x : Bool). x && not (has b k)) (has_minus a m k) ∙ go (has a k) (has m k) (has b k) (h k) ∙ sym (has_minus a b k))
  where
    go : (x y z : Bool) → (y ≡ true → z ≡ true) → (x && not y) && not z ≡ x && not z
    go x false z f = ap (λ (v : Bool). v && not z) (and-true x)
    go x true z f = rw (f refl) (and-false (x && false) ∙ sym (and-false x))
