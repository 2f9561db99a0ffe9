-- A set inside another: what the operations keep, when a set is empty, and that the test `within` says it of the members. Each law goes by
-- members. Assumes nothing.
use mathlib.Core.Path.{◌≡◌, refl, sym, ap, ◌∙◌}
use mathlib.Core.Bool.{Bool, true, false, not, ◌&&◌, ◌||◌, true≢false, and-true, and-false}
use Prim.Native.Nat.{ℕ, zero, suc, ◌+◌, ◌^◌, ◌<◌}
use native.Mathlib.Nat.{pow-suc, lt_of_lt_of_le}
use native.Mathlib.Omega.{arith}
use lib.Dec.{lit<}
use lib.Pow.{pow_mono}
use borrow.Author.Tests.{eqb-true, eq-eqb}
use Rattle.choice.proofs.Tests.{holds_if, and_first, and_second, and_both, not_false}
use Rattle.sets.specs.Set.{has, common, union, minus, empty, within, Within}
use Rattle.sets.proofs.Members.{has_common, has_union, has_minus, has_none, ext}

pub within_self : (a : ℕ) → Within a a
within_self a k h = h

pub within_none : (a : ℕ) → Within 0 a
within_none a k h = absurd (true≢false (sym h ∙ has_none k))

pub within_commons : (a b c d : ℕ) → Within a c → Within b d → Within (common a b) (common c d)
within_commons a b c d f g k h =
    let both = sym (has_common a b k) ∙ h in
    has_common c d k ∙ and_both _ _ (f k (and_first (has a k) _ both)) (g k (and_second (has a k) _ both))

pub within_common : (a b c : ℕ) → Within a b → Within (common a c) (common b c)
within_common a b c f = within_commons a c b c f (within_self c)

-- where less is taken away, more is left
pub within_less : (a b c : ℕ) → Within b c → Within (minus a c) (minus a b)
within_less a b c f k h =
    let both = sym (has_minus a c k) ∙ h in
    has_minus a b k ∙ and_both _ _ (and_first (has a k) _ both) (go (not_false _ (and_second (has a k) _ both)) (has b k) refl)
  where
    go : has c k ≡ false → (x : Bool) → has b k ≡ x → not (has b k) ≡ true
    go out false e = ap not e
    go out true e = absurd (true≢false (sym (f k e) ∙ out))

pub within_union : (a b c d : ℕ) → Within a c → Within b d → Within (union a b) (union c d)
within_union a b c d f g k h = has_union c d k ∙ go (has a k) refl (sym (has_union a b k) ∙ h)
  where
    go : (x : Bool) → has a k ≡ x → (x || has b k) ≡ true → (has c k || has d k) ≡ true
    go true e p = rw (f k e) refl
    go false e p = right (has c k) (g k p)
      where
        right : (y : Bool) → has d k ≡ true → (y || has d k) ≡ true
        right true q = refl
        right false q = q

-- ---- the empty set
pub lt_pow : (n : ℕ) → n < 2 ^ n
lt_pow zero = lit< tt
lt_pow (suc n) = let h : n < 2 ^ n = lt_pow n in rw pow-suc (omega arith)

-- sets with the same members are one, whatever their width
pub same_members : (a b : ℕ) → ((k : ℕ) → has a k ≡ has b k) → a ≡ b
same_members a b f =
    ext (a + b) a b (lt_of_lt_of_le (lt_pow a) (pow_mono (omega arith))) (lt_of_lt_of_le (lt_pow b) (pow_mono (omega arith))) (λ k _. f k)

-- a set without a member is empty
pub no_member : (a : ℕ) → ((k : ℕ) → has a k ≡ true → ⊥) → a ≡ 0
no_member a f = same_members a 0 (λ k. go k (has a k) refl ∙ sym (has_none k))
  where
    go : (k : ℕ) (x : Bool) → has a k ≡ x → has a k ≡ false
    go k true e = absurd (f k e)
    go k false e = e

-- an empty set has no member, and one that has none is empty
pub empty_is : (a : ℕ) → empty a ≡ true → a ≡ 0
unfolding empty
empty_is a = eqb-true a 0

pub empty_lacks : (a k : ℕ) → empty a ≡ true → has a k ≡ false
empty_lacks a k h = ap (λ (s : ℕ). has s k) (empty_is a h) ∙ has_none k

pub lacks_empty : (a : ℕ) → ((k : ℕ) → has a k ≡ true → ⊥) → empty a ≡ true
unfolding empty
lacks_empty a f = eq-eqb a 0 (no_member a f)

-- ---- the test says it of the members
and_not : (x y : Bool) → (x ≡ true → y ≡ true) → x && not y ≡ true → ⊥
and_not true y f h = true≢false (sym (rw (f refl) at h))
and_not false y f h = true≢false (sym h)

pub within_holds : (a b : ℕ) → Within a b → within a b ≡ true
unfolding within
within_holds a b f = lacks_empty (minus a b) (λ k h. and_not (has a k) (has b k) (f k) (sym (has_minus a b k) ∙ h))

pub within_means : (a b : ℕ) → within a b ≡ true → Within a b
unfolding within
within_means a b h k q =
    holds_if (has b k) (λ e.
    true≢false (sym (has_minus a b k ∙ ap (λ (x : Bool). x && not (has b k)) q ∙ ap not e) ∙ empty_lacks (minus a b) k h))

-- ---- what is left of a set without another
pub nothing_left : (a b : ℕ) → Within a b → minus a b ≡ 0
unfolding within
nothing_left a b h = empty_is (minus a b) (within_holds a b h)

pub all_left : (a : ℕ) → minus a 0 ≡ a
all_left a = same_members (minus a 0) a (λ k. has_minus a 0 k ∙ ap (λ (b : Bool). has a k && not b) (has_none k) ∙ and-true (has a k))

-- ---- with the empty set nothing is in common
pub common_none : (a : ℕ) → common a 0 ≡ 0
common_none a = no_member (common a 0) (λ k h. true≢false (sym h ∙ has_common a 0 k ∙ ap (λ (b : Bool). has a k && b) (has_none k) ∙ and-false (has a k)))
