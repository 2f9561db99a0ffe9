-- A number of 1 to w switched on or off in a set: it is then in the set or not, every other stays as it was, and no bits come beyond the
-- width. From the laws of one member more or less. Assumes nothing.
use mathlib.Core.Path.{◌≡◌, refl, sym, ap, ◌∙◌, subst}
use mathlib.Core.Bool.{Bool, true, false, ◌&&◌, and-false, true≢false, false≢true}
use Prim.Native.Nat.{ℕ, ◌+◌, ◌-◌, ◌%◌, ◌^◌, ◌<◌, ◌≤◌}
use native.Mathlib.Nat.{le_refl, mod-eq_of_lt}
use native.Mathlib.Omega.{arith}
use native.Mathlib.Decide.{ℕ_discrete}
use lib.Dec.{leb}
use borrow.Author.Tests.{le-leb, leb-true}
use Rattle.choice.specs.Pick.{pick}
use Rattle.choice.proofs.Branch.{by_test, pick_true, pick_false, left}
use Rattle.choice.proofs.Tests.{and_where}
use Rattle.sets.specs.Set.{has, with, without, numbered, holds, switched, Within}
use Rattle.sets.proofs.Members.{ext, has_none, has_with_same, has_with_other, has_without_same, has_without_other}
use Rattle.sets.proofs.Bounds.{with_lt, without_lt}

pub numbered_is : (w n : ℕ) → numbered w n ≡ true → (1 ≤ n) × (n ≤ w)
unfolding numbered
numbered_is w n h = go (leb 1 n) refl
  where
    go : (x : Bool) → leb 1 n ≡ x → (1 ≤ n) × (n ≤ w)
    go true e = (leb-true 1 n e, leb-true n w (rw e at h))
    go false e = absurd (false≢true (rw e at h))

pub is_numbered : (w n : ℕ) → 1 ≤ n → n ≤ w → numbered w n ≡ true
unfolding numbered
is_numbered w n l h = simp (le-leb _ _ l, le-leb _ _ h)

module _ (w s n : ℕ) (on : Bool) where
  pub switched_same : 1 ≤ n → n ≤ w → has (switched w s n on) (n - 1) ≡ on
  unfolding switched
  switched_same l h = simp (is_numbered w n l h, pick_true) (go on)
    where
      go : (on : Bool) → has (pick on (with s (n - 1)) (without s (n - 1))) (n - 1) ≡ on
      go true = rw pick_true (has_with_same s (n - 1))
      go false = rw pick_false (has_without_same s (n - 1))

  pub switched_other : (k : ℕ) → (n ≡ k + 1 → ⊥) → has (switched w s n on) k ≡ has s k
  unfolding switched
  switched_other k h =
      by_test same (λ q. let l = numbered_is w n q in
      by_test same (λ _. has_with_other s (n - 1) k (omega arith)) (λ _. has_without_other s (n - 1) k (omega arith)))
      (λ _. refl)
    where
      same : ℕ → Type 0
      same x = has x k ≡ has s k

  pub switched_lt : (v : ℕ) → w ≤ v → s < 2 ^ v → switched w s n on < 2 ^ v
  unfolding switched
  switched_lt v g h =
      by_test small (λ q. let l = numbered_is w n q in by_test small (λ _. with_lt v s (n - 1) h (omega arith)) (λ _. without_lt v s (n - 1) h))
      (λ _. h)
    where
      small : ℕ → Type 0
      small x = x < 2 ^ v

  -- so a set of v digits keeps them all
  pub switched_kept : (v : ℕ) → w ≤ v → s < 2 ^ v → switched w s n on % 2 ^ v ≡ switched w s n on
  switched_kept v g h = mod-eq_of_lt (switched_lt v g h)

-- ---- said of the numbers: it holds as it was switched, and every other as before
module _ (w s n : ℕ) (on : Bool) where
  pub holds_same : numbered w n ≡ true → holds w (switched w s n on) n ≡ on
  holds_same known =
      let l = numbered_is w n known in
      ap (λ (b : Bool). b && has (switched w s n on) (n - 1)) known ∙ switched_same w s n on l.0 l.1

  pub holds_other : (m : ℕ) → (m ≡ n → ⊥) → holds w (switched w s n on) m ≡ holds w s m
  holds_other m ne = and_where (numbered w m) (λ known. let l = numbered_is w m known in switched_other w s n on (m - 1) (λ e. ne (omega arith)))

pub holds_none_law : (w n : ℕ) → holds w 0 n ≡ false
holds_none_law w n = ap (λ (b : Bool). numbered w n && b) (has_none (n - 1)) ∙ and-false (numbered w n)

-- what is so already stays as it is
pub switched_so : (w s n : ℕ) (on : Bool) → s < 2 ^ w → has s (n - 1) ≡ on → switched w s n on ≡ s
switched_so w s n on small so = ext w (switched w s n on) s (switched_lt w s n on w (le_refl w) small) small (λ k l. go k l (ℕ_discrete n (k + 1)))
  where
    go : (k : ℕ) → k < w → Dec (n ≡ k + 1) → has (switched w s n on) k ≡ has s k
    go k l (yes e) =
        let place : n - 1 ≡ k = omega arith in
        subst (λ (j : ℕ). has (switched w s n on) j ≡ has s j) place (switched_same w s n on (omega arith) (omega arith) ∙ sym so)
    go k l (no e) = switched_other w s n on k e

-- ---- what it keeps of one set inside another
module _ (w n : ℕ) (on : Bool) (s k : ℕ) where
  switched_none : numbered w n ≡ false → has (switched w s n on) k ≡ has s k
  unfolding switched
  switched_none h = ap (λ (x : ℕ). has x k) (left _ _ h)

  switched_here : numbered w n ≡ true → n ≡ k + 1 → has (switched w s n on) k ≡ on
  switched_here h e =
      let l = numbered_is w n h in
      let place : n - 1 ≡ k = omega arith in
      rw place at (switched_same w s n on l.0 l.1)

module _ (w n a b : ℕ) (f : Within a b) where
  -- switched alike in both
  pub within_both : (on : Bool) → Within (switched w a n on) (switched w b n on)
  within_both on k q = go (numbered w n) refl (ℕ_discrete n (k + 1))
    where
      go : (x : Bool) → numbered w n ≡ x → Dec (n ≡ k + 1) → has (switched w b n on) k ≡ true
      go false h d = switched_none w n on b k h ∙ f k (sym (switched_none w n on a k h) ∙ q)
      go true h (yes e) = switched_here w n on b k h e ∙ sym (switched_here w n on a k h e) ∙ q
      go true h (no e) = switched_other w b n on k e ∙ f k (sym (switched_other w a n on k e) ∙ q)

  -- on in the first, where the second has it
  pub within_first : (numbered w n ≡ true → has b (n - 1) ≡ true) → Within (switched w a n true) b
  within_first g k q = go (numbered w n) refl (ℕ_discrete n (k + 1))
    where
      go : (x : Bool) → numbered w n ≡ x → Dec (n ≡ k + 1) → has b k ≡ true
      go false h d = f k (sym (switched_none w n true a k h) ∙ q)
      go true h (yes e) = let place : n - 1 ≡ k = omega arith in rw place at (g h)
      go true h (no e) = f k (sym (switched_other w a n true k e) ∙ q)

  -- off in the second, where the first has it not
  pub within_second : (numbered w n ≡ true → has a (n - 1) ≡ false) → Within a (switched w b n false)
  within_second g k q = go (numbered w n) refl (ℕ_discrete n (k + 1))
    where
      go : (x : Bool) → numbered w n ≡ x → Dec (n ≡ k + 1) → has (switched w b n false) k ≡ true
      go false h d = switched_none w n false b k h ∙ f k q
      go true h (yes e) = let place : n - 1 ≡ k = omega arith in absurd (true≢false (sym q ∙ (rw place at (g h))))
      go true h (no e) = switched_other w b n false k e ∙ f k q
