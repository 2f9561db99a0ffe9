-- Flags with more of them where a test holds: which flags they have then, and that no spare one comes. By cases on the test. Assumes nothing.
use Rattle.std.proofs.Common.{◌≡◌, ℕ, ◌^◌, ◌<◌, Bool, true, false, sym, refl, ◌∙◌}
use Rattle.choice.proofs.Branch.{by_test}
use Rattle.sets.specs.Set.{has, minus, within}
use Rattle.sets.proofs.Bounds.{union_lt}
use Rattle.sets.proofs.Flags as flag
use Rattle.sets.proofs.Subsets.{within_means}
use Rattle.session.specs.Creation.{raised}

module _ (flags m k : ℕ) (on : Bool) where
  pub raised_kept : has m k ≡ false → has (raised flags on m) k ≡ has flags k
  unfolding raised
  raised_kept h = by_test (λ (f : ℕ). has f k ≡ has flags k) (λ _. flag.kept_on flags m k h) (λ _. refl)

  pub raised_is : has m k ≡ true → has flags k ≡ false → has (raised flags on m) k ≡ on
  unfolding raised
  raised_is h e = by_test (λ (f : ℕ). has f k ≡ on) (λ t. flag.on flags m k h ∙ sym t) (λ t. e ∙ sym t)

module _ (flags m w : ℕ) (on : Bool) (h : flags < 2 ^ w) (l : m < 2 ^ w) where
  pub raised_lt : raised flags on m < 2 ^ w
  unfolding raised
  raised_lt = by_test (λ (f : ℕ). f < 2 ^ w) (λ _. union_lt w flags m h l) (λ _. h)

  -- raised, and then lowered with others
  pub raised_next : (b : ℕ) → within m b ≡ true → minus (raised flags on m) b ≡ minus flags b
  unfolding raised
  raised_next b i = by_test (λ (x : ℕ). minus x b ≡ minus flags b) (λ _. flag.lowered_next w flags m b h l (within_means m b i)) (λ _. refl)
