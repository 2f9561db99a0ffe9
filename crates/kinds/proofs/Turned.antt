-- One table turned round is the other: digit k at place i of the first is digit i at place k of the second. It is computed for every two places, and one law
-- reads it off; beyond the tables both digits are 0. So the layout by number and the layout by kind agree. Assumes nothing.
use mathlib.Core.Path.{◌≡◌, refl, sym, ap, ◌∙◌}
use mathlib.Core.List.{List, []}
use mathlib.Core.Bool.{Bool, true, false, not, ◌&&◌}
use Prim.Native.Nat.{ℕ, zero, suc, ◌-◌, ◌^◌, ◌<◌, ◌≤◌}
use native.Mathlib.Decide.{dec_lt}
use native.Mathlib.Nat.{le_refl}
use native.Mathlib.Omega.{arith}
use lib.Dec.{T, eqb, lit<}
use lib.Pow.{pow_pos}
use lib.ListN.{get_or, length, get_or-eq_default}
use borrow.Author.Tests.{eqb-true, eqb-false}
use Rattle.choice.specs.Pick.{pick}
use Rattle.choice.proofs.Branch.{by_test}
use Rattle.choice.proofs.Tests.{and_first, and_second, and_where}
use Rattle.sets.specs.Set.{has, numbered}
use Rattle.sets.proofs.Members.{has_pick, has_none, has_above, has_with_same, has_with_other}
use Rattle.sets.proofs.Bounds.{with_lt}
use Rattle.sets.proofs.Switches.{numbered_is}
use Rattle.kinds.specs.Kinds.{application_count, kind_count, app_count, known_application, is_in, session_protection, opens_table, set_of, opens, controlled}
use Rattle.kinds.specs.ByKind.{openers_always, openers, controllers, LayoutsAgree, AppLayoutsAgree}
use Rattle.kinds.proofs.Table.{opens_sets, opens_at, controls_sets, controls_at, openers_sets, openers_at, controllers_sets, controllers_at, every, every_lt}

-- ---- a test at every place
abbrev all : ℕ → (ℕ → Bool) → Bool
all zero test = true
all (suc n) test = test n && all n test

all_at : (n : ℕ) (test : ℕ → Bool) → all n test ≡ true → (i : ℕ) → i < n → test i ≡ true
all_at zero test h i l = absurd (omega arith)
all_at (suc n) test h i l = go (all_at n test (and_second (test n) (all n test) h) i) (dec_lt i n)
  where
    go : (i < n → test i ≡ true) → Dec (i < n) → test i ≡ true
    go before (yes less) = before less
    go before (no d) = let e : i ≡ n = omega arith in rw e (and_first (test n) (all n test) h)

abbrev same : Bool → Bool → Bool
same true y = y
same false y = not y

same_is : (x y : Bool) → same x y ≡ true → x ≡ y
same_is true y h = sym h
same_is false true h = h
same_is false false h = refl

-- ---- two tables, of w places with v digits and of v places with w digits
module _ (w v : ℕ) (rows columns : List ℕ) where
  abbrev alike : ℕ → ℕ → Bool
  alike i k = same (has (get_or rows i 0) k) (has (get_or columns k 0) i)

  turned : all w (λ i. all v (alike i)) ≡ true → length rows ≤ w → length columns ≤ v → T (every (2 ^ v) rows) → T (every (2 ^ w) columns)
      → (i k : ℕ) → has (get_or rows i 0) k ≡ has (get_or columns k 0) i
  turned h lr lc tr tc i k = go (dec_lt i w) (dec_lt k v)
    where
      none : (table : List ℕ) (at j : ℕ) → length table ≤ at → has (get_or table at 0) j ≡ false
      none table at j l = ap (λ (s : ℕ). has s j) (get_or-eq_default table 0 l) ∙ has_none j

      go : Dec (i < w) → Dec (k < v) → has (get_or rows i 0) k ≡ has (get_or columns k 0) i
      go (yes less) (yes also) = same_is _ _ (all_at v (alike i) (all_at w (λ i. all v (alike i)) h i less) k also)
      go (yes less) (no d) =
          has_above v (get_or rows i 0) k (every_lt (2 ^ v) rows tr (pow_pos v) i) (omega arith) ∙ sym (none columns k i (omega (arith, lc)))
      go (no d) also =
          none rows i k (omega (arith, lr)) ∙ sym (has_above w (get_or columns k 0) i (every_lt (2 ^ w) columns tc (pow_pos w) k) (omega arith))

-- ---- a number that is none of them stands for nothing
where_numbered : (w n kinds t k : ℕ) → (numbered w n ≡ true → has kinds k ≡ has t (n - 1))
    → has (pick (numbered w n) kinds 0) k ≡ numbered w n && has t (n - 1)
where_numbered w n kinds t k f = has_pick (numbered w n) kinds k ∙ and_where (numbered w n) f

-- ---- applications
openers_turned : (i k : ℕ) → has (get_or opens_sets i 0) k ≡ has (get_or openers_sets k 0) i
unfolding has
openers_turned = turned application_count kind_count opens_sets openers_sets refl (le_refl _) (le_refl _) tt tt

at_application : (i k : ℕ) → has (set_of (get_or opens_table i [])) k ≡ has (openers_always k) i
at_application i k = ap (λ (s : ℕ). has s k) (sym (opens_at i)) ∙ openers_turned i k ∙ ap (λ (s : ℕ). has s i) (openers_at k)

-- Session Protection is in no set of the table
unprotected : (k : ℕ) → has (openers_always k) (session_protection - 1) ≡ false
unfolding set_of
unprotected k = sym (at_application (session_protection - 1) k) ∙ has_none k

always_lt : (k : ℕ) → openers_always k < 2 ^ application_count
always_lt k = rw (← openers_at k) (every_lt (2 ^ application_count) openers_sets tt (lit< tt) k)

module _ (protects k : ℕ) where
  -- it is added for the protected kinds, and for no other
  at_protection : has protects k ≡ has (openers protects k) (session_protection - 1)
  unfolding openers
  at_protection =
      by_test (λ (s : ℕ). has protects k ≡ has s (session_protection - 1))
      (λ h. h ∙ sym (has_with_same (openers_always k) (session_protection - 1))) (λ h. h ∙ sym (unprotected k))

  -- every other application is as in the table
  at_other : (i : ℕ) → (session_protection - 1 ≡ i → ⊥) → has (openers_always k) i ≡ has (openers protects k) i
  unfolding openers
  at_other i d =
      by_test (λ (s : ℕ). has (openers_always k) i ≡ has s i)
      (λ _. sym (has_with_other (openers_always k) (session_protection - 1) i d)) (λ _. refl)

  at_known : (n : ℕ) → known_application n ≡ true
      → has (pick (eqb n session_protection) protects (set_of (get_or opens_table (n - 1) []))) k ≡ has (openers protects k) (n - 1)
  at_known n h =
      by_test (λ (s : ℕ). has s k ≡ has (openers protects k) (n - 1)) (λ e. rw (eqb-true n session_protection e) at_protection)
      (λ e. at_application (n - 1) k ∙ at_other (n - 1) (λ q. eqb-false n session_protection e (omega (arith, numbered_is application_count n h))))

  pub openers_lt : openers protects k < 2 ^ application_count
  unfolding openers
  openers_lt =
      by_test (λ (s : ℕ). s < 2 ^ application_count)
      (λ _. with_lt application_count (openers_always k) (session_protection - 1) (always_lt k) (lit< tt)) (λ _. always_lt k)

pub layouts_agree : LayoutsAgree
unfolding opens is_in
layouts_agree n k protects = where_numbered application_count n _ (openers protects k) k (at_known protects k n)

-- ---- Apps
controllers_turned : (i k : ℕ) → has (get_or controls_sets i 0) k ≡ has (get_or controllers_sets k 0) i
unfolding has
controllers_turned = turned app_count kind_count controls_sets controllers_sets refl (le_refl _) (le_refl _) tt tt

pub controllers_lt : (k : ℕ) → controllers k < 2 ^ app_count
controllers_lt k = rw (← controllers_at k) (every_lt (2 ^ app_count) controllers_sets tt (lit< tt) k)

pub app_layouts_agree : AppLayoutsAgree
unfolding controlled
app_layouts_agree n k =
    where_numbered app_count n _ (controllers k) k
    (λ _. ap (λ (s : ℕ). has s k) (sym (controls_at (n - 1))) ∙ controllers_turned (n - 1) k ∙ ap (λ (s : ℕ). has s (n - 1)) (controllers_at k))
