-- What the members of a set stand for together: a kind is there exactly when some member stands for it; a larger set gives no less; and no
-- bits come beyond the members' own. One induction each, over the numbers 1 to w, for applications and Apps alike. Assumes nothing.
use mathlib.Core.Path.{◌≡◌, refl, sym, ap, ◌∙◌}
use mathlib.Core.Logic.{⊎_elim}
use mathlib.Core.Bool.{Bool, true, false, ◌&&◌, ◌||◌, true≢false}
use Prim.Native.Nat.{ℕ, zero, suc, ◌+◌, ◌-◌, ◌^◌, ◌<◌}
use native.Mathlib.Omega.{arith}
use native.Mathlib.Decide.{dec_lt}
use lib.Pow.{pow_pos}
use Rattle.choice.specs.Pick.{pick}
use Rattle.choice.proofs.Branch.{by_test, taken}
use Rattle.choice.proofs.Tests.{and_first, and_second, or_second, or_either}
use Rattle.sets.specs.Set.{has, Within}
use Rattle.sets.proofs.Members.{has_pick, has_union, has_none}
use Rattle.sets.proofs.Bounds.{union_lt}
use Rattle.sets.proofs.Subsets.{within_self, within_none, within_union}
use Rattle.kinds.specs.Kinds.{application_count, app_count, member, gather, opens, controlled, opened, disables, Some}

module _ (kindsOf : ℕ → ℕ) where
  -- ---- exactly when some member stands for it
  pub gather_some : (w s k : ℕ) → has (gather kindsOf w s) k ≡ true → Some kindsOf w s k
  unfolding gather
  gather_some zero s k h = absurd (true≢false (sym h ∙ has_none k))
  gather_some (suc w) s k h =
      ⊎_elim (λ l. wider (gather_some w s k l)) (λ r. here (sym (has_pick (has s w) (kindsOf (w + 1)) k) ∙ r))
      (or_either (has (gather kindsOf w s) k) (has (member kindsOf s w) k) (sym (has_union (gather kindsOf w s) (member kindsOf s w) k) ∙ h))
    where
      wider : Some kindsOf w s k → Some kindsOf (suc w) s k
      wider o = record { number = o.number; least = o.least; most = omega (arith, o.most); member = o.member; maps = o.maps }

      here : (has s w && has (kindsOf (w + 1)) k) ≡ true → Some kindsOf (suc w) s k
      here p =
          let place : w + 1 - 1 ≡ w = omega arith in
          record {
            number = w + 1;
            least = omega arith;
            most = omega arith;
            member = rw place (and_first (has s w) (has (kindsOf (w + 1)) k) p);
            maps = and_second (has s w) (has (kindsOf (w + 1)) k) p;
          }

  pub some_gather : (w s k : ℕ) → Some kindsOf w s k → has (gather kindsOf w s) k ≡ true
  unfolding gather
  some_gather zero s k o = absurd (omega (arith, o.least, o.most))
  some_gather (suc w) s k o =
      has_union (gather kindsOf w s) (member kindsOf s w) k ∙ go (λ l. some_gather w s k (narrower l)) (dec_lt o.number (w + 1))
    where
      narrower : o.number < w + 1 → Some kindsOf w s k
      narrower l = record { number = o.number; least = o.least; most = omega arith; member = o.member; maps = o.maps }

      go : (o.number < w + 1 → has (gather kindsOf w s) k ≡ true) → Dec (o.number < w + 1)
          → (has (gather kindsOf w s) k || has (member kindsOf s w) k) ≡ true
      go f (yes l) = rw (f l) refl
      go f (no l) =
          let e : o.number ≡ w + 1 = omega (arith, o.most) in
          let place : o.number - 1 ≡ w = omega arith in
          or_second (has (gather kindsOf w s) k) (has (member kindsOf s w) k)
          (ap (λ (r : ℕ). has r k) (taken (kindsOf (w + 1)) 0 (rw place at o.member)) ∙ (rw e at o.maps))

  -- ---- a larger set gives no less
  pub gather_within : (w s t : ℕ) → Within s t → Within (gather kindsOf w s) (gather kindsOf w t)
  unfolding gather pick
  gather_within zero s t f = within_none 0
  gather_within (suc w) s t f =
      within_union (gather kindsOf w s) (member kindsOf s w) (gather kindsOf w t) (member kindsOf t w)
      (gather_within w s t f) (go (has s w) refl)
    where
      go : (x : Bool) → has s w ≡ x → Within (pick x (kindsOf (w + 1)) 0) (member kindsOf t w)
      go true e = rw (f w e) (within_self (kindsOf (w + 1)))
      go false e = within_none (member kindsOf t w)

  -- ---- no bits beyond the members' own
  pub gather_lt : (v w s : ℕ) → ((n : ℕ) → kindsOf n < 2 ^ v) → gather kindsOf w s < 2 ^ v
  unfolding gather
  gather_lt v zero s f = pow_pos v
  gather_lt v (suc w) s f =
      union_lt v (gather kindsOf w s) (member kindsOf s w) (gather_lt v w s f) (by_test (λ (x : ℕ). x < 2 ^ v) (λ _. f (w + 1)) (λ _. pow_pos v))

-- ---- in document 01's words
-- a kind is opened exactly when some application in the set maps to it
pub opened_some : (protects applications k : ℕ) → has (opened protects applications) k ≡ true → Some (opens protects) application_count applications k
unfolding opened
opened_some protects applications k = gather_some (opens protects) application_count applications k

pub some_opened : (protects applications k : ℕ) → Some (opens protects) application_count applications k → has (opened protects applications) k ≡ true
unfolding opened
some_opened protects applications k = some_gather (opens protects) application_count applications k

-- a kind is disabled exactly when some App in the set controls it
pub disables_some : (apps k : ℕ) → has (disables apps) k ≡ true → Some controlled app_count apps k
unfolding disables
disables_some apps k = gather_some controlled app_count apps k

pub some_disables : (apps k : ℕ) → Some controlled app_count apps k → has (disables apps) k ≡ true
unfolding disables
some_disables apps k = some_gather controlled app_count apps k
