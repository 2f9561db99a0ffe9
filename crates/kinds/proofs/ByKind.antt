-- Asked by kind: the members of a set stand for a kind exactly where the set meets the one of that kind. So one kind is one test, and the set of kinds is
-- made kind by kind. From the layouts' agreement, by members. Assumes nothing.
use mathlib.Core.Path.{◌≡◌, sym, ap, ◌∙◌}
use mathlib.Core.List.{List}
use mathlib.Core.Bool.{Bool, true, false, ◌&&◌, ◌||◌, or-false, and-true, and-false}
use Prim.Native.Nat.{ℕ, ◌+◌, ◌-◌, ◌^◌, ◌<◌, ◌≤◌}
use native.Mathlib.Nat.{le_refl}
use native.Mathlib.Decide.{dec_lt}
use native.Mathlib.Omega.{arith}
use lib.ListN.{get_or, length, get_or-eq_default}
use Rattle.choice.specs.Pick.{pick}
use Rattle.choice.proofs.Branch.{by_test, taken, left}
use Rattle.choice.proofs.Tests.{same_test}
use Rattle.sets.specs.Set.{has, union, meets, numbered, chosen}
use Rattle.sets.proofs.Members.{union_none, has_pick, has_union, has_above, has_lt}
use Rattle.sets.proofs.Subsets.{same_members}
use Rattle.sets.proofs.Switches.{is_numbered}
use Rattle.sets.proofs.Chosen.{chosen_has, chosen_lt}
use Rattle.sets.proofs.Shared.{Shared, meets_shared, shared_meets, meets_none, meets_with}
use Rattle.kinds.specs.Kinds.{application_count, kind_count, app_count, is_in, session_protection, gather, opens, controlled, opened, disables, Some}
use Rattle.kinds.specs.ByKind.{openers_always, openers, controllers, stand_for, kinds_by}
use Rattle.kinds.proofs.Table.{openers_sets, openers_at, controllers_sets, controllers_at}
use Rattle.kinds.proofs.Turned.{openers_lt, layouts_agree, controllers_lt, app_layouts_agree}
use Rattle.kinds.proofs.Gathered.{gather_some, some_gather}

-- ---- one kind
-- the set t has the numbers of 1 to w that stand for the kind k, as the second layout says
module _ (kindsOf : ℕ → ℕ) (w t k : ℕ) (small : t < 2 ^ w) (agrees : (n : ℕ) → has (kindsOf n) k ≡ numbered w n && has t (n - 1)) where
  agrees_in : (n : ℕ) → 1 ≤ n → n ≤ w → has (kindsOf n) k ≡ has t (n - 1)
  agrees_in n least most = agrees n ∙ ap (λ (b : Bool). b && has t (n - 1)) (is_numbered w n least most)

  gather_meets : (s : ℕ) → has (gather kindsOf w s) k ≡ meets s t
  gather_meets s = same_test _ _ (λ h. there (gather_some kindsOf w s k h)) (λ h. some_gather kindsOf w s k (back (meets_shared s t h)))
    where
      there : Some kindsOf w s k → meets s t ≡ true
      there o =
          shared_meets s t
          (record { place = o.number - 1; first = o.member; second = sym (agrees_in o.number o.least o.most) ∙ o.maps })

      back : Shared s t → Some kindsOf w s k
      back b =
          let l = has_lt w t b.place small b.second in
          let place : b.place + 1 - 1 ≡ b.place = omega arith in
          record {
            number = b.place + 1;
            least = omega arith;
            most = omega arith;
            member = rw place b.first;
            maps = agrees_in (b.place + 1) (omega arith) (omega arith) ∙ (rw place b.second);
          }

pub opened_meets : (protects applications k : ℕ) → has (opened protects applications) k ≡ meets applications (openers protects k)
unfolding opened is_in
opened_meets protects applications k =
    gather_meets (opens protects) application_count (openers protects k) k (openers_lt protects k) (λ n. layouts_agree n k protects) applications

pub disables_meets : (apps k : ℕ) → has (disables apps) k ≡ meets apps (controllers k)
unfolding disables
disables_meets apps k = gather_meets controlled app_count (controllers k) k (controllers_lt k) (λ n. app_layouts_agree n k) apps

-- ---- every kind
has_kinds_by : (table : List ℕ) → length table ≤ kind_count → (members k : ℕ) → has (kinds_by table members) k ≡ meets members (get_or table k 0)
unfolding kinds_by
has_kinds_by table short members k = go (dec_lt k kind_count)
  where
    go : Dec (k < kind_count) → has (chosen kind_count (stand_for table members) kind_count) k ≡ meets members (get_or table k 0)
    go (yes l) =
        let place : k + 1 - 1 ≡ k = omega arith in
        rw place at (chosen_has kind_count (stand_for table members) kind_count (k + 1) (le_refl kind_count) (omega arith) (omega arith))
    go (no d) =
        has_above kind_count (chosen kind_count (stand_for table members) kind_count) k (chosen_lt kind_count (stand_for table members) kind_count) (omega arith)
        ∙ sym (ap (meets members) (get_or-eq_default table 0 (omega (arith, short))) ∙ meets_none members)

pub disables_by_kind : (apps : ℕ) → kinds_by controllers_sets apps ≡ disables apps
disables_by_kind apps =
    same_members _ _ (λ k. has_kinds_by controllers_sets (le_refl kind_count) apps k ∙ ap (meets apps) (controllers_at k) ∙ sym (disables_meets apps k))

-- Session Protection, where it is in the set, adds the protected kinds
module _ (protects applications : ℕ) where
  abbrev protected : ℕ
  protected = pick (has applications (session_protection - 1)) protects 0

  has_protected : (k : ℕ) → has protected k ≡ has applications (session_protection - 1) && has protects k
  has_protected = has_pick (has applications (session_protection - 1)) protects

  meets_openers : (k : ℕ) → meets applications (openers protects k) ≡ meets applications (openers_always k) || has protected k
  unfolding openers
  meets_openers k =
      by_test (λ (s : ℕ). meets applications s ≡ meets applications (openers_always k) || has protected k)
      (λ h. meets_with applications (openers_always k) (session_protection - 1) ∙ also (sym (has_protected k ∙ in_set_law h ∙ and-true (has applications (session_protection - 1)))))
      (λ h. sym (or-false _) ∙ also (sym (has_protected k ∙ in_set_law h ∙ and-false (has applications (session_protection - 1)))))
    where
      in_set_law : {x : Bool} → has protects k ≡ x → has applications (session_protection - 1) && has protects k ≡ has applications (session_protection - 1) && x
      in_set_law h = ap (λ (b : Bool). has applications (session_protection - 1) && b) h

      also : {x y : Bool} → x ≡ y → meets applications (openers_always k) || x ≡ meets applications (openers_always k) || y
      also h = ap (λ (b : Bool). meets applications (openers_always k) || b) h

  pub opened_by_kind : union (kinds_by openers_sets applications) protected ≡ opened protects applications
  opened_by_kind =
      same_members _ _ (λ k.
      has_union (kinds_by openers_sets applications) protected k
      ∙ ap (λ (b : Bool). b || has protected k) (has_kinds_by openers_sets (le_refl kind_count) applications k ∙ ap (meets applications) (openers_at k))
      ∙ sym (meets_openers k) ∙ sym (opened_meets protects applications k))

  pub opened_protected : has applications (session_protection - 1) ≡ true → union (kinds_by openers_sets applications) protects ≡ opened protects applications
  opened_protected h = ap (union (kinds_by openers_sets applications)) (sym (taken protects 0 h)) ∙ opened_by_kind

  pub opened_unprotected : has applications (session_protection - 1) ≡ false → kinds_by openers_sets applications ≡ opened protects applications
  opened_unprotected h = sym (union_none _) ∙ ap (union (kinds_by openers_sets applications)) (sym (left protects 0 h)) ∙ opened_by_kind
