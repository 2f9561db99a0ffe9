-- Two sets meet exactly where some place is in both; so a set with one member more meets another by what it had or by that member. By members.
-- Assumes nothing.
use mathlib.Core.Path.{◌≡◌, refl, sym, ◌∙◌}
use mathlib.Core.Logic.{⊎_elim}
use mathlib.Core.Bool.{Bool, true, false, not, ◌||◌, true≢false}
use Prim.Native.Nat.{ℕ}
use native.Mathlib.Decide.{ℕ_discrete}
use Rattle.choice.proofs.Tests.{fails_if, and_first, and_second, and_both, or_first, or_second, or_either, not_false, same_test}
use Rattle.sets.specs.Set.{has, common, empty, meets, with}
use Rattle.sets.proofs.Members.{has_common, has_none, has_with_same, has_with_other}
use Rattle.sets.proofs.Subsets.{lt_pow, empty_lacks}
use Rattle.sets.proofs.Found.{Member, member_of}

pub record Shared (a b : ℕ) : Type 0 where
  pub place : ℕ
  pub first : has a place ≡ true
  pub second : has b place ≡ true

module _ (a b : ℕ) where
  pub meets_shared : meets a b ≡ true → Shared a b
  unfolding meets
  meets_shared h = go (member_of (common a b) (common a b) (lt_pow (common a b)) (not_false _ h))
    where
      go : Member (common a b) → Shared a b
      go m =
          let both = sym (has_common a b m.place) ∙ m.is_in_law in
          record { place = m.place; first = and_first (has a m.place) (has b m.place) both; second = and_second (has a m.place) (has b m.place) both }

  pub shared_meets : Shared a b → meets a b ≡ true
  unfolding meets
  shared_meets s = go (empty (common a b)) refl
    where
      go : (e : Bool) → empty (common a b) ≡ e → not e ≡ true
      go false h = refl
      go true h =
          absurd (true≢false (sym (has_common a b s.place ∙ and_both (has a s.place) (has b s.place) s.first s.second) ∙ empty_lacks (common a b) s.place h))

-- the empty set meets none
pub meets_none : (a : ℕ) → meets a 0 ≡ false
meets_none a = fails_if (meets a 0) (λ e. let s = meets_shared a 0 e in true≢false (sym s.second ∙ has_none s.place))

-- one member more
pub meets_with : (a b k : ℕ) → meets a (with b k) ≡ meets a b || has a k
meets_with a b k =
    same_test _ _ (λ h. there (meets_shared a (with b k) h)) (λ h. ⊎_elim (λ l. earlier (meets_shared a b l)) here (or_either (meets a b) (has a k) h))
  where
    there : Shared a (with b k) → (meets a b || has a k) ≡ true
    there s = go (ℕ_discrete k s.place)
      where
        go : Dec (k ≡ s.place) → (meets a b || has a k) ≡ true
        go (yes e) = or_second (meets a b) (has a k) (rw e s.first)
        go (no e) =
            or_first (meets a b) (has a k)
            (shared_meets a b (record { place = s.place; first = s.first; second = sym (has_with_other b k s.place e) ∙ s.second }))

    here : has a k ≡ true → meets a (with b k) ≡ true
    here h = shared_meets a (with b k) (record { place = k; first = h; second = has_with_same b k })

    earlier : Shared a b → meets a (with b k) ≡ true
    earlier s = go (ℕ_discrete k s.place)
      where
        go : Dec (k ≡ s.place) → meets a (with b k) ≡ true
        go (yes e) = here (rw e s.first)
        go (no e) =
            shared_meets a (with b k) (record { place = s.place; first = s.first; second = has_with_other b k s.place e ∙ s.second })
