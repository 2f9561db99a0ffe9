-- A set that is not empty has a member, and it can be found. By trying its places one after another. Assumes nothing.
use Prim.Native.Nat.{ℕ, zero, suc, ◌^◌, ◌<◌}
use mathlib.Core.Path.{◌≡◌, refl, sym, ◌∙◌}
use mathlib.Core.Bool.{Bool, true, false, true≢false}
use native.Mathlib.Decide.{dec_lt}
use native.Mathlib.Omega.{arith}
use Rattle.sets.specs.Set.{has, empty}
use Rattle.sets.proofs.Members.{has_above}
use Rattle.sets.proofs.Subsets.{lacks_empty}

pub record Member (a : ℕ) : Type 0 where
  pub place : ℕ
  pub is_in_law : has a place ≡ true

data Tried (a w : ℕ) : Type 0 where
  Found : Member a → Tried a w
  None : ((k : ℕ) → k < w → has a k ≡ false) → Tried a w

tries : (a w : ℕ) → Tried a w
tries a zero = None (λ k l. absurd (omega arith))
tries a (suc w) = go (tries a w) (has a w) refl
  where
    go : Tried a w → (b : Bool) → has a w ≡ b → Tried a (suc w)
    go (Found m) b e = Found m
    go (None f) true e = Found (record { place = w; is_in_law = e })
    go (None f) false e = None (λ k l. at k l (dec_lt k w))
      where
        at : (k : ℕ) → k < suc w → Dec (k < w) → has a k ≡ false
        at k l (yes h) = f k h
        at k l (no d) = let same : k ≡ w = omega arith in rw same e

pub member_of : (w a : ℕ) → a < 2 ^ w → empty a ≡ false → Member a
member_of w a small h = go (tries a w)
  where
    go : Tried a w → Member a
    go (Found m) = m
    go (None f) = absurd (true≢false (sym (lacks_empty a (λ k e. true≢false (sym e ∙ lacks k (dec_lt k w)))) ∙ h))
      where
        lacks : (k : ℕ) → Dec (k < w) → has a k ≡ false
        lacks k (yes l) = f k l
        lacks k (no d) = has_above w a k small (omega arith)
