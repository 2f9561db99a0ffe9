-- The elements of the SAC for an Initialization, one place of the wishes after another: at the most one for each, and behind those before it. And
-- the SAC: none, or one TLV. Assumes nothing.
use Prim.Native.Nat.{ℕ, zero, suc, ◌+◌, ◌<◌, ◌≤◌}
use mathlib.Core.Path.{◌≡◌, ap, ◌∙◌}
use mathlib.Core.Bool.{true, false}
use mathlib.Core.List.{List, [], ◌∷◌, ◌++◌, append-nil}
use native.Mathlib.Omega.{arith}
use native.Mathlib.Decide.{dec_lt}
use native.Mathlib.Numerals.{add-one}
use lib.Dec.{lit≤}
use lib.ListN.{length, length-append}
use Rattle.choice.proofs.Branch.{by_test, taken, left}
use Rattle.sets.specs.Set.{empty}
use Rattle.area.specs.Tlvs.{tlv_octets, area_of}
use Rattle.message.specs.Sac.{wish_element, wish_elements, wish_tlv, sac_for, sac_octets}

pub element_most : (wishes i : ℕ) → length (wish_element wishes i) ≤ 1
element_most wishes i = by_test (λ (l : List ℕ). length l ≤ 1) (λ _. lit≤ tt) (λ _. lit≤ tt)

pub elements_most : (wishes n : ℕ) → length (wish_elements wishes n) ≤ n
unfolding wish_elements
elements_most wishes zero = omega arith
elements_most wishes (suc n) =
    omega (arith, length-append (wish_elements wishes n) (wish_element wishes n), elements_most wishes n, element_most wishes n)

-- one place more
pub elements_more : (wishes n : ℕ) → wish_elements wishes (n + 1) ≡ wish_elements wishes n ++ wish_element wishes n
unfolding wish_elements
elements_more wishes n = ap (wish_elements wishes) (add-one n)

-- those of fewer places are no more
pub elements_grow : (wishes n m : ℕ) → n ≤ m → length (wish_elements wishes n) ≤ length (wish_elements wishes m)
unfolding wish_elements
elements_grow wishes n zero h = let e : n ≡ 0 = omega arith in rw e (omega arith)
elements_grow wishes n (suc m) h = go (dec_lt n (suc m)) (λ l. elements_grow wishes n m l)
  where
    go : Dec (n < suc m) → (n ≤ m → length (wish_elements wishes n) ≤ length (wish_elements wishes m)) → length (wish_elements wishes n) ≤ length (wish_elements wishes (suc m))
    go (yes l) f = omega (arith, f (omega arith), length-append (wish_elements wishes m) (wish_element wishes m))
    go (no l) f = let e : n ≡ suc m = omega arith in rw e (omega arith)

-- ---- the SAC
pub sac_none : (wishes : ℕ) → empty wishes ≡ true → sac_octets wishes ≡ []
unfolding sac_for
sac_none wishes none = ap area_of (taken [] (wish_tlv wishes ∷ []) none)

pub sac_one : (wishes : ℕ) → empty wishes ≡ false → sac_octets wishes ≡ tlv_octets (wish_tlv wishes)
unfolding sac_for
sac_one wishes some = ap area_of (left [] (wish_tlv wishes ∷ []) some) ∙ append-nil (tlv_octets (wish_tlv wishes))
