-- The range of types that is passed over. Of ours all but HSMP lie in it, so a type in it is not HSMP and one outside it is none of the others; and what
-- becomes of any other type, in it and outside. Assumes nothing.
use mathlib.Core.Path.{◌≡◌, sym, ap, ◌∙◌}
use mathlib.Core.Bool.{Bool, true, false, ◌||◌, true≢false}
use Prim.Native.Nat.{ℕ, ◌<◌, ◌≤◌}
use lib.Dec.{eqb, leb}
use native.Mathlib.Omega.{arith}
use borrow.Author.Tests.{ne_eqb, le-leb, lt-leb, leb-true}
use Rattle.choice.proofs.Branch.{taken, left}
use Rattle.choice.proofs.Tests.{and_second, and_both, or_first, or_second}
use Rattle.refusals.specs.Refusals.{unknown_type}
use Rattle.area.specs.declared.Reading.{Reading}
use Rattle.area.specs.Found.{refused}
use Rattle.area.specs.Area.{u_bit, type_of, hsmp_type, in_range, pass_other}

pub in_range_not_hsmp : (t : ℕ) → in_range t ≡ true → eqb t hsmp_type ≡ false
in_range_not_hsmp t h = ne_eqb t hsmp_type (λ e. absurd (omega (arith, leb-true t 0x05FF (and_second (leb 0x0500 t) _ h))))

pub outside_not : (t n : ℕ) → 0x0500 ≤ n → n ≤ 0x05FF → in_range t ≡ false → eqb t n ≡ false
outside_not t n low high out =
    ne_eqb t n (λ e. true≢false (sym (and_both _ _ (le-leb 0x0500 t (omega arith)) (le-leb t 0x05FF (omega arith))) ∙ out))

-- of two numbers a type is not both
pub another : {t m : ℕ} (n : ℕ) → t ≡ m → eqb m n ≡ false → eqb t n ≡ false
another n is differs = ap (λ (x : ℕ). eqb x n) is ∙ differs

module _ (head : ℕ) (r : Reading) where
  pub in_range_passed : in_range (type_of head) ≡ true → pass_other head r ≡ r
  unfolding pass_other
  in_range_passed h = taken _ _ (or_second (leb u_bit head) _ h)

  pub outside_passed : u_bit ≤ head → pass_other head r ≡ r
  unfolding pass_other
  outside_passed u = taken _ _ (or_first (leb u_bit head) _ (le-leb _ _ u))

  pub outside_refused : in_range (type_of head) ≡ false → head < u_bit → pass_other head r ≡ refused unknown_type
  unfolding pass_other
  outside_refused out u = left _ _ (ap (λ (b : Bool). b || in_range (type_of head)) (lt-leb _ _ u) ∙ out)
