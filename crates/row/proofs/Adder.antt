-- The law of planes, for any number of them and at any place: a set added with its carries is one more for each member, as long as the sum has a digit in
-- every plane it needs. Each plane is a half adder. By induction over the planes. Assumes nothing.
use Prim.Native.Nat.{ℕ, zero, suc, ◌+◌, ◌*◌, ◌^◌, ◌<◌}
use mathlib.Core.Path.{◌≡◌, refl, ap}
use mathlib.Core.Bool.{Bool, true, false, not, ◌&&◌, ◌||◌}
use mathlib.Core.List.{List, [], ◌∷◌}
use lib.ListN.{length, replicate}
use native.Mathlib.Nat.{pow-suc}
use native.Mathlib.Omega.{arith}
use Rattle.choice.specs.Pick.{pick}
use Rattle.sets.specs.Set.{has, common}
use Rattle.sets.proofs.Members.{has_common, has_union, has_minus, has_none}
use Rattle.row.specs.Survey.{unlike, added, digit, weighed}

has_unlike : (a b k : ℕ) → has (unlike a b) k ≡ (has a k || has b k) && not (has a k && has b k)
unfolding unlike
has_unlike a b k = simp (has_minus, has_union, has_common)

-- one plane: x is its digit, y the carry that comes in, n the number in the planes above, and m what they come to with the carry that goes out
half_adder : (x y : Bool) (n m top : ℕ) → digit n x + pick y 1 0 < top * 2 → (n + pick (x && y) 1 0 < top → m ≡ n + pick (x && y) 1 0)
    → digit m ((x || y) && not (x && y)) ≡ digit n x + pick y 1 0
unfolding digit pick
half_adder true true n m top small above = let e = above (omega arith) in omega arith
half_adder true false n m top small above = let e = above (omega arith) in omega arith
half_adder false true n m top small above = let e = above (omega arith) in omega arith
half_adder false false n m top small above = let e = above (omega arith) in omega arith

pub added_weighed : (planes : List ℕ) (carry k : ℕ) → weighed planes k + pick (has carry k) 1 0 < 2 ^ length planes
    → weighed (added planes carry) k ≡ weighed planes k + pick (has carry k) 1 0
unfolding weighed added
added_weighed [] carry k small = omega arith
added_weighed (plane ∷ planes) carry k small =
    let above = added_weighed planes (common plane carry) k in
    rw has_unlike (half_adder (has plane k) (has carry k) (weighed planes k) (weighed (added planes (common plane carry)) k) (2 ^ length planes) (rw pow-suc at small) (rw has_common at above))

pub added_length : (planes : List ℕ) (carry : ℕ) → length (added planes carry) ≡ length planes
unfolding added
added_length [] carry = refl
added_length (plane ∷ planes) carry = ap suc (added_length planes (common plane carry))

-- empty planes have 0 everywhere
pub weighed_none : (m k : ℕ) → weighed (replicate m 0) k ≡ 0
unfolding weighed digit pick
weighed_none zero k = refl
weighed_none (suc m) k = rw (has_none, weighed_none m k)
