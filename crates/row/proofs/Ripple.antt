-- The laws that the loops over planes and places go by: a set is added plane by plane, a number read digit by digit from the last plane on, and the numbers
-- place by place. Each is the definition one step further on, at a place of the list. Assumes nothing.
use Prim.Native.Nat.{ℕ, suc, ◌+◌, ◌*◌, ◌^◌, ◌<◌, ◌≤◌}
use mathlib.Core.Path.{◌≡◌, refl, sym, ap, ◌∙◌}
use mathlib.Core.List.{List, [], ◌∷◌, ◌++◌, append_assoc, append-nil}
use lib.ListN.{length, length-append, length-drop, length-set, get_or, set, take, drop, drop_of_length-le, take-append-drop}
use lib.Seq.{set-get_or, take_all, take-suc-set, drop-cons, drop-drop, drop-set-lt}
use lib.Pow.{pow_mono}
use native.Mathlib.Nat.{pow-suc, lt_of_lt_of_le}
use native.Mathlib.Numerals.{add-one}
use native.Mathlib.Omega.{arith}
use Rattle.choice.proofs.Branch.{by_test}
use Rattle.sets.specs.Set.{has, common}
use Rattle.sets.proofs.Members.{union_none}
use Rattle.sets.proofs.Subsets.{all_left, common_none}
use Rattle.row.specs.Limiting.{most_sessions}
use Rattle.row.specs.Survey.{plane_count, unlike, added, digit, weighed, weighed_each}

-- ---- the first j planes are done, and the carry goes on
pub added_more : (planes : List ℕ) (carry j : ℕ) → j < length planes
    → let plane = get_or planes j 0 in let list = set planes j (unlike plane carry) in
    take j planes ++ added (drop j planes) carry ≡ take (j + 1) list ++ added (drop (j + 1) list) (common plane carry)
unfolding added
added_more planes carry j l =
    let plane = get_or planes j 0 in
    rw (add-one, take-suc-set planes j (unlike plane carry) l, drop-set-lt (suc j) planes j (unlike plane carry) (omega arith), drop-cons planes j 0 l, append_assoc) refl

pub added_all : (planes : List ℕ) (carry j : ℕ) → length planes ≤ j → take j planes ++ added (drop j planes) carry ≡ planes
unfolding added
added_all planes carry j e = rw (take_all j planes e, drop_of_length-le planes {i = j} e) (append-nil planes)

-- with nothing to carry the planes stay
added_none : (planes : List ℕ) → added planes 0 ≡ planes
unfolding added unlike
added_none [] = refl
added_none (plane ∷ planes) = rw (common_none, union_none, all_left, added_none planes)

pub added_rest : (planes : List ℕ) (carry j : ℕ) → carry ≡ 0 → take j planes ++ added (drop j planes) carry ≡ planes
added_rest planes carry j none = rw (none, added_none (drop j planes)) (take-append-drop j planes)

pub rest_more : (planes out : List ℕ) (j plane : ℕ) → drop j out ≡ drop j planes → drop (j + 1) (set out j plane) ≡ drop (j + 1) planes
rest_more planes out j plane same = drop-set-lt (j + 1) out j plane (omega arith) ∙ sym (drop-drop 1 j out) ∙ ap (drop 1) same ∙ drop-drop 1 j planes

pub ruleset adding = (length-set, set-get_or, added_more, added_rest, added_all)

-- ---- the digits from plane i on
pub weighed_more : (planes : List ℕ) (i k : ℕ) → i < length planes → digit (weighed (drop (i + 1) planes) k) (has (get_or planes i 0) k) ≡ weighed (drop i planes) k
unfolding weighed
weighed_more planes i k l = rw (add-one, drop-cons planes i 0 l)

weighed_lt : (planes : List ℕ) (k : ℕ) → weighed planes k < 2 ^ length planes
unfolding weighed digit
weighed_lt [] k = omega arith
weighed_lt (plane ∷ planes) k =
    let above = weighed_lt planes k in
    rw pow-suc (by_test (λ (n : ℕ). n < 2 ^ length planes * 2) (λ _. omega arith) (λ _. omega arith))

pub weighed_small : (planes : List ℕ) (i k m : ℕ) → length planes ≤ i + m → weighed (drop i planes) k < 2 ^ m
weighed_small planes i k m l = lt_of_lt_of_le (weighed_lt (drop i planes) k) (pow_mono (simp length-drop (omega arith)))

pub weighed_past : (planes : List ℕ) (i k : ℕ) → length planes ≤ i → weighed (drop i planes) k ≡ 0
weighed_past planes i k l = let h = weighed_small planes i k 0 (omega arith) in omega arith

-- ---- place by place
pub weighed_each_more : (planes : List ℕ) (k : ℕ) → weighed_each planes (k + 1) ≡ set (weighed_each planes k) k (weighed planes k)
unfolding weighed_each
weighed_each_more planes k = ap (weighed_each planes) (add-one k)

-- ---- the planes from the last one on: those that are left, and those that are done
module _ (planes rest : List ℕ) (plane : ℕ) (done : List ℕ) where
  pub weighed_before : (rest ++ plane ∷ []) ++ done ≡ planes → rest ++ plane ∷ done ≡ planes
  weighed_before all = sym (append_assoc rest (plane ∷ []) done) ∙ all

  -- a number has no more digits than there are planes
  pub weighed_less : (k : ℕ) → length planes ≡ plane_count → (rest ++ plane ∷ []) ++ done ≡ planes → weighed done k < most_sessions
  weighed_less k size all =
      let long : length planes ≡ length rest + suc (length done) = rw (← weighed_before all, length-append) refl in
      let most : 2 ^ length done ≤ 2 ^ 6 = pow_mono {i = length done} {j = 6} (omega arith) in
      lt_of_lt_of_le (weighed_lt done k) most

pub weighed_all : (rest done planes : List ℕ) → length rest ≡ 0 → rest ++ done ≡ planes → done ≡ planes
weighed_all [] done planes none all = all
weighed_all (plane ∷ rest) done planes none all = absurd (omega arith)
