-- The kinds that an event moves, gone through from the first on: those below the next one are done, the others are left. By the laws of the smallest member of
-- a set. Assumes nothing.
use Prim.Native.Nat.{ℕ, ◌+◌, ◌^◌, ◌<◌, ◌≤◌}
use mathlib.Core.Path.{◌≡◌, sym, ap, ◌∙◌}
use mathlib.Core.Bool.{Bool, true, false, ◌&&◌, ◌||◌, true≢false}
use lib.Dec.{lit<}
use native.Mathlib.Decide.{dec_lt, ℕ_discrete}
use native.Mathlib.Omega.{arith}
use Rattle.sets.specs.Set.{has, common, union, without, first}
use Rattle.sets.proofs.Bounds.{common_lt, without_lt}
use Rattle.sets.proofs.Members.{has_common, has_union, has_none, has_all, has_lt, has_without_same, has_without_other}
use Rattle.sets.proofs.Smallest.{first_has, below_first}
use Rattle.kinds.specs.Kinds.{kind_count, all_kinds}

-- of the kinds that are lost or gained, those from `next` on are left in `rest`
pub record Rest (lost gained rest next : ℕ) : Type 0 where
  pub small : rest < 2 ^ kind_count
  pub done : (k : ℕ) → k < next → has rest k ≡ false
  pub still : (k : ℕ) → next ≤ k → k < kind_count → has rest k ≡ (has lost k || has gained k)

pub rest_begins : (lost gained : ℕ) → Rest lost gained (common all_kinds (union lost gained)) 0
rest_begins lost gained =
    record {
      small = common_lt kind_count all_kinds (union lost gained) (lit< tt);
      done = λ k l. absurd (omega arith);
      still = λ k _ l. has_common all_kinds (union lost gained) k ∙ ap (λ (b : Bool). b && has (union lost gained) k) (has_all kind_count k l) ∙ has_union lost gained k;
    }

module _ (lost gained rest next : ℕ) (r : Rest lost gained rest next) where
  -- where nothing is left no other kind moves
  pub none_left : rest ≡ 0 → (k : ℕ) → next ≤ k → k < kind_count → (has lost k || has gained k) ≡ false
  none_left none k least most = sym (r.still k least most) ∙ ap (λ (s : ℕ). has s k) none ∙ has_none k

  -- else k is the first of them
  module _ (some : rest ≡ 0 → ⊥) (k : ℕ) (is : k ≡ first rest) where
    is_in_law : has rest k ≡ true
    is_in_law = ap (has rest) is ∙ first_has rest (omega (arith, r.small)) some

    none_below : (j : ℕ) → j < k → has rest j ≡ false
    none_below j l = below_first rest j (rw is at l)

    pub kind_lt : k < kind_count
    kind_lt = has_lt kind_count rest k r.small is_in_law

    pub next_le : next ≤ k
    next_le = go (dec_lt k next)
      where
        go : Dec (k < next) → next ≤ k
        go (yes l) = absurd (true≢false (sym is_in_law ∙ r.done k l))
        go (no d) = omega arith

    -- it moves
    pub moves : (has lost k || has gained k) ≡ true
    moves = sym (r.still k next_le kind_lt) ∙ is_in_law

    -- and none from the next one to it does
    pub between : (j : ℕ) → next ≤ j → j < k → (has lost j || has gained j) ≡ false
    between j least most = let l = kind_lt in sym (r.still j least (omega arith)) ∙ none_below j most

    pub rest_next : Rest lost gained (without rest k) (k + 1)
    rest_next =
        record {
          small = without_lt kind_count rest k r.small;
          done = λ j l. go j l (ℕ_discrete k j);
          still = λ j least most. let l = next_le in has_without_other rest k j (λ e. absurd (omega arith)) ∙ r.still j (omega arith) most;
        }
      where
        go : (j : ℕ) → j < k + 1 → Dec (k ≡ j) → has (without rest k) j ≡ false
        go j l (yes e) = ap (has (without rest k)) (sym e) ∙ has_without_same rest k
        go j l (no d) = has_without_other rest k j d ∙ none_below j (omega arith)
