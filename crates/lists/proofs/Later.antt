-- Of the elements of a SAC that do anything to an App the later one holds; an App that no element does anything to stays as it was; no bits come
-- beyond the four Apps; and an element behind the others is applied last. By induction over the elements. Assumes nothing.
use Prim.Native.Nat.{ℕ, zero, suc, ◌-◌, ◌^◌, ◌<◌, ◌≤◌}
use native.Mathlib.Omega.{arith}
use native.Mathlib.Decide.{dec_lt}
use native.Mathlib.Numerals.{add-one}
use mathlib.Core.Path.{◌≡◌, ◌∙◌, ap, ap₂, refl, sym}
use mathlib.Core.List.{List, [], ◌∷◌, ◌++◌}
use mathlib.Core.Bool.{Bool, true, not, ◌&&◌}
use lib.ListN.{length, length-append, get_or-append}
use lib.Seq.{get_or-append_seam}
use lib.Dec.{eqb}
use borrow.Author.Tests.{eqb-true, eq-eqb}
use Rattle.choice.proofs.Branch.{by_test, left}
use Rattle.choice.proofs.Tests.{and_first, and_second, not_false}
use Rattle.sets.specs.Set.{has, switched}
use Rattle.sets.proofs.Switches.{switched_same, switched_other, switched_lt}
use Rattle.kinds.specs.Kinds.{app_count}
use Rattle.lists.specs.Sac.{d_of, app_of, idle, sac_element, element_at, sac_after, sac_list, acts, Last, LaterHolds, IdleStays}

module _ (opening : Bool) (n : ℕ) (least : 1 ≤ n) (most : n ≤ app_count) where
  does : (s x : ℕ) → acts opening n x ≡ true → has (sac_element opening s x) (n - 1) ≡ d_of x
  unfolding acts sac_element
  does s x h =
      let app : app_of x ≡ n = eqb-true (app_of x) n (and_first _ _ h) in
      ap (λ (t : ℕ). has t (n - 1)) (left _ _ (not_false _ (and_second (eqb (app_of x) n) (not (idle opening x)) h)) ∙ ap (λ (m : ℕ). switched app_count s m (d_of x)) app)
      ∙ switched_same app_count s n (d_of x) least most

  does_not : (s x : ℕ) → (acts opening n x ≡ true → ⊥) → has (sac_element opening s x) (n - 1) ≡ has s (n - 1)
  unfolding acts sac_element
  does_not s x h =
      by_test (λ (t : ℕ). has t (n - 1) ≡ has s (n - 1)) (λ _. refl)
      (λ q. switched_other app_count s (app_of x) (d_of x) (n - 1) (λ e. let app : app_of x ≡ n = omega arith in h (ap (λ (b : Bool). b && not (idle opening x)) (eq-eqb _ _ app) ∙ ap not q)))

  module _ (v : List ℕ) (s : ℕ) where
    last_among : (i j : ℕ) → Last v opening n i j → has (sac_after v opening s i) (n - 1) ≡ d_of (element_at v j)
    unfolding sac_after
    last_among zero j l = absurd (omega (arith, l.among))
    last_among (suc i) j l = go (λ h. last_among i j (shorter h)) (dec_lt j i)
      where
        shorter : j < i → Last v opening n i j
        shorter h = record { among = h; does = l.does; behind = λ k p q. l.behind k p (omega arith) }

        go : (j < i → has (sac_after v opening s i) (n - 1) ≡ d_of (element_at v j)) → Dec (j < i)
            → has (sac_element opening (sac_after v opening s i) (element_at v i)) (n - 1) ≡ d_of (element_at v j)
        go f (yes h) = does_not (sac_after v opening s i) (element_at v i) (l.behind i h (omega arith)) ∙ f h
        go f (no h) =
            let e : j ≡ i = omega (arith, l.among) in
            rw e (does (sac_after v opening s i) (element_at v i) (rw e at l.does))

    none_among : (i : ℕ) → ((k : ℕ) → k < i → acts opening n (element_at v k) ≡ true → ⊥) → has (sac_after v opening s i) (n - 1) ≡ has s (n - 1)
    unfolding sac_after
    none_among zero f = refl
    none_among (suc i) f = does_not (sac_after v opening s i) (element_at v i) (f i (omega arith)) ∙ none_among i (λ k h. f k (omega arith))

pub later_holds : LaterHolds
unfolding sac_list
later_holds opening n least most v s j = last_among opening n least most v s (length v - 1) j

pub idle_stays : IdleStays
unfolding sac_list
idle_stays opening n least most v s = none_among opening n least most v s (length v - 1)

-- ---- no bits beyond the Apps
after_lt : (v : List ℕ) (opening : Bool) (s : ℕ) → s < 2 ^ app_count → (i : ℕ) → sac_after v opening s i < 2 ^ app_count
unfolding sac_after sac_element
after_lt v opening s h zero = h
after_lt v opening s h (suc i) =
    let t : sac_after v opening s i < 2 ^ app_count = after_lt v opening s h i in
    by_test (λ (x : ℕ). x < 2 ^ app_count) (λ _. t) (λ _. switched_lt app_count (sac_after v opening s i) (app_of (element_at v i)) (d_of (element_at v i)) app_count (omega arith) t)

pub sac_list_lt : (v : List ℕ) (opening : Bool) (s : ℕ) → s < 2 ^ app_count → sac_list v opening s < 2 ^ app_count
unfolding sac_list
sac_list_lt v opening s h = after_lt v opening s h (length v - 1)

-- ---- an element behind the others
module _ (opening : Bool) (s first : ℕ) (elements more : List ℕ) where
  -- the first i elements are those of the list in front
  front : (i : ℕ) → i ≤ length elements → sac_after (first ∷ (elements ++ more)) opening s i ≡ sac_after (first ∷ elements) opening s i
  unfolding sac_after
  front zero h = refl
  front (suc i) h =
      ap₂ (sac_element opening) (front i (omega arith)) (rw add-one (get_or-append elements more 0 i (omega arith)))

pub sac_behind : (opening : Bool) (s first : ℕ) (elements : List ℕ) (x : ℕ)
    → sac_list (first ∷ (elements ++ (x ∷ []))) opening s ≡ sac_element opening (sac_list (first ∷ elements) opening s) x
unfolding sac_list sac_after
sac_behind opening s first elements x =
    let long : length (first ∷ (elements ++ (x ∷ []))) - 1 ≡ suc (length elements) = omega (arith, length-append elements (x ∷ [])) in
    let short : length (first ∷ elements) - 1 ≡ length elements = omega arith in
    ap (sac_after (first ∷ (elements ++ (x ∷ []))) opening s) long
    ∙ ap₂ (sac_element opening) (front opening s first elements (x ∷ []) (length elements) (omega arith) ∙ sym (ap (sac_after (first ∷ elements) opening s) short))
    (rw add-one (get_or-append_seam elements x [] 0))
