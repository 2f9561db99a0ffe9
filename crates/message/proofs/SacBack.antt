-- Our SACs are read as we meant them. The last 6 octets of a wish are an area with one SAC and nothing else, whose element switches exactly that App; the
-- SAC for an Initialization, from nothing disabled, disables exactly the wishes: after the elements of the first n places exactly the wishes below n
-- are. Assumes nothing.
use Prim.Native.Nat.{ℕ, zero, suc, ◌+◌, ◌-◌, ◌*◌, ◌%◌, ◌^◌, ◌<◌, ◌≤◌}
use mathlib.Core.Path.{◌≡◌, refl, sym, ap, ap₂, ◌∙◌, subst}
use mathlib.Core.Bool.{Bool, true, false, not, ◌&&◌, and-false}
use mathlib.Core.List.{[], ◌∷◌, ◌++◌, append-nil}
use native.Mathlib.Omega.{arith}
use native.Mathlib.Decide.{ℕ_discrete}
use lib.Dec.{ltb, lit<}
use borrow.Author.Tests.{le-leb, lt-leb, lt-ltb, le-ltb, ltb-true}
use Rattle.choice.specs.Pick.{pick}
use Rattle.choice.proofs.Branch.{by_test, left}
use Rattle.choice.proofs.Tests.{same_test}
use Rattle.sets.specs.Set.{has, switched}
use Rattle.sets.proofs.Members.{has_none, ext}
use Rattle.sets.proofs.Switches.{switched_same, switched_other}
use Rattle.kinds.specs.Kinds.{app_count}
use Rattle.area.specs.declared.Reading.{Reading}
use Rattle.area.specs.Found.{nothing_found, with_sac}
use Rattle.area.specs.Area.{head_length, at16, take_tlv, pass_other, by_type, tlv_at, read_from, read_area, part}
use Rattle.lists.specs.Sac.{d_of, app_of, sac_element, sac_after, sac_list}
use Rattle.lists.proofs.Later.{sac_behind, sac_list_lt}
use Rattle.message.specs.Sac.{app_element, sac_value, wish_elements}
use Rattle.message.specs.Message.{one_app, app_octets}

-- ---- one element
d_back : (n : ℕ) (disable : Bool) → d_of (app_element n disable) ≡ disable
unfolding pick
d_back n true = le-leb 0x80 (0x80 + n % 8 * 16) (omega arith)
d_back n false = lt-leb 0x80 (0 + n % 8 * 16) (omega arith)

app_back : (n : ℕ) (disable : Bool) → n < 8 → app_of (app_element n disable) ≡ n
unfolding pick
app_back n true h = omega arith
app_back n false h = omega arith

-- an element with D = 1, and in a Capability message any, switches its App
element_back : (opening : Bool) (s n : ℕ) (disable : Bool) → n < 8 → (not disable && opening) ≡ false → sac_element opening s (app_element n disable) ≡ switched app_count s n disable
unfolding sac_element
element_back opening s n disable h acts =
    left _ _ (ap (λ (d : Bool). not d && opening) (d_back n disable) ∙ acts)
    ∙ ap₂ (λ (m : ℕ) (d : Bool). switched app_count s m d) (app_back n disable h) (d_back n disable)

-- ---- the message of a wish
-- the reading of its area: a SAC of 2 octets from the fifth on, and nothing else
abbrev pub one_sac : Reading
one_sac = with_sac (record { start = head_length; len = 2 }) true nothing_found

pub sac_read_back : (n : ℕ) (disable : Bool) → read_area (app_octets n disable) ≡ one_sac
unfolding pick at16 take_tlv pass_other by_type tlv_at read_from read_area
sac_read_back n disable = refl

pub sac_value_back : (n : ℕ) (disable : Bool) → part (app_octets n disable) one_sac.sac ≡ one_app n disable
unfolding part
sac_value_back n disable = refl

pub app_list_back : (n : ℕ) (disable : Bool) (s : ℕ) → n < 8 → sac_list (one_app n disable) false s ≡ switched app_count s n disable
unfolding sac_list sac_after
app_list_back n disable s h = element_back false s n disable h (and-false (not disable))

-- ---- the SAC for an Initialization
module _ (wishes : ℕ) where
  abbrev after : ℕ → ℕ
  after n = sac_list (sac_value (wish_elements wishes n)) true 0

  -- one place more
  after_more : (n : ℕ) → n < app_count → after (suc n) ≡ pick (has wishes n) (switched app_count (after n) (n + 1) true) (after n)
  unfolding wish_elements pick
  after_more n h = go (has wishes n) refl
    where
      go : (x : Bool) → has wishes n ≡ x
          → sac_list (sac_value (wish_elements wishes n ++ pick (has wishes n) (app_element (n + 1) true ∷ []) [])) true 0 ≡ pick (has wishes n) (switched app_count (after n) (n + 1) true) (after n)
      go true e = rw e (sac_behind true 0 0x80 (wish_elements wishes n) (app_element (n + 1) true) ∙ element_back true (after n) (n + 1) true (omega arith) refl)
      go false e = rw (e, append-nil) refl

  -- the place that is more, and another
  here : (n : ℕ) → n < app_count → has (after n) n ≡ (ltb n n && has wishes n)
      → has (pick (has wishes n) (switched app_count (after n) (n + 1) true) (after n)) n ≡ (ltb n (suc n) && has wishes n)
  unfolding pick
  here n h before = go (has wishes n) refl
    where
      place : n + 1 - 1 ≡ n
      place = omega arith

      go : (x : Bool) → has wishes n ≡ x
          → has (pick (has wishes n) (switched app_count (after n) (n + 1) true) (after n)) n ≡ (ltb n (suc n) && has wishes n)
      go true q =
          rw (q, lt-ltb n (suc n) (omega arith))
          (subst (λ (j : ℕ). has (switched app_count (after n) (n + 1) true) j ≡ true) place (switched_same app_count (after n) (n + 1) true (omega arith) (omega arith)))
      go false q = rw (q, lt-ltb n (suc n) (omega arith)) (before ∙ ap (λ (b : Bool). b && has wishes n) (le-ltb n n (omega arith)))

  elsewhere : (n k : ℕ) → (k ≡ n → ⊥) → has (after n) k ≡ (ltb k n && has wishes k)
      → has (pick (has wishes n) (switched app_count (after n) (n + 1) true) (after n)) k ≡ (ltb k (suc n) && has wishes k)
  elsewhere n k ne before =
      by_test (λ (x : ℕ). has x k ≡ has (after n) k) (λ _. switched_other app_count (after n) (n + 1) true k (λ e. ne (omega arith))) (λ _. refl)
      ∙ before ∙ ap (λ (b : Bool). b && has wishes k) less
    where
      less : ltb k n ≡ ltb k (suc n)
      less = same_test _ _ (λ l. lt-ltb k (suc n) (omega (arith, ltb-true k n l))) (λ l. lt-ltb k n (omega (arith, ltb-true k (suc n) l)))

  has_after : (n k : ℕ) → n ≤ app_count → has (after n) k ≡ (ltb k n && has wishes k)
  unfolding wish_elements sac_list sac_after
  has_after zero k h = has_none k ∙ sym (ap (λ (b : Bool). b && has wishes k) (le-ltb k 0 (omega arith)))
  has_after (suc n) k h = ap (λ (s : ℕ). has s k) (after_more n (omega arith)) ∙ go (ℕ_discrete k n) (has_after n k (omega arith))
    where
      go : Dec (k ≡ n) → has (after n) k ≡ (ltb k n && has wishes k)
          → has (pick (has wishes n) (switched app_count (after n) (n + 1) true) (after n)) k ≡ (ltb k (suc n) && has wishes k)
      go (yes e) before =
          subst (λ (j : ℕ). has (pick (has wishes n) (switched app_count (after n) (n + 1) true) (after n)) j ≡ (ltb j (suc n) && has wishes j)) (sym e)
          (here n (omega arith) (subst (λ (j : ℕ). has (after n) j ≡ (ltb j n && has wishes j)) e before))
      go (no ne) before = elsewhere n k ne before

  pub wishes_back : wishes < 2 ^ app_count → after app_count ≡ wishes
  wishes_back small =
      ext app_count (after app_count) wishes (sac_list_lt (sac_value (wish_elements wishes app_count)) true 0 (lit< tt)) small
      (λ k l. has_after app_count k (omega arith) ∙ ap (λ (b : Bool). b && has wishes k) (lt-ltb k app_count l))
