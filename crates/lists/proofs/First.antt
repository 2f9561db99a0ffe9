-- Of the elements of a TAC with equal identifiers the first decides, whatever its E; an application that no element names stays as it was; in an
-- opening from the empty list exactly the known identifiers present are listed, which are those that a reader has met; and no bits come beyond
-- the thirteen applications.
-- By induction over the elements: only the first with an identifier can touch it. Assumes nothing.
use Prim.Native.Nat.{ℕ, zero, suc, ◌-◌, ◌^◌, ◌<◌, ◌≤◌}
use native.Mathlib.Omega.{arith}
use native.Mathlib.Decide.{ℕ_discrete, dec_lt}
use mathlib.Core.Path.{◌≡◌, ◌∙◌, sym, ap, refl}
use mathlib.Core.List.{List}
use mathlib.Core.Bool.{Bool, true, false, ◌||◌}
use lib.Dec.{eqb}
use lib.Pow.{pow_pos}
use borrow.Author.Tests.{eq-eqb, ne_eqb, eqb-false}
use Rattle.choice.proofs.Branch.{by_test, taken, left}
use Rattle.sets.specs.Set.{has, switched}
use Rattle.sets.proofs.Members.{has_none}
use Rattle.sets.proofs.Switches.{switched_same, switched_other, switched_lt}
use Rattle.kinds.specs.Kinds.{application_count}
use Rattle.lists.specs.Tac.{element_count, id_at, adds, stood, after, tac_list, First, FirstDecides, AbsentStays, ListedIsPresent, UnknownIsSkipped}
use Rattle.lists.specs.Met.{MetIsStood, UnknownIsNotMet, MetFits}

-- an element below i has the identifier
stood_found : (v : List ℕ) (n j i : ℕ) → j < i → id_at v j ≡ n → stood v n i ≡ true
unfolding stood
stood_found v n j zero h e = absurd (omega arith)
stood_found v n j (suc i) h e = go (λ l. stood_found v n j i l e) (eqb (id_at v i) n) refl
  where
    go : (j < i → stood v n i ≡ true) → (x : Bool) → eqb (id_at v i) n ≡ x → (x || stood v n i) ≡ true
    go f true p = refl
    go f false p = let other : (j ≡ i → ⊥) = λ q. eqb-false (id_at v i) n p (rw q at e) in f (omega arith)

-- where no element has the identifier, it did not stand
stood_none : (v : List ℕ) (n i : ℕ) → ((j : ℕ) → j < i → id_at v j ≡ n → ⊥) → stood v n i ≡ false
unfolding stood
stood_none v n zero f = refl
stood_none v n (suc i) f = simp (ne_eqb _ _ (f i (omega arith))) (stood_none v n i (λ j h. f j (omega arith)))

module _ (v : List ℕ) (opening : Bool) (s n : ℕ) (least : 1 ≤ n) (most : n ≤ application_count) where
  in_set : ℕ → Bool
  in_set i = has (after v opening s i) (n - 1)

  -- an element that names another application, or one that stood, does not touch n
  keeps : (i : ℕ) → (id_at v i ≡ n → stood v n i ≡ true) → in_set (suc i) ≡ in_set i
  unfolding in_set after
  keeps i f = go (ℕ_discrete (id_at v i) n)
    where
      same : ℕ → Type 0
      same x = has x (n - 1) ≡ has (after v opening s i) (n - 1)

      go : Dec (id_at v i ≡ n) → in_set (suc i) ≡ in_set i
      go (yes p) = ap (λ (x : ℕ). has x (n - 1)) (taken _ _ (rw p (f p)))
      go (no p) = by_test same (λ _. refl) (λ _. switched_other application_count (after v opening s i) (id_at v i) (adds v opening i) (n - 1) (λ e. p (omega arith)))

  -- the first element that names n says whether it is in the set
  says : (i : ℕ) → id_at v i ≡ n → stood v n i ≡ false → in_set (suc i) ≡ (adds v opening i)
  unfolding in_set after
  says i p e =
      ap (λ (x : ℕ). has x (n - 1)) (left _ _ (rw p e) ∙ ap (λ (m : ℕ). switched application_count (after v opening s i) m (adds v opening i)) p)
      ∙ switched_same application_count (after v opening s i) n (adds v opening i) least most

  first_among : (i j : ℕ) → j < i → First v n j → in_set i ≡ (adds v opening j)
  first_among zero j h d = absurd (omega arith)
  first_among (suc i) j h d = go (λ l. first_among i j l d) (dec_lt j i)
    where
      go : (j < i → in_set i ≡ (adds v opening j)) → Dec (j < i) → in_set (suc i) ≡ (adds v opening j)
      go f (yes l) = keeps i (λ _. stood_found v n j i l d.named) ∙ f l
      go f (no l) = let e : j ≡ i = omega arith in rw e (says i (rw e at d.named) (stood_none v n i (rw e at d.before)))

  none_among : (i : ℕ) → ((j : ℕ) → j < i → id_at v j ≡ n → ⊥) → in_set i ≡ has s (n - 1)
  unfolding in_set after
  none_among zero f = refl
  none_among (suc i) f = keeps i (λ p. absurd (f i (omega arith) p)) ∙ none_among i (λ j h. f j (omega arith))

pub first_decides : FirstDecides
unfolding tac_list in_set
first_decides v opening s n least most i = first_among v opening s n least most (element_count v) i

pub absent_stays : AbsentStays
unfolding tac_list in_set
absent_stays v opening s n least most = none_among v opening s n least most (element_count v)

-- ---- what was met: an opening lists exactly the known identifiers that stood
pub met_is_stood : MetIsStood
unfolding after stood in_set
met_is_stood v n least most zero = has_none (n - 1)
met_is_stood v n least most (suc i) = go (ℕ_discrete (id_at v i) n) (stood v n i) refl (met_is_stood v n least most i)
  where
    go : Dec (id_at v i ≡ n) → (x : Bool) → stood v n i ≡ x → has (after v true 0 i) (n - 1) ≡ stood v n i
        → has (after v true 0 (suc i)) (n - 1) ≡ (eqb (id_at v i) n || stood v n i)
    go (yes p) true q h = keeps v true 0 n least most i (λ _. q) ∙ h ∙ q ∙ sym (ap (λ (b : Bool). b || stood v n i) (eq-eqb _ _ p))
    go (yes p) false q h = says v true 0 n least most i p q ∙ sym (ap (λ (b : Bool). b || stood v n i) (eq-eqb _ _ p))
    go (no p) x q h = keeps v true 0 n least most i (λ e. absurd (p e)) ∙ h ∙ sym (ap (λ (b : Bool). b || stood v n i) (ne_eqb _ _ p))

pub listed_is_present : ListedIsPresent
unfolding tac_list
listed_is_present v n least most = met_is_stood v n least most (element_count v)

-- ---- an unknown identifier
pub unknown_is_skipped : UnknownIsSkipped
unfolding after switched
unknown_is_skipped v opening s i h = by_test (λ (x : ℕ). x ≡ after v opening s i) (λ _. refl) (λ _. left _ _ h)

pub unknown_is_not_met : UnknownIsNotMet
unknown_is_not_met v = unknown_is_skipped v true 0

-- ---- no bits beyond the applications
after_lt : (v : List ℕ) (opening : Bool) (s : ℕ) → s < 2 ^ application_count → (i : ℕ) → after v opening s i < 2 ^ application_count
unfolding after
after_lt v opening s h zero = h
after_lt v opening s h (suc i) =
    let t : after v opening s i < 2 ^ application_count = after_lt v opening s h i in
    by_test (λ (x : ℕ). x < 2 ^ application_count) (λ _. t) (λ _. switched_lt application_count (after v opening s i) (id_at v i) (adds v opening i) application_count (omega arith) t)

pub tac_list_lt : (v : List ℕ) (opening : Bool) (s : ℕ) → s < 2 ^ application_count → tac_list v opening s < 2 ^ application_count
unfolding tac_list
tac_list_lt v opening s h = after_lt v opening s h (element_count v)

pub met_fits : MetFits
met_fits v = after_lt v true 0 (pow_pos application_count)
