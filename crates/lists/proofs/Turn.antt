-- One turn of the loop over a TAC's elements, said of `after`: an element with an unknown identifier is skipped, and for a known one what was met
-- decides as what stood does, for the two are one by `met_is_stood`. Assumes nothing.
use Prim.Native.Nat.{ℕ, ◌+◌, ◌-◌, ◌^◌, ◌<◌}
use native.Mathlib.Numerals.{add-one}
use mathlib.Core.Path.{◌≡◌, ◌∙◌, sym, ap, refl}
use mathlib.Core.List.{List}
use mathlib.Core.Bool.{Bool, true, false, ◌&&◌}
use Rattle.choice.specs.Pick.{pick}
use Rattle.choice.proofs.Branch.{by_test}
use Rattle.choice.proofs.Tests.{and_second}
use Rattle.sets.specs.Set.{has, switched}
use Rattle.sets.proofs.Switches.{numbered_is, switched_so}
use Rattle.kinds.specs.Kinds.{application_count, known_application, is_in}
use Rattle.lists.specs.Tac.{id_at, adds, stood, after}
use Rattle.lists.specs.Met.{met, tac_element}
use Rattle.lists.proofs.First.{met_is_stood, met_fits, unknown_is_skipped}

module _ (v : List ℕ) (i : ℕ) where
  in_met : known_application (id_at v i) ≡ true → is_in (met v i) (id_at v i) ≡ stood v (id_at v i) i
  unfolding is_in
  in_met h =
      let l = numbered_is application_count (id_at v i) h in
      ap (λ (b : Bool). b && has (met v i) (id_at v i - 1)) h ∙ met_is_stood v (id_at v i) l.0 l.1 i

  module _ {n : ℕ} (e : n ≡ id_at v i) (opening : Bool) (s : ℕ) where
    pub skips : known_application n ≡ false → after v opening s i ≡ after v opening s (i + 1)
    skips h = rw add-one (sym (unknown_is_skipped v opening s i (rw e at h)))

    pub applies : known_application n ≡ true → {m t : ℕ} {on : Bool} → m ≡ met v i → t ≡ after v opening s i → on ≡ (adds v opening i)
        → tac_element m t n on ≡ after v opening s (i + 1)
    unfolding tac_element after
    applies h p q r =
        rw (p, q, r, e, add-one)
        (ap (λ (b : Bool). pick b (after v opening s i) (switched application_count (after v opening s i) (id_at v i) (adds v opening i))) (in_met (rw e at h)))

  -- an identifier that was met already is remembered as it is
  module _ {n : ℕ} (e : n ≡ id_at v i) where
    pub remembers : known_application n ≡ true → {m : ℕ} → m ≡ met v i → switched application_count m n true ≡ met v (i + 1)
    unfolding tac_element is_in
    remembers h {m} p = sym once ∙ applies e true 0 h p p refl
      where
        small : m < 2 ^ application_count
        small = rw p (met_fits v i)

        once : tac_element m m n true ≡ switched application_count m n true
        once =
            by_test (λ (s : ℕ). s ≡ switched application_count m n true)
            (λ among. sym (switched_so application_count m n true small (and_second _ _ among))) (λ _. refl)
