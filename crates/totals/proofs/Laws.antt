-- Laws of totals: what one that does not go outside is, where each stands after an event, and that nothing lost and nothing gained leaves them as they were; so
-- what an event comes to. By cases on lost and gained, and by induction over the places. Assumes nothing.
use Prim.Native.Nat.{ℕ, zero, suc, ◌+◌, ◌-◌, ◌<◌, ◌≤◌, zero-le}
use mathlib.Core.Path.{◌≡◌, refl, sym, ap, ap₂, ◌∙◌}
use mathlib.Core.Logic.{◌⊎◌, inl, inr, ⊎_elim}
use mathlib.Core.Bool.{Bool, true, false, ◌&&◌, ◌||◌, true≢false}
use mathlib.Core.List.{List}
use lib.ListN.{length, get_or, set}
use lib.Seq.{set-get_or}
use native.Mathlib.Decide.{dec_lt}
use native.Mathlib.Nat.{le_refl}
use native.Mathlib.Numerals.{add-one}
use native.Mathlib.Omega.{arith}
use lib.Dec.{eqb, ltb}
use Rattle.std.specs.Prelude.{Option, Some, None, Ok, Err}
use borrow.Author.Tests.{ltb-true, lt-ltb, le-ltb, eqb-true, eq-eqb, ne_eqb}
use Rattle.choice.specs.Pick.{pick}
use Rattle.choice.proofs.Branch.{taken, left, by_test}
use Rattle.choice.proofs.Tests.{or_first, or_second, or_either, or_neither}
use Rattle.sets.specs.Set.{has, union}
use Rattle.sets.proofs.Members.{has_union, has_none}
use Rattle.refusals.specs.declared.Refusal.TheVariants.{TotalOutside}
use Rattle.refusals.specs.Refusals.{total_outside}
use Rattle.kinds.specs.Kinds.{kind_count}
use Rattle.session.specs.declared.Session.{Session}
use Rattle.session.specs.declared.After.{After}
use Rattle.session.specs.Decisions.{refused}
use Rattle.totals.specs.declared.Totals.{Totals}
use Rattle.totals.specs.declared.Totalled.{Totalled}
use Rattle.totals.specs.Totals.{total_of, highest_total, total_after, goes_outside, moved_each, one_outside, totals_after, any_outside, moved_totals, totalled}
use Rattle.totals.proofs.Filled.{filled_length, filled_at, filled_past}

-- ---- one total
-- that goes outside: lowered from 0 or from over 65, or raised from 64 or over
pub outside_where : (n : ℕ) (lost gained : Bool) → goes_outside n lost gained ≡ true
    → ((lost ≡ true) × ((n ≡ 0) ⊎ (highest_total + 1 < n))) ⊎ ((gained ≡ true) × (highest_total ≤ n))
unfolding goes_outside pick
outside_where n true gained h =
    inl (refl, ⊎_elim (λ e. inl (eqb-true n 0 e)) (λ l. let over = ltb-true highest_total (n - 1) l in inr (omega arith)) (or_either (eqb n 0) (ltb highest_total (n - 1)) h))
outside_where n false true h = let over = ltb-true highest_total (n + 1) h in inr (refl, omega arith)
outside_where n false false h = absurd (true≢false (sym h))

pub lowered_outside : (n : ℕ) (gained : Bool) → (n ≡ 0) ⊎ (highest_total + 1 < n) → goes_outside n true gained ≡ true
unfolding goes_outside pick
lowered_outside n gained = ⊎_elim (λ e. or_first _ _ (eq-eqb n 0 e)) (λ l. or_second (eqb n 0) _ (lt-ltb highest_total (n - 1) (omega arith)))

pub raised_outside : (n : ℕ) → highest_total ≤ n → goes_outside n false true ≡ true
unfolding goes_outside pick
raised_outside n l = lt-ltb highest_total (n + 1) (omega arith)

-- that stays inside where there is one to lose, or room for one more
and_never : (x : Bool) {y : Bool} → (x ≡ true → y ≡ false) → (x && y) ≡ false
and_never true f = f refl
and_never false f = refl

pub stays_inside : (n : ℕ) (lost gained : Bool) → (lost ≡ true → (1 ≤ n) × (n ≤ highest_total + 1)) → (gained ≡ true → n + 1 ≤ highest_total) → goes_outside n lost gained ≡ false
unfolding goes_outside pick
stays_inside n true gained f g = let l = f refl in ap₂ ◌||◌ (ne_eqb n 0 (λ e. absurd (omega arith))) (le-ltb highest_total (n - 1) (omega arith))
stays_inside n false gained f g = and_never gained (λ is. le-ltb highest_total (n + 1) (g is))

-- whose kind is neither lost nor gained
still : (x y : Bool) (n : ℕ) → (x || y) ≡ false → total_after n x y ≡ n
unfolding total_after pick
still true y n h = absurd (true≢false h)
still false true n h = absurd (true≢false h)
still false false n h = refl

still_inside : (x y : Bool) (n : ℕ) → (x || y) ≡ false → goes_outside n x y ≡ false
still_inside x y n h = let none = or_neither x y h in stays_inside n x y (λ is. absurd (true≢false (sym is ∙ none.0))) (λ is. absurd (true≢false (sym is ∙ none.1)))

-- whose kind moves: it is lost or else gained
pub moves_to : (x y : Bool) (n : ℕ) → (x || y) ≡ true → total_after n x true ≡ total_after n x y
unfolding total_after pick
moves_to true y n h = refl
moves_to false true n h = refl
moves_to false false n h = absurd (true≢false (sym h))

pub moves_outside : (x y : Bool) (n : ℕ) → (x || y) ≡ true → goes_outside n x true ≡ goes_outside n x y
unfolding goes_outside pick
moves_outside true y n h = refl
moves_outside false true n h = refl
moves_outside false false n h = absurd (true≢false (sym h))

-- that is stepped to, or none
pub no_step : (outside : Bool) (n : ℕ) {r : Option ℕ} → r ≡ pick outside None (Some n) → r ≡ None → outside ≡ true
unfolding pick
no_step true n e f = refl
no_step false n e f = grind arith

pub one_step : (outside : Bool) (n m : ℕ) {r : Option ℕ} → r ≡ pick outside None (Some n) → r ≡ Some m → (outside ≡ false) × (m ≡ n)
unfolding pick
one_step true n m e f = grind arith
one_step false n m e f = (refl, grind arith)

-- ---- each of them
module _ (each : List ℕ) (lost gained : ℕ) where
  abbrev total_then : ℕ → ℕ
  total_then k = total_after (get_or each k 0) (has lost k) (has gained k)

  abbrev Leaves : ℕ → Bool
  Leaves k = goes_outside (get_or each k 0) (has lost k) (has gained k)

  moved_length : (m : ℕ) → length (moved_each each lost gained m) ≡ length each
  unfolding moved_each
  moved_length = filled_length total_then (moved_each each lost gained) (λ m. refl)

  moved_at : (m k : ℕ) → k < m → k < length each → get_or (moved_each each lost gained m) k 0 ≡ total_then k
  unfolding moved_each
  moved_at = filled_at total_then (moved_each each lost gained) (λ m. refl)

  moved_past : (m k : ℕ) → m ≤ k → get_or (moved_each each lost gained m) k 0 ≡ get_or each k 0
  unfolding moved_each
  moved_past = filled_past total_then (moved_each each lost gained) (λ m. refl)

  -- one more of them
  pub moved_more : (k : ℕ) → set (moved_each each lost gained k) k (total_then k) ≡ moved_each each lost gained (k + 1)
  unfolding moved_each
  moved_more k = rw add-one refl

  pub outside_more : (k : ℕ) → one_outside each lost gained k ≡ false → Leaves k ≡ false → one_outside each lost gained (k + 1) ≡ false
  unfolding one_outside
  outside_more k before here = rw add-one (ap₂ ◌||◌ before here)

  -- one more that stays as it is
  moved_still : (k : ℕ) → (has lost k || has gained k) ≡ false → moved_each each lost gained k ≡ moved_each each lost gained (k + 1)
  moved_still k neither =
      let list = moved_each each lost gained k in
      sym (ap (set list k) (still (has lost k) (has gained k) (get_or each k 0) neither ∙ sym (moved_past k k (le_refl k))) ∙ set-get_or list k 0) ∙ moved_more k

  outside_still : (k : ℕ) → (has lost k || has gained k) ≡ false → one_outside each lost gained k ≡ false → one_outside each lost gained (k + 1) ≡ false
  outside_still k neither before = outside_more k before (still_inside (has lost k) (has gained k) (get_or each k 0) neither)

  -- and so do all from one to another of which none is lost or gained
  abbrev Still : ℕ → ℕ → Type 0
  Still k m = (j : ℕ) → k ≤ j → j < m → (has lost j || has gained j) ≡ false

  still_more : (k d : ℕ) → Still k (k + d) → moved_each each lost gained k ≡ moved_each each lost gained (k + d)
  still_more k zero f = let e : k ≡ k + 0 = omega arith in ap (moved_each each lost gained) e
  still_more k (suc d) f =
      let e : k + d + 1 ≡ k + suc d = omega arith in
      still_more k d (λ j least most. f j least (omega arith)) ∙ moved_still (k + d) (f (k + d) (omega arith) (omega arith)) ∙ ap (moved_each each lost gained) e

  inside_more : (k d : ℕ) → Still k (k + d) → one_outside each lost gained k ≡ false → one_outside each lost gained (k + d) ≡ false
  inside_more k zero f before = let e : k + 0 ≡ k = omega arith in rw e before
  inside_more k (suc d) f before =
      let e : k + suc d ≡ k + d + 1 = omega arith in
      rw e (outside_still (k + d) (f (k + d) (omega arith) (omega arith)) (inside_more k d (λ j least most. f j least (omega arith)) before))

  pub still_to : (k m : ℕ) → k ≤ m → Still k m → moved_each each lost gained k ≡ moved_each each lost gained m
  still_to k m l f = let e : k + (m - k) ≡ m = omega arith in rw e at (still_more k (m - k) (rw e f))

  pub inside_to : (k m : ℕ) → k ≤ m → Still k m → one_outside each lost gained k ≡ false → one_outside each lost gained m ≡ false
  inside_to k m l f before = let e : k + (m - k) ≡ m = omega arith in rw e at (inside_more k (m - k) (rw e f) before)

  -- one that goes outside is found
  pub outside_at : (m k : ℕ) → k < m → Leaves k ≡ true → one_outside each lost gained m ≡ true
  unfolding one_outside
  outside_at zero k l h = absurd (omega arith)
  outside_at (suc m) k l h = go (dec_lt k m) (λ b. outside_at m k b h)
    where
      go : Dec (k < m) → (k < m → one_outside each lost gained m ≡ true) → (one_outside each lost gained m || Leaves m) ≡ true
      go (yes b) before = or_first _ _ (before b)
      go (no d) before = let e : k ≡ m = omega arith in or_second (one_outside each lost gained m) _ (rw e at h)

  -- and there is one where one is found
  outside_found : (m : ℕ) → one_outside each lost gained m ≡ true → (k : ℕ) × ((k < m) × (Leaves k ≡ true))
  unfolding one_outside
  outside_found zero h = absurd (true≢false (sym h))
  outside_found (suc m) h =
      ⊎_elim (λ before. let found = outside_found m before in (found.0, (omega (arith, found.1.0), found.1.1))) (λ here. (m, (omega arith, here)))
      (or_either (one_outside each lost gained m) (Leaves m) h)

  each_inside : (m : ℕ) → ((k : ℕ) → k < m → Leaves k ≡ false) → one_outside each lost gained m ≡ false
  unfolding one_outside
  each_inside zero f = refl
  each_inside (suc m) f = ap₂ ◌||◌ (each_inside m (λ k l. f k (omega arith))) (f m (omega arith))

-- where nothing is lost and nothing gained all stay
module _ (t : Totals) (lost gained : ℕ) (none : union lost gained ≡ 0) where
  neither : (k : ℕ) → (has lost k || has gained k) ≡ false
  neither k = sym (has_union lost gained k) ∙ ap (λ (s : ℕ). has s k) none ∙ has_none k

  pub totals_stay : totals_after t lost gained ≡ t
  unfolding totals_after moved_each
  totals_stay = ap (λ (l : List ℕ). record { each = l }) (sym (still_to t.each lost gained 0 kind_count zero-le (λ k _ _. neither k)))

  pub stay_inside : any_outside t lost gained ≡ false
  unfolding any_outside
  stay_inside = each_inside t.each lost gained kind_count (λ k _. still_inside (has lost k) (has gained k) (get_or t.each k 0) (neither k))

-- ---- the ten
module _ (t : Totals) (lost gained : ℕ) where
  pub after_length : length (totals_after t lost gained).each ≡ length t.each
  unfolding totals_after
  after_length = moved_length t.each lost gained kind_count

  pub after_at : (k : ℕ) → k < kind_count → k < length t.each → total_of (totals_after t lost gained) k ≡ total_after (total_of t k) (has lost k) (has gained k)
  unfolding totals_after
  after_at k = moved_at t.each lost gained kind_count k

  pub some_outside : any_outside t lost gained ≡ true → (k : ℕ) × ((k < kind_count) × (goes_outside (total_of t k) (has lost k) (has gained k) ≡ true))
  unfolding any_outside
  some_outside = outside_found t.each lost gained kind_count

  pub is_outside : (k : ℕ) → k < kind_count → goes_outside (total_of t k) (has lost k) (has gained k) ≡ true → any_outside t lost gained ≡ true
  unfolding any_outside
  is_outside k l h = outside_at t.each lost gained kind_count k l h

  pub all_inside : ((k : ℕ) → k < kind_count → goes_outside (total_of t k) (has lost k) (has gained k) ≡ false) → any_outside t lost gained ≡ false
  unfolding any_outside
  all_inside = each_inside t.each lost gained kind_count

-- ---- what the totals move to
module _ (t : Totals) (lost gained : ℕ) where
  -- none where one goes outside
  pub moved_outside : any_outside t lost gained ≡ true → moved_totals t lost gained ≡ Err TotalOutside
  unfolding moved_totals
  moved_outside h = taken _ _ h

  -- where none of the first k does and no other moves, the first k are all
  pub moved_inside : (k : ℕ) → k ≤ kind_count → Still t.each lost gained k kind_count → one_outside t.each lost gained k ≡ false
      → moved_totals t lost gained ≡ Ok (record { each = moved_each t.each lost gained k })
  unfolding moved_totals any_outside totals_after
  moved_inside k l still before =
      left _ _ (inside_to t.each lost gained k kind_count l still before)
      ∙ ap (λ (each : List ℕ). Ok (record { each = each })) (sym (still_to t.each lost gained k kind_count l still))

-- ---- an event
module _ (t : Totals) (before : Session) (after : After) where
  abbrev pub Stopped : Totalled
  Stopped = record { session = before; answer = record { answer = (refused before total_outside).answer; totals = t } }

  abbrev pub Happens : Totals → Totalled
  Happens u = record { session = after.session; answer = record { answer = after.answer; totals = u } }

  -- what holds where it is refused with 16, and where it is the event's own, holds of it
  pub totalled_by_law : (P : Totalled → Type 0) → (any_outside t after.answer.lost after.answer.gained ≡ true → P Stopped)
      → (any_outside t after.answer.lost after.answer.gained ≡ false → P (Happens (totals_after t after.answer.lost after.answer.gained))) → P (totalled t before after)
  unfolding totalled
  totalled_by_law P f g = by_test P f g

  -- one that moves no total is the event's own, and leaves them
  pub totalled_still : union after.answer.lost after.answer.gained ≡ 0 → totalled t before after ≡ Happens t
  unfolding totalled
  totalled_still none = left _ _ (stay_inside t _ _ none) ∙ ap Happens (totals_stay t _ _ none)

  pub totalled_inside : any_outside t after.answer.lost after.answer.gained ≡ false → totalled t before after ≡ Happens (totals_after t after.answer.lost after.answer.gained)
  unfolding totalled
  totalled_inside h = left _ _ h
