-- The pass by planes finds what a tally has of the sessions before the first that is not sound, whatever set of theirs is counted: a row has so few sessions
-- that every count has a digit in each plane it needs. By induction over the row, from the law of planes. Assumes empty_tally.
use Prim.Native.Nat.{ℕ, suc, ◌+◌, ◌^◌, ◌<◌, ◌≤◌}
use mathlib.Core.Path.{◌≡◌, refl, sym, ap, ◌∙◌}
use mathlib.Core.Bool.{Bool, true, false, not, ◌&&◌}
use mathlib.Core.List.{List, [], ◌∷◌}
use lib.ListN.{length, get_or, drop, drop_of_length-le}
use lib.Seq.{ext_get_or, drop-cons}
use native.Mathlib.Numerals.{add-one}
use native.Mathlib.Nat.{le_refl, zero-add}
use native.Mathlib.Omega.{arith}
use lib.Dec.{ltb}
use borrow.Author.Tests.{ltb-true, ltb-false}
use Rattle.choice.specs.Pick.{pick}
use Rattle.choice.proofs.Branch.{taken, left, by_test}
use Rattle.sets.specs.Set.{has}
use Rattle.kinds.specs.Kinds.{application_count}
use Rattle.session.specs.declared.Session.{Session}
use Rattle.session.specs.Session.{sound}
use Rattle.row.specs.declared.Tally.{Tally}
use Rattle.row.specs.Limiting.{most_sessions}
use Rattle.row.specs.Row.{how_many, all_sound}
use Rattle.row.specs.Counting.{times, empty_tally, tallied}
use Rattle.row.specs.Survey.{plane_count, added, weighed, weighed_each, empty_planes, with_one, counts_by, leading, surveyed}
use Rattle.totals.proofs.Filled.{filled_length, filled_at}
use Rattle.row.proofs.Adder.{added_weighed, added_length, weighed_none}
use Rattle.row.proofs.Tallied.{capped_is, tallied_length, row_times}
use Rattle.row.proofs.HowMany.{how_many_le}

-- ---- the sessions of a row added to planes, one after another
unfoldable summed : (Session → ℕ) → List ℕ → List Session → List ℕ
summed of planes [] = planes
summed of planes (s ∷ row) = summed of (added planes (of s)) row

summed_weighed : (of : Session → ℕ) (planes : List ℕ) (row : List Session) (k : ℕ) → weighed planes k + length row < 2 ^ length planes
    → weighed (summed of planes row) k ≡ weighed planes k + times of row k
unfolding summed how_many
summed_weighed of planes [] k small = omega arith
summed_weighed of planes (s ∷ row) k small =
    let one = added_weighed planes (of s) k (by_test (λ (n : ℕ). weighed planes k + n < 2 ^ length planes) (λ _. omega arith) (λ _. omega arith)) in
    let room : weighed (added planes (of s)) k + length row < 2 ^ length (added planes (of s)) =
    rw (added_length, one) (by_test (λ (n : ℕ). weighed planes k + n + length row < 2 ^ length planes) (λ _. omega arith) (λ _. omega arith)) in
    let rest = summed_weighed of (added planes (of s)) row k room in
    omega arith

-- ---- the numbers at all places
module _ (planes : List ℕ) where
  weighed_each_length : length (weighed_each planes application_count) ≡ application_count
  unfolding weighed_each
  weighed_each_length = filled_length (weighed planes) (weighed_each planes) (λ m. refl) application_count

  weighed_each_at : (k : ℕ) → k < application_count → get_or (weighed_each planes application_count) k 0 ≡ weighed planes k
  unfolding weighed_each
  weighed_each_at k l = filled_at (weighed planes) (weighed_each planes) (λ m. refl) application_count k l l

-- the counts of a tally
summed_counts : (of : Session → ℕ) (row : List Session) → length row ≤ most_sessions → weighed_each (summed of empty_planes row) application_count ≡ (tallied of empty_tally row).counts
summed_counts of row few =
    let long = weighed_each_length (summed of empty_planes row) in
    ext_get_or 0 _ _ (long ∙ sym (tallied_length of empty_tally row)) (λ k l. same k (rw long at l))
  where
    same : (k : ℕ) → k < application_count → get_or (weighed_each (summed of empty_planes row) application_count) k 0 ≡ get_or (tallied of empty_tally row).counts k 0
    same k l =
        let none : weighed empty_planes k ≡ 0 = weighed_none plane_count k in
        let most = how_many_le (λ s. has (of s) k) row in
        weighed_each_at (summed of empty_planes row) k l ∙ summed_weighed of empty_planes row k (rw none (omega arith)) ∙ ap (λ (n : ℕ). n + times of row k) none ∙ zero-add (times of row k)
        ∙ sym (row_times of row k l ∙ capped_is (times of row k) (omega arith))

-- ---- the pass from some planes on: it ends where one is not sound, or with the row
module _ (counting : Bool) (of : Session → ℕ) where
  abbrev ended : Bool → List ℕ → Tally
  ended all planes = record { sound = all; counts = counts_by counting planes }

  unfoldable pub onward : List ℕ → List Session → Tally
  onward planes [] = ended true planes
  onward planes (s ∷ row) = pick (sound s) (onward (with_one counting of planes s) row) (ended false planes)

  -- at place k: past the row, at a session that is sound, or at one that is not
  pub onward_past : (planes : List ℕ) (row : List Session) (k : ℕ) → length row ≤ k → onward planes (drop k row) ≡ record { sound = true; counts = counts_by counting planes }
  unfolding onward
  onward_past planes row k past = ap (onward planes) (drop_of_length-le row {i = k} past)

  module _ (planes : List ℕ) (row : List Session) (k : ℕ) (d : Session) (l : k < length row) where
    onward_at : onward planes (drop k row) ≡ pick (sound (get_or row k d)) (onward (with_one counting of planes (get_or row k d)) (drop (k + 1) row)) (ended false planes)
    unfolding onward
    onward_at = rw (add-one, drop-cons row k d l) refl

    pub onward_more : sound (get_or row k d) ≡ true → onward planes (drop k row) ≡ onward (with_one counting of planes (get_or row k d)) (drop (k + 1) row)
    onward_more all = onward_at ∙ taken _ _ all

    pub onward_stop : sound (get_or row k d) ≡ false → onward planes (drop k row) ≡ record { sound = false; counts = counts_by counting planes }
    onward_stop over = onward_at ∙ left _ _ over

  -- past the row or at one that is not sound it has ended
  pub onward_end : (planes : List ℕ) (row : List Session) (k : ℕ) (d : Session) → ltb k (length row) && sound (get_or row k d) ≡ false
      → onward planes (drop k row) ≡ record { sound = not (ltb k (length row)); counts = counts_by counting planes }
  onward_end planes row k d = go (ltb k (length row)) refl
    where
      go : (b : Bool) → ltb k (length row) ≡ b → b && sound (get_or row k d) ≡ false → onward planes (drop k row) ≡ record { sound = not b; counts = counts_by counting planes }
      go true e over = onward_stop planes row k d (ltb-true k (length row) e) over
      go false e over = onward_past planes row k (ltb-false k (length row) e)

abbrev found : Bool → (Session → ℕ) → List ℕ → List Session → Tally
found counting of planes row = record { sound = all_sound row; counts = pick counting (weighed_each (summed of planes (leading row)) application_count) empty_tally.counts }

onward_found : (counting : Bool) (of : Session → ℕ) (planes : List ℕ) (row : List Session) → onward counting of planes row ≡ found counting of planes row
unfolding onward with_one counts_by all_sound leading summed pick
onward_found counting of planes [] = refl
onward_found counting of planes (s ∷ row) = go counting (sound s) (λ c p. onward_found c of p row)
  where
    go : (c b : Bool) → ((c : Bool) (p : List ℕ) → onward c of p row ≡ found c of p row)
        → pick b (onward c of (pick c (added planes (of s)) planes) row) (record { sound = false; counts = pick c (weighed_each planes application_count) empty_tally.counts })
        ≡ record { sound = b && all_sound row; counts = pick c (weighed_each (summed of planes (pick b (s ∷ leading row) [])) application_count) empty_tally.counts }
    go c false rest = refl
    go true true rest = rest true (added planes (of s))
    go false true rest = rest false planes

leading_le : (row : List Session) → length (leading row) ≤ length row
unfolding leading
leading_le [] = le_refl 0
leading_le (s ∷ row) = let h = leading_le row in by_test (λ (l : List Session). length l ≤ suc (length row)) (λ _. omega arith) (λ _. omega arith)

pub onward_surveyed : (counting : Bool) (of : Session → ℕ) (row : List Session) → length row ≤ most_sessions → onward counting of empty_planes row ≡ surveyed counting of row
unfolding surveyed
onward_surveyed counting of row few =
    let h = leading_le row in
    onward_found counting of empty_planes row
    ∙ ap (λ (cs : List ℕ). record { sound = all_sound row; counts = pick counting cs empty_tally.counts }) (summed_counts of (leading row) (omega arith))
