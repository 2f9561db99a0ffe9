-- The rule of a constant table of sets: place i holds the set of what is listed there. One equation over each whole table, which is computed, and one
-- law that reads it off at each place. Assumes nothing.
use mathlib.Core.Path.{◌≡◌, refl, ap, ◌∙◌}
use mathlib.Core.List.{List, [], ◌∷◌, map}
use mathlib.Core.Bool.{Bool, true, false, ◌&&◌}
use Prim.Native.Nat.{ℕ, zero, suc, ◌-◌, ◌^◌, ◌<◌}
use lib.ListN.{get_or, get_or-map}
use lib.Dec.{T, ltb, ltb→lt, lit<}
use Rattle.choice.proofs.Branch.{by_test}
use Rattle.sets.specs.Set.{union, with}
use Rattle.kinds.specs.Kinds.{kind_count, opens_table, controls_table, set_of, opens}
use Rattle.kinds.specs.ByKind.{openers_table, controllers_table, placed, openers_always, controllers}

at_place : (f : List ℕ → ℕ) → f [] ≡ 0 → (table : List ℕ) (lists : List (List ℕ)) → table ≡ map f lists → (i : ℕ) → get_or table i 0 ≡ f (get_or lists i [])
at_place f z table lists e i = ap (λ (t : List ℕ). get_or t i 0) e ∙ rw (← z) (get_or-map f lists i [])

-- ---- by number: the kinds of the thirteen applications, and of the four Apps
abbrev pub opens_sets : List ℕ
opens_sets = 1 ∷ 2 ∷ 124 ∷ 1 ∷ 2 ∷ 128 ∷ 256 ∷ 0 ∷ 0 ∷ 512 ∷ 124 ∷ 1 ∷ 2 ∷ []

pub opens_at : (i : ℕ) → get_or opens_sets i 0 ≡ set_of (get_or opens_table i [])
unfolding set_of with union
opens_at = at_place set_of refl _ opens_table refl

abbrev pub controls_sets : List ℕ
controls_sets = 1 ∷ 2 ∷ 128 ∷ 256 ∷ []

pub controls_at : (i : ℕ) → get_or controls_sets i 0 ≡ set_of (get_or controls_table i [])
unfolding set_of with union
controls_at = at_place set_of refl _ controls_table refl

-- ---- by kind: the applications, and the Apps, of the ten
abbrev pub openers_sets : List ℕ
openers_sets = 2057 ∷ 4114 ∷ 1028 ∷ 1028 ∷ 1028 ∷ 1028 ∷ 1028 ∷ 32 ∷ 64 ∷ 512 ∷ []

pub openers_at : (k : ℕ) → get_or openers_sets k 0 ≡ openers_always k
unfolding openers_always placed with union
openers_at = at_place placed refl _ openers_table refl

abbrev pub controllers_sets : List ℕ
controllers_sets = 1 ∷ 2 ∷ 0 ∷ 0 ∷ 0 ∷ 0 ∷ 0 ∷ 4 ∷ 8 ∷ 0 ∷ []

pub controllers_at : (k : ℕ) → get_or controllers_sets k 0 ≡ controllers k
unfolding controllers placed with union
controllers_at = at_place placed refl _ controllers_table refl

-- ---- no set has bits beyond a width
abbrev pub every : ℕ → List ℕ → Bool
every b [] = true
every b (x ∷ l) = ltb x b && every b l

both_left : (x y : Bool) → T (x && y) → T x
both_left true y t = tt
both_left false y t = t

both_right : (x y : Bool) → T (x && y) → T y
both_right true y t = t
both_right false y t = absurd t

pub every_lt : (b : ℕ) (l : List ℕ) → T (every b l) → 0 < b → (i : ℕ) → get_or l i 0 < b
every_lt b [] t h i = h
every_lt b (x ∷ l) t h zero = ltb→lt x b (both_left (ltb x b) (every b l) t)
every_lt b (x ∷ l) t h (suc i) = every_lt b l (both_right (ltb x b) (every b l) t) h i

-- no application opens a kind over 9
pub opens_lt : (protects n : ℕ) → protects < 2 ^ kind_count → opens protects n < 2 ^ kind_count
unfolding opens
opens_lt protects n h =
    by_test (λ (x : ℕ). x < 2 ^ kind_count)
    (λ _. by_test (λ (x : ℕ). x < 2 ^ kind_count) (λ _. h) (λ _. rw (← opens_at (n - 1)) (every_lt (2 ^ kind_count) opens_sets tt (lit< tt) (n - 1))))
    (λ _. lit< tt)
