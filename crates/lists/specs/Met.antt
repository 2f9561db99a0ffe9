-- Lists: the identifiers that the reader of a TAC has met, remembered as a set of applications. Assumes nothing.
use Rattle.std.specs.Prelude.{ℕ, suc, ◌-◌, ◌^◌, ◌<◌, ◌≤◌, ◌≡◌, List, Bool, true, false}
use Rattle.choice.specs.Pick.{pick}
use Rattle.sets.specs.Set.{has, switched}
use Rattle.kinds.specs.Kinds.{application_count, known_application, is_in}
use Rattle.lists.specs.Tac.{id_at, stood, after}

-- the known identifiers among the first i elements: just what an opening lists
abbrev pub met : List ℕ → ℕ → ℕ
met v i = after v true 0 i

-- the set s after an element with the identifier n, where those in m were met before it: "counts for nothing" if it is one of them
unfoldable pub tac_element : ℕ → ℕ → ℕ → Bool → ℕ
tac_element m s n on = pick (is_in m n) s (switched application_count s n on)

-- ---- what is remembered
-- a known identifier n was met exactly when it stood earlier
abbrev pub MetIsStood : Type 0
MetIsStood = (v : List ℕ) (n : ℕ) → 1 ≤ n → n ≤ application_count → (i : ℕ) → has (met v i) (n - 1) ≡ stood v n i

-- an unknown one is not remembered, whatever its low bits
abbrev pub UnknownIsNotMet : Type 0
UnknownIsNotMet = (v : List ℕ) (i : ℕ) → known_application (id_at v i) ≡ false → met v (suc i) ≡ met v i

-- and there is no bit for more than the thirteen
abbrev pub MetFits : Type 0
MetFits = (v : List ℕ) (i : ℕ) → met v i < 2 ^ application_count
