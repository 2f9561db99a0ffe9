-- What is found in an area lies in it, and after a refusal nothing is found. Assumes nothing.
use Rattle.std.specs.Prelude.{ℕ, ◌+◌, ◌≤◌, ◌≡◌, List, length}
use Rattle.refusals.specs.Refusals.{not_refused}
use Rattle.area.specs.declared.Reading.{Reading}
use Rattle.area.specs.Found.{refused}
use Rattle.area.specs.Area.{area_most, read_area}

-- a part that starts and ends within so many octets
pub record Inside (most : ℕ) (r : Reading) : Type 0 where
  pub tac : r.tac.start + r.tac.len ≤ most
  pub sac : r.sac.start + r.sac.len ≤ most

-- a reading that is refused has found nothing
abbrev pub Bare : Reading → Type 0
Bare r = (r.refusal ≡ not_refused → ⊥) → r ≡ refused r.refusal

-- the values of TAC and SAC are parts of the area, and lie within the most octets of one
abbrev pub PartsInside : Type 0
PartsInside = (a : List ℕ) → Inside (length a) (read_area a) × Inside area_most (read_area a)

-- "An absent one, and both after a refusal, have no octets"
abbrev pub NothingAfterRefusal : Type 0
NothingAfterRefusal = (a : List ℕ) → Bare (read_area a)
