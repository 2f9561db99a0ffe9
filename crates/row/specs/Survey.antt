-- The pass over a row while it goes: whether all so far are sound, and how many have each member of the set that is theirs, in planes. What it finds is said by what
-- specs/Counting.antt counts; proofs/Surveyed.antt says that the planes come to it. Assumes nothing.
use Rattle.std.specs.Prelude.{ℕ, zero, suc, ◌+◌, Bool, List, [], ◌∷◌, set, replicate}
use Rattle.choice.specs.Pick.{pick}
use Rattle.sets.specs.Set.{has, common, union, minus}
use Rattle.kinds.specs.Kinds.{application_count}
use Rattle.session.specs.declared.Session.{Session}
use Rattle.session.specs.Session.{sound}
use Rattle.row.specs.declared.Tally.{Tally}
use Rattle.row.specs.Row.{all_sound}
use Rattle.row.specs.Counting.{empty_tally, tallied}

-- the binary digits of a count, 0 to most_sessions
abbrev pub plane_count : ℕ
plane_count = 7

-- what is in one of the two, and not in both
unfoldable pub unlike : ℕ → ℕ → ℕ
unlike a b = minus (union a b) (common a b)

-- one more for each member of a set: what a plane has already is carried to the next
unfoldable pub added : List ℕ → ℕ → List ℕ
added [] carry = []
added (plane ∷ planes) carry = unlike plane carry ∷ added planes (common plane carry)

-- one binary digit more, at the end
unfoldable pub digit : ℕ → Bool → ℕ
digit n on = pick on (n + n + 1) (n + n)

-- the number at place k, with its lowest digit in the first plane
unfoldable pub weighed : List ℕ → ℕ → ℕ
weighed [] k = 0
weighed (plane ∷ planes) k = digit (weighed planes k) (has plane k)

-- the numbers at the first k places, and none at the others
unfoldable pub weighed_each : List ℕ → ℕ → List ℕ
weighed_each planes zero = replicate application_count 0
weighed_each planes (suc k) = set (weighed_each planes k) k (weighed planes k)

-- before the first session
abbrev pub empty_planes : List ℕ
empty_planes = replicate plane_count 0

-- the planes with one more session, of which the set `of` is counted where anything is
unfoldable pub with_one : Bool → (Session → ℕ) → List ℕ → Session → List ℕ
with_one counting of planes s = pick counting (added planes (of s)) planes

-- what they come to: counts where they were asked for
unfoldable pub counts_by : Bool → List ℕ → List ℕ
counts_by counting planes = pick counting (weighed_each planes application_count) empty_tally.counts

-- the sessions before the first that is not sound
unfoldable pub leading : List Session → List Session
leading [] = []
leading (s ∷ row) = pick (sound s) (s ∷ leading row) []

-- what a pass finds that ends at the first session that is not sound
unfoldable pub surveyed : Bool → (Session → ℕ) → List Session → Tally
surveyed counting of row = record { sound = all_sound row; counts = pick counting (tallied of empty_tally (leading row)).counts empty_tally.counts }
