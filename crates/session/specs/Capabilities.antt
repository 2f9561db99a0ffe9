-- Capabilities of the two ends: what a message makes of the peer's, and what holding them is worth. Assumes nothing.
use Rattle.std.specs.Prelude.{◌≡◌, ℕ}
use Rattle.sets.specs.Set.{union, minus, Within}
use Rattle.kinds.specs.Kinds.{all_capabilities}
use Rattle.area.specs.declared.Reading.{Reading}
use Rattle.session.specs.declared.Session.{Session}
use Rattle.session.specs.Session.{permitted_by_base, permitted}
use Rattle.session.specs.With.{with_ours, with_theirs}

-- the peer's "come from its Initialization (S not read)": those that are present
abbrev pub theirs_at_opening : Reading → ℕ
theirs_at_opening r = r.capabilities

-- "and change by Capability messages (S = 1 holds, S = 0 withdrawn)"; an absent one stays as it is
unfoldable pub theirs_after : ℕ → Reading → ℕ
theirs_after theirs r = union (minus theirs r.capabilities) r.holding

-- "a session whose ends hold all three permits exactly what the base permitted"
abbrev pub AllHeldIsBase : Type 0
AllHeldIsBase = (s : Session) → s.ours ≡ all_capabilities → s.theirs ≡ all_capabilities → permitted s ≡ permitted_by_base s

-- "holding more never permits less": of sessions that are alike but for what their ends hold
abbrev pub HoldingMore : Type 0
HoldingMore =
    (s : Session) (ours theirs : ℕ) → Within s.ours ours → Within s.theirs theirs
    → Within (permitted s) (permitted (with_theirs (with_ours s ours) theirs))
