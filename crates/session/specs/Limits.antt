-- Limits on automatic sessions: the applications that a session uses, and whether an Initialization that is told which applications are below their
-- limit finds one of them. Assumes nothing.
use Rattle.std.specs.Prelude.{ℕ, Bool, ◌&&◌}
use Rattle.choice.specs.Pick.{pick}
use Rattle.sets.specs.Set.{common, empty}
use Rattle.session.specs.declared.Session.{Session}
use Rattle.session.specs.Session.{is_open, in_force, negotiated}

-- the applications that it uses: both enabled and listed, in an Open session. "Negotiation not in force counts for none"
unfoldable pub used : Session → ℕ
used s = pick (is_open s && in_force s) (negotiated s) 0

-- in force, and none of the common applications is below its limit. "Negotiation not in force .. is not limited"
unfoldable pub at_limit : Session → ℕ → Bool
at_limit s below_limit = in_force s && empty (common (negotiated s) below_limit)
