-- Document 01's words about a session, an application n and a kind k. Assumes nothing.
use Rattle.std.specs.Prelude.{ℕ, ◌≡◌, true}
use Rattle.sets.specs.Set.{has}
use Rattle.kinds.specs.Kinds.{app_count, is_in, opens, controlled, Some}
use Rattle.session.specs.declared.Session.{Session}
use Rattle.session.specs.Session.{permitted}

-- the session enables n
abbrev pub Enables : Session → ℕ → Type 0
Enables s n = is_in s.enabled n ≡ true

-- the peer lists n
abbrev pub Lists : Session → ℕ → Type 0
Lists s n = is_in s.listed n ≡ true

-- n maps to k, by the table and the session's protected kinds
abbrev pub Maps : Session → ℕ → ℕ → Type 0
Maps s n k = has (opens s.protects n) k ≡ true

-- the peer has disabled k: one of the disabled Apps controls it
abbrev pub Disables : Session → ℕ → Type 0
Disables s k = Some controlled app_count s.disabled k

-- the session permits k
abbrev pub Permits : Session → ℕ → Type 0
Permits s k = has (permitted s) k ≡ true
