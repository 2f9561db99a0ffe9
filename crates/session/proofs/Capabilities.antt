-- What holding capabilities is worth: all three at both ends permit what the base permitted, and holding more never permits less, by the kinds that are
-- barred. And a message that tells of none changes none. Assumes nothing.
use Rattle.std.proofs.Common.{◌≡◌, ℕ, ap, ◌∙◌, ap₂}
use Rattle.sets.specs.Set.{common, union, minus}
use Rattle.sets.proofs.Members.{union_none}
use Rattle.sets.proofs.Subsets.{within_commons, within_less, all_left}
use Rattle.kinds.specs.Kinds.{barred}
use Rattle.kinds.proofs.Capable.{barred_within, barred_none}
use Rattle.area.specs.declared.Reading.{Reading}
use Rattle.session.specs.declared.Session.{Session}
use Rattle.session.specs.Session.{held, permitted_by_base}
use Rattle.session.specs.With.{with_ours, with_theirs}
use Rattle.session.specs.Capabilities.{theirs_after, AllHeldIsBase, HoldingMore}
use Rattle.session.proofs.PermittedMeans.{permitted_is}

-- a message without any leaves the peer's as they are
pub untold : (theirs : ℕ) (r : Reading) → r.capabilities ≡ 0 → r.holding ≡ 0 → theirs_after theirs r ≡ theirs
unfolding theirs_after
untold theirs r absent none =
    ap₂ (λ (present held : ℕ). union (minus theirs present) held) absent none ∙ union_none (minus theirs 0) ∙ all_left theirs

pub all_held_is_base : AllHeldIsBase
unfolding common
all_held_is_base s ours theirs =
    permitted_is s
    ∙ ap (λ (both : ℕ). minus (permitted_by_base s) (barred both)) (ap₂ common ours theirs)
    ∙ ap (minus (permitted_by_base s)) barred_none
    ∙ all_left (permitted_by_base s)

pub holding_more : HoldingMore
unfolding permitted_by_base
holding_more s ours theirs f g =
    let t : Session = with_theirs (with_ours s ours) theirs in
    rw (permitted_is s, permitted_is t)
    (within_less (permitted_by_base s) (barred (held t)) (barred (held s))
    (barred_within (held s) (held t) (within_commons s.ours s.theirs ours theirs f g)))
