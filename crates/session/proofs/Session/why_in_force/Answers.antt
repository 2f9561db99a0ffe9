-- What is both enabled and listed is enabled.
use Rattle.std.proofs.Common.{◌≡◌, ℕ, true, sym, ◌∙◌}
use Rattle.choice.proofs.Branch.{pick_false}
use Rattle.choice.proofs.Tests.{and_first}
use Rattle.sets.specs.Set.{has, common}
use Rattle.sets.proofs.Members.{has_common}
use Rattle.kinds.specs.Kinds.{application_count, opens, opened}
use Rattle.kinds.proofs.Gathered.{gather_within}
use Rattle.session.proofs.Session.why_in_force.Goals as goal

-- a set of applications opens what a part of it opens
opens_more : (protects a b k : ℕ) → has (opened protects (common a b)) k ≡ true → has (opened protects a) k ≡ true
unfolding opened
opens_more protects a b = gather_within (opens protects) application_count (common a b) a (λ n h. and_first (has a n) (has b n) (sym (has_common a b n) ∙ h))

pub returns-then-opens_kind : goal.returns-then-opens_kind
returns-then-opens_kind c =
    let s = c.args.self in
    let both = rw c.negotiated.ensures at (sym c.opens_kind.ensures ∙ c.if-opens_kind.true) in
    c.why_barred.ensures ∙ simp (both, opens_more s.protects s.enabled s.listed c.args.kind both, pick_false)
