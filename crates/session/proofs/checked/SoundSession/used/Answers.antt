-- In force the session is Open, and out of force nothing is listed, and so nothing common.
use Rattle.std.proofs.Common.{◌≡◌, Bool, true, false, ◌&&◌, sym, refl, ap, ◌∙◌}
use mathlib.Core.Bool.{and-false}
use Rattle.choice.proofs.Branch.{taken, left}
use Rattle.choice.proofs.Tests.{and_both}
use Rattle.sets.specs.Set.{common}
use Rattle.sets.proofs.Subsets.{common_none}
use Rattle.session.specs.declared.Session.{Session}
use Rattle.session.specs.Session.{is_open, in_force, negotiated, Sound}
use Rattle.session.specs.Limits.{used}
use Rattle.session.proofs.SoundMeans.{sound_means}
use Rattle.session.proofs.checked.SoundSession.used.Goals as goal

used_is : (s : Session) → Sound s → used s ≡ negotiated s
unfolding used
used_is s r = go (in_force s) refl
  where
    go : (f : Bool) → in_force s ≡ f → used s ≡ negotiated s
    go true e = taken _ _ (and_both (is_open s) (in_force s) (r.force_open e) e)
    go false e =
        left _ _ (ap (λ (b : Bool). is_open s && b) e ∙ and-false (is_open s))
        ∙ sym (ap (common s.enabled) (r.unforced_listed e) ∙ common_none s.enabled)

pub returns : goal.returns
returns c = c.negotiated.ensures ∙ sym (used_is _ (sound_means _ c.self.invariant)) ∙ ap used c.self.view_is
