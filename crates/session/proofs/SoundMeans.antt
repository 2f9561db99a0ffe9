-- The test `sound` holds exactly where every rule of "Sound means" does: the chain of tests taken apart and put together again. Assumes nothing.
use Rattle.std.proofs.Common.{◌≡◌, ℕ, Bool, true, false, not, ◌&&◌, eqb, leb, ap, eq-eqb, eqb-true, le-leb, leb-true}
use Rattle.choice.proofs.Tests.{and_first, and_second, and_both, not_false, only_gives, only_holds, unless_gives, unless_holds}
use Rattle.sets.specs.Set.{empty, below}
use Rattle.sets.proofs.Bounds.{below_lt, lt_below}
use Rattle.sets.proofs.Subsets.{empty_is}
use Rattle.kinds.specs.Kinds.{application_count, kind_count, app_count, capability_count}
use Rattle.session.specs.declared.Session.{Session}
use Rattle.session.specs.Session.{state_gone, flag_count, is_open, is_held, is_gone, active, uses_tac, in_force, dynamic, recorded, negotiated, leaves_gone, spare_zero, force_sound, listed_sound, open_sound, theirs_sound, hello_sound, held_sound, gone_sound, sound, Sound, SoundMeans}

-- `not`, both ways
not_true : {x : Bool} → x ≡ false → not x ≡ true
not_true e = ap not e

-- a set that is 0 is empty
is_empty : {n : ℕ} → n ≡ 0 → empty n ≡ true
unfolding empty
is_empty e = eq-eqb _ 0 e

module _ (s : Session) where
  pub sound_means : sound s ≡ true → Sound s
  unfolding sound spare_zero force_sound listed_sound open_sound theirs_sound hello_sound held_sound gone_sound
  sound_means h =
      let t1 = and_second (spare_zero s) _ h in
      let t2 = and_second (force_sound s) _ t1 in
      let t3 = and_second (listed_sound s) _ t2 in
      let t4 = and_second (open_sound s) _ t3 in
      let t5 = and_second (theirs_sound s) _ t4 in
      let t6 = and_second (hello_sound s) _ t5 in
      let spare = and_first (spare_zero s) _ h in
      let s1 = and_second (leb s.state state_gone) _ spare in
      let s2 = and_second (below flag_count s.flags) _ s1 in
      let s3 = and_second (below application_count s.enabled) _ s2 in
      let s4 = and_second (below application_count s.listed) _ s3 in
      let s5 = and_second (below kind_count s.protects) _ s4 in
      let s6 = and_second (below app_count s.disabled) _ s5 in
      let force : in_force s ≡ true → (is_open s && (uses_tac s && not (empty (negotiated s)))) ≡ true = λ e. only_gives (in_force s) _ (and_first (force_sound s) _ t1) e in
      let shut : is_open s ≡ false → (empty s.disabled && not (dynamic s)) ≡ true = λ e. unless_gives (is_open s) _ (and_first (open_sound s) _ t3) e in
      let held : is_held s ≡ true → (active s && not (leaves_gone s)) ≡ true = λ e. only_gives (is_held s) _ (and_first (held_sound s) _ t6) e in
      let gone : is_gone s ≡ true → (active s && (leaves_gone s && not (recorded s))) ≡ true = λ e. only_gives (is_gone s) _ (and_second (held_sound s) _ t6) e in
      record {
        state = leb-true s.state state_gone (and_first (leb s.state state_gone) _ spare);
        flags = below_lt flag_count s.flags (and_first (below flag_count s.flags) _ s1);
        enabled = below_lt application_count s.enabled (and_first (below application_count s.enabled) _ s2);
        listed = below_lt application_count s.listed (and_first (below application_count s.listed) _ s3);
        protects = below_lt kind_count s.protects (and_first (below kind_count s.protects) _ s4);
        disabled = below_lt app_count s.disabled (and_first (below app_count s.disabled) _ s5);
        ours = below_lt capability_count s.ours (and_first (below capability_count s.ours) _ s6);
        theirs = below_lt capability_count s.theirs (and_second (below capability_count s.ours) _ s6);
        force_open = λ e. and_first (is_open s) _ (force e);
        force_uses = λ e. and_first (uses_tac s) _ (and_second (is_open s) _ (force e));
        force_common = λ e. not_false _ (and_second (uses_tac s) _ (and_second (is_open s) _ (force e)));
        unforced_listed = λ e. empty_is s.listed (unless_gives (in_force s) (empty s.listed) (and_first (listed_sound s) _ t2) e);
        shut_disabled = λ e. empty_is s.disabled (and_first (empty s.disabled) _ (shut e));
        shut_dynamic = λ e. not_false _ (and_second (empty s.disabled) _ (shut e));
        shut_theirs = λ e. empty_is s.theirs (unless_gives (is_open s) (empty s.theirs) (and_first (theirs_sound s) _ t4) e);
        unrecorded_hello = λ e. eqb-true s.hello 0 (unless_gives (recorded s) (eqb s.hello 0) (and_first (hello_sound s) _ t5) e);
        held_active = λ e. and_first (active s) _ (held e);
        held_stays = λ e. not_false _ (and_second (active s) _ (held e));
        gone_active = λ e. and_first (active s) _ (gone e);
        gone_leaves = λ e. and_first (leaves_gone s) _ (and_second (active s) _ (gone e));
        gone_unrecorded = λ e. not_false _ (and_second (leaves_gone s) _ (and_second (active s) _ (gone e)));
      }

  pub means_sound : Sound s → sound s ≡ true
  unfolding sound spare_zero force_sound listed_sound open_sound theirs_sound hello_sound held_sound gone_sound
  means_sound r =
      and_both _ _ (and_both _ _ (le-leb _ _ r.state) (and_both _ _ (lt_below flag_count _ r.flags) (and_both _ _ (lt_below application_count _ r.enabled)
      (and_both _ _ (lt_below application_count _ r.listed) (and_both _ _ (lt_below kind_count _ r.protects) (and_both _ _ (lt_below app_count _ r.disabled)
      (and_both _ _ (lt_below capability_count _ r.ours) (lt_below capability_count _ r.theirs))))))))
      (and_both _ _ (only_holds (in_force s) _ (λ e. and_both _ _ (r.force_open e) (and_both _ _ (r.force_uses e) (not_true (r.force_common e)))))
      (and_both _ _ (unless_holds (in_force s) _ (λ e. is_empty (r.unforced_listed e)))
      (and_both _ _ (unless_holds (is_open s) _ (λ e. and_both _ _ (is_empty (r.shut_disabled e)) (not_true (r.shut_dynamic e))))
      (and_both _ _ (unless_holds (is_open s) _ (λ e. is_empty (r.shut_theirs e)))
      (and_both _ _ (unless_holds (recorded s) _ (λ e. eq-eqb _ 0 (r.unrecorded_hello e)))
      (and_both _ _ (only_holds (is_held s) _ (λ e. and_both _ _ (r.held_active e) (not_true (r.held_stays e))))
      (only_holds (is_gone s) _ (λ e. and_both _ _ (r.gone_active e) (and_both _ _ (r.gone_leaves e) (not_true (r.gone_unrecorded e)))))))))))

pub both_ways : SoundMeans
both_ways s = (sound_means s, means_sound s)
