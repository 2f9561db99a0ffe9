-- The sessions that creation and events make are sound: a fresh one, out of Open, greeted, with an application changed, after an Initialization and after
-- a Capability message. Of the last three one rule is open, that something is common where negotiation is in force: an event asks it. A mismatch asks less
-- of the session that it is found in, `Basic`. Assumes nothing.
use Rattle.std.proofs.Common.{◌≡◌, ℕ, zero, suc, ◌^◌, ◌<◌, ◌≤◌, Bool, true, false, ◌&&◌, eqb, List, sym, refl, ap, ◌∙◌, ap₂, true≢false, arith, lit<, lit≤, eqb-true}
use mathlib.Core.Bool.{false≢true}
use Rattle.choice.specs.Pick.{pick}
use Rattle.choice.proofs.Branch.{by_test, pick_both, taken, left}
use Rattle.choice.proofs.Tests.{fails_if, and_first}
use Rattle.sets.specs.Set.{has, one, union, minus, empty, within}
use Rattle.sets.proofs.Bounds.{minus_lt, union_lt}
use Rattle.sets.proofs.Flags as flag
use Rattle.sets.proofs.Members.{has_none}
use Rattle.sets.proofs.Subsets.{within_means}
use Rattle.sets.proofs.Switches.{switched_lt}
use Rattle.kinds.specs.Kinds.{application_count, kind_count, app_count, capability_count}
use Rattle.area.specs.declared.Reading.{Reading}
use Rattle.area.specs.Area.{part, s_bit}
use Rattle.area.proofs.Parts.{Few}
use Rattle.lists.proofs.First.{tac_list_lt}
use Rattle.lists.proofs.Later.{sac_list_lt}
use Rattle.session.specs.declared.Session.{Session}
use Rattle.session.specs.Session.{state_ready, state_open, state_held, state_gone, is_ready, is_open, is_held, active, uses_tac, in_force, recorded, initiating_bit, active_bit, uses_tac_bit, drops_bit, in_force_bit, dynamic_bit, recorded_bit, flag_count, cleared_out_of_open, cleared_in_gone, negotiated, nothing_common, leaves_gone, spare_zero, force_sound, listed_sound, open_sound, theirs_sound, hello_sound, held_sound, gone_sound, sound, Sound}
use Rattle.session.specs.With.{session_of, with_flags, with_enabled, with_next, fresh, out_of_open, back_to_ready, mismatched, held_to_ready, greeted, changed}
use Rattle.session.specs.Capabilities.{theirs_after}
use Rattle.session.specs.Creation.{raised, role_flags}
use Rattle.session.specs.Events.{takes_tac, after_initialization, list_after, flags_after, after_capability}
use Rattle.session.proofs.SoundMeans.{sound_means, means_sound}
use Rattle.session.proofs.FlagsRaised.{raised_kept, raised_is, raised_lt, raised_next}

pub never : {A : Type 0} {x : Bool} → x ≡ true → x ≡ false → A
never e f = absurd (true≢false (sym e ∙ f))

-- ---- what a mismatch asks of the session that it is found in
pub record Basic (s : Session) : Type 0 where
  pub flags : s.flags < 2 ^ flag_count
  pub enabled : s.enabled < 2 ^ application_count
  pub protects : s.protects < 2 ^ kind_count
  pub ours : s.ours < 2 ^ capability_count
  pub unrecorded_hello : recorded s ≡ false → s.hello ≡ 0

pub basic : {s : Session} → Sound s → Basic s
basic r = record { flags = r.flags; enabled = r.enabled; protects = r.protects; ours = r.ours; unrecorded_hello = r.unrecorded_hello }

-- ---- out of Open
module _ (s : Session) (b : Basic s) where
  out_sound : (state off hello : ℕ) → state ≤ state_gone → has off in_force_bit ≡ true → has off dynamic_bit ≡ true
      → (recorded (out_of_open s state off hello) ≡ false → hello ≡ 0)
      → (eqb state state_held ≡ true → (active (out_of_open s state off hello) ≡ true) × (leaves_gone (out_of_open s state off hello) ≡ false))
      → (eqb state state_gone ≡ true
      → (active (out_of_open s state off hello) ≡ true) × (leaves_gone (out_of_open s state off hello) ≡ true) × (recorded (out_of_open s state off hello) ≡ false))
      → Sound (out_of_open s state off hello)
  out_sound state off hello small force dyn heard held gone =
      let unforced : in_force (out_of_open s state off hello) ≡ false = flag.off s.flags off in_force_bit force in
      record {
        state = small;
        flags = minus_lt flag_count s.flags off b.flags;
        enabled = b.enabled;
        listed = lit< tt;
        protects = b.protects;
        disabled = lit< tt;
        ours = b.ours;
        theirs = lit< tt;
        force_open = λ e. never e unforced;
        force_uses = λ e. never e unforced;
        force_common = λ e. never e unforced;
        unforced_listed = λ _. refl;
        shut_disabled = λ _. refl;
        shut_dynamic = λ _. flag.off s.flags off dynamic_bit dyn;
        shut_theirs = λ _. refl;
        unrecorded_hello = heard;
        held_active = λ e. (held e).0;
        held_stays = λ e. (held e).1;
        gone_active = λ e. (gone e).0;
        gone_leaves = λ e. (gone e).1;
        gone_unrecorded = λ e. (gone e).2;
      }

  pub back_sound : Sound (back_to_ready s)
  unfolding has
  back_sound =
      out_sound state_ready cleared_out_of_open s.hello (lit≤ tt) refl refl
      (λ e. b.unrecorded_hello (sym (flag.kept_off s.flags cleared_out_of_open recorded_bit refl) ∙ e))
      (λ e. absurd (false≢true e)) (λ e. absurd (false≢true e))

  pub mismatched_sound : Sound (mismatched s)
  unfolding mismatched has
  mismatched_sound =
      by_test Sound
      (λ a. by_test Sound
      (λ l. out_sound state_gone cleared_in_gone 0 (lit≤ tt) refl refl (λ _. refl) (λ e. absurd (false≢true e))
      (λ _. (
        flag.kept_off s.flags cleared_in_gone active_bit refl ∙ a,
        rw (flag.kept_off s.flags cleared_in_gone initiating_bit refl, flag.kept_off s.flags cleared_in_gone drops_bit refl) l,
        flag.off s.flags cleared_in_gone recorded_bit refl,
      )))
      (λ l. out_sound state_held cleared_out_of_open s.hello (lit≤ tt) refl refl
      (λ e. b.unrecorded_hello (sym (flag.kept_off s.flags cleared_out_of_open recorded_bit refl) ∙ e))
      (λ _. (
        flag.kept_off s.flags cleared_out_of_open active_bit refl ∙ a,
        rw (flag.kept_off s.flags cleared_out_of_open initiating_bit refl, flag.kept_off s.flags cleared_out_of_open drops_bit refl) l,
      ))
      (λ e. absurd (false≢true e))))
      (λ _. back_sound)

-- a mismatch leaves no session Open
pub mismatched_shut : (s : Session) → is_open (mismatched s) ≡ false
unfolding mismatched
mismatched_shut s = by_test Shut (λ _. by_test Shut (λ _. refl) (λ _. refl)) (λ _. refl)
  where
    Shut : Session → Type 0
    Shut t = is_open t ≡ false

-- ---- by the state alone
states : (P : ℕ → Type 0) → P state_ready → P state_open → P state_held → P state_gone → (n : ℕ) → n ≤ state_gone → P n
states P a b c d zero h = a
states P a b c d (suc zero) h = b
states P a b c d (suc (suc zero)) h = c
states P a b c d (suc (suc (suc zero))) h = d
states P a b c d (suc (suc (suc (suc n)))) h = absurd (omega arith)

-- Held becomes Ready, and no other state changes
abbrev to_ready : ℕ → ℕ
to_ready n = pick (eqb n state_held) state_ready n

pub record ToReady (n : ℕ) : Type 0 where
  pub small : to_ready n ≤ state_gone
  pub as_open : eqb (to_ready n) state_open ≡ eqb n state_open
  pub as_gone : eqb (to_ready n) state_gone ≡ eqb n state_gone
  pub not_held : eqb (to_ready n) state_held ≡ false

pub to_ready_law : (n : ℕ) → n ≤ state_gone → ToReady n
unfolding pick
to_ready_law =
    states ToReady (record { small = lit≤ tt; as_open = refl; as_gone = refl; not_held = refl })
    (record { small = lit≤ tt; as_open = refl; as_gone = refl; not_held = refl })
    (record { small = lit≤ tt; as_open = refl; as_gone = refl; not_held = refl })
    (record { small = lit≤ tt; as_open = refl; as_gone = refl; not_held = refl })

pub gone_shut : (n : ℕ) → n ≤ state_gone → eqb n state_gone ≡ true → eqb n state_open ≡ false
gone_shut = states (λ (n : ℕ). eqb n state_gone ≡ true → eqb n state_open ≡ false) (λ _. refl) (λ e. absurd (false≢true e)) (λ _. refl) (λ _. refl)

pub ready_shut : (n : ℕ) → n ≤ state_gone → eqb n state_ready ≡ true → eqb n state_open ≡ false
ready_shut = states (λ (n : ℕ). eqb n state_ready ≡ true → eqb n state_open ≡ false) (λ _. refl) (λ e. absurd (false≢true e)) (λ _. refl) (λ _. refl)

-- ---- greeted: Hello recorded is on, and the other flags stay
module _ (s : Session) (r : Sound s) (number : ℕ) where
  kept : (k : ℕ) → has (one recorded_bit) k ≡ false → has (union s.flags (one recorded_bit)) k ≡ has s.flags k
  kept = flag.kept_on s.flags (one recorded_bit)

  pub greeted_sound : (state : ℕ) → state ≤ state_gone → eqb state state_open ≡ is_open s → (eqb state state_held ≡ true → is_held s ≡ true)
      → eqb state state_gone ≡ false → Sound (greeted s state number)
  unfolding has
  greeted_sound state small same held gone =
      record {
        state = small;
        flags = union_lt flag_count s.flags (one recorded_bit) r.flags (lit< tt);
        enabled = r.enabled;
        listed = r.listed;
        protects = r.protects;
        disabled = r.disabled;
        ours = r.ours;
        theirs = r.theirs;
        force_open = λ e. same ∙ r.force_open (sym (kept in_force_bit refl) ∙ e);
        force_uses = λ e. kept uses_tac_bit refl ∙ r.force_uses (sym (kept in_force_bit refl) ∙ e);
        force_common = λ e. r.force_common (sym (kept in_force_bit refl) ∙ e);
        unforced_listed = λ e. r.unforced_listed (sym (kept in_force_bit refl) ∙ e);
        shut_disabled = λ e. r.shut_disabled (sym same ∙ e);
        shut_dynamic = λ e. kept dynamic_bit refl ∙ r.shut_dynamic (sym same ∙ e);
        shut_theirs = λ e. r.shut_theirs (sym same ∙ e);
        unrecorded_hello = λ e. never (flag.on s.flags (one recorded_bit) recorded_bit refl) e;
        held_active = λ e. kept active_bit refl ∙ r.held_active (held e);
        held_stays = λ e. rw (kept initiating_bit refl, kept drops_bit refl) (r.held_stays (held e));
        gone_active = λ e. never e gone;
        gone_leaves = λ e. never e gone;
        gone_unrecorded = λ e. never e gone;
      }

-- ---- where negotiation is in force, something is common
pub some_common : (t : Session) → nothing_common t ≡ false → in_force t ≡ true → empty (negotiated t) ≡ false
unfolding nothing_common
some_common t h e = sym (ap (λ (b : Bool). b && empty (negotiated t)) e) ∙ h

-- of a sound session that is so
pub sound_common : (s : Session) → Sound s → nothing_common s ≡ false
unfolding nothing_common
sound_common s r = go (in_force s) refl
  where
    go : (f : Bool) → in_force s ≡ f → (f && empty (negotiated s)) ≡ false
    go false e = refl
    go true e = r.force_common e

-- ---- an application changed, and a Held session Ready
module _ (s : Session) (r : Sound s) (n : ℕ) (on : Bool) where
  pub changed_basic : Basic (changed s n on)
  changed_basic =
      record {
        flags = r.flags;
        enabled = switched_lt application_count s.enabled n on application_count (lit≤ tt) r.enabled;
        protects = r.protects;
        ours = r.ours;
        unrecorded_hello = r.unrecorded_hello;
      }

  pub changed_sound : nothing_common (changed s n on) ≡ false → Sound (changed s n on)
  unfolding held_to_ready
  changed_sound h =
      let w = to_ready_law s.state r.state in
      record {
        state = w.small;
        flags = r.flags;
        enabled = changed_basic.enabled;
        listed = r.listed;
        protects = r.protects;
        disabled = r.disabled;
        ours = r.ours;
        theirs = r.theirs;
        force_open = λ e. w.as_open ∙ r.force_open e;
        force_uses = r.force_uses;
        force_common = some_common (changed s n on) h;
        unforced_listed = r.unforced_listed;
        shut_disabled = λ e. r.shut_disabled (sym w.as_open ∙ e);
        shut_dynamic = λ e. r.shut_dynamic (sym w.as_open ∙ e);
        shut_theirs = λ e. r.shut_theirs (sym w.as_open ∙ e);
        unrecorded_hello = r.unrecorded_hello;
        held_active = λ e. never e w.not_held;
        held_stays = λ e. never e w.not_held;
        gone_active = λ e. r.gone_active (sym w.as_gone ∙ e);
        gone_leaves = λ e. r.gone_leaves (sym w.as_gone ∙ e);
        gone_unrecorded = λ e. r.gone_unrecorded (sym w.as_gone ∙ e);
      }

-- ---- another message number: every rule is of the other fields
pub next_sound : (s : Session) (next : ℕ) → Sound s → Sound (with_next s next)
unfolding sound spare_zero force_sound listed_sound open_sound theirs_sound hello_sound held_sound gone_sound
next_sound s next r = sound_means (with_next s next) (means_sound s r)

-- ---- Open: the rules of the other states ask nothing
open_sound_law : (t : Session) → is_open t ≡ true → Basic t → t.listed < 2 ^ application_count → t.disabled < 2 ^ app_count → t.theirs < 2 ^ capability_count
    → (in_force t ≡ true → uses_tac t ≡ true) → (in_force t ≡ false → t.listed ≡ 0) → nothing_common t ≡ false → Sound t
open_sound_law t is_open b listed disabled theirs uses unlisted h =
    let is : t.state ≡ state_open = eqb-true t.state state_open is_open in
    let held : is_held t ≡ false = ap (λ (n : ℕ). eqb n state_held) is in
    let gone : eqb t.state state_gone ≡ false = ap (λ (n : ℕ). eqb n state_gone) is in
    record {
      state = omega arith;
      flags = b.flags;
      enabled = b.enabled;
      listed = listed;
      protects = b.protects;
      disabled = disabled;
      ours = b.ours;
      theirs = theirs;
      force_open = λ _. is_open;
      force_uses = uses;
      force_common = some_common t h;
      unforced_listed = unlisted;
      shut_disabled = λ e. never is_open e;
      shut_dynamic = λ e. never is_open e;
      shut_theirs = λ e. never is_open e;
      unrecorded_hello = b.unrecorded_hello;
      held_active = λ e. never e held;
      held_stays = λ e. never e held;
      gone_active = λ e. never e gone;
      gone_leaves = λ e. never e gone;
      gone_unrecorded = λ e. never e gone;
    }

-- ---- what a mismatch leaves does not depend on what it clears: the state, the lists, and the flags of negotiation
module _ (s : Session) (state flags disabled enabled listed theirs : ℕ)
    (kept : (k : ℕ) → has (one in_force_bit) k ≡ false → has (one dynamic_bit) k ≡ false → has flags k ≡ has s.flags k)
    (cleared : (b : ℕ) → within (one in_force_bit) b ≡ true → within (one dynamic_bit) b ≡ true → minus flags b ≡ minus s.flags b) where
  abbrev found_in : Session
  found_in = session_of state flags disabled enabled listed s.protects s.ours theirs s.hello s.next

  same_out : (to b hello : ℕ) → within (one in_force_bit) b ≡ true → within (one dynamic_bit) b ≡ true
      → out_of_open found_in to b hello ≡ with_enabled (out_of_open s to b hello) enabled
  same_out to b hello h k = ap (λ (f : ℕ). with_flags (with_enabled (out_of_open s to b hello) enabled) f) (cleared b h k)

  same_mismatched : mismatched found_in ≡ with_enabled (mismatched s) enabled
  unfolding mismatched has within minus empty
  same_mismatched =
      ap₂ (λ (x y : Bool). pick x (pick y (out_of_open found_in state_gone cleared_in_gone 0) (out_of_open found_in state_held cleared_out_of_open s.hello)) (back_to_ready found_in))
      (kept active_bit refl refl) (ap₂ ◌&&◌ (kept initiating_bit refl refl) (kept drops_bit refl refl))
      ∙ pick_both Left (active s)
      (λ _. pick_both Left (leaves_gone s) (λ _. same_out state_gone cleared_in_gone 0 refl refl) (λ _. same_out state_held cleared_out_of_open s.hello refl refl))
      (λ _. same_out state_ready cleared_out_of_open s.hello refl refl)
    where
      Left : Session → Session → Type 0
      Left x y = x ≡ with_enabled y enabled

-- a session as it is, and with an application changed
pub own_mismatched : (s : Session) → mismatched s ≡ with_enabled (mismatched s) s.enabled
own_mismatched s = same_mismatched s s.state s.flags s.disabled s.enabled s.listed s.theirs (λ _ _ _. refl) (λ _ _ _. refl)

pub changed_mismatched : (s : Session) (n : ℕ) (on : Bool) → mismatched (changed s n on) ≡ with_enabled (mismatched s) (changed s n on).enabled
changed_mismatched s n on = same_mismatched s (held_to_ready s) s.flags s.disabled _ s.listed s.theirs (λ _ _ _. refl) (λ _ _ _. refl)

-- ---- after an Initialization
module _ (s : Session) (r : Sound s) (ready : is_ready s ≡ true) (a : List ℕ) (found : Reading) where
  unforced : in_force s ≡ false
  unforced = fails_if (in_force s) (λ e. never (r.force_open e) (ready_shut s.state r.state ready))

  pub opened_kept : (k : ℕ) → has (one in_force_bit) k ≡ false → has (one dynamic_bit) k ≡ false → has (after_initialization s a found).flags k ≡ has s.flags k
  unfolding after_initialization
  opened_kept k h l =
      raised_kept (raised s.flags (takes_tac s found) (one in_force_bit)) (one dynamic_bit) k found.dynamic l
      ∙ raised_kept s.flags (one in_force_bit) k (takes_tac s found) h

  pub opened_force : in_force (after_initialization s a found) ≡ takes_tac s found
  unfolding after_initialization has
  opened_force =
      raised_kept (raised s.flags (takes_tac s found) (one in_force_bit)) (one dynamic_bit) in_force_bit found.dynamic refl
      ∙ raised_is s.flags (one in_force_bit) in_force_bit (takes_tac s found) refl unforced

  pub opened_uses : uses_tac (after_initialization s a found) ≡ uses_tac s
  unfolding has
  opened_uses = opened_kept uses_tac_bit refl refl

  pub opened_basic : Basic (after_initialization s a found)
  unfolding after_initialization has
  opened_basic =
      record {
        flags =
            raised_lt (raised s.flags (takes_tac s found) (one in_force_bit)) (one dynamic_bit) flag_count found.dynamic
            (raised_lt s.flags (one in_force_bit) flag_count (takes_tac s found) r.flags (lit< tt)) (lit< tt);
        enabled = r.enabled;
        protects = r.protects;
        ours = r.ours;
        unrecorded_hello = λ e. r.unrecorded_hello (sym (opened_kept recorded_bit refl refl) ∙ e);
      }

  pub opened_sound : Few found → nothing_common (after_initialization s a found) ≡ false → Sound (after_initialization s a found)
  unfolding after_initialization
  opened_sound few =
      open_sound_law (after_initialization s a found) refl opened_basic
      (by_test (λ (l : ℕ). l < 2 ^ application_count) (λ _. tac_list_lt (part a found.tac) true 0 (lit< tt)) (λ _. lit< tt))
      (sac_list_lt (part a found.sac) true 0 (lit< tt))
      few.present
      (λ e. opened_uses ∙ and_first (uses_tac s) _ (sym opened_force ∙ e)) (λ e. left _ _ (sym opened_force ∙ e))

  -- what opening set is what a mismatch clears
  opened_cleared : (b : ℕ) → within (one in_force_bit) b ≡ true → within (one dynamic_bit) b ≡ true
      → minus (after_initialization s a found).flags b ≡ minus s.flags b
  unfolding after_initialization
  opened_cleared b h k =
      raised_next (raised s.flags (takes_tac s found) (one in_force_bit)) (one dynamic_bit) flag_count found.dynamic
      (raised_lt s.flags (one in_force_bit) flag_count (takes_tac s found) r.flags (lit< tt)) (lit< tt) b k
      ∙ raised_next s.flags (one in_force_bit) flag_count (takes_tac s found) r.flags (lit< tt) b h

  pub opened_mismatched : mismatched (after_initialization s a found) ≡ with_enabled (mismatched s) s.enabled
  unfolding after_initialization
  opened_mismatched = same_mismatched s state_open _ _ s.enabled _ _ opened_kept opened_cleared

-- ---- after a Capability message
module _ (s : Session) (r : Sound s) (is_open : is_open s ≡ true) (a : List ℕ) (found : Reading) where
  told_kept : (k : ℕ) → has (one in_force_bit) k ≡ false → has (after_capability s a found).flags k ≡ has s.flags k
  unfolding after_capability flags_after
  told_kept k h =
      by_test As (λ _. by_test As (λ _. flag.kept_on s.flags (one in_force_bit) k h) (λ _. flag.kept_off s.flags (one in_force_bit) k h)) (λ _. refl)
    where
      As : ℕ → Type 0
      As f = has f k ≡ has s.flags k

  -- what it sets or clears is what a mismatch clears
  told_cleared : (b : ℕ) → within (one in_force_bit) b ≡ true → minus (after_capability s a found).flags b ≡ minus s.flags b
  unfolding after_capability flags_after
  told_cleared b h =
      let inside = within_means (one in_force_bit) b h in
      by_test As
      (λ _. by_test As
      (λ _. flag.lowered_next flag_count s.flags (one in_force_bit) b r.flags (lit< tt) inside)
      (λ _. flag.lowered_twice flag_count s.flags (one in_force_bit) b r.flags inside))
      (λ _. refl)
    where
      As : ℕ → Type 0
      As f = minus f b ≡ minus s.flags b

  pub told_mismatched : mismatched (after_capability s a found) ≡ with_enabled (mismatched s) s.enabled
  unfolding after_capability
  told_mismatched = same_mismatched s s.state _ _ s.enabled _ _ (λ k h _. told_kept k h) (λ b h _. told_cleared b h)

  pub told_uses : uses_tac (after_capability s a found) ≡ uses_tac s
  unfolding has
  told_uses = told_kept uses_tac_bit refl

  pub told_basic : Basic (after_capability s a found)
  unfolding after_capability flags_after has
  told_basic =
      record {
        flags =
            by_test Small
            (λ _. by_test Small (λ _. union_lt flag_count s.flags (one in_force_bit) r.flags (lit< tt)) (λ _. minus_lt flag_count s.flags (one in_force_bit) r.flags))
            (λ _. r.flags);
        enabled = r.enabled;
        protects = r.protects;
        ours = r.ours;
        unrecorded_hello = λ e. r.unrecorded_hello (sym (told_kept recorded_bit refl) ∙ e);
      }
    where
      Small : ℕ → Type 0
      Small f = f < 2 ^ flag_count

  told_listed : (after_capability s a found).listed < 2 ^ application_count
  unfolding after_capability list_after
  told_listed =
      by_test Small
      (λ _. by_test Small (λ _. tac_list_lt (part a found.tac) false _ (by_test Small (λ _. r.listed) (λ _. lit< tt))) (λ _. lit< tt))
      (λ _. r.listed)
    where
      Small : ℕ → Type 0
      Small l = l < 2 ^ application_count

  -- where TAC is taken S says whether negotiation is in force, else it is as it was; without force the list is empty
  forced_uses : in_force (after_capability s a found) ≡ true → uses_tac s ≡ true
  unfolding after_capability
  forced_uses = go (takes_tac s found) refl
    where
      go : (x : Bool) → takes_tac s found ≡ x → in_force (after_capability s a found) ≡ true → uses_tac s ≡ true
      go true t e = and_first (uses_tac s) _ t
      go false t e = r.force_uses (sym (ap (λ (f : ℕ). has f in_force_bit) (left _ _ t)) ∙ e)

  unforced_unlisted : in_force (after_capability s a found) ≡ false → (after_capability s a found).listed ≡ 0
  unfolding after_capability flags_after list_after has
  unforced_unlisted = go (takes_tac s found) refl (s_bit (part a found.tac)) refl
    where
      go : (x : Bool) → takes_tac s found ≡ x → (y : Bool) → s_bit (part a found.tac) ≡ y
          → in_force (after_capability s a found) ≡ false → (after_capability s a found).listed ≡ 0
      go true t true y e = never (ap (λ (f : ℕ). has f in_force_bit) (taken _ _ t ∙ taken _ _ y) ∙ flag.on s.flags (one in_force_bit) in_force_bit refl) e
      go true t false y e = taken _ _ t ∙ left _ _ y
      go false t y z e = left _ _ t ∙ r.unforced_listed (sym (ap (λ (f : ℕ). has f in_force_bit) (left _ _ t)) ∙ e)

  told_theirs : Few found → (after_capability s a found).theirs < 2 ^ capability_count
  unfolding after_capability theirs_after
  told_theirs few =
      union_lt capability_count (minus s.theirs found.capabilities) found.holding (minus_lt capability_count s.theirs found.capabilities r.theirs) few.held

  pub told_sound : Few found → nothing_common (after_capability s a found) ≡ false → Sound (after_capability s a found)
  unfolding after_capability
  told_sound few =
      open_sound_law (after_capability s a found) is_open told_basic told_listed (sac_list_lt (part a found.sac) false s.disabled r.disabled) (told_theirs few)
      (λ e. told_uses ∙ forced_uses e) unforced_unlisted

-- ---- a fresh session
roles_kept : (k : ℕ) (i a u d : Bool) → has (one initiating_bit) k ≡ false → has (one active_bit) k ≡ false → has (one uses_tac_bit) k ≡ false → has (one drops_bit) k ≡ false
    → has (role_flags i a u d) k ≡ false
roles_kept k i a u d hi ha hu hd =
    raised_kept _ (one drops_bit) k d hd ∙ raised_kept _ (one uses_tac_bit) k u hu ∙ raised_kept _ (one active_bit) k a ha ∙ raised_kept 0 (one initiating_bit) k i hi ∙ has_none k

pub fresh_sound : (i a u d : Bool) (protects enabled ours first : ℕ) → protects < 2 ^ kind_count → enabled < 2 ^ application_count → ours < 2 ^ capability_count
    → Sound (fresh (role_flags i a u d) protects enabled ours first)
unfolding has
fresh_sound i a u d protects enabled ours first hp he ho =
    let unforced-fresh : has (role_flags i a u d) in_force_bit ≡ false = roles_kept in_force_bit i a u d refl refl refl refl in
    record {
      state = lit≤ tt;
      flags =
          raised_lt _ (one drops_bit) flag_count d
          (raised_lt _ (one uses_tac_bit) flag_count u
          (raised_lt _ (one active_bit) flag_count a (raised_lt 0 (one initiating_bit) flag_count i (lit< tt) (lit< tt)) (lit< tt)) (lit< tt)) (lit< tt);
      enabled = he;
      listed = lit< tt;
      protects = hp;
      disabled = lit< tt;
      ours = ho;
      theirs = lit< tt;
      force_open = λ e. never e unforced-fresh;
      force_uses = λ e. never e unforced-fresh;
      force_common = λ e. never e unforced-fresh;
      unforced_listed = λ _. refl;
      shut_disabled = λ _. refl;
      shut_dynamic = λ _. roles_kept dynamic_bit i a u d refl refl refl refl;
      shut_theirs = λ _. refl;
      unrecorded_hello = λ _. refl;
      held_active = λ e. absurd (false≢true e);
      held_stays = λ e. absurd (false≢true e);
      gone_active = λ e. absurd (false≢true e);
      gone_leaves = λ e. absurd (false≢true e);
      gone_unrecorded = λ e. absurd (false≢true e);
    }
