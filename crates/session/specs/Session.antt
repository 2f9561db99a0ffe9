-- One targeted session in numbers, the stored record's fields and the capabilities of both ends: what its state and flags say, when it is sound, and what it
-- permits. Assumes nothing.
use Rattle.std.specs.Prelude.{◌≡◌, ℕ, ◌+◌, ◌-◌, ◌^◌, ◌<◌, ◌≤◌, Bool, true, false, not, ◌&&◌, ◌↔◌, ◌==◌, nat_le}
use Rattle.choice.specs.Pick.{pick, only, unless}
use Rattle.sets.specs.Set.{has, one, common, minus, empty, below}
use Rattle.kinds.specs.Kinds.{application_count, kind_count, app_count, capability_count, all_kinds, opens, controlled, needed, opened, disables, barred, Some}
use Rattle.session.specs.declared.Session.{Session}
use Rattle.session.specs.declared.state.State.{State}
use Rattle.session.specs.declared.state.State.TheVariants.{Ready, Open, Held, Gone}
use Rattle.session.specs.declared.state.Flag.{Flag}
use Rattle.session.specs.declared.state.Flag.TheVariants.{Initiating, Active, UsesTac, Drops, InForce, Dynamic, Recorded}

-- "state (1: Ready 0, Open 1, Held 2, Gone 3)"; a session that is none has no state of these
abbrev pub state_ready : ℕ
state_ready = 0

abbrev pub state_open : ℕ
state_open = 1

abbrev pub state_held : ℕ
state_held = 2

abbrev pub state_gone : ℕ
state_gone = 3

abbrev pub no_state : ℕ
no_state = 255

-- the number of each state
abbrev pub state_number : State → ℕ
state_number Ready = state_ready
state_number Open = state_open
state_number Held = state_held
state_number Gone = state_gone

abbrev pub is_ready : Session → Bool
is_ready s = s.state == state_ready

abbrev pub is_open : Session → Bool
is_open s = s.state == state_open

abbrev pub is_held : Session → Bool
is_held s = s.state == state_held

abbrev pub is_gone : Session → Bool
is_gone s = s.state == state_gone

-- "Flags from bit 0: initiating, active, uses TAC, drops, in force, peer dynamic, Hello recorded, zero"
abbrev pub initiating_bit : ℕ
initiating_bit = 0

abbrev pub active_bit : ℕ
active_bit = 1

abbrev pub uses_tac_bit : ℕ
uses_tac_bit = 2

abbrev pub drops_bit : ℕ
drops_bit = 3

abbrev pub in_force_bit : ℕ
in_force_bit = 4

abbrev pub dynamic_bit : ℕ
dynamic_bit = 5

abbrev pub recorded_bit : ℕ
recorded_bit = 6

abbrev pub flag_count : ℕ
flag_count = 7

-- the bit of each flag
abbrev pub flag_bit : Flag → ℕ
flag_bit Initiating = initiating_bit
flag_bit Active = active_bit
flag_bit UsesTac = uses_tac_bit
flag_bit Drops = drops_bit
flag_bit InForce = in_force_bit
flag_bit Dynamic = dynamic_bit
flag_bit Recorded = recorded_bit

abbrev pub initiating : Session → Bool
initiating s = has s.flags initiating_bit

abbrev pub active : Session → Bool
active s = has s.flags active_bit

abbrev pub uses_tac : Session → Bool
uses_tac s = has s.flags uses_tac_bit

abbrev pub drops : Session → Bool
drops s = has s.flags drops_bit

abbrev pub in_force : Session → Bool
in_force s = has s.flags in_force_bit

abbrev pub dynamic : Session → Bool
dynamic s = has s.flags dynamic_bit

abbrev pub recorded : Session → Bool
recorded s = has s.flags recorded_bit

-- what leaving Open clears of the flags: "the force and the peer's dynamic flag"; Gone also "forgets the recorded Hello"
abbrev pub cleared_out_of_open : ℕ
cleared_out_of_open = one in_force_bit + one dynamic_bit

abbrev pub cleared_in_gone : ℕ
cleared_in_gone = cleared_out_of_open + one recorded_bit

-- the applications both enabled and listed
abbrev pub negotiated : Session → ℕ
negotiated s = common s.enabled s.listed

-- the capabilities "held by both ends"
abbrev pub held : Session → ℕ
held s = common s.ours s.theirs

-- "in force with no application both enabled and listed"
unfoldable pub nothing_common : Session → Bool
nothing_common s = in_force s && empty (negotiated s)

-- ---- Sound means: each rule a test
-- "state as above; all spare bits 0": 7 flags, 13 applications, 10 kinds, 4 Apps, 3 capabilities
unfoldable pub spare_zero : Session → Bool
spare_zero s =
    nat_le s.state state_gone
    && (below flag_count s.flags && (below application_count s.enabled && (below application_count s.listed && (below kind_count s.protects && (below app_count s.disabled && (below capability_count s.ours && below capability_count s.theirs))))))

-- "in force only in Open with TAC used and a common application"
unfoldable pub force_sound : Session → Bool
force_sound s = only (in_force s) (is_open s && (uses_tac s && not (empty (negotiated s))))

-- "listed empty unless in force"
unfoldable pub listed_sound : Session → Bool
listed_sound s = unless (in_force s) (empty s.listed)

-- "disabled and dynamic 0 unless Open"
unfoldable pub open_sound : Session → Bool
open_sound s = unless (is_open s) (empty s.disabled && not (dynamic s))

-- the peer's capabilities "are cleared on leaving Open"
unfoldable pub theirs_sound : Session → Bool
theirs_sound s = unless (is_open s) (empty s.theirs)

-- "Hello number 0 unless recorded"
unfoldable pub hello_sound : Session → Bool
hello_sound s = unless (recorded s) (s.hello == 0)

-- an active end leaves by Gone if it is initiating and drops, else by Held
abbrev pub leaves_gone : Session → Bool
leaves_gone s = initiating s && drops s

-- "Held only if active and not (initiating and drops)"
unfoldable pub held_sound : Session → Bool
held_sound s = only (is_held s) (active s && not (leaves_gone s))

-- "Gone only if active, initiating and drops, with no Hello recorded"
unfoldable pub gone_sound : Session → Bool
gone_sound s = only (is_gone s) (active s && (leaves_gone s && not (recorded s)))

unfoldable pub sound : Session → Bool
sound s =
    spare_zero s && (force_sound s && (listed_sound s && (open_sound s && (theirs_sound s && (hello_sound s && (held_sound s && gone_sound s))))))

-- the same as facts, each rule by itself
pub record Sound (s : Session) : Type 0 where
  pub state : s.state ≤ state_gone
  pub flags : s.flags < 2 ^ flag_count
  pub enabled : s.enabled < 2 ^ application_count
  pub listed : s.listed < 2 ^ application_count
  pub protects : s.protects < 2 ^ kind_count
  pub disabled : s.disabled < 2 ^ app_count
  pub ours : s.ours < 2 ^ capability_count
  pub theirs : s.theirs < 2 ^ capability_count
  pub force_open : in_force s ≡ true → is_open s ≡ true
  pub force_uses : in_force s ≡ true → uses_tac s ≡ true
  pub force_common : in_force s ≡ true → empty (negotiated s) ≡ false
  pub unforced_listed : in_force s ≡ false → s.listed ≡ 0
  pub shut_disabled : is_open s ≡ false → s.disabled ≡ 0
  pub shut_dynamic : is_open s ≡ false → dynamic s ≡ false
  pub shut_theirs : is_open s ≡ false → s.theirs ≡ 0
  pub unrecorded_hello : recorded s ≡ false → s.hello ≡ 0
  pub held_active : is_held s ≡ true → active s ≡ true
  pub held_stays : is_held s ≡ true → leaves_gone s ≡ false
  pub gone_active : is_gone s ≡ true → active s ≡ true
  pub gone_leaves : is_gone s ≡ true → leaves_gone s ≡ true
  pub gone_unrecorded : is_gone s ≡ true → recorded s ≡ false

-- "Sound means": the test holds exactly where every rule does
abbrev pub SoundMeans : Type 0
SoundMeans = (s : Session) → (sound s ≡ true) ↔ Sound s

-- its two numbers are of 32 bits
pub record Narrow (s : Session) : Type 0 where
  pub hello : s.hello < 2 ^ 32
  pub next : s.next < 2 ^ 32

-- ---- what it permits
-- "Permitted, when Open: a kind that SAC has not disabled and, where negotiation is in force, that some application both enabled and listed
-- maps to. Not Open: none"
unfoldable pub permitted_by_base : Session → ℕ
permitted_by_base s = pick (is_open s) (minus (pick (in_force s) (opened s.protects (negotiated s)) all_kinds) (disables s.disabled)) 0

-- and besides any capability that the kind needs is "held by both ends, whether or not negotiation is in force; kinds opened by Session Protection too"
unfoldable pub permitted : Session → ℕ
permitted s = minus (permitted_by_base s) (barred (held s))

-- the same as facts. An application "both enabled and listed" that maps to the kind k
pub record Negotiates (s : Session) (k : ℕ) : Type 0 where
  pub number : ℕ
  pub least : 1 ≤ number
  pub most : number ≤ application_count
  pub is_enabled : has s.enabled (number - 1) ≡ true
  pub is_listed : has s.listed (number - 1) ≡ true
  pub maps : has (opens s.protects number) k ≡ true

-- "any capability the kind needs is held by both"
abbrev pub Capable : Session → ℕ → Type 0
Capable s k =
    (n : ℕ) → 1 ≤ n → n ≤ capability_count → has (needed n) k ≡ true → (has s.ours (n - 1) ≡ true) × (has s.theirs (n - 1) ≡ true)

pub record Permitted (s : Session) (k : ℕ) : Type 0 where
  pub is_open : is_open s ≡ true
  pub kind : k < kind_count
  pub not_disabled : Some controlled app_count s.disabled k → ⊥
  pub negotiates : in_force s ≡ true → Negotiates s k
  pub capable : Capable s k

-- the set is the sentence, both ways
abbrev pub PermittedMeans : Type 0
PermittedMeans = (s : Session) (k : ℕ) → Sound s → (has (permitted s) k ≡ true) ↔ Permitted s k
