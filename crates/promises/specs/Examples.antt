-- Document 01's proved examples: "these twelve stand together and one statement covers them. Sessions use TAC". Nothing is held, as L4 restates 1 and 8.
-- Areas are octets from the first to the last. Assumes nothing.
use Rattle.std.specs.Prelude.{ℕ, ◌≡◌, true, false, List, [], ◌∷◌, ◌++◌}
use Rattle.kinds.specs.Kinds.{all_applications, is_in}
use Rattle.area.specs.Area.{read_area}
use Rattle.session.specs.declared.Session.{Session}
use Rattle.session.specs.Session.{is_open, in_force, permitted}
use Rattle.session.specs.With.{fresh}
use Rattle.session.specs.Creation.{role_flags}
use Rattle.session.specs.Events.{Event, Initialization, Capability, LocalChange, step, run, room_after}
use Rattle.promises.specs.Run.{StaysOpen}
use Rattle.promises.specs.Condition3.{ReadyPair}

-- a fresh initiating, active session that uses TAC; application n at bit n - 1. It holds these capabilities, or none
abbrev pub begins_holding : ℕ → ℕ → ℕ → Session
begins_holding ours enabled number = fresh (role_flags true true true false) 0 enabled ours number

abbrev pub begins : ℕ → ℕ → Session
begins enabled number = begins_holding 0 enabled number

-- an Initialization in no row
abbrev pub arrives : List ℕ → Event
arrives area = Initialization area all_applications

-- the areas: a TAC of 4, an empty one, one of 4 and 7; a SAC that disables App 4 and one that enables it
abbrev pub tac4 : List ℕ
tac4 = 0x85 ∷ 0x0F ∷ 0 ∷ 5 ∷ 0x80 ∷ 0 ∷ 4 ∷ 0x80 ∷ 0 ∷ []

abbrev pub tac_none : List ℕ
tac_none = 0x85 ∷ 0x0F ∷ 0 ∷ 1 ∷ 0x80 ∷ []

abbrev pub tac4and7 : List ℕ
tac4and7 = 0x85 ∷ 0x0F ∷ 0 ∷ 9 ∷ 0x80 ∷ 0 ∷ 4 ∷ 0x80 ∷ 0 ∷ 0 ∷ 7 ∷ 0x80 ∷ 0 ∷ []

abbrev pub sac_off : List ℕ
sac_off = 0x85 ∷ 0x0D ∷ 0 ∷ 2 ∷ 0x80 ∷ 0xC0 ∷ []

abbrev pub sac_on : List ℕ
sac_on = 0x85 ∷ 0x0D ∷ 0 ∷ 2 ∷ 0x80 ∷ 0x40 ∷ []

-- the session after example 4, and after 5
abbrev pub after4 : Session
after4 = run (begins 0x40 1) (arrives tac4and7 ∷ [])

abbrev pub after5 : Session
after5 = run after4 (Capability sac_off ∷ [])

-- Open with a dynamic peer that lists 7, and the number 7
abbrev pub dynamic_open : Session
dynamic_open =
    run (begins 0x40 7) (arrives (0x85 ∷ 0x06 ∷ 0 ∷ 1 ∷ 0x80 ∷ 0x85 ∷ 0x0F ∷ 0 ∷ 5 ∷ 0x80 ∷ 0 ∷ 7 ∷ 0x80 ∷ 0 ∷ []) ∷ [])

-- 4 switched on, with so many octets of room
abbrev pub enables4 : ℕ → Event
enables4 room = LocalChange 4 true room

abbrev pub room16 : List ℕ
room16 = 1 ∷ 2 ∷ 3 ∷ 4 ∷ 5 ∷ 6 ∷ 7 ∷ 8 ∷ 9 ∷ 10 ∷ 11 ∷ 12 ∷ 13 ∷ 14 ∷ 15 ∷ 16 ∷ []

pub record Examples : Type 0 where
  -- 1. Initialization, empty area: Open; by L4 "kinds 0, 1, 7, 8 and 9 .. when nothing is held"
  pub one : is_open (run (begins 0x48 1) (arrives [] ∷ [])) ≡ true
  pub one_kinds : permitted (run (begins 0x48 1) (arrives [] ∷ [])) ≡ 899
  -- 2. a TAC of 4, enabled 4 and 7: only kind 0
  pub two : permitted (run (begins 0x48 1) (arrives tac4 ∷ [])) ≡ 1
  -- 3. an empty TAC: mismatch
  pub three : (step (begins 0x48 1) (arrives tac_none)).answer.outcome ≡ 2
  -- 4. a TAC of 4 and 7, enabled 7: only kind 8
  pub four : permitted after4 ≡ 256
  -- 5. after 4, App 4 disabled: kind 8 lost, still Open
  pub five : (step after4 (Capability sac_off)).answer.lost ≡ 256
  pub five_open : is_open after5 ≡ true
  -- 6. after 5, App 4 enabled: kind 8 gained
  pub six : (step after5 (Capability sac_on)).answer.gained ≡ 256
  -- 7. after 4, 7 with E = 0 and then with E = 1: mismatch
  pub seven : (step after4 (Capability (0x85 ∷ 0x0F ∷ 0 ∷ 9 ∷ 0x80 ∷ 0 ∷ 7 ∷ 0 ∷ 0 ∷ 0 ∷ 7 ∷ 0x80 ∷ 0 ∷ []))).answer.outcome ≡ 2
  -- 8. after 5, S = 0: by L4 it "gains 0, 1, 7 and 9, when nothing is held"
  pub eight : (step after5 (Capability (0x85 ∷ 0x0F ∷ 0 ∷ 1 ∷ 0 ∷ []))).answer.gained ≡ 643
  -- 9. a length of 4: refusal 3; a value past the end: refusal 2
  pub nine : (read_area (0x85 ∷ 0x0F ∷ 0 ∷ 4 ∷ 0x80 ∷ 0 ∷ 4 ∷ 0x80 ∷ [])).refusal ≡ 3
  pub nine_past : (read_area (0x85 ∷ 0x0F ∷ 0 ∷ 5 ∷ 0x80 ∷ [])).refusal ≡ 2
  -- 10. another type with U = 0: refusal 4; with U = 1: passed over
  pub ten : (read_area (0x06 ∷ 0 ∷ 0 ∷ 0 ∷ [])).refusal ≡ 4
  pub ten_passed : (read_area (0x86 ∷ 0 ∷ 0 ∷ 0 ∷ [])).refusal ≡ 0
  -- 11. an unknown identifier alone: mismatch; 4 with E = 0, enabled 4: Open
  pub eleven : (step (begins 0x08 1) (arrives (0x85 ∷ 0x0F ∷ 0 ∷ 5 ∷ 0x80 ∷ 0 ∷ 14 ∷ 0x80 ∷ 0 ∷ []))).answer.outcome ≡ 2
  pub eleven_open : is_open (run (begins 0x08 1) (arrives (0x85 ∷ 0x0F ∷ 0 ∷ 5 ∷ 0x80 ∷ 0 ∷ 4 ∷ 0 ∷ 0 ∷ []) ∷ [])) ≡ true
  -- 12. enabling 4 leaves a common application: the 17 octets; with 16 octets of room, refusal 8
  pub twelve :
      room_after dynamic_open (enables4 18) (room16 ++ (17 ∷ 18 ∷ []))
      ≡ 0x02 ∷ 0x02 ∷ 0 ∷ 0x0D ∷ 0 ∷ 0 ∷ 0 ∷ 7 ∷ 0x85 ∷ 0x0F ∷ 0 ∷ 5 ∷ 0x80 ∷ 0 ∷ 4 ∷ 0x80 ∷ 0 ∷ 18 ∷ []
  pub twelve_written : (step dynamic_open (enables4 18)).answer.written ≡ 17
  pub twelve_refused : (step dynamic_open (enables4 16)).answer.refusal ≡ 8
  pub twelve_room : room_after dynamic_open (enables4 16) room16 ≡ room16

-- Why condition 3 stops when the first leaves Open: 4 enabled against 4 and 7. A TAC of 7 is a mismatch for the first alone, a Hello wakes it, and a TAC of
-- 4 opens it. The first then permits kind 0, and the second, Open all along, permits kind 8 and not kind 0
abbrev pub apart_ways : List Event
apart_ways =
    Event.Hello 1
    ∷ arrives (0x85 ∷ 0x0F ∷ 0 ∷ 5 ∷ 0x80 ∷ 0 ∷ 7 ∷ 0x80 ∷ 0 ∷ [])
    ∷ Event.Hello 2
    ∷ arrives tac4
    ∷ []

pub record WhyItStops : Type 0 where
  pub first : permitted (run (begins 0x08 1) apart_ways) ≡ 1
  pub second : permitted (run (begins 0x48 1) apart_ways) ≡ 256

-- Why the enabled sets are those of that moment: 7 enabled against 4 and 7, both listed, and then 4 switched off in both. Of the sets at the start, 4 was
-- enabled only in the second, is listed and maps to kind 0; and the second permits kind 8 alone
abbrev pub switched_off : List Event
switched_off =
    arrives (0x85 ∷ 0x06 ∷ 0 ∷ 1 ∷ 0x80 ∷ tac4and7)
    ∷ LocalChange 4 false 17
    ∷ []

pub record WhyAtThatMoment : Type 0 where
  pub first : permitted (run (begins 0x40 1) switched_off) ≡ 256
  pub second : permitted (run (begins 0x48 1) switched_off) ≡ 256
  pub in_force_law : in_force (run (begins 0x48 1) switched_off) ≡ true
  pub listed : is_in (run (begins 0x48 1) switched_off).listed 4 ≡ true

-- Condition 3 with a further kind: 7 enabled against 4 and 7, and a peer that lists both. The first permits kind 8, the second kind 0 besides
pub record FurtherKind : Type 0 where
  pub pair : ReadyPair (begins 0x40 1) (begins 0x48 1)
  pub stays_open : StaysOpen (begins 0x40 1) (arrives tac4and7 ∷ [])
  pub first : permitted (run (begins 0x40 1) (arrives tac4and7 ∷ [])) ≡ 256
  pub second : permitted (run (begins 0x48 1) (arrives tac4and7 ∷ [])) ≡ 257
