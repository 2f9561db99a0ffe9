-- Document 01's stored record as kind 1 and, moved, as kind 2; what Open sessions lose; and what each way refuses. Assumes nothing.
use Rattle.std.specs.Prelude.{ℕ, ◌≡◌, true, false, List, [], ◌∷◌, ◌++◌}
use Rattle.session.specs.Session.{sound}
use Rattle.session.specs.Questions.{why_not}
use Rattle.record.specs.Record.{encoded, decoded}
use Rattle.record.specs.Moves.{forward, forward_room, back_refusal, back_room}
use Rattle.promises.specs.Examples.{begins_holding}

-- "a fresh initiating, active session using TAC, enabled 4 and 7, next number 1": 01's octets behind the first four
abbrev pub stored : List ℕ
stored = 0x00 ∷ 0x07 ∷ 0x48 ∷ 0 ∷ 0 ∷ 0 ∷ 0 ∷ 0 ∷ 0 ∷ 0 ∷ 0 ∷ 0 ∷ 0 ∷ 0 ∷ 1 ∷ 0 ∷ 0 ∷ 0 ∷ []

-- the heads of both kinds
abbrev pub head1 : List ℕ
head1 = 0x14 ∷ 0 ∷ 1 ∷ 0 ∷ []

abbrev pub head2 : List ℕ
head2 = 0x16 ∷ 0 ∷ 2 ∷ 0 ∷ []

-- rooms of their sizes, and one of 23 octets
abbrev pub room22 : List ℕ
room22 = 1 ∷ 2 ∷ 3 ∷ 4 ∷ 5 ∷ 6 ∷ 7 ∷ 8 ∷ 9 ∷ 10 ∷ 11 ∷ 12 ∷ 13 ∷ 14 ∷ 15 ∷ 16 ∷ 17 ∷ 18 ∷ 19 ∷ 20 ∷ 21 ∷ 22 ∷ []

abbrev pub room23 : List ℕ
room23 = room22 ++ (23 ∷ [])

abbrev pub room24 : List ℕ
room24 = room23 ++ (24 ∷ [])

-- Open and stored as kind 1: flags, enabled, listed, protected kinds and disabled are told; no Hello is recorded, and the next message number is 1
abbrev pub open_kind1 : ℕ → ℕ → ℕ → ℕ → ℕ → List ℕ
open_kind1 flags enabled listed protects disabled =
    head1 ++ (1 ∷ flags ∷ enabled ∷ 0 ∷ listed ∷ 0 ∷ protects ∷ 0 ∷ disabled ∷ 0 ∷ 0 ∷ 0 ∷ 0 ∷ 0 ∷ 1 ∷ 0 ∷ 0 ∷ 0 ∷ [])

-- 01's record as kind 2, with the capabilities of both ends
abbrev pub stored_with : ℕ → ℕ → List ℕ
stored_with ours theirs = head2 ++ (stored ++ (ours ∷ theirs ∷ []))

pub record MoveExamples : Type 0 where
  -- 01's stored record, moved: the head, the same octets, and both capabilities 0; as a fresh session is stored; and back
  pub moved : forward_room (head1 ++ stored) room24 ≡ stored_with 0 0
  pub answer : forward (head1 ++ stored) room24 ≡ record { refusal = 0; lost = 0 }
  pub fresh : encoded (begins_holding 0 0x48 1) ≡ stored_with 0 0
  pub back : back_room (stored_with 0 0) room22 ≡ head1 ++ stored
  -- Open as RFC 5036 has it, kinds 2 to 6 are lost, whatever SAC disables; in force, those of them that a common application opens
  pub unforced : forward (open_kind1 7 0x48 0 0 15) room24 ≡ record { refusal = 0; lost = 124 }
  pub mldp : (forward (open_kind1 0x17 0x44 0x04 0 0) room24).lost ≡ 124
  pub no_mldp : (forward (open_kind1 0x17 0x48 0x48 0 0) room24).lost ≡ 0
  pub protected : (forward (open_kind1 0x17 0x80 0x80 0x15 0) room24).lost ≡ 20
  pub reason : why_not (decoded (forward_room (open_kind1 7 0x48 0 0 0) room24)) 2 ≡ record { refusal = 0; reason = 5 }
  -- refused: kind 2 or another size handed in, a room of another size; the room stays and nothing is lost
  pub not_kind1 : (forward (stored_with 0 0) room24).refusal ≡ 10
  pub long_kind1 : (forward (head1 ++ (stored ++ (0 ∷ 0 ∷ []))) room24).refusal ≡ 10
  pub no_size : forward (open_kind1 7 0x48 0 0 0) room23 ≡ record { refusal = 10; lost = 0 }
  pub stays : forward_room (open_kind1 7 0x48 0 0 0) room23 ≡ room23
  -- the way back: 13 for either capability, 10 before it for a spare bit, the peer's outside Open, a room of another size, and kind 1
  pub held : back_refusal (stored_with 1 0) room22 ≡ 13
  pub held_stays : back_room (stored_with 1 0) room22 ≡ room22
  pub spare : back_refusal (stored_with 8 0) room22 ≡ 10
  pub outside_open : back_refusal (stored_with 1 1) room22 ≡ 10
  pub wide : back_refusal (stored_with 1 0) room23 ≡ 10
  pub not_kind2 : back_refusal (head1 ++ (stored ++ (0 ∷ 0 ∷ []))) room22 ≡ 10
  -- no other call takes kind 1, whatever stands behind it
  pub short : sound (decoded (head1 ++ stored)) ≡ false
  pub lengthened : sound (decoded (head1 ++ (stored ++ (0 ∷ 0 ∷ [])))) ≡ false
  pub kind2 : sound (decoded (stored_with 7 0)) ≡ true
