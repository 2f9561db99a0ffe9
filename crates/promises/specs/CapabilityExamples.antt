-- Examples 1 and 8 of document 01 once more, "with all three held by both ends, which gives 01's sets"; a peer without P2MP that announces it; and what reading
-- refuses. Assumes nothing.
use Rattle.std.specs.Prelude.{ℕ, ◌≡◌, true, List, [], ◌∷◌, ◌++◌}
use Rattle.area.specs.Area.{read_area}
use Rattle.session.specs.declared.Session.{Session}
use Rattle.session.specs.Session.{is_open, permitted}
use Rattle.session.specs.Questions.{why_not}
use Rattle.session.specs.Events.{Capability, Closed, step, run}
use Rattle.promises.specs.Examples.{begins_holding, arrives, tac4and7, sac_off}

-- the three in an area, whatever their S: P2MP and MP2MP with S = 1, HSMP with S = 0 and U = 0
abbrev pub all_three : List ℕ
all_three = 0x85 ∷ 0x08 ∷ 0 ∷ 1 ∷ 0x80 ∷ 0x85 ∷ 0x09 ∷ 0 ∷ 1 ∷ 0x80 ∷ 0x09 ∷ 0x02 ∷ 0 ∷ 1 ∷ 0 ∷ []

-- the session after example 5, with all three held by both ends
abbrev pub held_after5 : Session
held_after5 = run (begins_holding 7 0x40 1) (arrives (tac4and7 ++ all_three) ∷ Capability sac_off ∷ [])

-- mLDP Tunneling negotiated with a peer that has no P2MP
abbrev pub multicast : Session
multicast = run (begins_holding 7 0x04 1) (arrives (0x85 ∷ 0x0F ∷ 0 ∷ 5 ∷ 0x80 ∷ 0 ∷ 3 ∷ 0x80 ∷ 0 ∷ []) ∷ [])

-- P2MP in a Capability message, with S = 1 and with S = 0
abbrev pub announces : List ℕ
announces = 0x85 ∷ 0x08 ∷ 0 ∷ 1 ∷ 0x80 ∷ []

abbrev pub withdraws : List ℕ
withdraws = 0x85 ∷ 0x08 ∷ 0 ∷ 1 ∷ 0 ∷ []

pub record CapabilityExamples : Type 0 where
  -- 1. all ten kinds, and 8. kinds 0 to 7 and 9 gained; S is not read in the Initialization
  pub one : permitted (run (begins_holding 7 0x48 1) (arrives all_three ∷ [])) ≡ 1023
  pub eight : (step held_after5 (Capability (0x85 ∷ 0x0F ∷ 0 ∷ 1 ∷ 0 ∷ []))).answer.gained ≡ 767
  -- held by one end is not enough
  pub ours_alone : permitted (run (begins_holding 7 0x48 1) (arrives [] ∷ [])) ≡ 899
  pub theirs_alone : permitted (run (begins_holding 0 0x48 1) (arrives all_three ∷ [])) ≡ 899
  -- Open on application 3, and nothing may be sent: the reasons
  pub is_open : is_open multicast ≡ true
  pub nothing : permitted multicast ≡ 0
  pub not_theirs : why_not multicast 2 ≡ record { refusal = 0; reason = 6 }
  pub not_ours : why_not (run (begins_holding 6 0x04 1) (arrives (0x85 ∷ 0x0F ∷ 0 ∷ 5 ∷ 0x80 ∷ 0 ∷ 3 ∷ 0x80 ∷ 0 ∷ []) ∷ [])) 2 ≡ record { refusal = 0; reason = 5 }
  -- it announces P2MP: kind 2 alone is gained; it withdraws it, and kind 2 is lost
  pub announced : (step multicast (Capability announces)).answer.gained ≡ 4
  pub withdrawn : (step (run multicast (Capability announces ∷ [])) (Capability withdraws)).answer.lost ≡ 4
  -- a message without it leaves it, the end of the connection does not
  pub stays : (run multicast (Capability announces ∷ Capability [] ∷ [])).theirs ≡ 1
  pub cleared : (run multicast (Capability announces ∷ Closed ∷ [])).theirs ≡ 0
  -- reading: present, and held by S; 5 is tried before 3
  pub read : (read_area all_three).capabilities ≡ 7
  pub holding : (read_area all_three).holding ≡ 3
  pub no_octet : (read_area (0x85 ∷ 0x08 ∷ 0 ∷ 0 ∷ [])).refusal ≡ 3
  pub two_octets : (read_area (0x09 ∷ 0x02 ∷ 0 ∷ 2 ∷ 0x80 ∷ 0 ∷ [])).refusal ≡ 3
  pub twice : (read_area (announces ++ (0x85 ∷ 0x08 ∷ 0 ∷ 0 ∷ []))).refusal ≡ 5
  pub next_type : (read_area (0x09 ∷ 0x03 ∷ 0 ∷ 1 ∷ 0x80 ∷ [])).refusal ≡ 4
