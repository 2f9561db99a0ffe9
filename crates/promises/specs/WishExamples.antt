-- Our own disinterest, in octets: each refusal in its place, the 14 octets of a wish and of its taking back, SACs for an Initialization, and what the other
-- end makes of them. Assumes nothing.
use Rattle.std.specs.Prelude.{◌≡◌, true, false, [], ◌∷◌, ◌++◌}
use Rattle.message.specs.Sac.{sac_octets}
use Rattle.wishes.specs.Wishes.{wanted, wish_sac, sac_room}
use Rattle.session.specs.Session.{is_open}
use Rattle.session.specs.Events.{Capability, Closed, Wish, step, run, room_after}
use Rattle.promises.specs.Examples.{begins, arrives, tac4and7, after4, dynamic_open, room16}
use Rattle.promises.specs.Wishes.{answer_to, wishes_by, kept_run}

pub record WishExamples : Type 0 where
  -- App 1 disabled, number 7: the 14 octets, and the rest of the room; taken back, D is 0
  pub told : room_after dynamic_open (Wish 0 1 true 16) room16 ≡ 0x02 ∷ 0x02 ∷ 0 ∷ 0x0A ∷ 0 ∷ 0 ∷ 0 ∷ 7 ∷ 0x85 ∷ 0x0D ∷ 0 ∷ 2 ∷ 0x80 ∷ 0x90 ∷ 15 ∷ 16 ∷ []
  pub taken_back : room_after dynamic_open (Wish 1 1 false 16) room16 ≡ 0x02 ∷ 0x02 ∷ 0 ∷ 0x0A ∷ 0 ∷ 0 ∷ 0 ∷ 7 ∷ 0x85 ∷ 0x0D ∷ 0 ∷ 2 ∷ 0x80 ∷ 0x10 ∷ 15 ∷ 16 ∷ []
  pub kept : wishes_by dynamic_open 8 1 true 14 ≡ 9
  -- in a Ready session: 10, 15, Unchanged, 7; Open: 9, 8
  pub spare : (answer_to (begins 0x48 1) 16 5 true 0).refusal ≡ 10
  pub no_app : (answer_to (begins 0x48 1) 1 5 true 0).refusal ≡ 15
  pub unchanged : (answer_to (begins 0x48 1) 1 1 true 0).outcome ≡ 1
  pub ready : (answer_to (begins 0x48 1) 1 2 true 0).refusal ≡ 7
  pub not_dynamic : (answer_to after4 1 2 true 0).refusal ≡ 9
  pub thirteen : (answer_to dynamic_open 1 2 true 13).refusal ≡ 8
  pub fourteen : (answer_to dynamic_open 1 2 true 14).written ≡ 14
  -- the SAC for Apps 1 and 4, and for none; without room for it nothing is written
  pub two : sac_octets 9 ≡ 0x85 ∷ 0x0D ∷ 0 ∷ 3 ∷ 0x80 ∷ 0x90 ∷ 0xC0 ∷ []
  pub none : sac_octets 0 ≡ []
  pub no_room : (wish_sac 9 6).refusal ≡ 8
  pub empty_room : wish_sac 0 0 ≡ record { refusal = 0; written = 0 }
  pub stays : sac_room 9 (1 ∷ 2 ∷ 3 ∷ 4 ∷ 5 ∷ 6 ∷ []) ≡ 1 ∷ 2 ∷ 3 ∷ 4 ∷ 5 ∷ 6 ∷ []
  -- at the other end: opened with a TAC and our SAC, told of one more App, and of one less
  pub opened : is_open (run (begins 0x48 1) (arrives (tac4and7 ++ sac_octets 9) ∷ [])) ≡ true
  pub disabled : (run (begins 0x48 1) (arrives (tac4and7 ++ sac_octets 9) ∷ [])).disabled ≡ 9
  pub more : (step after4 (Capability (0x85 ∷ 0x0D ∷ 0 ∷ 2 ∷ 0x80 ∷ 0x90 ∷ []))).session.disabled ≡ 1
  -- wanted: kind 1 and not kind 0; 10 before 6
  pub not_wanted_law : wanted 9 0 ≡ record { refusal = 0; wanted = 0 }
  pub is_wanted : wanted 9 1 ≡ record { refusal = 0; wanted = 1 }
  pub no_kind : wanted 9 10 ≡ record { refusal = 6; wanted = 0 }
  pub unsound : wanted 16 10 ≡ record { refusal = 10; wanted = 0 }
  -- a wish outlives Open
  pub outlives : kept_run dynamic_open 0 (Wish 0 1 true 14 ∷ Closed ∷ []) ≡ 1
