-- Messages that we write, from their parts. "Type 0x0202, length 13, a 32-bit message number, one TAC with S = 1 and one element, E = 1 for on
-- and 0 for off; 17 octets, of which the last 9 are its area". A wish: "14 octets, SAC with one element". Assumes nothing.
use Rattle.std.specs.Prelude.{ℕ, ◌+◌, Bool, true, Option, None, Some, List, [], ◌∷◌, ◌++◌, length, ltb}
use Rattle.choice.specs.Pick.{pick}
use Rattle.octets.specs.Octets.{be16, be32, top_bit, over}
use Rattle.area.specs.Area.{tac_type, sac_type}
use Rattle.area.specs.Tlvs.{ours, area_of}
use Rattle.message.specs.declared.Message.{Message}
use Rattle.message.specs.declared.Message.TheVariants.{Change, Wish}
use Rattle.message.specs.Sac.{app_element, sac_value}

-- an element of a TAC: "TA-Id (16 bits), E (the top bit of the third octet), 15 reserved bits"; "reserved and unused bits are written 0"
abbrev pub element : ℕ → Bool → List ℕ
element n on = be16 n ++ (top_bit on ∷ 0 ∷ [])

-- the value of a TAC: "one octet with S as its top bit, then 0 or more elements"
abbrev pub tac_value : Bool → List ℕ → List ℕ
tac_value s elements = top_bit s ∷ elements

-- a message: what stands before its area, where the length counts the number's 4 octets and the area; and the whole
abbrev pub message_head : ℕ → ℕ → ℕ → List ℕ
message_head type len number = be16 type ++ (be16 (4 + len) ++ be32 number)

abbrev pub message_head_length : ℕ
message_head_length = 8

abbrev pub message : ℕ → ℕ → List ℕ → List ℕ
message type number area = message_head type (length area) number ++ area

-- a Capability message
abbrev pub capability_type : ℕ
capability_type = 0x0202

-- of one TLV: its area, and the whole
abbrev pub one_tlv : ℕ → List ℕ → List ℕ
one_tlv type value = area_of (ours type value ∷ [])

abbrev pub capability_with : ℕ → ℕ → List ℕ → List ℕ
capability_with number type value = message capability_type number (one_tlv type value)

-- for one application switched on or off: "one TAC with S = 1 and one element", its value, the area, the message
abbrev pub one_element : ℕ → Bool → List ℕ
one_element n on = tac_value true (element n on)

abbrev pub tac_octets : ℕ → Bool → List ℕ
tac_octets n on = one_tlv tac_type (one_element n on)

abbrev pub message_of : ℕ → ℕ → Bool → List ℕ
message_of number n on = capability_with number tac_type (one_element n on)

-- for our wish about one App: "SAC with one element", its value, the area, the message
abbrev pub one_app : ℕ → Bool → List ℕ
one_app n disable = sac_value (app_element n disable ∷ [])

abbrev pub app_octets : ℕ → Bool → List ℕ
app_octets n disable = one_tlv sac_type (one_app n disable)

abbrev pub wish_of : ℕ → ℕ → Bool → List ℕ
wish_of number n disable = capability_with number sac_type (one_app n disable)

-- a message that an event writes, and what is written of one that may be none
abbrev pub octets_of : Message → List ℕ
octets_of (Change number n on) = message_of number n on
octets_of (Wish number n disable) = wish_of number n disable

abbrev pub written_of : Option Message → List ℕ
written_of None = []
written_of (Some m) = octets_of m

-- "17 octets", and "14 octets"
abbrev pub change_length : ℕ
change_length = 17

abbrev pub wish_length : ℕ
wish_length = 14

-- the room after an event that says how many octets were written: the message in front, and "octets of room beyond those written stay as found"
unfoldable pub room_with : ℕ → Option Message → List ℕ → List ℕ
room_with written m room = pick (ltb 0 written) (over (written_of m) room) room
