-- Refusals: each number by a name, and when it is given. Assumes nothing.
use Rattle.std.specs.Prelude.{ℕ, Result, Ok, Err}
use Rattle.refusals.specs.declared.Refusal.{Refusal}
use Rattle.refusals.specs.declared.Refusal.TheVariants.{AreaTooLong, CutShort, BadLength, UnknownType, Repeated, OutOfRange, WrongState, NoRoom, PeerNotDynamic, NotSound, OutsideRow, LimitTooHigh, CapabilitiesHeld, UnknownApp, TotalOutside}

-- nothing is refused
abbrev pub not_refused : ℕ
not_refused = 0

-- "the area is over 4,096 octets"
abbrev pub area_too_long : ℕ
area_too_long = 1

-- "1 to 3 octets remain where a TLV should start, or its value runs past the area"
abbrev pub cut_short : ℕ
cut_short = 2

-- "TAC length 0 or not one more than a multiple of 4; SAC length under 2; Dynamic length not 1"
abbrev pub bad_length : ℕ
bad_length = 3

-- "another type with U = 0 outside 0x0500 to 0x05FF"
abbrev pub unknown_type : ℕ
unknown_type = 4

-- "one of our three types a second time", or one of the three capabilities
abbrev pub repeated : ℕ
repeated = 5

-- "a TA-Id outside 1 to 13, a kind over 9, a set with bits beyond these"
abbrev pub out_of_range : ℕ
out_of_range = 6

-- "an event in a state that it is not for"
abbrev pub wrong_state : ℕ
wrong_state = 7

-- "a local change to be written with under 17 octets of room"; a wish "under 14 octets", a SAC under its own length
abbrev pub no_room : ℕ
no_room = 8

-- "a local change to be written (in Open, TAC used), peer not dynamic"; a wish, "TAC used or not"
abbrev pub peer_not_dynamic : ℕ
peer_not_dynamic = 9

-- "the session or record handed in is not sound, or the room for a new one is not of its size", and "kept wishes with spare bits"
abbrev pub not_sound : ℕ
not_sound = 10

-- "the row number is outside the row or the row is over 64"
abbrev pub outside_row : ℕ
outside_row = 11

-- setting a limit, "12 for one over 64"
abbrev pub limit_too_high : ℕ
limit_too_high = 12

-- "13, way back with either octet not 0, after 10"
abbrev pub capabilities_held : ℕ
capabilities_held = 13

-- "15, App outside 1 to 4"
abbrev pub unknown_app : ℕ
unknown_app = 15

-- "last, 16, an event would take a total outside 0 to 64"
abbrev pub total_outside : ℕ
total_outside = 16

-- the number of each case; where a call refuses nothing it answers not_refused
abbrev pub number_of : Refusal → ℕ
number_of AreaTooLong = area_too_long
number_of CutShort = cut_short
number_of BadLength = bad_length
number_of UnknownType = unknown_type
number_of Repeated = repeated
number_of OutOfRange = out_of_range
number_of WrongState = wrong_state
number_of NoRoom = no_room
number_of PeerNotDynamic = peer_not_dynamic
number_of NotSound = not_sound
number_of OutsideRow = outside_row
number_of LimitTooHigh = limit_too_high
number_of CapabilitiesHeld = capabilities_held
number_of UnknownApp = unknown_app
number_of TotalOutside = total_outside

-- an answer that may be refused as C has it, in one form: what is answered, or the refusal by its number
abbrev pub told_as : {A B : Type 0} → (A → B) → (ℕ → B) → Result A Refusal → B
told_as answered refused (Ok a) = answered a
told_as answered refused (Err r) = refused (number_of r)

-- the same of a call that answers nothing but whether it is refused
abbrev pub number_told : {A : Type 0} → Result A Refusal → ℕ
number_told = told_as (λ a. not_refused) (λ n. n)
