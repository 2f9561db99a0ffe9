-- Framing: what reading a parameter area finds. "TLVs from the left, each tried for 2, 4, 5, 3"; the first refusal is the answer.
-- Assumes nothing.
use Rattle.std.specs.Prelude.{ℕ, zero, suc, ◌+◌, ◌-◌, ◌*◌, ◌%◌, List, [], ◌∷◌, Bool, not, ◌&&◌, ◌||◌, length, get_or, take, drop, ltb, leb, eqb}
use Rattle.choice.specs.Pick.{pick}
use Rattle.refusals.specs.Refusals.{not_refused, area_too_long, cut_short, bad_length, unknown_type, repeated}
use Rattle.area.specs.declared.Span.{Span}
use Rattle.area.specs.declared.Reading.{Reading}
use Rattle.octets.specs.Octets.{has_top_bit}
use Rattle.kinds.specs.Kinds.{p2mp, mp2mp, hsmp}
use Rattle.area.specs.Found.{refused, nothing_found, tac_stood, sac_stood, dynamic_stood, capability_stood, with_tac, with_sac, with_dynamic, with_capability}

-- "a parameter area is 0 to 4,096 octets"
abbrev pub area_most : ℕ
area_most = 4096

-- before a TLV's value stand "U (1 bit), F (1 bit), type (14 bits), length (16 bits)"
abbrev pub head_length : ℕ
head_length = 4

abbrev pub u_bit : ℕ
u_bit = 0x8000

abbrev pub type_count : ℕ
type_count = 0x4000

abbrev pub type_of : ℕ → ℕ
type_of head = head % type_count

-- "elements of 4 octets" in a TAC
abbrev pub element_length : ℕ
element_length = 4

-- 3 for "TAC length 0 or not one more than a multiple of 4; SAC length under 2; Dynamic length not 1", and by L4 "if one of these lengths is not 1"
abbrev pub wrong_tac : ℕ → Bool
wrong_tac len = not (eqb (len % element_length) 1)

abbrev pub wrong_sac : ℕ → Bool
wrong_sac len = ltb len 2

abbrev pub not_one : ℕ → Bool
not_one len = not (eqb len 1)

-- a type that we read: its number, the lengths that are wrong, whether it stood before, and what is found with its value and S
pub record OurType : Type 0 where
  pub number : ℕ
  pub wrong : ℕ → Bool
  pub stood : Reading → Bool
  pub found : Span → Bool → Reading → Reading

abbrev pub tac_type : ℕ
tac_type = 0x050F

abbrev pub sac_type : ℕ
sac_type = 0x050D

abbrev pub dynamic_type : ℕ
dynamic_type = 0x0506

-- "numbered by RFC 6388 and RFC 7140"
abbrev pub p2mp_type : ℕ
p2mp_type = 0x0508

abbrev pub mp2mp_type : ℕ
mp2mp_type = 0x0509

abbrev pub hsmp_type : ℕ
hsmp_type = 0x0902

-- "we read three types; their U and F bits are not read", and by L4 the capabilities "join the types we read"
abbrev pub our_types : List OurType
our_types =
    record { number = tac_type; wrong = wrong_tac; stood = tac_stood; found = with_tac }
    ∷ record { number = sac_type; wrong = wrong_sac; stood = sac_stood; found = with_sac }
    ∷ record { number = dynamic_type; wrong = not_one; stood = dynamic_stood; found = with_dynamic }
    ∷ record { number = p2mp_type; wrong = not_one; stood = capability_stood p2mp; found = with_capability p2mp }
    ∷ record { number = mp2mp_type; wrong = not_one; stood = capability_stood mp2mp; found = with_capability mp2mp }
    ∷ record { number = hsmp_type; wrong = not_one; stood = capability_stood hsmp; found = with_capability hsmp }
    ∷ []

-- a TLV of ours, tried for 5, "a second time", and then for 3, a length that is wrong; else what is found with it
unfoldable pub take_tlv : Bool → Bool → Reading → Reading
take_tlv again wrong found = pick again (refused repeated) (pick wrong (refused bad_length) found)

-- "any other type is passed over when U is 1, or when its type is 0x0500 to 0x05FF"; else 4
abbrev pub in_range : ℕ → Bool
in_range type = leb 0x0500 type && leb type 0x05FF

unfoldable pub pass_other : ℕ → Reading → Reading
pass_other head r = pick (leb u_bit head || in_range (type_of head)) r (refused unknown_type)

-- a whole TLV by its type, one of these or another: `head` its first 16 bits, `value` where its value stands, `s` its S
abbrev pub among : List OurType → ℕ → Span → Bool → Reading → Reading
among [] head value s r = pass_other head r
among (t ∷ ts) head value s r =
    pick (eqb (type_of head) t.number) (take_tlv (t.stood r) (t.wrong value.len) (t.found value s r)) (among ts head value s r)

unfoldable pub by_type : ℕ → Span → Bool → Reading → Reading
by_type head value s r = among our_types head value s r

-- the octets of a part
unfoldable pub part : List ℕ → Span → List ℕ
part a s = take s.len (drop s.start a)

-- S of a value, "its top bit" of the first octet
unfoldable pub s_bit : List ℕ → Bool
s_bit v = has_top_bit (get_or v 0 0)

-- 16 bits, "most significant octet first"
unfoldable pub at16 : List ℕ → ℕ → ℕ
at16 a at = get_or a at 0 * 256 + get_or a (at + 1) 0

-- the TLV at `at`: 2 for "1 to 3 octets remain where a TLV should start, or its value runs past the area"
unfoldable pub tlv_at : List ℕ → ℕ → Reading → Reading
tlv_at a at r =
    pick (ltb (length a - at) head_length) (refused cut_short)
    (pick (ltb (length a - at - head_length) (at16 a (at + 2))) (refused cut_short)
    (let value : Span = record { start = at + head_length; len = at16 a (at + 2) } in
    by_type (at16 a at) value (s_bit (part a value)) r))

-- where the TLV after the one at `at` starts
abbrev pub next_at : List ℕ → ℕ → ℕ
next_at a at = at + head_length + at16 a (at + 2)

-- the TLVs from `at` on, n at the most, after r was found
unfoldable pub read_from : ℕ → List ℕ → ℕ → Reading → Reading
read_from zero a at r = r
read_from (suc n) a at r =
    let t : Reading = tlv_at a at r in
    pick (leb (length a) at) r (pick (eqb t.refusal not_refused) (read_from n a (next_at a at) t) t)

-- the whole area: 1 for "over 4,096 octets". A TLV has octets, so an area holds no more TLVs than octets
unfoldable pub read_area : List ℕ → Reading
read_area a = pick (ltb area_most (length a)) (refused area_too_long) (read_from (length a) a 0 nothing_found)

-- the values of TAC and SAC, first octet included
abbrev pub tac_of : List ℕ → List ℕ
tac_of a = part a (read_area a).tac

abbrev pub sac_of : List ℕ → List ℕ
sac_of a = part a (read_area a).sac
