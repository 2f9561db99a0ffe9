-- What we write is read as we meant it: the last 9 octets of a message are an area with one TAC and nothing else, whose S is 1 and whose list
-- switches exactly that application on or off. The octets that do not depend on the application are computed. Assumes nothing.
use Prim.Native.Nat.{ℕ, ◌<◌}
use mathlib.Core.Path.{◌≡◌, refl, ap₂}
use mathlib.Core.Bool.{Bool, true, false}
use mathlib.Core.List.{List}
use lib.ListN.{drop}
use Rattle.choice.specs.Pick.{pick}
use Rattle.octets.proofs.Numbers.{forth16, top_back}
use Rattle.sets.specs.Set.{switched}
use Rattle.kinds.specs.Kinds.{application_count}
use Rattle.area.specs.declared.Reading.{Reading}
use Rattle.area.specs.Found.{nothing_found, with_tac}
use Rattle.area.specs.Area.{head_length, at16, take_tlv, pass_other, by_type, s_bit, tlv_at, read_from, read_area}
use Rattle.lists.specs.Tac.{id_at, e_at, stood, after, tac_list}
use Rattle.message.specs.Message.{message_head_length, one_tlv, capability_with, one_element, tac_octets}

-- the reading of such an area: a TAC of 5 octets from the fifth on, and nothing else
abbrev pub one_tac : Reading
one_tac = with_tac (record { start = head_length; len = 5 }) true nothing_found

-- behind its head a Capability message of one TLV is the area of that TLV
pub area_back : (number type : ℕ) (value : List ℕ) → drop message_head_length (capability_with number type value) ≡ one_tlv type value
area_back number type value = refl

pub read_back : (n : ℕ) (on : Bool) → read_area (tac_octets n on) ≡ one_tac
unfolding pick at16 take_tlv pass_other by_type tlv_at read_from read_area
read_back n on = refl

pub s_back : (n : ℕ) (on : Bool) → s_bit (one_element n on) ≡ true
unfolding s_bit pick
s_back n on = refl

pub list_back : (n : ℕ) (on : Bool) (s : ℕ) → n < 65536 → tac_list (one_element n on) false s ≡ switched application_count s n on
unfolding tac_list after stood at16 id_at e_at pick
list_back n on s h = ap₂ (λ (m : ℕ) (b : Bool). switched application_count s m b) (forth16 n h) (top_back on)
