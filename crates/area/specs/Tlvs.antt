-- Areas made of TLVs, as they are written, and what reading them comes to: an area made of TLVs is read TLV by TLV. Assumes nothing.
use Rattle.std.specs.Prelude.{ℕ, ◌+◌, ◌-◌, ◌<◌, ◌≤◌, ◌≡◌, Bool, false, ◌||◌, List, [], ◌∷◌, ◌++◌, length, eqb}
use Rattle.choice.specs.Pick.{pick}
use Rattle.refusals.specs.Refusals.{not_refused}
use Rattle.sets.specs.Set.{has}
use Rattle.kinds.specs.Kinds.{p2mp, mp2mp, hsmp}
use Rattle.octets.specs.Octets.{be16}
use Rattle.area.specs.declared.Reading.{Reading}
use Rattle.area.specs.Found.{nothing_found}
use Rattle.area.specs.Area.{area_most, head_length, u_bit, type_of, p2mp_type, mp2mp_type, hsmp_type, by_type, s_bit, read_area}

-- a TLV: its first 16 bits, and its value
pub record Tlv : Type 0 where
  pub head : ℕ
  pub value : List ℕ

-- one that we write: "their U and F bits .. are written as 1 and 0"
abbrev pub ours : ℕ → List ℕ → Tlv
ours type value = record { head = u_bit + type; value = value }

-- what stands before its value, and the whole
abbrev pub tlv_head : ℕ → ℕ → List ℕ
tlv_head head len = be16 head ++ be16 len

abbrev pub tlv_octets : Tlv → List ℕ
tlv_octets t = tlv_head t.head (length t.value) ++ t.value

-- "TLVs one after another"
abbrev pub area_of : List Tlv → List ℕ
area_of [] = []
area_of (t ∷ ts) = tlv_octets t ++ area_of ts

-- the reading of one at `at`, after r was found; and of these from there on: the first refusal is the answer
abbrev pub read_tlv : ℕ → Reading → Tlv → Reading
read_tlv at r t = by_type t.head (record { start = at + head_length; len = length t.value }) (s_bit t.value) r

abbrev pub read_tlvs : ℕ → Reading → List Tlv → Reading
read_tlvs at r [] = r
read_tlvs at r (t ∷ ts) =
    let found : Reading = read_tlv at r t in
    pick (eqb found.refusal not_refused) (read_tlvs (at + head_length + length t.value) found ts) found

-- heads and lengths are of 16 bits
abbrev pub Wide : List Tlv → Type 0
Wide [] = Unit {0}
Wide (t ∷ ts) = (t.head < 65536) × (length t.value < 65536) × Wide ts

-- none of them is of this type
abbrev pub Without : ℕ → List Tlv → Type 0
Without type [] = Unit {0}
Without type (t ∷ ts) = (type_of t.head ≡ type → ⊥) × Without type ts

abbrev pub ReadByTlvs : Type 0
ReadByTlvs = (ts : List Tlv) → Wide ts → length (area_of ts) ≤ area_most → read_area (area_of ts) ≡ read_tlvs 0 nothing_found ts

-- a TLV of this type is among these, or was before; and S of the last of that type, or what it was before: a second one is refused with 5
abbrev pub present : ℕ → Bool → List Tlv → Bool
present type before [] = before
present type before (t ∷ ts) = present type (eqb (type_of t.head) type || before) ts

abbrev pub held_by : ℕ → Bool → List Tlv → Bool
held_by type before [] = before
held_by type before (t ∷ ts) = held_by type (pick (eqb (type_of t.head) type) (s_bit t.value) before) ts

-- what a reading tells of the capability n, whose type this is
pub record Told (n type : ℕ) (ts : List Tlv) (r : Reading) : Type 0 where
  pub there : has r.capabilities (n - 1) ≡ present type false ts
  pub held : has r.holding (n - 1) ≡ held_by type false ts

-- of each of the three: present exactly where its TLV is, and held exactly with S = 1
abbrev pub CapabilitiesFound : Type 0
CapabilitiesFound =
    (ts : List Tlv) → Wide ts → (read_area (area_of ts)).refusal ≡ not_refused
    → Told p2mp p2mp_type ts (read_area (area_of ts)) × (Told mp2mp mp2mp_type ts (read_area (area_of ts)) × Told hsmp hsmp_type ts (read_area (area_of ts)))
