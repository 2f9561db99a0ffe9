-- SACs that we write: their elements and values, and the SAC for an Initialization, "which holds only elements with D = 1 and is omitted when there
-- are none". Wishes are a set of Apps, App n at bit n - 1. Assumes nothing.
use Rattle.std.specs.Prelude.{ℕ, zero, suc, ◌+◌, ◌*◌, ◌%◌, Bool, true, List, [], ◌∷◌, ◌++◌}
use Rattle.choice.specs.Pick.{pick}
use Rattle.sets.specs.Set.{has, empty}
use Rattle.octets.specs.Octets.{top_bit}
use Rattle.kinds.specs.Kinds.{app_count}
use Rattle.area.specs.Area.{sac_type}
use Rattle.area.specs.Tlvs.{Tlv, ours, area_of}

-- an element: "D (top bit), App (3 bits), 4 unused bits"; "reserved and unused bits are written 0"
abbrev pub app_element : ℕ → Bool → ℕ
app_element n disable = top_bit disable + n % 8 * 16

-- the value: "one octet (S, reserved ..), then 1 or more elements"; we write S as 1
abbrev pub sac_value : List ℕ → List ℕ
sac_value elements = top_bit true ∷ elements

-- the element for place i of the wishes, where its App is wished disabled; and those of the first n places, "in rising number"
abbrev pub wish_element : ℕ → ℕ → List ℕ
wish_element wishes i = pick (has wishes i) (app_element (i + 1) true ∷ []) []

unfoldable pub wish_elements : ℕ → ℕ → List ℕ
wish_elements wishes zero = []
wish_elements wishes (suc n) = wish_elements wishes n ++ wish_element wishes n

-- the TLV, or none; and its octets
abbrev pub wish_tlv : ℕ → Tlv
wish_tlv wishes = ours sac_type (sac_value (wish_elements wishes app_count))

unfoldable pub sac_for : ℕ → List Tlv
sac_for wishes = pick (empty wishes) [] (wish_tlv wishes ∷ [])

abbrev pub sac_octets : ℕ → List ℕ
sac_octets wishes = area_of (sac_for wishes)
