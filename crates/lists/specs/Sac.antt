-- Lists: what the elements of a SAC make of the disabled Apps. A value of any length is a list: its first octet, which is not read, then
-- elements of 1 octet. Assumes nothing.
use Rattle.std.specs.Prelude.{ℕ, zero, suc, ◌+◌, ◌-◌, ◌/◌, ◌%◌, ◌<◌, ◌≤◌, ◌≡◌, List, Bool, true, not, ◌&&◌, length, get_or, eqb}
use Rattle.choice.specs.Pick.{pick}
use Rattle.sets.specs.Set.{has, switched}
use Rattle.kinds.specs.Kinds.{app_count}
use Rattle.octets.specs.Octets.{has_top_bit}

-- an element: "D (top bit), App (3 bits), 4 unused bits"
abbrev pub d_of : ℕ → Bool
d_of x = has_top_bit x

abbrev pub app_of : ℕ → ℕ
app_of x = x / 16 % 8

-- in an opening (Initialization) an element with D = 0 "does nothing"
abbrev pub idle : Bool → ℕ → Bool
idle opening x = not (d_of x) && opening

-- one element: "D = 1 disables, D = 0 enables"; App 0 and 5 to 7 are skipped
unfoldable pub sac_element : Bool → ℕ → ℕ → ℕ
sac_element opening s x = pick (idle opening x) s (switched app_count s (app_of x) (d_of x))

-- element i, counted from 0
abbrev pub element_at : List ℕ → ℕ → ℕ
element_at v i = get_or v (i + 1) 0

-- the set after the first i elements: "elements apply in order"
unfoldable pub sac_after : List ℕ → Bool → ℕ → ℕ → ℕ
sac_after v opening s zero = s
sac_after v opening s (suc i) = sac_element opening (sac_after v opening s i) (element_at v i)

-- the set after the whole list
unfoldable pub sac_list : List ℕ → Bool → ℕ → ℕ
sac_list v opening s = sac_after v opening s (length v - 1)

-- the element does anything to App n
unfoldable pub acts : Bool → ℕ → ℕ → Bool
acts opening n x = eqb (app_of x) n && not (idle opening x)

-- of the first i elements, element j is the last that does anything to App n
pub record Last (v : List ℕ) (opening : Bool) (n i j : ℕ) : Type 0 where
  pub among : j < i
  pub does : acts opening n (element_at v j) ≡ true
  pub behind : (k : ℕ) → j < k → k < i → acts opening n (element_at v k) ≡ true → ⊥

-- ---- what these rules come to, for each App n of the four
-- "of those that do anything the later one holds"
abbrev pub LaterHolds : Type 0
LaterHolds =
    (opening : Bool) (n : ℕ) → 1 ≤ n → n ≤ app_count → (v : List ℕ) (s j : ℕ) → Last v opening n (length v - 1) j
    → has (sac_list v opening s) (n - 1) ≡ d_of (element_at v j)

-- one to which no element does anything stays as it was
abbrev pub IdleStays : Type 0
IdleStays =
    (opening : Bool) (n : ℕ) → 1 ≤ n → n ≤ app_count → (v : List ℕ) (s : ℕ) → ((k : ℕ) → k < length v - 1 → acts opening n (element_at v k) ≡ true → ⊥)
    → has (sac_list v opening s) (n - 1) ≡ has s (n - 1)
