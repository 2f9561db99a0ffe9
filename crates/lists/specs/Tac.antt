-- Lists: what the elements of a TAC make of a set of applications. A value of any length is a list: its first octet, then elements
-- of 4 octets as far as they are whole. Assumes nothing.
use Rattle.std.specs.Prelude.{ℕ, zero, suc, ◌+◌, ◌*◌, ◌-◌, ◌/◌, ◌<◌, ◌≤◌, ◌≡◌, List, Bool, true, false, ◌||◌, length, get_or, eqb}
use Rattle.choice.specs.Pick.{pick}
use Rattle.sets.specs.Set.{has, numbered, switched}
use Rattle.kinds.specs.Kinds.{application_count}
use Rattle.octets.specs.Octets.{has_top_bit}
use Rattle.area.specs.Area.{element_length, at16}

-- how many elements there are
abbrev pub element_count : List ℕ → ℕ
element_count v = (length v - 1) / element_length

-- element i, counted from 0: "TA-Id (16 bits), E (the top bit of the third octet), 15 reserved bits"
unfoldable pub id_at : List ℕ → ℕ → ℕ
id_at v i = at16 v (element_length * i + 1)

unfoldable pub e_at : List ℕ → ℕ → Bool
e_at v i = has_top_bit (get_or v (element_length * i + 3) 0)

-- "E = 1 adds .. and E = 0 removes", and in an opening (Initialization) E is not read: each one present is listed
abbrev pub adds : List ℕ → Bool → ℕ → Bool
adds v opening i = opening || e_at v i

-- the identifier n stood among the first j elements
unfoldable pub stood : List ℕ → ℕ → ℕ → Bool
stood v n zero = false
stood v n (suc j) = eqb (id_at v j) n || stood v n j

-- the set after the first i elements. "An element whose identifier stood earlier in the same list counts for nothing, whatever its E"; an
-- unknown one is skipped
unfoldable pub after : List ℕ → Bool → ℕ → ℕ → ℕ
after v opening s zero = s
after v opening s (suc i) =
    let t : ℕ = after v opening s i in
    pick (stood v (id_at v i) i) t (switched application_count t (id_at v i) (adds v opening i))

-- the set after the whole list
unfoldable pub tac_list : List ℕ → Bool → ℕ → ℕ
tac_list v opening s = after v opening s (element_count v)

-- element i is the first with the identifier n
pub record First (v : List ℕ) (n i : ℕ) : Type 0 where
  pub named : id_at v i ≡ n
  pub before : (j : ℕ) → j < i → id_at v j ≡ n → ⊥

-- ---- what these rules come to, for each application n of the thirteen
-- of the elements with one TA-Id the first decides, "whatever its E"
abbrev pub FirstDecides : Type 0
FirstDecides =
    (v : List ℕ) (opening : Bool) (s n : ℕ) → 1 ≤ n → n ≤ application_count → (i : ℕ) → i < element_count v → First v n i
    → has (tac_list v opening s) (n - 1) ≡ (adds v opening i)

-- one that no element names stays as it was
abbrev pub AbsentStays : Type 0
AbsentStays =
    (v : List ℕ) (opening : Bool) (s n : ℕ) → 1 ≤ n → n ≤ application_count → ((i : ℕ) → i < element_count v → id_at v i ≡ n → ⊥)
    → has (tac_list v opening s) (n - 1) ≡ has s (n - 1)

-- Initialization: "the peer's list is every known TA-Id present"
abbrev pub ListedIsPresent : Type 0
ListedIsPresent = (v : List ℕ) (n : ℕ) → 1 ≤ n → n ≤ application_count → has (tac_list v true 0) (n - 1) ≡ stood v n (element_count v)

-- an unknown one: "its element is skipped"
abbrev pub UnknownIsSkipped : Type 0
UnknownIsSkipped = (v : List ℕ) (opening : Bool) (s i : ℕ) → numbered application_count (id_at v i) ≡ false → after v opening s (suc i) ≡ after v opening s i
