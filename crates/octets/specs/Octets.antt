-- Numbers and bits as octets, and octets put over the front of lent ones. Assumes nothing.
use Rattle.std.specs.Prelude.{ℕ, ◌+◌, ◌*◌, ◌/◌, ◌%◌, Bool, List, [], ◌∷◌, ◌++◌, length, get_or, take, drop, leb}
use Rattle.choice.specs.Pick.{pick}

-- most significant octet first, as in messages
abbrev pub be16 : ℕ → List ℕ
be16 x = x / 256 % 256 ∷ x % 256 ∷ []

abbrev pub be32 : ℕ → List ℕ
be32 x = x / 16777216 % 256 ∷ x / 65536 % 256 ∷ x / 256 % 256 ∷ x % 256 ∷ []

-- least significant octet first, as in records
abbrev pub le16 : ℕ → List ℕ
le16 x = x % 256 ∷ x / 256 % 256 ∷ []

abbrev pub le32 : ℕ → List ℕ
le32 x = x % 256 ∷ x / 256 % 256 ∷ x / 65536 % 256 ∷ x / 16777216 % 256 ∷ []

-- the number that stands at i, least significant octet first
abbrev pub le_at16 : List ℕ → ℕ → ℕ
le_at16 l i = get_or l i 0 + 256 * get_or l (i + 1) 0

abbrev pub le_at32 : List ℕ → ℕ → ℕ
le_at32 l i = get_or l i 0 + 256 * get_or l (i + 1) 0 + 65536 * get_or l (i + 2) 0 + 16777216 * get_or l (i + 3) 0

-- the top bit of an octet: an octet with it alone or with none, and whether an octet has it
abbrev pub top_bit : Bool → ℕ
top_bit on = pick on 0x80 0

abbrev pub has_top_bit : ℕ → Bool
has_top_bit x = leb 0x80 x

-- what is written stands in front, and "octets of room beyond those written stay as found"; what has no room is not written
unfoldable pub over : List ℕ → List ℕ → List ℕ
over written room = pick (leb (length written) (length room)) (written ++ drop (length written) room) room

-- the same behind the first `at` octets, which stay
unfoldable pub over_at : ℕ → List ℕ → List ℕ → List ℕ
over_at at written room = take at room ++ over written (drop at room)
