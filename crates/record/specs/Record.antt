-- Stored record. Kind 1, document 01's: "22 octets, little-endian: length 20 (2), kind 1 (2), state (1 ..), flags (1), enabled (2 ..), listed (2), protected
-- kinds (2 ..), disabled (1 ..), zero (1), Hello number (4), next message number (4)". Kind 2, L5's, is the one that creation and events use: "the kind 1
-- record followed by one octet of our capabilities and one of the peer's .., 24 octets, length 22". Assumes nothing.
use Rattle.std.specs.Prelude.{ℕ, ◌<◌, ◌^◌, ◌≡◌, Bool, true, ◌&&◌, List, [], ◌∷◌, ◌++◌, length, get_or, eqb}
use Rattle.choice.specs.Pick.{pick}
use Rattle.octets.specs.Octets.{le16, le32, le_at16, le_at32}
use Rattle.session.specs.declared.Session.{Session}
use Rattle.session.specs.Session.{sound}
use Rattle.session.specs.With.{no_session}

-- how many octets a record has, and what its first two fields hold: the octets that follow the first, and the kind of record
abbrev pub record_length : ℕ
record_length = 24

abbrev pub length_field : ℕ
length_field = 22

abbrev pub kind_field : ℕ
kind_field = 2

-- the same of kind 1
abbrev pub kind1_length : ℕ
kind1_length = 22

abbrev pub kind1_length_field : ℕ
kind1_length_field = 20

abbrev pub kind1_field : ℕ
kind1_field = 1

-- ---- a session as octets
-- what the kinds have in common: the two fields, and the session's from its state to its next message number; behind these what the kind adds
abbrev pub octets_of : ℕ → ℕ → Session → List ℕ → List ℕ
octets_of long kind s behind =
    le16 long
    ++ (le16 kind
    ++ (s.state
    ∷ s.flags
    ∷ (le16 s.enabled
    ++ (le16 s.listed ++ (le16 s.protects ++ (s.disabled ∷ 0 ∷ (le32 s.hello ++ (le32 s.next ++ behind))))))))

-- the record of a session
abbrev pub encoded : Session → List ℕ
encoded s = octets_of length_field kind_field s (s.ours ∷ s.theirs ∷ [])

-- its record of kind 1, which has no place for capabilities
abbrev pub encoded_kind1 : Session → List ℕ
encoded_kind1 s = octets_of kind1_length_field kind1_field s []

-- a lent record with a session stored in it; one that is not of 24 octets stays as it was
unfoldable pub stored_in : Session → List ℕ → List ℕ
stored_in s l = pick (eqb (length l) record_length) (encoded s) l

-- ---- octets as a session
-- "length, kind .. as above" and the zero octet
unfoldable pub headed : ℕ → ℕ → List ℕ → Bool
headed long kind l = eqb (le_at16 l 0) long && (eqb (le_at16 l 2) kind && eqb (get_or l 13 0) 0)

-- the fields, with the capabilities of both ends
abbrev pub fields : List ℕ → ℕ → ℕ → Session
fields l ours theirs =
    record {
      state = get_or l 4 0;
      flags = get_or l 5 0;
      disabled = get_or l 12 0;
      enabled = le_at16 l 6;
      listed = le_at16 l 8;
      protects = le_at16 l 10;
      ours = ours;
      theirs = theirs;
      hello = le_at32 l 14;
      next = le_at32 l 18;
    }

-- the session of a record; one with another length, kind or zero octet holds none
unfoldable pub decoded : List ℕ → Session
decoded l =
    pick (eqb (length l) record_length) (pick (headed length_field kind_field l) (fields l (get_or l 22 0) (get_or l 23 0)) no_session) no_session

-- the session of a record of kind 1: neither end holds a capability
unfoldable pub decoded_kind1 : List ℕ → Session
decoded_kind1 l =
    pick (eqb (length l) kind1_length) (pick (headed kind1_length_field kind1_field l) (fields l 0 0) no_session) no_session

-- "Our .. records, read back, give what was written": a sound session is read back as it was stored
abbrev pub ReadBack : Type 0
ReadBack = (s : Session) → sound s ≡ true → s.hello < 2 ^ 32 → s.next < 2 ^ 32 → decoded (encoded s) ≡ s

-- and a sound record is stored as it was read
abbrev pub StoredBack : Type 0
StoredBack = (l : List ℕ) → ((i : ℕ) → get_or l i 0 < 256) → sound (decoded l) ≡ true → encoded (decoded l) ≡ l
