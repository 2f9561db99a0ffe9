-- The move from kind 1 to kind 2, with both octets of capabilities 0, and back. Of an Open session that is moved forward the kinds are reported which it loses
-- because kinds need capabilities. A record is handed in, and the room for the other kind is lent. Assumes nothing.
use Rattle.std.specs.Prelude.{ℕ, ◌<◌, ◌≤◌, ◌≡◌, Bool, true, false, ◌&&◌, ◌↔◌, List, length, get_or, eqb, Result}
use Rattle.choice.specs.Pick.{pick}
use Rattle.octets.specs.Octets.{le_at16}
use Rattle.sets.specs.Set.{has, minus, empty}
use Rattle.kinds.specs.Kinds.{all_capabilities}
use Rattle.refusals.specs.declared.Refusal.{Refusal}
use Rattle.refusals.specs.Refusals.{not_refused, not_sound, capabilities_held, told_as}
use Rattle.session.specs.declared.Session.{Session}
use Rattle.session.specs.Session.{is_open, sound, permitted_by_base, permitted}
use Rattle.session.specs.With.{no_session, with_ours, with_theirs}
use Rattle.session.specs.Questions.{why}
use Rattle.record.specs.declared.Moved.{Moved}
use Rattle.record.specs.Record.{record_length, kind_field, kind1_length, encoded_kind1, decoded, decoded_kind1}
use Rattle.record.specs.Loaded.{store_refusal, store_octets}

-- ---- forward: the session of the kind 1 record, stored
-- the kinds that it loses: those that the rule without capabilities permits and the rule with them does not. Not Open, neither permits any
unfoldable pub loses_by_capabilities : Session → ℕ
loses_by_capabilities s = minus (permitted_by_base s) (permitted s)

-- the kinds lost or why it is refused, as C has it
abbrev pub moved_of : Result ℕ Refusal → Moved
moved_of = told_as (λ lost. record { refusal = not_refused; lost = lost }) (λ n. record { refusal = n; lost = 0 })

-- "10 for an unsound record", or for a room that is not of its size; refused, none is reported lost
unfoldable pub forward : List ℕ → List ℕ → Moved
forward l room =
    record {
      refusal = store_refusal (decoded_kind1 l) room;
      lost = pick (eqb (store_refusal (decoded_kind1 l) room) not_refused) (loses_by_capabilities (decoded_kind1 l)) 0;
    }

-- the room after it: refused, as found
unfoldable pub forward_room : List ℕ → List ℕ → List ℕ
forward_room l room = store_octets (decoded_kind1 l) room

-- ---- back
-- both octets of capabilities are 0
abbrev pub holds_none : Session → Bool
holds_none s = empty s.ours && empty s.theirs

-- 10, "13, way back with either octet not 0, after 10"
unfoldable pub back_refusal : List ℕ → List ℕ → ℕ
back_refusal l room =
    pick (sound (decoded l)) (pick (eqb (length room) kind1_length) (pick (holds_none (decoded l)) not_refused capabilities_held) not_sound) not_sound

-- the room after it: refused, as found
unfoldable pub back_room : List ℕ → List ℕ → List ℕ
back_room l room = pick (eqb (back_refusal l room) not_refused) (encoded_kind1 (decoded l)) room

-- ---- what holds of the two
-- "There and back gives the old record": of every sound record of kind 1, by rooms of the two sizes
pub record ThereAgain (l room room' : List ℕ) : Type 0 where
  pub there : (forward l room).refusal ≡ not_refused
  pub back : back_refusal (forward_room l room) room' ≡ not_refused
  pub octets : back_room (forward_room l room) room' ≡ l

abbrev pub ThereAndBack : Type 0
ThereAndBack =
    (l room room' : List ℕ) → ((i : ℕ) → get_or l i 0 < 256) → sound (decoded_kind1 l) ≡ true → length room ≡ record_length → length room' ≡ kind1_length
    → ThereAgain l room room'

-- "back and there the new one, where the way back is not refused"
pub record BackAgain (l room room' : List ℕ) : Type 0 where
  pub there : (forward (back_room l room) room').refusal ≡ not_refused
  pub octets : forward_room (back_room l room) room' ≡ l

abbrev pub BackAndThere : Type 0
BackAndThere =
    (l room room' : List ℕ) → ((i : ℕ) → get_or l i 0 < 256) → back_refusal l room ≡ not_refused → length room' ≡ record_length → BackAgain l room room'

-- when each is refused, and with what; refused, the room stays
pub record ForwardRefused (l room : List ℕ) : Type 0 where
  pub unsound : sound (decoded_kind1 l) ≡ false → (forward l room).refusal ≡ not_sound
  pub no_size : (length room ≡ record_length → ⊥) → (forward l room).refusal ≡ not_sound
  pub done : sound (decoded_kind1 l) ≡ true → length room ≡ record_length → (forward l room).refusal ≡ not_refused
  pub stays : ((forward l room).refusal ≡ not_refused → ⊥) → ((forward l room).lost ≡ 0) × (forward_room l room ≡ room)

pub record BackRefused (l room : List ℕ) : Type 0 where
  pub unsound : sound (decoded l) ≡ false → back_refusal l room ≡ not_sound
  pub no_size : (length room ≡ kind1_length → ⊥) → back_refusal l room ≡ not_sound
  pub done : sound (decoded l) ≡ true → length room ≡ kind1_length → get_or l 22 0 ≡ 0 → get_or l 23 0 ≡ 0 → back_refusal l room ≡ not_refused
  -- "13 exactly when an octet is not 0"
  pub held :
      sound (decoded l) ≡ true → length room ≡ kind1_length
      → (back_refusal l room ≡ capabilities_held) ↔ (((get_or l 22 0 ≡ 0) × (get_or l 23 0 ≡ 0)) → ⊥)
  pub stays : (back_refusal l room ≡ not_refused → ⊥) → back_room l room ≡ room

pub record MovesRefused : Type 0 where
  pub forward_refused : (l room : List ℕ) → ForwardRefused l room
  pub back_refused : (l room : List ℕ) → BackRefused l room

-- what is reported lost: of an Open session those of kinds 2 to 6 that the rule without capabilities permitted; of any other none
pub record Lost (l room : List ℕ) : Type 0 where
  pub rules : (k : ℕ) → (has (forward l room).lost k ≡ true) ↔ ((has (permitted_by_base (decoded_kind1 l)) k ≡ true) × (has (permitted (decoded_kind1 l)) k ≡ false))
  pub kinds : (k : ℕ) → (has (forward l room).lost k ≡ true) ↔ ((2 ≤ k) × (k ≤ 6) × (has (permitted_by_base (decoded_kind1 l)) k ≡ true))
  pub not_open : is_open (decoded_kind1 l) ≡ false → (forward l room).lost ≡ 0

abbrev pub LostMeans : Type 0
LostMeans = (l room : List ℕ) → (forward l room).refusal ≡ not_refused → Lost l room

-- the session with every capability held by both ends, which answers as the base did
abbrev pub holding_all : Session → Session
holding_all s = with_theirs (with_ours s all_capabilities) all_capabilities

-- "a moved session's every other question has the same answer": it is the session of the kind 1 record, field by field; it permits what the rule without capabilities permitted,
-- less what was reported lost; and of any other kind the reason is the one that stood before capabilities were asked
pub record Same (l room : List ℕ) : Type 0 where
  pub session : decoded (forward_room l room) ≡ decoded_kind1 l
  pub permits : permitted (decoded (forward_room l room)) ≡ minus (permitted_by_base (decoded_kind1 l)) (forward l room).lost
  pub reason : (k : ℕ) → ((2 ≤ k) × (k ≤ 6) → ⊥) → why (decoded (forward_room l room)) k ≡ why (holding_all (decoded_kind1 l)) k

abbrev pub MovedIsSame : Type 0
MovedIsSame = (l room : List ℕ) → ((i : ℕ) → get_or l i 0 < 256) → (forward l room).refusal ≡ not_refused → Same l room

-- "every call but the moves refuses a kind 1 record": a record of any other kind than 2 holds no session, and none of kind 1 is of kind 2
pub record OneKind : Type 0 where
  pub other_kind : (l : List ℕ) → (le_at16 l 2 ≡ kind_field → ⊥) → decoded l ≡ no_session
  pub kind1 : (l : List ℕ) → sound (decoded_kind1 l) ≡ true → decoded l ≡ no_session
  pub kind2 : (l : List ℕ) → sound (decoded l) ≡ true → decoded_kind1 l ≡ no_session
