-- Condition 2: "Our messages .., read back, give what was written". Assumes nothing.
use Rattle.std.specs.Prelude.{ℕ, ◌≡◌, Bool, true, false, List, length, take, drop}
use Rattle.kinds.specs.Kinds.{is_in}
use Rattle.message.specs.Message.{message_head_length, change_length}
use Rattle.session.specs.declared.Session.{Session}
use Rattle.session.specs.Session.{is_open, uses_tac, in_force, sound}
use Rattle.session.specs.With.{with_listing, with_first_listing}
use Rattle.session.specs.Decisions.{Negotiate, settled}
use Rattle.session.specs.Events.{Event, Capability, LocalChange, step, run, room_after}

-- any other end that can read it
pub record OtherEnd (t : Session) : Type 0 where
  pub is_sound : sound t ≡ true
  pub is_open : is_open t ≡ true
  pub uses : uses_tac t ≡ true

-- in force there, its list changes by exactly that application
pub record ExactlyThat (t : Session) (n : ℕ) (on : Bool) (area : List ℕ) : Type 0 where
  pub event : step t (Capability area) ≡ settled t (Negotiate (with_listing t n on))
  pub that : is_in (with_listing t n on).listed n ≡ on
  pub no_other : (m : ℕ) → (m ≡ n → ⊥) → is_in (with_listing t n on).listed m ≡ is_in t.listed m

-- not in force there, negotiation comes into force: the list starts from nothing and has that application, or none
pub record StartsWithThat (t : Session) (n : ℕ) (on : Bool) (area : List ℕ) : Type 0 where
  pub event : step t (Capability area) ≡ settled t (Negotiate (with_first_listing t n on))
  pub force : in_force (with_first_listing t n on) ≡ true
  pub that : is_in (with_first_listing t n on).listed n ≡ on
  pub no_other : (m : ℕ) → (m ≡ n → ⊥) → is_in (with_first_listing t n on).listed m ≡ false

pub record ReadAt (t : Session) (n : ℕ) (on : Bool) (area : List ℕ) : Type 0 where
  pub in_force_law : in_force t ≡ true → ExactlyThat t n on area
  pub not_in_force : in_force t ≡ false → StartsWithThat t n on area

-- over any run, the last 9 of the 17 octets that a local change writes, given to the other end as a Capability message
abbrev pub ReadAsMeant : Type 0
ReadAsMeant =
    (s : Session) (es : List Event) (n : ℕ) (on : Bool) (room : List ℕ) (t : Session)
    → (step (run s es) (LocalChange n on (length room))).answer.written ≡ change_length
    → OtherEnd t → ReadAt t n on (drop message_head_length (take change_length (room_after (run s es) (LocalChange n on (length room)) room)))
