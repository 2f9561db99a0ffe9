-- What creation answers to C, and what it leaves in the room that it was lent. Every other call answers as its session does, and its record goes by
-- record/specs/Carried.antt. Assumes nothing.
use Rattle.std.specs.Prelude.{ℕ, ◌≡◌, List, Result, Ok, Err, length, eqb}
use Rattle.choice.specs.Pick.{pick}
use Rattle.refusals.specs.declared.Refusal.{Refusal}
use Rattle.refusals.specs.Refusals.{not_sound}
use Rattle.session.specs.declared.Session.{Session}
use Rattle.session.specs.Creation.{refusal_of}
use Rattle.record.specs.Record.{record_length, stored_in}

-- ---- creation: 10 for a room that is not of 24 octets, then 6
unfoldable pub creation_refusal : Result Session Refusal → List ℕ → ℕ
creation_refusal c l = pick (eqb (length l) record_length) (refusal_of c) not_sound

-- refused, it yields no session: the room stays
unfoldable pub created_in : Result Session Refusal → List ℕ → List ℕ
created_in (Ok s) l = stored_in s l
created_in (Err r) l = l

pub record CreatedIn (c : Result Session Refusal) (l : List ℕ) (r : ℕ) (l' : List ℕ) : Type 0 where
  pub refusal : r ≡ creation_refusal c l
  pub octets : l' ≡ created_in c l
