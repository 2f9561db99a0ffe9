-- An event carried from record to record: the one way in which what happens to a session happens to its record. Assumes nothing.
use Rattle.std.specs.Prelude.{◌≡◌, List, ℕ, eqb}
use Rattle.choice.specs.Pick.{pick}
use Rattle.refusals.specs.Refusals.{not_refused}
use Rattle.session.specs.declared.Answer.{Answer}
use Rattle.session.specs.declared.After.{After}
use Rattle.record.specs.Record.{stored_in}

-- "A refusal ..; the session, its record and the room lent for writing stay exactly as found"; else the record holds the session after the event
unfoldable pub record_after : After → List ℕ → List ℕ
record_after after l = pick (eqb after.answer.refusal not_refused) (stored_in after.session l) l

-- the answer r and the record l' after an event on the record l
pub record Carried (after : After) (l : List ℕ) (r : Answer) (l' : List ℕ) : Type 0 where
  pub answer : r ≡ after.answer
  pub octets : l' ≡ record_after after l
