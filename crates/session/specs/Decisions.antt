-- What an event is decided to come to, and the answer that it then gives. All of it goes by value, and no octet is written. Assumes nothing.
use Rattle.std.specs.Prelude.{ℕ, Result}
use Rattle.choice.specs.Pick.{pick}
use Rattle.sets.specs.Set.{minus}
use Rattle.refusals.specs.declared.Refusal.{Refusal}
use Rattle.refusals.specs.Refusals.{not_refused, told_as}
use Rattle.session.specs.declared.Session.{Session}
use Rattle.session.specs.declared.After.{After}
use Rattle.session.specs.declared.decisions.Outcome.{Outcome}
use Rattle.session.specs.declared.decisions.Outcome.TheVariants.{Done as DoneOutcome, Unchanged as UnchangedOutcome, Mismatch as MismatchOutcome, AtLimit as AtLimitOutcome}
use Rattle.session.specs.Session.{nothing_common, permitted}
use Rattle.session.specs.With.{mismatched, with_next_number}
use Rattle.session.specs.Limits.{at_limit}

-- "the outcome (0 done, 1 Unchanged, 2 mismatch; 0 with a refusal)", and 3 for a session turned away by a limit
abbrev pub outcome_done : ℕ
outcome_done = 0

abbrev pub outcome_unchanged : ℕ
outcome_unchanged = 1

abbrev pub outcome_mismatch : ℕ
outcome_mismatch = 2

abbrev pub outcome_at_limit : ℕ
outcome_at_limit = 3

-- the number of each outcome
abbrev pub outcome_number : Outcome → ℕ
outcome_number DoneOutcome = outcome_done
outcome_number UnchangedOutcome = outcome_unchanged
outcome_number MismatchOutcome = outcome_mismatch
outcome_number AtLimitOutcome = outcome_at_limit

-- "A refusal loses, gains and writes nothing", and the session stays
abbrev pub refused : Session → ℕ → After
refused s n = record { session = s; answer = record { refusal = n; outcome = outcome_done; lost = 0; gained = 0; written = 0 } }

-- what an event that may be refused comes to
abbrev pub after_of : Session → Result After Refusal → After
after_of s = told_as (λ after. after) (refused s)

-- "Unchanged, nothing else happens"
abbrev pub unchanged : Session → After
unchanged s = record { session = s; answer = record { refusal = not_refused; outcome = outcome_unchanged; lost = 0; gained = 0; written = 0 } }

-- "the kinds lost (permitted before, not after), the kinds gained, and the octets written"
unfoldable pub answered : Session → Session → ℕ → ℕ → After
answered before after outcome written =
    record {
      session = after;
      answer =
          record {
            refusal = not_refused;
            outcome = outcome;
            lost = minus (permitted before) (permitted after);
            gained = minus (permitted after) (permitted before);
            written = written;
          };
    }

-- What an event is decided to come to
pub data Decision : Type 0 where
  -- refused with a number
  Refused : ℕ → Decision
  -- all is so already
  Unchanged : Decision
  -- this session
  Done : Session → Decision
  -- what a mismatch leaves of this session
  AsMismatch : Session → Decision
  -- this session, if it has a common application or negotiation is not in force
  Negotiate : Session → Decision
  -- the same, and one of the common applications is to be among those below their limit
  Admit : Session → ℕ → Decision
  -- the same as Negotiate, and a message of so many octets is written
  Send : Session → ℕ → Decision
  -- the session as it is, and a message of so many octets about what stands beside it is written
  Tell : ℕ → Decision

-- "no application both enabled and listed: mismatch", else what is asked next
abbrev pub unless_nothing_common : Session → Session → After → After
unless_nothing_common before after otherwise = pick (nothing_common after) (answered before (mismatched after) outcome_mismatch 0) otherwise

-- the session after the event and the answer. "Otherwise outcome 3, the state as in a mismatch"; a message takes the next number
unfoldable pub settled : Session → Decision → After
settled s (Refused n) = refused s n
settled s Unchanged = unchanged s
settled s (Done t) = answered s t outcome_done 0
settled s (AsMismatch t) = answered s (mismatched t) outcome_mismatch 0
settled s (Negotiate t) = unless_nothing_common s t (answered s t outcome_done 0)
settled s (Admit t below_limit) =
    unless_nothing_common s t
    (pick (at_limit t below_limit) (answered s (mismatched t) outcome_at_limit 0) (answered s t outcome_done 0))
settled s (Send t written) = unless_nothing_common s t (answered s (with_next_number t) outcome_done written)
settled s (Tell written) = answered s (with_next_number s) outcome_done written
