-- "The label daemon .. calls with numbers, octet buffers and the stored record": the same events over a record. Assumes nothing.
use Rattle.std.specs.Prelude.{ℕ, ◌<◌, ◌≡◌, true, List, [], ◌∷◌, get_or}
use Rattle.session.specs.Session.{sound}
use Rattle.session.specs.Events.{Event, Numbered, step, run}
use Rattle.record.specs.Record.{decoded}
use Rattle.record.specs.Carried.{record_after}

-- octets, each below 256
abbrev pub Octets : List ℕ → Type 0
Octets l = (i : ℕ) → get_or l i 0 < 256

-- the record after events, one after another
abbrev pub record_run : List ℕ → List Event → List ℕ
record_run l [] = l
record_run l (e ∷ es) = record_run (record_after (step (decoded l) e) l) es

-- numbers of 32 bits in each of the events
abbrev pub AllNumbered : List Event → Type 0
AllNumbered [] = Unit {0}
AllNumbered (e ∷ es) = Numbered e × AllNumbered es

-- over any events the record holds the session that the same events lead to, so what is promised of sessions is promised of what the daemon stores
abbrev pub RecordsFollow : Type 0
RecordsFollow =
    (l : List ℕ) (es : List Event) → Octets l → sound (decoded l) ≡ true → AllNumbered es
    → decoded (record_run l es) ≡ run (decoded l) es
