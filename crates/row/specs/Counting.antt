-- What one pass over a row finds: whether all are sound, and how many sessions have each member of the set that is theirs, applications or kinds; and what is
-- done with it by value. proofs/Tallied.antt says that it is what specs/Row.antt has. Assumes nothing.
use Rattle.std.specs.Prelude.{ℕ, zero, suc, ◌+◌, ◌-◌, Bool, true, false, ◌&&◌, List, [], ◌∷◌, length, get_or, set, replicate, eqb, ltb, Result}
use Rattle.choice.specs.Pick.{pick}
use Rattle.sets.specs.Set.{has, chosen}
use Rattle.refusals.specs.Refusals.{not_refused, out_of_range, not_sound, told_as}
use Rattle.refusals.specs.declared.Refusal.{Refusal}
use Rattle.kinds.specs.Kinds.{application_count, kind_count, known_application}
use Rattle.message.specs.Message.{room_with}
use Rattle.session.specs.declared.Session.{Session}
use Rattle.session.specs.declared.After.{After}
use Rattle.session.specs.Session.{sound, permitted}
use Rattle.session.specs.Limits.{used}
use Rattle.session.specs.Decisions.{refused}
use Rattle.session.specs.Events.{step}
use Rattle.totals.specs.declared.Totals.{Totals}
use Rattle.totals.specs.declared.Totalled.{Totalled}
use Rattle.totals.specs.Totals.{no_totals, totalled}
use Rattle.row.specs.declared.EventNumbers.{EventNumbers}
use Rattle.row.specs.declared.Limits.{Limits}
use Rattle.row.specs.declared.Counted.{Counted}
use Rattle.row.specs.declared.Counted.TheVariants.{Nothing, Applications, Kinds}
use Rattle.row.specs.declared.Tally.{Tally}
use Rattle.row.specs.declared.Count.{Count}
use Rattle.row.specs.declared.RowTotals.{RowTotals}
use Rattle.row.specs.Limiting.{most_sessions, capped}
use Rattle.row.specs.Events.{initialization_number, event_of, message_in}
use Rattle.row.specs.Row.{how_many, not_counted, not_totalled}

-- ---- what a pass counts: nothing, the applications that sessions use, or the kinds that they permit
abbrev pub nothing_counted : Counted
nothing_counted = Nothing

abbrev pub applications_counted : Counted
applications_counted = Applications

abbrev pub kinds_counted : Counted
kinds_counted = Kinds

-- whether anything is counted
abbrev pub counting : Counted → Bool
counting Nothing = false
counting Applications = true
counting Kinds = true

-- only an Initialization asks for counts
unfoldable pub counted_for : EventNumbers → Counted
counted_for e = pick (eqb e.which initialization_number) applications_counted nothing_counted

-- the set of a session that is counted
abbrev pub noted : Counted → Session → ℕ
noted Nothing s = used s
noted Applications s = used s
noted Kinds s = permitted s

-- how many sessions have k in the set that is theirs
abbrev pub times : (Session → ℕ) → List Session → ℕ → ℕ
times of row k = how_many (λ s. has (of s) k) row

-- ---- counts
-- before the first session
abbrev pub empty_tally : Tally
empty_tally = record { sound = true; counts = replicate application_count 0 }

-- one more where there is one, to 64: a count is compared with a limit, and no limit is over 64
unfoldable pub more : ℕ → Bool → ℕ
more n on = pick (on && ltb n most_sessions) (n + 1) n

-- the first k counts brought up to date by a set
unfoldable pub counted : List ℕ → ℕ → ℕ → List ℕ
counted counts members zero = counts
counted counts members (suc k) = set (counted counts members k) k (more (get_or counts k 0) (has members k))

unfoldable pub tally : (Session → ℕ) → Tally → Session → Tally
tally of t s = record { sound = t.sound && sound s; counts = counted t.counts (of s) application_count }

-- the whole row, one after another
unfoldable pub tallied : (Session → ℕ) → Tally → List Session → Tally
tallied of t [] = t
tallied of t (s ∷ row) = tallied of (tally of t s) row

-- the applications whose count is below its limit
abbrev pub is_below : List ℕ → List ℕ → ℕ → Bool
is_below counts limits n = ltb (get_or counts (n - 1) 0) (capped (get_or limits (n - 1) 0))

unfoldable pub below_limit_by : Tally → Limits → ℕ
below_limit_by t l = chosen application_count (is_below t.counts l.each) application_count

-- an event of one session of the row, by what the pass found
unfoldable pub decided_by : Session → Tally → EventNumbers → Limits → List ℕ → ℕ → After
decided_by s t e l area room = pick t.sound (step s (event_of e (below_limit_by t l) area room)) (refused s not_sound)

-- with the totals that are kept with the row
abbrev pub totalled_by : Session → Tally → EventNumbers → Limits → Totals → List ℕ → ℕ → Totalled
totalled_by s t e l u area room = totalled u s (decided_by s t e l area room)

-- the room after it
unfoldable pub room_by : Session → Tally → EventNumbers → Limits → Totals → List ℕ → List ℕ → List ℕ
room_by s t e l u area room = room_with (totalled_by s t e l u area (length room)).answer.answer.written (message_in e s) room

-- how many sessions of the row use the application n
unfoldable pub count_by : Tally → ℕ → Count
count_by t n =
    pick t.sound
    (pick (known_application n) (record { refusal = not_refused; count = get_or t.counts (n - 1) 0 }) (not_counted out_of_range))
    (not_counted not_sound)

-- what is answered, as C has it
abbrev pub told_count : Result ℕ Refusal → Count
told_count = told_as (λ n. record { refusal = not_refused; count = n }) not_counted

-- ---- how many permit each kind
-- the first k of the counts
unfoldable pub leading_counts : List ℕ → ℕ → List ℕ
leading_counts counts zero = no_totals.each
leading_counts counts (suc k) = set (leading_counts counts k) k (get_or counts k 0)

unfoldable pub recount_by : Tally → RowTotals
recount_by t = pick t.sound (record { refusal = not_refused; totals = record { each = leading_counts t.counts kind_count } }) (not_totalled not_sound)

-- what is answered, as C has it
abbrev pub told_totals : Result Totals Refusal → RowTotals
told_totals = told_as (λ t. record { refusal = not_refused; totals = t }) not_totalled
