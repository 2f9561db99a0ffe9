-- "A limit per application, 0 to 64 (64 until set)". Assumes nothing.
use Rattle.std.specs.Prelude.{ℕ, ◌-◌, get_or, set, replicate, leb, Result}
use Rattle.choice.specs.Pick.{pick}
use Rattle.refusals.specs.Refusals.{not_refused, out_of_range, limit_too_high, told_as}
use Rattle.refusals.specs.declared.Refusal.{Refusal}
use Rattle.kinds.specs.Kinds.{application_count, known_application}
use Rattle.row.specs.declared.Limits.{Limits}
use Rattle.row.specs.declared.Limited.{Limited}

-- "up to 64 sessions", and so the highest limit
abbrev pub most_sessions : ℕ
most_sessions = 64

-- "64 until set"
abbrev pub no_limits : Limits
no_limits = record { each = replicate application_count most_sessions }

-- "a handed-in limit over 64 acts as 64"
unfoldable pub capped : ℕ → ℕ
capped limit = pick (leb limit most_sessions) limit most_sessions

-- the limit of the application n
abbrev pub limit_of : Limits → ℕ → ℕ
limit_of l n = capped (get_or l.each (n - 1) 0)

-- refused, the limits as they were handed in
abbrev pub not_set : Limits → ℕ → Limited
not_set l refusal = record { refusal = refusal; limits = l }

-- "setting a limit: 6, then 12 for one over 64"
unfoldable pub limited : Limits → ℕ → ℕ → Limited
limited l n limit =
    pick (known_application n)
    (pick (leb limit most_sessions) (record { refusal = not_refused; limits = record { each = set l.each (n - 1) limit } }) (not_set l limit_too_high))
    (not_set l out_of_range)

-- what is answered, as C has it: on a refusal the limits are as they were handed in
abbrev pub told_limited : Limits → Result Limits Refusal → Limited
told_limited before = told_as (λ l. record { refusal = not_refused; limits = l }) (not_set before)
