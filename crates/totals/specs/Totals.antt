-- Ten totals kept with a row: how many of its sessions permit each kind, "brought up to date from what each event lost and gained". Assumes nothing.
use Rattle.std.specs.Prelude.{ℕ, zero, suc, ◌+◌, ◌-◌, Bool, false, ◌&&◌, ◌||◌, List, get_or, set, replicate, eqb, ltb, Result, Ok, Err}
use Rattle.choice.specs.Pick.{pick}
use Rattle.sets.specs.Set.{has}
use Rattle.refusals.specs.declared.Refusal.{Refusal}
use Rattle.refusals.specs.declared.Refusal.TheVariants.{TotalOutside}
use Rattle.refusals.specs.Refusals.{not_refused, out_of_range, total_outside, told_as}
use Rattle.kinds.specs.Kinds.{kind_count}
use Rattle.session.specs.declared.Session.{Session}
use Rattle.session.specs.declared.After.{After}
use Rattle.session.specs.Decisions.{refused}
use Rattle.totals.specs.declared.Totals.{Totals}
use Rattle.totals.specs.declared.Total.{Total}
use Rattle.totals.specs.declared.Totalled.{Totalled}

-- kind k at place k
abbrev pub total_of : Totals → ℕ → ℕ
total_of t k = get_or t.each k 0

-- "totals of 0"
abbrev pub no_totals : Totals
no_totals = record { each = replicate kind_count 0 }

-- "0 to 64"
abbrev pub highest_total : ℕ
highest_total = 64

-- ---- one total
-- one less where its kind is lost, one more where it is gained
unfoldable pub total_after : ℕ → Bool → Bool → ℕ
total_after n lost gained = pick lost (n - 1) (pick gained (n + 1) n)

-- "would take a total outside 0 to 64", which is asked only where its kind is lost or gained
unfoldable pub goes_outside : ℕ → Bool → Bool → Bool
goes_outside n lost gained = pick lost (eqb n 0 || ltb highest_total (n - 1)) (gained && ltb highest_total (n + 1))

-- ---- all of them
-- the first k brought up to date
unfoldable pub moved_each : List ℕ → ℕ → ℕ → ℕ → List ℕ
moved_each each lost gained zero = each
moved_each each lost gained (suc k) = set (moved_each each lost gained k) k (total_after (get_or each k 0) (has lost k) (has gained k))

-- one of the first k goes outside
unfoldable pub one_outside : List ℕ → ℕ → ℕ → ℕ → Bool
one_outside each lost gained zero = false
one_outside each lost gained (suc k) = one_outside each lost gained k || goes_outside (get_or each k 0) (has lost k) (has gained k)

unfoldable pub totals_after : Totals → ℕ → ℕ → Totals
totals_after t lost gained = record { each = moved_each t.each lost gained kind_count }

unfoldable pub any_outside : Totals → ℕ → ℕ → Bool
any_outside t lost gained = one_outside t.each lost gained kind_count

-- both together: none where one goes outside
unfoldable pub moved_totals : Totals → ℕ → ℕ → Result Totals Refusal
moved_totals t lost gained = pick (any_outside t lost gained) (Err TotalOutside) (Ok (totals_after t lost gained))

-- ---- an event of a session of the row, with its totals
-- "last, 16": session and totals stay, and nothing is lost, gained or written
unfoldable pub totalled : Totals → Session → After → Totalled
totalled t before after =
    pick (any_outside t after.answer.lost after.answer.gained)
    (record { session = before; answer = record { answer = (refused before total_outside).answer; totals = t } })
    (record { session = after.session; answer = record { answer = after.answer; totals = totals_after t after.answer.lost after.answer.gained } })

-- ---- the question: "6 for a kind over 9"
unfoldable pub kind_total : Totals → ℕ → Total
kind_total t kind = pick (ltb kind kind_count) (record { refusal = not_refused; total = total_of t kind }) (record { refusal = out_of_range; total = 0 })

-- what is answered, as C has it
abbrev pub told_total : Result ℕ Refusal → Total
told_total = told_as (λ n. record { refusal = not_refused; total = n }) (λ r. record { refusal = r; total = 0 })
