-- The totals of the walk: each is how many sessions permit its kind, and totals of which that holds are these. Place by place. Assumes nothing.
use Prim.Native.Nat.{ℕ, ◌<◌}
use mathlib.Core.Path.{◌≡◌, refl, sym, ap, ◌∙◌}
use mathlib.Core.List.{List}
use lib.ListN.{length}
use lib.Seq.{ext_get_or}
use Rattle.kinds.specs.Kinds.{kind_count}
use Rattle.session.specs.declared.Session.{Session}
use Rattle.totals.specs.declared.Totals.{Totals}
use Rattle.totals.specs.Totals.{total_of}
use Rattle.totals.proofs.Filled.{filled_length, filled_at}
use Rattle.row.specs.Row.{walk, walked, walk_totals}

pub walk_length : (row : List Session) → length (walk_totals row).each ≡ kind_count
unfolding walked
walk_length row = filled_length (walk row) (walked row) (λ m. refl) kind_count

pub walk_at : (row : List Session) (k : ℕ) → k < kind_count → total_of (walk_totals row) k ≡ walk row k
unfolding walked
walk_at row k l = filled_at (walk row) (walked row) (λ m. refl) kind_count k l l

pub are_the_walk : (t : Totals) (row : List Session) → length t.each ≡ kind_count → ((k : ℕ) → k < kind_count → total_of t k ≡ walk row k) → t ≡ walk_totals row
are_the_walk t row long each =
    ap (λ (l : List ℕ). record { each = l })
    (ext_get_or 0 t.each (walk_totals row).each (long ∙ sym (walk_length row)) (λ k l. let small = rw long at l in each k small ∙ sym (walk_at row k small)))
