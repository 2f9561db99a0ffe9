-- A reading says what was found or refused: no two are told alike. Assumes nothing.
use Rattle.std.proofs.Common.{◌≡◌, refl, Result}
use Rattle.refusals.specs.declared.Refusal.{Refusal}
use Rattle.refusals.proofs.Told.{told_same}
use Rattle.area.specs.declared.Found.{Found}
use Rattle.area.specs.declared.Reading.{Reading}
use Rattle.area.specs.Found.{refused, told, reading_of}

found_of : Reading → Found
found_of z = record { dynamic = z.dynamic; capabilities = z.capabilities; holding = z.holding; tac = z.tac; sac = z.sac }

pub reading_same : (r s : Result Found Refusal) → reading_of r ≡ reading_of s → r ≡ s
unfolding found_of
reading_same = told_same told refused (λ z. z.refusal) found_of (λ f. refl) (λ n. refl) (λ f. refl)
