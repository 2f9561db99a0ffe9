-- What two octets have in common, what they are together and what is left of one are octets: the bounds of the operations on sets, at 8 bits. Assumes nothing.
use Rattle.std.proofs.Common.{◌≡◌, ℕ, ◌<◌, Fits, w8}
use Rattle.sets.specs.Set.{common, union, minus}
use Rattle.sets.proofs.Bounds.{common_lt, union_lt, minus_lt}

module _ (n a b : ℕ) where
  pub common_fits : n ≡ common a b → a < 256 → Fits w8 n
  common_fits e h = rw e (record { fits = common_lt 8 a b h })

  pub union_fits : n ≡ union a b → a < 256 → b < 256 → Fits w8 n
  union_fits e h k = rw e (record { fits = union_lt 8 a b h k })

  pub minus_fits : n ≡ minus a b → a < 256 → Fits w8 n
  minus_fits e h = rw e (record { fits = minus_lt 8 a b h })
