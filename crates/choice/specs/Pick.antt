-- The choice by a test: every rule of the product is a chain of these. Shut until unfolded, so that a law about it finds its arguments.
-- Assumes nothing.
use Rattle.std.specs.Prelude.{Bool, true, false, not, ◌||◌}

-- the first where the test holds, else the second
unfoldable pub pick : {A : Type 0} → Bool → A → A → A
pick true a b = a
pick false a b = b

-- where the first holds, the second does
abbrev pub only : Bool → Bool → Bool
only a b = not a || b

-- the second holds unless the first does
abbrev pub unless : Bool → Bool → Bool
unless a b = a || b
