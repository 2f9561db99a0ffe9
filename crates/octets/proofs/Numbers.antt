-- A number of 16 or 32 bits, put into octets and read back, is the number, and so is a top bit; octets read as a number and put back are the
-- octets. Assumes nothing.
use Prim.Native.Nat.{ℕ, ◌+◌, ◌*◌, ◌/◌, ◌%◌, ◌<◌}
use mathlib.Core.Path.{◌≡◌, refl}
use mathlib.Core.Bool.{Bool, true, false}
use native.Mathlib.Omega.{arith}
use Rattle.std.proofs.lemmas.Nat.{from_le_bytes-to_le_bytes_4}
use Rattle.choice.specs.Pick.{pick}
use Rattle.octets.specs.Octets.{top_bit, has_top_bit}

pub back16 : (x : ℕ) → x < 65536 → x % 256 + 256 * (x / 256 % 256) ≡ x
back16 x h = omega arith

-- the same with the most significant octet first
pub forth16 : (x : ℕ) → x < 65536 → x / 256 % 256 * 256 + x % 256 ≡ x
forth16 x h = omega arith

-- the top bit of an octet that was made for it
pub top_back : (on : Bool) → has_top_bit (top_bit on) ≡ on
unfolding pick
top_back true = refl
top_back false = refl

pub back32 : (x : ℕ) → x < 4294967296
    → x % 256 + 256 * (x / 256 % 256) + 65536 * (x / 65536 % 256) + 16777216 * (x / 16777216 % 256) ≡ x
back32 x h = omega (arith, from_le_bytes-to_le_bytes_4 x h)

-- ---- the octets of a number that was read from octets
module _ (a b : ℕ) (a< : a < 256) (b< : b < 256) where
  pub two_0 : (a + 256 * b) % 256 ≡ a
  two_0 = omega arith

  pub two_1 : (a + 256 * b) / 256 % 256 ≡ b
  two_1 = omega arith

module _ (a b c d : ℕ) (a< : a < 256) (b< : b < 256) (c< : c < 256) (d< : d < 256) where
  pub four_0 : (a + 256 * b + 65536 * c + 16777216 * d) % 256 ≡ a
  four_0 = omega arith

  pub four_1 : (a + 256 * b + 65536 * c + 16777216 * d) / 256 % 256 ≡ b
  four_1 = omega arith

  pub four_2 : (a + 256 * b + 65536 * c + 16777216 * d) / 65536 % 256 ≡ c
  four_2 = omega arith

  pub four_3 : (a + 256 * b + 65536 * c + 16777216 * d) / 16777216 % 256 ≡ d
  four_3 = omega arith
