-- Each operation stays within the width of its sets, and `below` is the test for a set within a width. From the bounds of the digit
-- operations. Assumes nothing.
use mathlib.Core.Path.{◌≡◌}
use mathlib.Core.Bool.{true}
use Prim.Native.Nat.{ℕ, ◌^◌, ◌<◌}
use native.Mathlib.Nat.{lt_of_le_of_lt}
use lib.Pow.{pow-lt}
use lib.Bits.{bit_and, and_le_l, or_lt, xor_lt}
use borrow.Author.Tests.{ltb-true, lt-ltb}
use Rattle.sets.specs.Set.{one, common, union, minus, with, without, below}

module _ (w a : ℕ) where
  pub below_lt : below w a ≡ true → a < 2 ^ w
  unfolding below
  below_lt = ltb-true a (2 ^ w)

  pub lt_below : a < 2 ^ w → below w a ≡ true
  unfolding below
  lt_below = lt-ltb a (2 ^ w)

  pub common_lt : (b : ℕ) → a < 2 ^ w → common a b < 2 ^ w
  unfolding common
  common_lt b h = lt_of_le_of_lt (and_le_l a b) h

  pub union_lt : (b : ℕ) → a < 2 ^ w → b < 2 ^ w → union a b < 2 ^ w
  unfolding union
  union_lt b h k = or_lt w a b h k

  pub minus_lt : (b : ℕ) → a < 2 ^ w → minus a b < 2 ^ w
  unfolding minus
  minus_lt b h = xor_lt w a (bit_and a b) h (lt_of_le_of_lt (and_le_l a b) h)

  pub with_lt : (k : ℕ) → a < 2 ^ w → k < w → with a k < 2 ^ w
  unfolding with
  with_lt k h l = union_lt (one k) h (pow-lt l)

  pub without_lt : (k : ℕ) → a < 2 ^ w → without a k < 2 ^ w
  unfolding without
  without_lt k h = minus_lt (one k) h
