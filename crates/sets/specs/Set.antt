-- A set of small numbers, as the binary digits of a number: k is in s exactly when digit k of s is 1. One definition for every width, for
-- applications, kinds and Apps alike. Assumes nothing.
use Rattle.std.specs.Prelude.{ℕ, zero, suc, ◌+◌, ◌-◌, ◌/◌, ◌%◌, ◌^◌, ◌≡◌, Bool, true, not, ◌&&◌, eqb, leb, ltb}
use Rattle.std.specs.Int.Bits.{bit_and, bit_or, bit_xor}
use Rattle.std.specs.Int.Count.{count_trailing_zeros}
use Rattle.choice.specs.Pick.{pick}

-- how wide the sets are that the code has, of 16 bits
abbrev pub set_width : ℕ
set_width = 16

-- k is in s
unfoldable pub has : ℕ → ℕ → Bool
has s k = eqb (s / 2 ^ k % 2) 1

-- the set of k alone
abbrev pub one : ℕ → ℕ
one k = 2 ^ k

-- what is in both
unfoldable pub common : ℕ → ℕ → ℕ
common a b = bit_and a b

-- what is in either
unfoldable pub union : ℕ → ℕ → ℕ
union a b = bit_or a b

-- what is in a and not in b
unfoldable pub minus : ℕ → ℕ → ℕ
minus a b = bit_xor a (bit_and a b)

-- s with k, and s without k
unfoldable pub with : ℕ → ℕ → ℕ
with s k = union s (one k)

unfoldable pub without : ℕ → ℕ → ℕ
without s k = minus s (one k)

-- the smallest that is in s, and set_width where nothing is
unfoldable pub first : ℕ → ℕ
first s = count_trailing_zeros set_width s

-- nothing is in s
unfoldable pub empty : ℕ → Bool
empty s = eqb s 0

-- some member of a is one of b
unfoldable pub meets : ℕ → ℕ → Bool
meets a b = not (empty (common a b))

-- each member of a is one of b: as a test, and said of the members
unfoldable pub within : ℕ → ℕ → Bool
within a b = empty (minus a b)

abbrev pub Within : ℕ → ℕ → Type 0
Within a b = (k : ℕ) → has a k ≡ true → has b k ≡ true

-- no member is w or above: no bits beyond the first w
unfoldable pub below : ℕ → ℕ → Bool
below w s = ltb s (2 ^ w)

-- ---- a set of the numbers 1 to w: the number n stands at place n - 1
-- n is one of them
unfoldable pub numbered : ℕ → ℕ → Bool
numbered w n = leb 1 n && leb n w

-- n is one of them and in s
abbrev pub holds : ℕ → ℕ → ℕ → Bool
holds w s n = numbered w n && has s (n - 1)

-- s with n switched on or off; a number that is none of them changes nothing
unfoldable pub switched : ℕ → ℕ → ℕ → Bool → ℕ
switched w s n on = pick (numbered w n) (pick on (with s (n - 1)) (without s (n - 1))) s

-- of the numbers 1 to k, those for which the test holds
unfoldable pub chosen : ℕ → (ℕ → Bool) → ℕ → ℕ
chosen w test zero = 0
chosen w test (suc k) = switched w (chosen w test k) (k + 1) (test (k + 1))
