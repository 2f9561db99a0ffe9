-- What is in a set made by each operation, and that a set is told by its members: each law once, for every width. An operation on the binary
-- digits goes member by member, so each law is the operation's table on two digits. Assumes nothing.
use mathlib.Core.Path.{◌≡◌, refl, sym, ap, ap₂, ◌∙◌}
use mathlib.Core.Bool.{Bool, true, false, not, ◌&&◌, ◌||◌, or-true, or-false, and-true, and-false, true≢false}
use Prim.Native.Nat.{ℕ, zero, suc, ◌+◌, ◌-◌, ◌*◌, ◌/◌, ◌%◌, ◌^◌, ◌<◌, ◌≤◌, suc-le-suc, zero-le}
use native.Mathlib.Nat.{mod-lt, zero-lt-suc, le_of_suc-le-suc, not-suc-le-zero, pow-suc, div-add-mod', div-one, zero-div, div-eq_of_lt, div_self, lt_of_lt_of_le, mul-mod_left, mul-div_cancel}
use native.Mathlib.Numerals.{one-add, add-one}
use native.Mathlib.Omega.{arith}
use native.Mathlib.Decide.{dec_lt, ℕ_discrete}
use lib.Dec.{eqb}
use lib.Pow.{shr-shr, shr_lt, pow_pos, pow-lt, pow_mono}
use lib.Bits.{bit_and, bit_or, bit_xor, and_shr, or_shr, xor_shr, and_mod, or_mod, xor_mod, or_zero_r, or_lt, and_comm, and_self, xor_add_and}
use Rattle.std.proofs.lemmas.Nat.{and-not, and_assoc}
use Rattle.choice.specs.Pick.{pick}
use Rattle.sets.specs.Set.{set_width, has, one, common, union, minus, with, without}

-- ---- an operation that goes digit by digit goes member by member
module _ (op : ℕ → ℕ → ℕ) (f : Bool → Bool → Bool)
    (shr : (a b k : ℕ) → op a b / 2 ^ k ≡ op (a / 2 ^ k) (b / 2 ^ k))
    (low : (a b k : ℕ) → op a b % 2 ^ k ≡ op (a % 2 ^ k) (b % 2 ^ k))
    (digit : (x y : ℕ) → x < 2 → y < 2 → eqb (op x y) 1 ≡ f (eqb x 1) (eqb y 1)) where
  has_op : (a b k : ℕ) → has (op a b) k ≡ f (has a k) (has b k)
  unfolding has
  has_op a b k =
      ap (λ (n : ℕ). eqb (n % 2) 1) (shr a b k)
      ∙ ap (λ (n : ℕ). eqb n 1) (low (a / 2 ^ k) (b / 2 ^ k) 1)
      ∙ digit (a / 2 ^ k % 2) (b / 2 ^ k % 2) (mod-lt (a / 2 ^ k) (zero-lt-suc 1)) (mod-lt (b / 2 ^ k) (zero-lt-suc 1))

-- what holds of the four pairs of digits
digits : (P : ℕ → ℕ → Type 0) → P 0 0 → P 0 1 → P 1 0 → P 1 1 → (x y : ℕ) → x < 2 → y < 2 → P x y
digits P a b c d zero zero h k = a
digits P a b c d zero (suc zero) h k = b
digits P a b c d (suc zero) zero h k = c
digits P a b c d (suc zero) (suc zero) h k = d
digits P a b c d zero (suc (suc y)) h k = absurd (omega arith)
digits P a b c d (suc zero) (suc (suc y)) h k = absurd (omega arith)
digits P a b c d (suc (suc x)) y h k = absurd (omega arith)

pub has_common : (a b k : ℕ) → has (common a b) k ≡ has a k && has b k
unfolding common
has_common = has_op bit_and ◌&&◌ and_shr and_mod (digits (λ (x y : ℕ). eqb (bit_and x y) 1 ≡ eqb x 1 && eqb y 1) refl refl refl refl)

pub has_union : (a b k : ℕ) → has (union a b) k ≡ has a k || has b k
unfolding union
has_union = has_op bit_or ◌||◌ or_shr or_mod (digits (λ (x y : ℕ). eqb (bit_or x y) 1 ≡ eqb x 1 || eqb y 1) refl refl refl refl)

abbrev unlike : Bool → Bool → Bool
unlike true b = not b
unlike false b = b

has_xor : (a b k : ℕ) → has (bit_xor a b) k ≡ unlike (has a k) (has b k)
has_xor = has_op bit_xor unlike xor_shr xor_mod (digits (λ (x y : ℕ). eqb (bit_xor x y) 1 ≡ unlike (eqb x 1) (eqb y 1)) refl refl refl refl)

unlike_and : (x y : Bool) → unlike x (x && y) ≡ x && not y
unlike_and true y = refl
unlike_and false y = refl

pub has_minus : (a b k : ℕ) → has (minus a b) k ≡ has a k && not (has b k)
unfolding minus common
has_minus a b k = has_xor a (bit_and a b) k ∙ ap (unlike (has a k)) (has_common a b k) ∙ unlike_and (has a k) (has b k)

-- `a & !b` is what is in a and not in b
pub minus_is : (a b : ℕ) → a < 65536 → b < 65536 → bit_and a (65535 - b) ≡ minus a b
unfolding minus
minus_is a b ha hb =
    let both : bit_and a (bit_and a b) ≡ bit_and a b = sym (and_assoc b a a) ∙ ap (λ (n : ℕ). bit_and n b) (and_self a) in
    omega (arith, and-not set_width b a hb ha, and_comm a (65535 - b), and_comm b a, xor_add_and a (bit_and a b))

-- ---- a set is told by its members
-- the empty set has none
pub has_none : (k : ℕ) → has 0 k ≡ false
unfolding has
has_none k = simp zero-div

-- a set that a test picks, or else none, has its members where the test holds
pub has_pick : (x : Bool) (a k : ℕ) → has (pick x a 0) k ≡ x && has a k
unfolding pick
has_pick true a k = refl
has_pick false a k = has_none k

same_digit : (x y : ℕ) → x < 2 → y < 2 → eqb x 1 ≡ eqb y 1 → x ≡ y
same_digit = digits (λ (x y : ℕ). eqb x 1 ≡ eqb y 1 → x ≡ y) (λ e. refl) (λ e. cc) (λ e. cc) (λ e. refl)

-- the members of the half are the members above 0
pub has_half : (a k : ℕ) → has (a / 2) k ≡ has a (suc k)
unfolding has
has_half a k = ap (λ (n : ℕ). eqb (n % 2) 1) (shr-shr a 1 k ∙ ap (λ (n : ℕ). a / 2 ^ n) (one-add k))

pub has_zeroth : (a : ℕ) → has a 0 ≡ eqb (a % 2) 1
unfolding has
has_zeroth a = ap (λ (n : ℕ). eqb (n % 2) 1) (div-one a)

pub half_lt : (a w : ℕ) → a < 2 ^ suc w → a / 2 < 2 ^ w
half_lt a w h = shr_lt w 1 (rw add-one h)

-- two sets with the same members below the width are one
pub ext : (w a b : ℕ) → a < 2 ^ w → b < 2 ^ w → ((k : ℕ) → k < w → has a k ≡ has b k) → a ≡ b
ext zero a b ha hb h = omega arith
ext (suc w) a b ha hb h =
    sym (div-add-mod' a 2)
    ∙ ap₂ (λ (x y : ℕ). x * 2 + y)
    (ext w (a / 2) (b / 2) (half_lt a w ha) (half_lt b w hb) (λ k lt. has_half a k ∙ h (suc k) (suc-le-suc lt) ∙ sym (has_half b k)))
    (same_digit (a % 2) (b % 2) (mod-lt a (zero-lt-suc 1)) (mod-lt b (zero-lt-suc 1))
    (sym (has_zeroth a) ∙ h zero (suc-le-suc zero-le) ∙ has_zeroth b))
    ∙ div-add-mod' b 2

-- at its width and above a set has no member
pub has_above : (w a k : ℕ) → a < 2 ^ w → w ≤ k → has a k ≡ false
unfolding has
has_above w a k h l = ap (λ (n : ℕ). eqb (n % 2) 1) (div-eq_of_lt (lt_of_lt_of_le h (pow_mono l)))

-- so none of the code's sets has one at 16 or above
pub beyond : (s k : ℕ) → s < 65536 → set_width ≤ k → false ≡ has s k
beyond s k small l = sym (has_above set_width s k small l)

-- so a member is below the width
pub has_lt : (w a k : ℕ) → a < 2 ^ w → has a k ≡ true → k < w
has_lt w a k h e = go (dec_lt k w)
  where
    go : Dec (k < w) → k < w
    go (yes l) = l
    go (no l) = absurd (true≢false (sym e ∙ has_above w a k h (omega arith)))

-- ---- one member more or less
has_one_same : (k : ℕ) → has (one k) k ≡ true
unfolding has
has_one_same k = ap (λ (n : ℕ). eqb (n % 2) 1) (div_self (pow_pos k))

has_one_below : (j k : ℕ) → k < j → has (one j) k ≡ false
has_one_below zero k h = absurd (not-suc-le-zero h)
has_one_below (suc j) zero h = has_zeroth (one (suc j)) ∙ ap (λ (n : ℕ). eqb (n % 2) 1) (pow-suc 2 j) ∙ ap (λ (n : ℕ). eqb n 1) (mul-mod_left (2 ^ j) 2)
has_one_below (suc j) (suc k) h =
    sym (has_half (one (suc j)) k) ∙ ap (λ (n : ℕ). has n k) (ap (λ (n : ℕ). n / 2) (pow-suc 2 j) ∙ mul-div_cancel (2 ^ j) (zero-lt-suc 1))
    ∙ has_one_below j k (le_of_suc-le-suc h)

has_one_other : (j k : ℕ) → (j ≡ k → ⊥) → has (one j) k ≡ false
has_one_other j k h = go (dec_lt k j)
  where
    go : Dec (k < j) → has (one j) k ≡ false
    go (yes l) = has_one_below j k l
    go (no l) = has_above (suc j) (one j) k (pow-lt (omega arith)) (omega arith)

module _ (s k : ℕ) where
  pub has_with_same : has (with s k) k ≡ true
  unfolding with
  has_with_same = has_union s (one k) k ∙ ap (λ (b : Bool). has s k || b) (has_one_same k) ∙ or-true (has s k)

  pub has_with_other : (j : ℕ) → (k ≡ j → ⊥) → has (with s k) j ≡ has s j
  unfolding with
  has_with_other j h = has_union s (one k) j ∙ ap (λ (b : Bool). has s j || b) (has_one_other k j h) ∙ or-false (has s j)

  pub has_without_same : has (without s k) k ≡ false
  unfolding without
  has_without_same = has_minus s (one k) k ∙ ap (λ (b : Bool). has s k && not b) (has_one_same k) ∙ and-false (has s k)

  pub has_without_other : (j : ℕ) → (k ≡ j → ⊥) → has (without s k) j ≡ has s j
  unfolding without
  has_without_other j h = has_minus s (one k) j ∙ ap (λ (b : Bool). has s j && not b) (has_one_other k j h) ∙ and-true (has s j)

-- ---- nothing more
pub union_none : (a : ℕ) → union a 0 ≡ a
unfolding union
union_none a = or_zero_r a

-- ---- the set of all below the width
odd_of : (x : ℕ) → 0 < x → (x * 2 - 1) % 2 ≡ 1
odd_of x h = omega arith

half_of : (x : ℕ) → 0 < x → (x * 2 - 1) / 2 ≡ x - 1
half_of x h = omega arith

pub has_all : (w k : ℕ) → k < w → has (2 ^ w - 1) k ≡ true
has_all zero k h = absurd (not-suc-le-zero h)
has_all (suc w) zero h =
    has_zeroth (2 ^ suc w - 1) ∙ ap (λ (n : ℕ). eqb ((n - 1) % 2) 1) (pow-suc 2 w) ∙ ap (λ (n : ℕ). eqb n 1) (odd_of (2 ^ w) (pow_pos w))
has_all (suc w) (suc k) h =
    sym (has_half (2 ^ suc w - 1) k)
    ∙ ap (λ (n : ℕ). has ((n - 1) / 2) k) (pow-suc 2 w)
    ∙ ap (λ (n : ℕ). has n k) (half_of (2 ^ w) (pow_pos w))
    ∙ has_all w k (le_of_suc-le-suc h)

-- a member more that is one already is nothing more
pub with_has : (w s k : ℕ) → s < 2 ^ w → k < w → has s k ≡ true → with s k ≡ s
unfolding with union
with_has w s k small l h = ext w (with s k) s (or_lt w s (one k) small (pow-lt l)) small (λ j _. go j (ℕ_discrete k j))
  where
    go : (j : ℕ) → Dec (k ≡ j) → has (with s k) j ≡ has s j
    go j (yes e) = rw (← e) (has_with_same s k ∙ sym h)
    go j (no e) = has_with_other s k j e
