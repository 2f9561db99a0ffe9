-- One turn of the reader's loop, said of `read_from`: at the end nothing is left, a refusal is the answer, and else the reading goes on after the
-- TLV. By cases on the number of TLVs that may still be read. Assumes nothing.
use Prim.Native.Nat.{ℕ, zero, suc, ◌+◌, ◌-◌, ◌≤◌, ◌<◌}
use native.Mathlib.Omega.{arith}
use mathlib.Core.Path.{◌≡◌, refl}
use mathlib.Core.List.{List}
use lib.ListN.{length}
use borrow.Author.Tests.{ltb-false, le-leb, lt-leb, eq-eqb, ne_eqb}
use Rattle.refusals.specs.Refusals.{not_refused}
use Rattle.choice.specs.Pick.{pick}
use Rattle.choice.proofs.Branch.{by_test}
use Rattle.area.specs.declared.Reading.{Reading}
use Rattle.area.specs.Area.{head_length, at16, tlv_at, next_at, read_from}

-- a TLV that is not refused lies within the area
fits : (a : List ℕ) (at : ℕ) (r : Reading) → at ≤ length a → (tlv_at a at r).refusal ≡ not_refused → next_at a at ≤ length a
unfolding tlv_at
fits a at r h =
    by_test P (λ p e. omega arith)
    (λ p. by_test P (λ q e. omega arith)
    (λ q e. omega (arith, ltb-false (length a - at) head_length p, ltb-false (length a - at - head_length) (at16 a (at + 2)) q)))
  where
    P : Reading → Type 0
    P s = s.refusal ≡ not_refused → next_at a at ≤ length a

pub done : (n : ℕ) (a : List ℕ) (at : ℕ) (r : Reading) → length a ≤ at → read_from n a at r ≡ r
unfolding read_from pick
done zero a at r h = refl
done (suc n) a at r h = simp (le-leb _ _ h)

pub stop : (n : ℕ) (a : List ℕ) (at : ℕ) (r : Reading) → at < length a → length a ≤ at + n → ((tlv_at a at r).refusal ≡ not_refused → ⊥)
    → read_from n a at r ≡ tlv_at a at r
unfolding read_from pick
stop zero a at r h k e = absurd (omega arith)
stop (suc n) a at r h k e = simp (lt-leb _ _ h, ne_eqb _ _ e)

-- what the loop knows at `at`: the TLVs that may still be read suffice, and reading on from here gives the whole
pub record Reads (a : List ℕ) (at : ℕ) (r : Reading) (whole : Reading) : Type 0 where
  pub more : ℕ
  pub inside : at ≤ length a
  pub enough : length a ≤ at + more
  pub same : read_from more a at r ≡ whole

pub onward : (a : List ℕ) (at : ℕ) (r whole : Reading) → at < length a → Reads a at r whole → (tlv_at a at r).refusal ≡ not_refused
    → Reads a (next_at a at) (tlv_at a at r) whole
unfolding read_from pick
onward a at r whole h i e = go i.more i.enough i.same
  where
    go : (n : ℕ) → length a ≤ at + n → read_from n a at r ≡ whole → Reads a (next_at a at) (tlv_at a at r) whole
    go zero k s = absurd (omega arith)
    go (suc n) k s =
        record {
          more = n;
          inside = fits a at r (omega arith) e;
          enough = omega arith;
          same = simp (lt-leb _ _ h, eq-eqb _ _ e) at s;
        }
