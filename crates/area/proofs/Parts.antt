-- The values of TAC and SAC are parts of the area that was read, after a refusal they have no octets, a refusal is one of 1 to 5, and the capabilities found are
-- of the three. What one TLV keeps of a reading the whole reading has, so each fact is shown of what is found with each of our types. Assumes nothing.
use Prim.Native.Nat.{ℕ, zero, suc, ◌+◌, ◌-◌, ◌^◌, ◌≤◌, ◌<◌}
use native.Mathlib.Omega.{arith}
use native.Mathlib.Nat.{le_refl}
use mathlib.Core.Path.{refl}
use mathlib.Core.List.{List, [], ◌∷◌}
use lib.ListN.{length}
use lib.Dec.{lit≤, lit<}
use borrow.Author.Tests.{ltb-false, leb-false}
use Rattle.refusals.specs.Refusals.{not_refused, area_too_long, cut_short, unknown_type, repeated}
use Rattle.choice.proofs.Branch.{by_test}
use Rattle.sets.proofs.Switches.{switched_lt}
use Rattle.kinds.specs.Kinds.{p2mp, mp2mp, hsmp, capability_count}
use Rattle.area.specs.declared.Span.{Span}
use Rattle.area.specs.declared.Reading.{Reading}
use mathlib.Core.Bool.{Bool, true}
use Rattle.area.specs.Found.{refused, nothing_found, with_capability}
use Rattle.area.specs.Parts.{Inside, Bare, PartsInside, NothingAfterRefusal}
use Rattle.area.specs.Area.{area_most, head_length, OurType, our_types, at16, take_tlv, pass_other, among, by_type, tlv_at, next_at, read_from, read_area}

-- what holds of every refusal and of what is found with each of our types holds of the whole reading
module _ (P : List ℕ → Reading → Type 0) (none : (a : List ℕ) (n : ℕ) → n ≤ repeated → P a (refused n)) where
  abbrev Keeps : List OurType → Type 0
  Keeps [] = Unit {0}
  Keeps (t ∷ ts) = ((a : List ℕ) (value : Span) (s : Bool) (r : Reading) → value.start + value.len ≤ length a → P a r → P a (t.found value s r)) × Keeps ts

  of_types : (ts : List OurType) → Keeps ts → (a : List ℕ) (head : ℕ) (value : Span) (s : Bool) (r : Reading) → value.start + value.len ≤ length a → P a r
      → P a (among ts head value s r)
  unfolding take_tlv pass_other
  of_types [] k a head value s r h w = by_test (P a) (λ _. w) (λ _. none a unknown_type (lit≤ tt))
  of_types (t ∷ ts) k a head value s r h w =
      by_test (P a)
      (λ _. by_test (P a) (λ _. none a _ (lit≤ tt)) (λ _. by_test (P a) (λ _. none a _ (lit≤ tt)) (λ _. k.0 a value s r h w)))
      (λ _. of_types ts k.1 a head value s r h w)

  module _ (keeps : Keeps our_types) where
    tlv : (a : List ℕ) (at : ℕ) (r : Reading) → at < length a → P a r → P a (tlv_at a at r)
    unfolding tlv_at by_type
    tlv a at r h w =
        by_test (P a) (λ _. none a cut_short (lit≤ tt))
        (λ p. by_test (P a) (λ _. none a cut_short (lit≤ tt))
        (λ q. of_types our_types keeps a (at16 a at) (record { start = at + head_length; len = at16 a (at + 2) }) _ r
        (omega (arith, ltb-false (length a - at) head_length p, ltb-false (length a - at - head_length) (at16 a (at + 2)) q)) w))

    from : (n : ℕ) (a : List ℕ) (at : ℕ) (r : Reading) → P a r → P a (read_from n a at r)
    unfolding read_from
    from zero a at r w = w
    from (suc n) a at r w =
        by_test (P a) (λ _. w)
        (λ p. let t : P a (tlv_at a at r) = tlv a at r (leb-false (length a) at p) w in
        by_test (P a) (λ _. from n a (next_at a at) (tlv_at a at r) t) (λ _. t))

    whole : (a : List ℕ) → P a (read_area a)
    unfolding read_area
    whole a = by_test (P a) (λ _. none a area_too_long (lit≤ tt)) (λ _. from (length a) a 0 nothing_found (none a not_refused (lit≤ tt)))

abbrev Within-area : List ℕ → Reading → Type 0
Within-area a r = Inside (length a) r

none_inside : (a : List ℕ) (n : ℕ) → n ≤ repeated → Within-area a (refused n)
none_inside a n _ = omega arith

inside : (a : List ℕ) → Within-area a (read_area a)
inside = whole Within-area none_inside
    (λ a v s r h w. omega arith, (λ a v s r h w. omega arith, (λ a v s r h w. omega arith, (λ a v s r h w. omega arith, (λ a v s r h w. omega arith, (λ a v s r h w. omega arith, tt))))))

-- a part of an area that is read lies within the most octets of one
small : (a : List ℕ) → Inside area_most (read_area a)
unfolding read_area
small a = go (inside a)
  where
    go : Within-area a (read_area a) → Inside area_most (read_area a)
    go = by_test (λ (r : Reading). Within-area a r → Inside area_most r) (λ _ i. record { tac = omega arith; sac = omega arith })
        (λ h i. let l = ltb-false area_most (length a) h in
        record { tac = omega (arith, i.tac); sac = omega (arith, i.sac) })

pub parts_inside : PartsInside
parts_inside a = (inside a, small a)

pub nothing_after_refusal : NothingAfterRefusal
nothing_after_refusal =
    whole (λ a r. Bare r) (λ a n _ h. refl)
    (λ a v s r h w n. absurd (n refl), (λ a v s r h w n. absurd (n refl), (λ a v s r h w n. absurd (n refl), (λ a v s r h w n. absurd (n refl), (λ a v s r h w n. absurd (n refl), (λ a v s r h w n. absurd (n refl), tt))))))

-- one of the five, or none
pub read_refusal : (a : List ℕ) → (read_area a).refusal ≤ repeated
read_refusal = whole (λ a r. r.refusal ≤ repeated) (λ a n l. l)
    (λ a v s r h w. lit≤ tt, (λ a v s r h w. lit≤ tt, (λ a v s r h w. lit≤ tt, (λ a v s r h w. lit≤ tt, (λ a v s r h w. lit≤ tt, (λ a v s r h w. lit≤ tt, tt))))))

-- the sets of capabilities have no bits beyond the three
pub record Few (r : Reading) : Type 0 where
  pub present : r.capabilities < 2 ^ capability_count
  pub held : r.holding < 2 ^ capability_count

few_with : (n : ℕ) (a : List ℕ) (value : Span) (s : Bool) (r : Reading) → value.start + value.len ≤ length a → Few r → Few (with_capability n value s r)
few_with n a value s r h w =
    record {
      present = switched_lt capability_count r.capabilities n true capability_count (le_refl capability_count) w.present;
      held = switched_lt capability_count r.holding n s capability_count (le_refl capability_count) w.held;
    }

pub few : (a : List ℕ) → Few (read_area a)
few =
    whole (λ a r. Few r) (λ a n _. record { present = lit< tt; held = lit< tt })
    (λ a v s r h w. record { present = w.present; held = w.held }, (λ a v s r h w. record { present = w.present; held = w.held }, (λ a v s r h w. record { present = w.present; held = w.held }, (few_with p2mp, (few_with mp2mp, (few_with hsmp, tt))))))
