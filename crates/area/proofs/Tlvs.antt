-- An area made of TLVs is read TLV by TLV: the head and the length stand where reading looks for them, and what follows starts where it goes
-- on. By induction over the TLVs, for any octets before them. Assumes nothing.
use Prim.Native.Nat.{ℕ, zero, suc, ◌+◌, ◌*◌, ◌-◌, ◌<◌, ◌≤◌}
use mathlib.Core.Path.{◌≡◌, refl, sym, ap, ap₂, ◌∙◌}
use mathlib.Core.List.{List, [], ◌∷◌, ◌++◌, append_assoc}
use native.Mathlib.Omega.{arith}
use lib.Dec.{eqb}
use lib.ListN.{length, get_or, take, length-append}
use lib.Seq.{get_or-append-add, take-append_seam, drop-append-add}
use borrow.Author.Tests.{le-ltb, lt-leb}
use Rattle.choice.specs.Pick.{pick}
use Rattle.choice.proofs.Branch.{left}
use Rattle.octets.proofs.Numbers.{forth16}
use Rattle.refusals.specs.Refusals.{not_refused}
use Rattle.area.specs.declared.Span.{Span}
use Rattle.area.specs.declared.Reading.{Reading}
use Rattle.area.specs.Found.{nothing_found}
use Rattle.area.specs.Area.{area_most, head_length, at16, by_type, part, s_bit, tlv_at, next_at, read_from, read_area}
use Rattle.area.proofs.Turn.{done}
use Rattle.area.specs.Tlvs.{Tlv, tlv_octets, area_of, read_tlv, read_tlvs, Wide, ReadByTlvs}

-- 16 bits that stand behind what is before them
behind : (pre l : List ℕ) (i : ℕ) → at16 (pre ++ l) (length pre + i) ≡ at16 l i
unfolding at16
behind pre l i =
    let next : length pre + i + 1 ≡ length pre + (i + 1) = omega arith in
    ap₂ (λ (x y : ℕ). x * 256 + y) (get_or-append-add pre l i 0)
    (ap (λ (j : ℕ). get_or (pre ++ l) j 0) next ∙ get_or-append-add pre l (i + 1) 0)

-- a TLV's value that stands behind what is before it
pub value_at : (pre : List ℕ) (t : Tlv) (rest : List ℕ)
    → part (pre ++ (tlv_octets t ++ rest)) (record { start = length pre + head_length; len = length t.value }) ≡ t.value
unfolding part
value_at pre t rest = ap (take (length t.value)) (drop-append-add pre (tlv_octets t ++ rest) head_length) ∙ take-append_seam t.value rest

module _ (pre : List ℕ) (t : Tlv) (rest : List ℕ) (wide : t.head < 65536) (long : length t.value < 65536) where
  abbrev area : List ℕ
  area = pre ++ (tlv_octets t ++ rest)

  area_length : length area ≡ length pre + (head_length + length t.value + length rest)
  area_length = simp length-append (omega arith)

  head_at : at16 area (length pre) ≡ t.head
  unfolding at16
  head_at =
      let here : length pre ≡ length pre + 0 = omega arith in
      ap (at16 area) here ∙ behind pre (tlv_octets t ++ rest) 0 ∙ forth16 t.head wide

  length_at : at16 area (length pre + 2) ≡ length t.value
  unfolding at16
  length_at = behind pre (tlv_octets t ++ rest) 2 ∙ forth16 (length t.value) long

  tlv_at_law : (r : Reading) → tlv_at area (length pre) r ≡ read_tlv (length pre) r t
  unfolding tlv_at
  tlv_at_law r =
      let n = area_length in
      let m = length_at in
      left _ _ (le-ltb (length area - length pre) head_length (omega arith))
      ∙ left _ _ (le-ltb (length area - length pre - head_length) (at16 area (length pre + 2)) (omega arith))
      ∙ ap₂ (λ (x y : ℕ). by_type x (found y) (s_bit (part area (found y))) r) head_at length_at
      ∙ ap (λ (v : List ℕ). by_type t.head (found (length t.value)) (s_bit v) r) (value_at pre t rest)
    where
      found : ℕ → Span
      found long = record { start = length pre + head_length; len = long }

  next_at_law : next_at area (length pre) ≡ length pre + head_length + length t.value
  next_at_law = ap (λ (n : ℕ). length pre + head_length + n) length_at

  onto : length pre + head_length + length t.value ≡ length (pre ++ tlv_octets t)
  onto = simp length-append (omega arith)

from : (ts : List Tlv) (a pre : List ℕ) (at : ℕ) (r : Reading) (n : ℕ) → Wide ts → a ≡ pre ++ area_of ts → at ≡ length pre → length a ≤ at + n
    → read_from n a at r ≡ read_tlvs at r ts
unfolding read_from
from [] a pre at r n w e p m = done n a at r (omega (arith, ap length e, length-append pre []))
from (t ∷ ts) a pre at r zero w e p m = absurd (omega (arith, ap length e, area_length pre t (area_of ts) w.0 w.1))
from (t ∷ ts) a pre at r (suc n) w e p m =
    let long = area_length pre t (area_of ts) w.0 w.1 in
    let same = ap length e in
    let tl : tlv_at a at r ≡ read_tlv at r t = rw (e, p) (tlv_at_law pre t (area_of ts) w.0 w.1 r) in
    let nx : next_at a at ≡ at + head_length + length t.value = rw (e, p) (next_at_law pre t (area_of ts) w.0 w.1) in
    left _ _ (lt-leb (length a) at (omega arith))
    ∙ ap₂ (λ (k : ℕ) (u : Reading). pick (eqb u.refusal not_refused) (read_from n a k u) u) nx tl
    ∙ ap (λ (z : Reading). pick (eqb (read_tlv at r t).refusal not_refused) z (read_tlv at r t))
    (from ts a (pre ++ tlv_octets t) (at + head_length + length t.value) (read_tlv at r t) n w.2
    (e ∙ sym (append_assoc pre (tlv_octets t) (area_of ts))) (ap (λ (k : ℕ). k + head_length + length t.value) p ∙ onto pre t (area_of ts) w.0 w.1) (omega arith))

pub read_by_tlvs : ReadByTlvs
unfolding read_area
read_by_tlvs ts w m = left _ _ (le-ltb area_most (length (area_of ts)) m) ∙ from ts (area_of ts) [] 0 nothing_found (length (area_of ts)) w refl refl (omega arith)
