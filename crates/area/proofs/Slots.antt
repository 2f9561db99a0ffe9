-- Where the SAC stands that is found in an area made of TLVs: with one SAC among them it is that one, and its part is its value; with none there is none.
-- A TLV of another type that is not refused leaves the slot as it was; by induction over the TLVs. Assumes nothing.
use Prim.Native.Nat.{ℕ, ◌+◌, ◌≤◌}
use mathlib.Core.Path.{◌≡◌, refl, sym, ap, ap₂, ◌∙◌, subst}
use mathlib.Core.Bool.{Bool, true≢false}
use mathlib.Core.List.{List, [], ◌∷◌, ◌++◌, append_assoc}
use native.Mathlib.Omega.{arith}
use lib.Dec.{eqb}
use lib.ListN.{length, length-append}
use borrow.Author.Tests.{eqb-true, eq-eqb, ltb-false}
use Rattle.choice.specs.Pick.{pick}
use Rattle.choice.proofs.Branch.{by_test, taken, left}
use Rattle.refusals.specs.Refusals.{not_refused}
use Rattle.area.specs.declared.Span.{Span}
use Rattle.area.specs.declared.Reading.{Reading}
use Rattle.area.specs.Found.{none, nothing_found}
use Rattle.area.specs.Area.{area_most, head_length, type_of, tac_type, sac_type, take_tlv, pass_other, by_type, read_area, part}
use Rattle.area.specs.Tlvs.{Tlv, tlv_head, tlv_octets, area_of, read_tlv, read_tlvs, Wide, Without}
use Rattle.area.proofs.Tlvs.{value_at, read_by_tlvs}

-- ---- one TLV
-- what is not refused has this SAC
abbrev Has : Span → Reading → Type 0
Has s z = z.refusal ≡ not_refused → z.sac ≡ s

taking : (s : Span) (again wrong : Bool) (found : Reading) → found.sac ≡ s → Has s (take_tlv again wrong found)
unfolding take_tlv
taking s again wrong found is =
    by_test (Has s) (λ _ e. absurd (omega arith)) (λ _. by_test (Has s) (λ _ e. absurd (omega arith)) (λ _ _. is))

by_other : (head : ℕ) (value : Span) (s : Bool) (r : Reading) → (type_of head ≡ sac_type → ⊥) → Has r.sac (by_type head value s r)
unfolding by_type pass_other
by_other head value s r other =
    by_test (Has r.sac) (λ _. taking r.sac _ _ _ refl)
    (λ _. by_test (Has r.sac) (λ q. absurd (other (eqb-true (type_of head) sac_type q)))
    (λ _. by_test (Has r.sac) (λ _. taking r.sac _ _ _ refl)
    (λ _. by_test (Has r.sac) (λ _. taking r.sac _ _ _ refl)
    (λ _. by_test (Has r.sac) (λ _. taking r.sac _ _ _ refl)
    (λ _. by_test (Has r.sac) (λ _. taking r.sac _ _ _ refl) (λ _. by_test (Has r.sac) (λ _ _. refl) (λ _ e. absurd (omega arith))))))))

by_sac : (head : ℕ) (value : Span) (s : Bool) (r : Reading) → type_of head ≡ sac_type → Has value (by_type head value s r)
unfolding by_type
by_sac head value s r is =
    subst (Has value) (sym (left _ _ (ap (λ (n : ℕ). eqb n tac_type) is) ∙ taken _ _ (eq-eqb _ _ is))) (taking value _ _ _ refl)

-- ---- TLVs one after another
-- what goes on only where nothing was refused
going_on : (s : Span) (found rest : Reading) → (found.refusal ≡ not_refused → Has s rest) → Has s (pick (eqb found.refusal not_refused) rest found)
going_on s found rest f =
    by_test (Has s) (λ q. f (eqb-true found.refusal not_refused q)) (λ q e. absurd (true≢false (sym (eq-eqb _ _ e) ∙ q)))

no_sac : (ts : List Tlv) (at : ℕ) (r : Reading) → Without sac_type ts → Has r.sac (read_tlvs at r ts)
no_sac [] at r w = λ _. refl
no_sac (t ∷ ts) at r w =
    going_on r.sac (read_tlv at r t) _
    (λ ok e. no_sac ts (at + head_length + length t.value) (read_tlv at r t) w.1 e ∙ by_other t.head _ _ r w.0 ok)

-- the part where the value of a TLV stands behind others
abbrev pub behind : ℕ → List Tlv → Tlv → Span
behind at before t = record { start = at + length (area_of before) + head_length; len = length t.value }

one_sac_law : (before : List Tlv) (t : Tlv) (rest : List Tlv) (at : ℕ) (r : Reading) → Without sac_type before → type_of t.head ≡ sac_type → Without sac_type rest
    → Has (behind at before t) (read_tlvs at r (before ++ (t ∷ rest)))
one_sac_law [] t rest at r w is v =
    going_on (behind at [] t) (read_tlv at r t) _
    (λ ok e. no_sac rest (at + head_length + length t.value) (read_tlv at r t) v e ∙ by_sac t.head _ _ r is ok ∙ ap (λ (n : ℕ). record { start = n; len = length t.value }) (omega arith))
one_sac_law (b ∷ before) t rest at r w is v =
    going_on (behind at (b ∷ before) t) (read_tlv at r b) _
    (λ ok e. one_sac_law before t rest (at + head_length + length b.value) (read_tlv at r b) w.1 is v e ∙ ap (λ (n : ℕ). record { start = n; len = length t.value }) place)
  where
    place : at + head_length + length b.value + length (area_of before) + head_length ≡ at + length (area_of (b ∷ before)) + head_length
    place = omega (arith, length-append (tlv_octets b) (area_of before), length-append (tlv_head b.head (length b.value)) b.value)

-- ---- the octets of the part
area_append : (ts us : List Tlv) → area_of (ts ++ us) ≡ area_of ts ++ area_of us
area_append [] us = refl
area_append (t ∷ ts) us = ap (λ (l : List ℕ). tlv_octets t ++ l) (area_append ts us) ∙ sym (append_assoc (tlv_octets t) (area_of ts) (area_of us))

value_of : (before : List Tlv) (t : Tlv) (rest : List Tlv) → part (area_of (before ++ (t ∷ rest))) (behind 0 before t) ≡ t.value
value_of before t rest =
    let start : 0 + length (area_of before) + head_length ≡ length (area_of before) + head_length = omega arith in
    ap₂ (λ (n : ℕ) (l : List ℕ). part l (record { start = n; len = length t.value })) start (area_append before (t ∷ rest))
    ∙ value_at (area_of before) t (area_of rest)

-- ---- what is read from an area
-- one that is not refused is not too long
pub short : (a : List ℕ) → (read_area a).refusal ≡ not_refused → length a ≤ area_most
unfolding read_area
short a =
    by_test (λ (z : Reading). z.refusal ≡ not_refused → length a ≤ area_most) (λ _ e. absurd (omega arith)) (λ q _. ltb-false area_most (length a) q)

module _ (before : List Tlv) (t : Tlv) (rest : List Tlv) (others : Without sac_type before) (is : type_of t.head ≡ sac_type) (behind-it : Without sac_type rest)
    (wide : Wide (before ++ (t ∷ rest))) where
  abbrev area : List ℕ
  area = area_of (before ++ (t ∷ rest))

  pub sac_found : (read_area area).refusal ≡ not_refused → part area (read_area area).sac ≡ t.value
  sac_found ok =
      let by = read_by_tlvs (before ++ (t ∷ rest)) wide (short area ok) in
      let found = one_sac_law before t rest 0 nothing_found others is behind-it (sym (ap (λ (z : Reading). z.refusal) by) ∙ ok) in
      ap (part area) (ap (λ (z : Reading). z.sac) by ∙ found) ∙ value_of before t rest

pub sac_absent : (ts : List Tlv) → Without sac_type ts → Wide ts → (read_area (area_of ts)).refusal ≡ not_refused → (read_area (area_of ts)).sac ≡ none
sac_absent ts w wide ok =
    let by = read_by_tlvs ts wide (short (area_of ts) ok) in
    ap (λ (z : Reading). z.sac) by ∙ no_sac ts 0 nothing_found w (sym (ap (λ (z : Reading). z.refusal) by) ∙ ok)
