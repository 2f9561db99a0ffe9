-- What a reading tells of the capabilities: each is present exactly where its TLV is among those read, and held exactly with S = 1. What one row of the table
-- of our types does to the two sets a TLV of any type does, and then TLVs one after another. Assumes nothing.
use Prim.Native.Nat.{ℕ, ◌+◌, ◌-◌, ◌≤◌}
use mathlib.Core.Path.{◌≡◌, refl, sym, ap, ◌∙◌, subst}
use mathlib.Core.Bool.{Bool, true, false, ◌||◌, true≢false}
use mathlib.Core.List.{List, [], ◌∷◌}
use mathlib.Core.Logic.{◌⊎◌, inl, inr, ⊎_elim}
use native.Mathlib.Omega.{arith}
use lib.Dec.{eqb, lit≤}
use lib.ListN.{length}
use borrow.Author.Tests.{eqb-true, eqb-false, eq-eqb, ne_eqb}
use Rattle.choice.specs.Pick.{pick}
use Rattle.choice.proofs.Branch.{by_test, pick_true, pick_false}
use Rattle.sets.specs.Set.{has}
use Rattle.sets.proofs.Members.{has_none}
use Rattle.sets.proofs.Switches.{switched_same, switched_other}
use Rattle.refusals.specs.Refusals.{not_refused}
use Rattle.kinds.specs.Kinds.{p2mp, mp2mp, hsmp, capability_count}
use Rattle.area.specs.declared.Span.{Span}
use Rattle.area.specs.declared.Reading.{Reading}
use Rattle.area.specs.Found.{nothing_found, with_capability}
use Rattle.area.specs.Area.{head_length, type_of, OurType, our_types, p2mp_type, mp2mp_type, hsmp_type, take_tlv, pass_other, among, by_type, s_bit, read_area}
use Rattle.area.specs.Tlvs.{Tlv, area_of, read_tlv, read_tlvs, Wide, present, held_by, Told, CapabilitiesFound}
use Rattle.area.proofs.Tlvs.{read_by_tlvs}
use Rattle.area.proofs.Slots.{short}

module _ (n type : ℕ) where
  -- the two sets after a TLV, of which it is known whether it is of the type, and its S
  pub record After (is s : Bool) (r z : Reading) : Type 0 where
    pub there : has z.capabilities (n - 1) ≡ is || has r.capabilities (n - 1)
    pub held : has z.holding (n - 1) ≡ pick is s (has r.holding (n - 1))

  -- what is not refused is so
  abbrev Unless : Bool → Bool → Reading → Reading → Type 0
  Unless is s r z = z.refusal ≡ not_refused → After is s r z

  -- ---- each of our types, and one of them is this one
  abbrev Rows : List OurType → Type 0
  Rows [] = Unit {0}
  Rows (t ∷ ts) = ((value : Span) (s : Bool) (r : Reading) → After (eqb t.number type) s r (t.found value s r)) × Rows ts

  abbrev Named : List OurType → Type 0
  Named [] = ⊥
  Named (t ∷ ts) = (t.number ≡ type) ⊎ Named ts

  stays : (s : Bool) (r : Reading) → After false s r r
  stays s r = record { there = refl; held = sym (pick_false _ _) }

  other_type : (head : ℕ) → (type_of head ≡ type → ⊥) → eqb (type_of head) type ≡ false
  other_type head f = ne_eqb (type_of head) type f

  in_rows : (ts : List OurType) → Rows ts → (head : ℕ) (value : Span) (s : Bool) (r : Reading) → (type_of head ≡ type → Named ts)
      → Unless (eqb (type_of head) type) s r (among ts head value s r)
  unfolding take_tlv pass_other
  in_rows [] rows head value s r named =
      by_test (Unless (eqb (type_of head) type) s r) (λ _ _. subst (λ (is : Bool). After is s r r) (sym (other_type head (λ e. named e))) (stays s r)) (λ _ e. absurd (omega arith))
  in_rows (t ∷ ts) rows head value s r named =
      by_test (Unless (eqb (type_of head) type) s r)
      (λ q. by_test (Unless (eqb (type_of head) type) s r) (λ _ e. absurd (omega arith))
      (λ _. by_test (Unless (eqb (type_of head) type) s r) (λ _ e. absurd (omega arith))
      (λ _ _. subst (λ (x : ℕ). After (eqb x type) s r (t.found value s r)) (sym (eqb-true (type_of head) t.number q)) (rows.0 value s r))))
      (λ q. in_rows ts rows.1 head value s r
      (λ e. ⊎_elim (λ is. absurd (eqb-false (type_of head) t.number q (e ∙ sym is))) (λ rest. rest) (named e)))

  module _ (rows : Rows our_types) (named : Named our_types) where
    one : (at : ℕ) (r : Reading) (t : Tlv) → Unless (eqb (type_of t.head) type) (s_bit t.value) r (read_tlv at r t)
    unfolding by_type
    one at r t = in_rows our_types rows t.head (record { start = at + head_length; len = length t.value }) (s_bit t.value) r (λ _. named)

    -- ---- TLVs one after another
    abbrev Tells : Bool → Bool → List Tlv → Reading → Type 0
    Tells before held ts z = z.refusal ≡ not_refused → (has z.capabilities (n - 1) ≡ present type before ts) × (has z.holding (n - 1) ≡ held_by type held ts)

    over : (ts : List Tlv) (at : ℕ) (r : Reading) → Tells (has r.capabilities (n - 1)) (has r.holding (n - 1)) ts (read_tlvs at r ts)
    over [] at r = λ _. (refl, refl)
    over (t ∷ ts) at r =
        by_test (Tells (has r.capabilities (n - 1)) (has r.holding (n - 1)) (t ∷ ts))
        (λ q e.
        let a = one at r t (eqb-true _ not_refused q) in
        let rest = over ts (at + head_length + length t.value) (read_tlv at r t) e in
        (rest.0 ∙ ap (λ (b : Bool). present type b ts) a.there, rest.1 ∙ ap (λ (b : Bool). held_by type b ts) a.held))
        (λ q e. absurd (true≢false (sym (eq-eqb _ _ e) ∙ q)))

    told : (ts : List Tlv) → Wide ts → (read_area (area_of ts)).refusal ≡ not_refused → Told n type ts (read_area (area_of ts))
    told ts wide ok =
        let by = read_by_tlvs ts wide (short (area_of ts) ok) in
        let all = over ts 0 nothing_found (sym (ap (λ (z : Reading). z.refusal) by) ∙ ok) in
        record {
          there = ap (λ (z : Reading). has z.capabilities (n - 1)) by ∙ all.0 ∙ ap (λ (b : Bool). present type b ts) (has_none (n - 1));
          held = ap (λ (z : Reading). has z.holding (n - 1)) by ∙ all.1 ∙ ap (λ (b : Bool). held_by type b ts) (has_none (n - 1));
        }

-- ---- the rows of the table, for the capability n: its own sets it, and every other leaves it
module _ (n type : ℕ) where
  leaves : (value : Span) (s : Bool) (r z : Reading) → z.capabilities ≡ r.capabilities → z.holding ≡ r.holding → After n type false s r z
  leaves value s r z there held =
      record {
        there = ap (λ (x : ℕ). has x (n - 1)) there;
        held = ap (λ (x : ℕ). has x (n - 1)) held ∙ sym (pick_false _ _);
      }

  sets : 1 ≤ n → n ≤ capability_count → (value : Span) (s : Bool) (r : Reading) → After n type true s r (with_capability n value s r)
  sets least most value s r =
      record {
        there = switched_same capability_count r.capabilities n true least most;
        held = switched_same capability_count r.holding n s least most ∙ sym (pick_true _ _);
      }

  passes : (m : ℕ) → (m ≡ n - 1 + 1 → ⊥) → (value : Span) (s : Bool) (r : Reading) → After n type false s r (with_capability m value s r)
  passes m differs value s r =
      record {
        there = switched_other capability_count r.capabilities m true (n - 1) differs;
        held = switched_other capability_count r.holding m s (n - 1) differs ∙ sym (pick_false _ _);
      }

pub capabilities_found : CapabilitiesFound
capabilities_found ts wide ok = (
  told p2mp p2mp_type (
    λ v s r. leaves p2mp p2mp_type v s r _ refl refl,
    (
      λ v s r. leaves p2mp p2mp_type v s r _ refl refl,
      (
        λ v s r. leaves p2mp p2mp_type v s r _ refl refl,
        (sets p2mp p2mp_type (lit≤ tt) (lit≤ tt), (passes p2mp p2mp_type mp2mp (λ e. absurd (omega arith)), (passes p2mp p2mp_type hsmp (λ e. absurd (omega arith)), tt))),
      ),
    ),
  ) (inr (inr (inr (inl refl)))) ts wide ok,
  (
    told mp2mp mp2mp_type (
      λ v s r. leaves mp2mp mp2mp_type v s r _ refl refl,
      (
        λ v s r. leaves mp2mp mp2mp_type v s r _ refl refl,
        (
          λ v s r. leaves mp2mp mp2mp_type v s r _ refl refl,
          (passes mp2mp mp2mp_type p2mp (λ e. absurd (omega arith)), (sets mp2mp mp2mp_type (lit≤ tt) (lit≤ tt), (passes mp2mp mp2mp_type hsmp (λ e. absurd (omega arith)), tt))),
        ),
      ),
    ) (inr (inr (inr (inr (inl refl))))) ts wide ok,
    told hsmp hsmp_type (
      λ v s r. leaves hsmp hsmp_type v s r _ refl refl,
      (
        λ v s r. leaves hsmp hsmp_type v s r _ refl refl,
        (
          λ v s r. leaves hsmp hsmp_type v s r _ refl refl,
          (passes hsmp hsmp_type p2mp (λ e. absurd (omega arith)), (passes hsmp hsmp_type mp2mp (λ e. absurd (omega arith)), (sets hsmp hsmp_type (lit≤ tt) (lit≤ tt), tt))),
        ),
      ),
    ) (inr (inr (inr (inr (inr (inl refl)))))) ts wide ok,
  ),
)
