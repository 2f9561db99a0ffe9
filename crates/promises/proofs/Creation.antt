-- Creation leaves the record of a fresh session, which is sound, and sound wishes, or is refused: by cases on its tests, and the round trip of records.
-- Assumes nothing.
use Prim.Native.Nat.{ℕ, ◌<◌, ◌^◌}
use mathlib.Core.Path.{◌≡◌, refl, sym, ap, ◌∙◌, subst}
use mathlib.Core.Bool.{Bool, true, false}
use mathlib.Core.List.{List}
use lib.Dec.{eqb, lit<}
use lib.ListN.{length}
use native.Mathlib.Omega.{arith}
use Rattle.choice.proofs.Branch.{by_test, taken, left}
use Rattle.choice.proofs.Tests.{and_first, and_second}
use Rattle.sets.specs.Set.{below}
use Rattle.sets.proofs.Bounds.{below_lt}
use Rattle.std.specs.Prelude.{Result, Ok, Err}
use Rattle.refusals.specs.declared.Refusal.{Refusal}
use Rattle.refusals.specs.declared.Refusal.TheVariants.{OutOfRange}
use Rattle.refusals.specs.Refusals.{not_refused}
use Rattle.kinds.specs.Kinds.{application_count, kind_count, capability_count}
use Rattle.wishes.specs.Wishes.{sound_wishes}
use Rattle.session.specs.declared.Settings.{Settings}
use Rattle.session.specs.declared.Session.{Session}
use Rattle.session.specs.Session.{sound}
use Rattle.session.specs.Creation.{fresh_by, created}
use Rattle.session.proofs.SoundMeans.{means_sound}
use Rattle.session.proofs.Made.{fresh_sound}
use Rattle.record.specs.Record.{record_length, stored_in, decoded}
use Rattle.record.proofs.RoundTrip.{read_back}
use Rattle.tacit.specs.Creation.{creation_refusal, created_in}
use Rattle.promises.specs.Calls.{CreationIsSound}

module _ (t : Settings) (small : t.first_number < 2 ^ 32) (l : List ℕ) where
  abbrev Made : List ℕ → Type 0
  Made l' = (decoded l' ≡ fresh_by t) × (sound (decoded l') ≡ true) × (sound_wishes t.wishes ≡ true)

  abbrev Leaves : Result Session Refusal → Type 0
  Leaves c = creation_refusal c l ≡ not_refused → Made (created_in c l)

  -- refused for its length, or for its sets, it is refused
  refused_leaves : Leaves (Err OutOfRange)
  unfolding creation_refusal
  refused_leaves = go (eqb (length l) record_length) refl
    where
      go : (x : Bool) → eqb (length l) record_length ≡ x → creation_refusal (Err OutOfRange) l ≡ not_refused → Made (created_in (Err OutOfRange) l)
      go true e q = absurd (omega (arith, sym (taken _ _ e) ∙ q))
      go false e q = absurd (omega (arith, sym (left _ _ e) ∙ q))

  fresh_leaves : t.protected_kinds < 2 ^ kind_count → t.enabled < 2 ^ application_count → sound_wishes t.wishes ≡ true → t.capabilities < 2 ^ capability_count
      → Leaves (Ok (fresh_by t))
  unfolding creation_refusal created_in stored_in
  fresh_leaves hp he hw hc = go (eqb (length l) record_length) refl
    where
      is_sound : sound (fresh_by t) ≡ true
      is_sound = means_sound (fresh_by t) (fresh_sound t.initiating t.active t.uses_tac t.drops t.protected_kinds t.enabled t.capabilities t.first_number hp he hc)

      go : (x : Bool) → eqb (length l) record_length ≡ x → creation_refusal (Ok (fresh_by t)) l ≡ not_refused → Made (created_in (Ok (fresh_by t)) l)
      go true e q =
          let back : decoded (created_in (Ok (fresh_by t)) l) ≡ fresh_by t = ap decoded (taken _ _ e) ∙ read_back (fresh_by t) is_sound (lit< tt) small in
          (back, ap sound back ∙ is_sound, hw)
      go false e q = absurd (omega (arith, sym (left _ _ e) ∙ q))

  leaves : Leaves (created t)
  unfolding created
  leaves =
      by_test Leaves
      (λ h.
      let rest = and_second (below kind_count t.protected_kinds) _ h in
      let beside = and_second (below application_count t.enabled) _ rest in
      fresh_leaves (below_lt kind_count t.protected_kinds (and_first (below kind_count t.protected_kinds) _ h))
      (below_lt application_count t.enabled (and_first (below application_count t.enabled) _ rest))
      (and_first (sound_wishes t.wishes) _ beside) (below_lt capability_count t.capabilities (and_second (sound_wishes t.wishes) _ beside)))
      (λ _. refused_leaves)

pub creation_is_sound : CreationIsSound
creation_is_sound κs a r s p q small =
    subst (λ (l : List ℕ). Made a.1.0 small a.0.now l) (sym p.octets) (leaves a.1.0 small a.0.now (sym p.refusal ∙ q))
