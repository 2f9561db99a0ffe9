-- The session that was moved forward. It loses mLDP's kinds, since neither end holds a capability then; about any other kind no capability is asked, so
-- that nothing else is changed for it. Assumes nothing.
use Prim.Native.Nat.{ℕ, zero, suc, ◌≤◌}
use mathlib.Core.Path.{◌≡◌, refl, sym, ap, ap₂, ◌∙◌}
use mathlib.Core.Bool.{Bool, true, false, not, ◌&&◌, false≢true}
use mathlib.Core.List.{List}
use native.Mathlib.Omega.{arith}
use borrow.Author.Tests.{eq-eqb}
use lib.Dec.{lit<}
use lib.ListN.{length}
use Rattle.choice.specs.Pick.{pick}
use Rattle.choice.proofs.Branch.{taken, left}
use Rattle.choice.proofs.Tests.{fails_if, and_first, and_second, and_both, not_false}
use Rattle.sets.specs.Set.{has, common, minus}
use Rattle.sets.proofs.Members.{has_minus, has_none, has_lt}
use Rattle.sets.proofs.Subsets.{within_none, same_members, nothing_left}
use Rattle.kinds.specs.Kinds.{disables, barred}
use Rattle.kinds.proofs.Capable.{barred_at, barred_none}
use Rattle.refusals.specs.Refusals.{not_refused}
use Rattle.session.specs.declared.Session.{Session}
use Rattle.session.specs.Session.{is_open, negotiated, sound, permitted_by_base, permitted}
use Rattle.session.specs.Questions.{why_permitted, why_not_open, why_disabled_by_peer, why_not_enabled, why_not_listed, why_barred, unopened, why}
use Rattle.session.proofs.PermittedMeans.{by_base}
use Rattle.record.specs.Record.{record_length, decoded_kind1}
use Rattle.record.specs.Moves.{loses_by_capabilities, forward, LostMeans, holding_all, MovedIsSame}
use Rattle.record.proofs.ByTest.{done_sound, done_long}
use Rattle.record.proofs.ThereAndBack.{none_held, there_is}

-- ---- what is lost
-- a capability that nobody holds bars kinds 2 to 6
barred_all : barred 0 ≡ 124
barred_all = sym (barred_at 0 (lit< tt))

mldp : (k : ℕ) → has 124 k ≡ true → (2 ≤ k) × (k ≤ 6)
unfolding has
mldp zero h = absurd (false≢true h)
mldp (suc zero) h = absurd (false≢true h)
mldp (suc (suc k)) h = let l = has_lt 7 124 (suc (suc k)) (lit< tt) h in (omega arith, omega arith)

has_mldp : (k : ℕ) → 2 ≤ k → k ≤ 6 → has 124 k ≡ true
unfolding has
has_mldp zero a b = absurd (omega arith)
has_mldp (suc zero) a b = absurd (omega arith)
has_mldp (suc (suc zero)) a b = refl
has_mldp (suc (suc (suc zero))) a b = refl
has_mldp (suc (suc (suc (suc zero)))) a b = refl
has_mldp (suc (suc (suc (suc (suc zero))))) a b = refl
has_mldp (suc (suc (suc (suc (suc (suc zero)))))) a b = refl
has_mldp (suc (suc (suc (suc (suc (suc (suc k))))))) a b = absurd (omega arith)

module _ (l : List ℕ) where
  abbrev of_l : Session
  of_l = decoded_kind1 l

  -- neither end holds any, so of kinds 2 to 6 none is permitted, and of the others those of 01's rule
  permitted_rest : (k : ℕ) → has (permitted of_l) k ≡ (has (permitted_by_base of_l) k && not (has 124 k))
  unfolding common
  permitted_rest k =
      by_base of_l k
      ∙ ap (λ (b : ℕ). has (permitted_by_base of_l) k && not (has b k)) (ap barred (ap₂ common (none_held l).0 (none_held l).1) ∙ barred_all)

  lost_has : (k : ℕ) → has (loses_by_capabilities of_l) k ≡ (has (permitted_by_base of_l) k && not (has (permitted of_l) k))
  unfolding loses_by_capabilities
  lost_has = has_minus (permitted_by_base of_l) (permitted of_l)

  lost_kinds : (k : ℕ) → has (loses_by_capabilities of_l) k ≡ (has (permitted_by_base of_l) k && has 124 k)
  lost_kinds k =
      lost_has k ∙ ap (λ (b : Bool). has (permitted_by_base of_l) k && not b) (permitted_rest k) ∙ go (has (permitted_by_base of_l) k) (has 124 k)
    where
      go : (x y : Bool) → (x && not (x && not y)) ≡ (x && y)
      go true true = refl
      go true false = refl
      go false y = refl

  lost_shut : is_open of_l ≡ false → loses_by_capabilities of_l ≡ 0
  unfolding loses_by_capabilities permitted_by_base
  lost_shut e = ap (λ (b : ℕ). minus b (permitted of_l)) (left _ _ e) ∙ nothing_left 0 (permitted of_l) (within_none _)

  -- what it permits is what 01's rule permitted, without what is lost
  permitted_left : permitted of_l ≡ minus (permitted_by_base of_l) (loses_by_capabilities of_l)
  permitted_left =
      same_members _ _ (λ k.
      permitted_rest k
      ∙ sym (has_minus (permitted_by_base of_l) (loses_by_capabilities of_l) k
      ∙ ap (λ (b : Bool). has (permitted_by_base of_l) k && not b) (lost_kinds k)
      ∙ go (has (permitted_by_base of_l) k) (has 124 k)))
    where
      go : (x y : Bool) → (x && not (x && y)) ≡ (x && not y)
      go true y = refl
      go false y = refl

module _ (l room : List ℕ) (done : (forward l room).refusal ≡ not_refused) where
  lost_is : (forward l room).lost ≡ loses_by_capabilities (decoded_kind1 l)
  unfolding forward
  lost_is = taken _ _ (eq-eqb _ _ done)

  pub kept_sound : sound (decoded_kind1 l) ≡ true
  unfolding forward
  kept_sound = done_sound (decoded_kind1 l) room done

  pub kept_long : length room ≡ record_length
  unfolding forward
  kept_long = done_long (decoded_kind1 l) room done

pub lost_means : LostMeans
lost_means l room done =
    record {
      rules = λ k. (
        λ h. let e = sym (lost_has l k) ∙ is k h in (and_first (base k) _ e, not_false _ (and_second (base k) _ e)),
        λ h. at k ∙ lost_has l k ∙ and_both _ _ h.0 (ap not h.1),
      );
      kinds = λ k. (
        λ h. let e = sym (lost_kinds l k) ∙ is k h in let m = mldp k (and_second (base k) _ e) in (m.0, m.1, and_first (base k) _ e),
        λ h. at k ∙ lost_kinds l k ∙ and_both _ _ h.2 (has_mldp k h.0 h.1),
      );
      not_open = λ e. lost_is l room done ∙ lost_shut l e;
    }
  where
    base : ℕ → Bool
    base k = has (permitted_by_base (decoded_kind1 l)) k

    at : (k : ℕ) → has (forward l room).lost k ≡ has (loses_by_capabilities (decoded_kind1 l)) k
    at k = ap (λ (lost : ℕ). has lost k) (lost_is l room done)

    is : (k : ℕ) → has (forward l room).lost k ≡ true → has (loses_by_capabilities (decoded_kind1 l)) k ≡ true
    is k h = sym (at k) ∙ h

-- ---- every other question
-- of a kind that needs no capability none is asked, whoever holds them
not_mldp : (k : ℕ) → ((2 ≤ k) × (k ≤ 6) → ⊥) → has 124 k ≡ false
not_mldp k out = fails_if (has 124 k) (λ e. out (mldp k e))

unbarred : (s : Session) (k : ℕ) → has (barred s.ours) k ≡ false → has (barred s.theirs) k ≡ false → why_barred s k ≡ why_permitted
unfolding why_barred
unbarred s k e f = left _ _ e ∙ left _ _ f

same_reason : (l : List ℕ) (k : ℕ) → ((2 ≤ k) × (k ≤ 6) → ⊥) → why (decoded_kind1 l) k ≡ why (holding_all (decoded_kind1 l)) k
unfolding why unopened
same_reason l k out =
    ap reasons (unbarred (decoded_kind1 l) k (free (none_held l).0) (free (none_held l).1) ∙ sym (unbarred (holding_all (decoded_kind1 l)) k all all))
  where
    -- the reasons that come first, which no capability moves
    reasons : ℕ → ℕ
    reasons last =
        let s = decoded_kind1 l in
        pick (not (is_open s)) why_not_open
        (pick (has (disables s.disabled) k) why_disabled_by_peer
        (pick (unopened s s.enabled k) why_not_enabled (pick (unopened s (negotiated s) k) why_not_listed last)))

    free : {a : ℕ} → a ≡ 0 → has (barred a) k ≡ false
    free e = ap (λ (b : ℕ). has b k) (ap barred e ∙ barred_all) ∙ not_mldp k out

    all : has (barred 7) k ≡ false
    all = ap (λ (b : ℕ). has b k) barred_none ∙ has_none k

pub moved_is_same : MovedIsSame
moved_is_same l room o done =
    let is = there_is l room o (kept_sound l room done) (kept_long l room done) in
    record {
      session = is;
      permits = ap permitted is ∙ permitted_left l ∙ ap (minus (permitted_by_base (decoded_kind1 l))) (sym (lost_is l room done));
      reason = λ k out. ap (λ (s : Session). why s k) is ∙ same_reason l k out;
    }
