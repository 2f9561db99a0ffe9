-- A kind is permitted exactly when the session is Open, SAC has not disabled it, where negotiation is in force some application both enabled and listed
-- maps to it, and both ends hold the capability that it needs. By the laws of the sets that `permitted` is made of. Assumes nothing.
use Rattle.std.proofs.Common.{◌≡◌, ℕ, ◌-◌, ◌^◌, ◌<◌, Bool, true, false, not, ◌&&◌, sym, refl, ap, ◌∙◌, true≢false, lit<}
use mathlib.Core.Bool.{and-true, and-false}
use Rattle.choice.specs.Pick.{pick}
use Rattle.choice.proofs.Branch.{taken, left}
use Rattle.choice.proofs.Tests.{and_first, and_second, and_both, not_false}
use Rattle.sets.specs.Set.{has, minus}
use Rattle.sets.proofs.Members.{has_common, has_minus, has_none, has_lt, has_all}
use Rattle.kinds.specs.Kinds.{application_count, kind_count, all_kinds, opens, opened, disables, barred, Some}
use Rattle.kinds.proofs.Table.{opens_lt}
use Rattle.kinds.proofs.Capable.{unbarred_has, has_unbarred}
use Rattle.kinds.proofs.Gathered.{gather_lt, opened_some, some_opened, disables_some, some_disables}
use Rattle.session.specs.declared.Session.{Session}
use Rattle.session.specs.Session.{is_open, in_force, negotiated, held, Sound, permitted_by_base, permitted, Negotiates, Capable, Permitted, PermittedMeans}

-- no other number than a kind's in a set of kinds
pub kind_of : (a k : ℕ) → a < 2 ^ kind_count → has a k ≡ true → k < kind_count
kind_of = has_lt kind_count

-- what the base permitted, without what is barred by the capabilities that both hold
pub permitted_is : (s : Session) → permitted s ≡ minus (permitted_by_base s) (barred (held s))
unfolding permitted
permitted_is s = refl

module _ (s : Session) (k : ℕ) where
  -- an application of the common set is both enabled and listed
  pub negotiates_of : Some (opens s.protects) application_count (negotiated s) k → Negotiates s k
  negotiates_of o =
      let e = sym (has_common s.enabled s.listed (o.number - 1)) ∙ o.member in
      record {
        number = o.number;
        least = o.least;
        most = o.most;
        is_enabled = and_first (has s.enabled (o.number - 1)) _ e;
        is_listed = and_second (has s.enabled (o.number - 1)) _ e;
        maps = o.maps;
      }

  common_of : Negotiates s k → Some (opens s.protects) application_count (negotiated s) k
  common_of o =
      record {
        number = o.number;
        least = o.least;
        most = o.most;
        member = has_common s.enabled s.listed (o.number - 1) ∙ and_both _ _ o.is_enabled o.is_listed;
        maps = o.maps;
      }

  -- what negotiation leaves, before SAC is asked
  offered : ℕ
  offered = pick (in_force s) (opened s.protects (negotiated s)) all_kinds

  offered_kind : s.protects < 2 ^ kind_count → has offered k ≡ true → k < kind_count
  unfolding offered opened
  offered_kind h = go (in_force s) refl
    where
      go : (x : Bool) → in_force s ≡ x → has offered k ≡ true → k < kind_count
      go true e p =
          kind_of (opened s.protects (negotiated s)) k (gather_lt (opens s.protects) kind_count application_count (negotiated s) (λ n. opens_lt s.protects n h))
          (sym (ap (λ (o : ℕ). has o k) (taken _ _ e)) ∙ p)
      go false e p = kind_of all_kinds k (lit< tt) (sym (ap (λ (o : ℕ). has o k) (left _ _ e)) ∙ p)

  when_open : is_open s ≡ true → has (permitted_by_base s) k ≡ (has offered k && not (has (disables s.disabled) k))
  unfolding permitted_by_base offered
  when_open e = ap (λ (p : ℕ). has p k) (taken _ _ e) ∙ has_minus _ (disables s.disabled) k

  -- the base, and no capability in the way
  pub by_base : has (permitted s) k ≡ (has (permitted_by_base s) k && not (has (barred (held s)) k))
  by_base = ap (λ (p : ℕ). has p k) (permitted_is s) ∙ has_minus (permitted_by_base s) (barred (held s)) k

  -- one kind, as it is asked
  base_shut : is_open s ≡ false → has (permitted_by_base s) k ≡ false
  unfolding permitted_by_base
  base_shut e = ap (λ (p : ℕ). has p k) (left _ _ e) ∙ has_none k

  base_disabled : is_open s ≡ true → has (disables s.disabled) k ≡ true → has (permitted_by_base s) k ≡ false
  base_disabled e d = when_open e ∙ ap (λ (b : Bool). has offered k && not b) d ∙ and-false (has offered k)

  without_base : has (permitted_by_base s) k ≡ false → has (permitted s) k ≡ false
  without_base h = by_base ∙ ap (λ (b : Bool). b && not (has (barred (held s)) k)) h

  pub asked_shut : is_open s ≡ false → has (permitted s) k ≡ false
  asked_shut e = without_base (base_shut e)

  pub asked_disabled : is_open s ≡ true → has (disables s.disabled) k ≡ true → has (permitted s) k ≡ false
  asked_disabled e d = without_base (base_disabled e d)

  pub asked_barred : has (barred (held s)) k ≡ true → has (permitted s) k ≡ false
  asked_barred h = by_base ∙ ap (λ (b : Bool). has (permitted_by_base s) k && not b) h ∙ and-false (has (permitted_by_base s) k)

  pub asked_free : has (barred (held s)) k ≡ false → has (permitted s) k ≡ has (permitted_by_base s) k
  asked_free h = by_base ∙ ap (λ (b : Bool). has (permitted_by_base s) k && not b) h ∙ and-true (has (permitted_by_base s) k)

  base_offered : is_open s ≡ true → has (disables s.disabled) k ≡ false → has (permitted_by_base s) k ≡ has offered k
  base_offered e d = when_open e ∙ ap (λ (b : Bool). has offered k && not b) d ∙ and-true (has offered k)

  pub base_in_force : is_open s ≡ true → has (disables s.disabled) k ≡ false → in_force s ≡ true
      → has (permitted_by_base s) k ≡ has (opened s.protects (negotiated s)) k
  unfolding offered
  base_in_force e d f = base_offered e d ∙ ap (λ (o : ℕ). has o k) (taken _ _ f)

  pub base_unforced : is_open s ≡ true → has (disables s.disabled) k ≡ false → in_force s ≡ false → has (permitted_by_base s) k ≡ has all_kinds k
  unfolding offered
  base_unforced e d f = base_offered e d ∙ ap (λ (o : ℕ). has o k) (left _ _ f)

  -- what both hold, each holds, and the other way round
  capable_of : has (barred (held s)) k ≡ false → Capable s k
  capable_of free n least most needs =
      let both = sym (has_common s.ours s.theirs (n - 1)) ∙ unbarred_has (held s) k free n least most needs in
      (and_first (has s.ours (n - 1)) _ both, and_second (has s.ours (n - 1)) _ both)

  of_capable : Capable s k → has (barred (held s)) k ≡ false
  of_capable c =
      has_unbarred (held s) k (λ n least most needs.
      has_common s.ours s.theirs (n - 1) ∙ and_both _ _ (c n least most needs).0 (c n least most needs).1)

  pub permitted_means : Sound s → has (permitted s) k ≡ true → Permitted s k
  unfolding offered
  permitted_means r h = go (is_open s) refl
    where
      go : (x : Bool) → is_open s ≡ x → Permitted s k
      go false e = absurd (true≢false (sym h ∙ asked_shut e))
      go true e =
          let both = sym by_base ∙ h in
          let t = sym (when_open e) ∙ and_first (has (permitted_by_base s) k) _ both in
          let o = and_first (has offered k) _ t in
          record {
            is_open = e;
            kind = offered_kind r.protects o;
            not_disabled = λ d. true≢false (sym (some_disables s.disabled k d) ∙ not_false _ (and_second (has offered k) _ t));
            negotiates = λ f. negotiates_of (opened_some s.protects (negotiated s) k (sym (ap (λ (p : ℕ). has p k) (taken _ _ f)) ∙ o));
            capable = capable_of (not_false _ (and_second (has (permitted_by_base s) k) _ both));
          }

  pub means_permitted : Permitted s k → has (permitted s) k ≡ true
  unfolding offered
  means_permitted p =
      by_base
      ∙ and_both _ _ (when_open p.is_open ∙ and_both _ _ (go (in_force s) refl) (ap not (allowed (has (disables s.disabled) k) refl)))
      (ap not (of_capable p.capable))
    where
      go : (x : Bool) → in_force s ≡ x → has offered k ≡ true
      go true e = ap (λ (o : ℕ). has o k) (taken _ _ e) ∙ some_opened s.protects (negotiated s) k (common_of (p.negotiates e))
      go false e = let l : k < kind_count = p.kind in ap (λ (o : ℕ). has o k) (left _ _ e) ∙ has_all kind_count k l

      allowed : (x : Bool) → has (disables s.disabled) k ≡ x → has (disables s.disabled) k ≡ false
      allowed true e = absurd (p.not_disabled (disables_some s.disabled k e))
      allowed false e = e

pub both_ways : PermittedMeans
both_ways s k r = (permitted_means s k r, means_permitted s k)
