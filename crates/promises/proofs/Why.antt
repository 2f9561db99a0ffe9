-- The question why. The answer's sentence holds, along the tests that lead to it; and each sentence, with none before it, decides these tests, so that
-- the answer is its own. Assumes nothing.
use Prim.Native.Nat.{ℕ, zero, suc, ◌-◌, ◌≤◌, ◌<◌}
use mathlib.Core.Path.{◌≡◌, refl, sym, ap, ◌∙◌, subst}
use mathlib.Core.Bool.{Bool, true, false, not, true≢false}
use native.Mathlib.Omega.{arith}
use borrow.Author.Tests.{lt-ltb, le-ltb}
use Rattle.choice.proofs.Branch.{taken, left, by_test}
use Rattle.choice.proofs.Tests.{holds_if, and_first, and_second, and_both, not_false}
use Rattle.sets.specs.Set.{has}
use Rattle.sets.proofs.Members.{has_common}
use Rattle.kinds.specs.Kinds.{application_count, kind_count, is_in, opens, opened, disables, barred, Some, Lacking}
use Rattle.kinds.proofs.Capable.{barred_lacking, lacking_barred, unbarred_has, has_unbarred}
use Rattle.kinds.proofs.Gathered.{opened_some, some_opened, disables_some, some_disables}
use Rattle.session.specs.declared.Session.{Session}
use Rattle.session.specs.declared.Reason.{Reason}
use Rattle.session.specs.Session.{is_open, in_force, negotiated, sound, Sound, Negotiates}
use Rattle.session.specs.Questions.{why_not_theirs, unopened, why_barred, why, why_not}
use Rattle.session.proofs.SoundMeans.{sound_means}
use Rattle.session.proofs.PermittedMeans.{negotiates_of, permitted_means, means_permitted}
use Rattle.record.specs.Record.{decoded}
use Rattle.promises.specs.Words.{Enables, Lists, Maps, Disables, Permits}
use Rattle.promises.specs.Why.{NotOpen, NotEnabled, NotListed, NotOurs, NotTheirs, FirstThatHolds, WhyNot}
use Rattle.promises.proofs.Condition3.{in_set_law, at_place}

-- ---- a test that does not hold, and one that cannot fail to
off : (x : Bool) → (x ≡ true → ⊥) → x ≡ false
off true f = absurd (f refl)
off false f = refl

on : (x : Bool) → ((x ≡ true → ⊥) → ⊥) → x ≡ true
on true f = refl
on false f = absurd (f (λ e. true≢false (sym e)))

module _ (s : Session) (k : ℕ) where
  -- the kind is opened by a set: some application in it maps to it
  opens_it : ℕ → Bool
  opens_it a = has (opened s.protects a) k

  by_application : (a n : ℕ) → is_in a n ≡ true → Maps s n k → opens_it a ≡ true
  unfolding opens_it
  by_application a n h m =
      let p = at_place a n h in
      some_opened s.protects a k (record { number = n; least = p.0.0; most = p.0.1; member = p.1; maps = m })

  application : (a : ℕ) → opens_it a ≡ true → Some (opens s.protects) application_count a k
  unfolding opens_it
  application a h = opened_some s.protects a k h

  by_negotiated : (n : ℕ) → Enables s n → Lists s n → Maps s n k → opens_it (negotiated s) ≡ true
  by_negotiated n e l m =
      let p = at_place s.enabled n e in
      let both = has_common s.enabled s.listed (n - 1) ∙ and_both _ _ p.1 (at_place s.listed n l).1 in
      by_application (negotiated s) n (in_set_law (negotiated s) n p.0.0 p.0.1 both) m

  -- ---- the test of a set, both ways
  unopened_means : (a : ℕ) → unopened s a k ≡ true → (in_force s ≡ true) × (opens_it a ≡ false)
  unfolding unopened opens_it
  unopened_means a h = (and_first (in_force s) _ h, not_false _ (and_second (in_force s) _ h))

  is_unopened : (a : ℕ) → in_force s ≡ true → opens_it a ≡ false → unopened s a k ≡ true
  unfolding unopened opens_it
  is_unopened a f e = and_both _ _ f (ap not e)

  -- ---- each answer's sentence, with none before it
  Sentence : ℕ → Type 0
  Sentence zero = Permits s k
  Sentence (suc zero) = NotOpen s
  Sentence (suc (suc zero)) = (NotOpen s → ⊥) × Disables s k
  Sentence (suc (suc (suc zero))) = (NotOpen s → ⊥) × (Disables s k → ⊥) × NotEnabled s k
  Sentence (suc (suc (suc (suc zero)))) = (NotOpen s → ⊥) × (Disables s k → ⊥) × (NotEnabled s k → ⊥) × NotListed s k
  Sentence (suc (suc (suc (suc (suc zero))))) = (NotOpen s → ⊥) × (Disables s k → ⊥) × (NotEnabled s k → ⊥) × (NotListed s k → ⊥) × NotOurs s k
  Sentence (suc (suc (suc (suc (suc (suc zero)))))) =
      (NotOpen s → ⊥) × (Disables s k → ⊥) × (NotEnabled s k → ⊥) × (NotListed s k → ⊥) × (NotOurs s k → ⊥) × NotTheirs s k
  Sentence (suc (suc (suc (suc (suc (suc (suc n))))))) = ⊥

  among : (n : ℕ) → Sentence n → n ≤ why_not_theirs
  unfolding Sentence
  among zero h = omega arith
  among (suc zero) h = omega arith
  among (suc (suc zero)) h = omega arith
  among (suc (suc (suc zero))) h = omega arith
  among (suc (suc (suc (suc zero)))) h = omega arith
  among (suc (suc (suc (suc (suc zero))))) h = omega arith
  among (suc (suc (suc (suc (suc (suc zero)))))) h = omega arith
  among (suc (suc (suc (suc (suc (suc (suc n))))))) h = absurd h

  module _ (r : Sound s) (l : k < kind_count) where
    -- ---- the tests decided: each sentence by them
    none_enabled : unopened s s.enabled k ≡ true → NotEnabled s k
    none_enabled u =
        let p = unopened_means s.enabled u in
        record { in_force_law = p.0; none_enabled = λ n e m. true≢false (sym (by_application s.enabled n e m) ∙ p.1) }

    -- in force and not kept back by the test, the set opens the kind
    opened_by : (a : ℕ) → unopened s a k ≡ false → in_force s ≡ true → opens_it a ≡ true
    opened_by a u f = holds_if (opens_it a) (λ e. true≢false (sym (is_unopened a f e) ∙ u))

    not_none : unopened s s.enabled k ≡ false → NotEnabled s k → ⊥
    not_none u w =
        let o = application s.enabled (opened_by s.enabled u w.in_force_law) in
        w.none_enabled o.number (in_set_law s.enabled o.number o.least o.most o.member) o.maps

    none_listed : unopened s s.enabled k ≡ false → unopened s (negotiated s) k ≡ true → NotListed s k
    none_listed u v =
        let p = unopened_means (negotiated s) v in
        let o = application s.enabled (opened_by s.enabled u p.0) in
        record {
          in_force_law = p.0;
          some_enabled = record { application = o.number; enabled = in_set_law s.enabled o.number o.least o.most o.member; maps = o.maps };
          none_listed = λ n e m w. true≢false (sym (by_negotiated n e w m) ∙ p.1);
        }

    not_unlisted : unopened s (negotiated s) k ≡ false → NotListed s k → ⊥
    not_unlisted v w =
        let o = negotiates_of s k (application (negotiated s) (opened_by (negotiated s) v w.in_force_law)) in
        w.none_listed o.number (in_set_law s.enabled o.number o.least o.most o.is_enabled) o.maps
        (in_set_law s.listed o.number o.least o.most o.is_listed)

    not_lacking : (held : ℕ) → has (barred held) k ≡ false → Lacking held k → ⊥
    not_lacking held free w = true≢false (sym (lacking_barred held k w) ∙ free)

    permits : is_open s ≡ true → (Disables s k → ⊥) → unopened s (negotiated s) k ≡ false → has (barred s.ours) k ≡ false → has (barred s.theirs) k ≡ false
        → Permits s k
    permits o d v ours theirs =
        means_permitted s k
        (record {
          is_open = o;
          kind = l;
          not_disabled = d;
          negotiates = λ f. negotiates_of s k (application (negotiated s) (opened_by (negotiated s) v f));
          capable = λ n least most needs. (unbarred_has s.ours k ours n least most needs, unbarred_has s.theirs k theirs n least most needs);
        })

    told : Sentence (why s k)
    unfolding Sentence why why_barred
    told =
        by_test Sentence
        (λ shut o. true≢false (sym o ∙ not_false (is_open s) shut))
        (λ open-not.
        let o : is_open s ≡ true = on (is_open s) (λ f. true≢false (sym (ap not (off (is_open s) f)) ∙ open-not)) in
        let is_open : NotOpen s → ⊥ = λ f. f o in
        by_test Sentence
        (λ d. (is_open, disables_some s.disabled k d))
        (λ d.
        let enabled : Disables s k → ⊥ = λ a. true≢false (sym (some_disables s.disabled k a) ∙ d) in
        by_test Sentence
        (λ u. (is_open, enabled, none_enabled u))
        (λ u. by_test Sentence
        (λ v. (is_open, enabled, not_none u, none_listed u v))
        (λ v. by_test Sentence
        (λ x. (is_open, enabled, not_none u, not_unlisted v, barred_lacking s.ours k x))
        (λ x. by_test Sentence
        (λ y. (is_open, enabled, not_none u, not_unlisted v, not_lacking s.ours x, barred_lacking s.theirs k y))
        (λ y. permits o enabled v x y))))))

    -- ---- the sentences decide the tests
    why_open : (NotOpen s → ⊥) → not (is_open s) ≡ false
    why_open f = ap not (on (is_open s) f)

    why_allowed : (Disables s k → ⊥) → has (disables s.disabled) k ≡ false
    why_allowed f = off _ (λ e. f (disables_some s.disabled k e))

    why_none : NotEnabled s k → unopened s s.enabled k ≡ true
    unfolding opens_it
    why_none w =
        is_unopened s.enabled w.in_force_law
        (off (opens_it s.enabled)
        (λ e.
        let o = application s.enabled e in
        w.none_enabled o.number (in_set_law s.enabled o.number o.least o.most o.member) o.maps))

    why_some : (NotEnabled s k → ⊥) → unopened s s.enabled k ≡ false
    why_some f = off _ (λ u. f (none_enabled u))

    why_unlisted : NotListed s k → unopened s (negotiated s) k ≡ true
    why_unlisted w =
        is_unopened (negotiated s) w.in_force_law
        (off (opens_it (negotiated s))
        (λ e.
        let o = negotiates_of s k (application (negotiated s) e) in
        w.none_listed o.number (in_set_law s.enabled o.number o.least o.most o.is_enabled) o.maps
        (in_set_law s.listed o.number o.least o.most o.is_listed)))

    why_listed : (NotEnabled s k → ⊥) → (NotListed s k → ⊥) → unopened s (negotiated s) k ≡ false
    why_listed f g = off _ (λ v. g (none_listed (why_some f) v))

    why_held : (held : ℕ) → (Lacking held k → ⊥) → has (barred held) k ≡ false
    why_held held f = off _ (λ e. f (barred_lacking held k e))

    at_1 : NotOpen s → why s k ≡ 1
    unfolding why
    at_1 f = taken _ _ (ap not (off (is_open s) f))

    at_2 : (NotOpen s → ⊥) × Disables s k → why s k ≡ 2
    unfolding why
    at_2 p = left _ _ (why_open p.0) ∙ taken _ _ (some_disables s.disabled k p.1)

    at_3 : (NotOpen s → ⊥) × (Disables s k → ⊥) × NotEnabled s k → why s k ≡ 3
    unfolding why
    at_3 p = left _ _ (why_open p.0) ∙ left _ _ (why_allowed p.1) ∙ taken _ _ (why_none p.2)

    at_4 : (NotOpen s → ⊥) × (Disables s k → ⊥) × (NotEnabled s k → ⊥) × NotListed s k → why s k ≡ 4
    unfolding why
    at_4 p = left _ _ (why_open p.0) ∙ left _ _ (why_allowed p.1) ∙ left _ _ (why_some p.2) ∙ taken _ _ (why_unlisted p.3)

    at_5 : (NotOpen s → ⊥) × (Disables s k → ⊥) × (NotEnabled s k → ⊥) × (NotListed s k → ⊥) × NotOurs s k → why s k ≡ 5
    unfolding why why_barred
    at_5 p =
        left _ _ (why_open p.0) ∙ left _ _ (why_allowed p.1) ∙ left _ _ (why_some p.2) ∙ left _ _ (why_listed p.2 p.3)
        ∙ taken _ _ (lacking_barred s.ours k p.4)

    at_6 : (NotOpen s → ⊥) × (Disables s k → ⊥) × (NotEnabled s k → ⊥) × (NotListed s k → ⊥) × (NotOurs s k → ⊥) × NotTheirs s k → why s k ≡ 6
    unfolding why why_barred
    at_6 p =
        left _ _ (why_open p.0) ∙ left _ _ (why_allowed p.1) ∙ left _ _ (why_some p.2) ∙ left _ _ (why_listed p.2 p.3)
        ∙ left _ _ (why_held s.ours p.4) ∙ taken _ _ (lacking_barred s.theirs k p.5)

    at_0 : Permits s k → why s k ≡ 0
    unfolding why why_barred
    at_0 h =
        let w = permitted_means s k r h in
        let opened-if : (a : ℕ) → (in_force s ≡ true → opens_it a ≡ true) → unopened s a k ≡ false =
        λ a f. off _ (λ u. let p = unopened_means a u in true≢false (sym (f p.0) ∙ p.1))
        in
        let by : (a : ℕ) → ((o : Negotiates s k) → is_in a o.number ≡ true) → unopened s a k ≡ false =
        λ a f. opened-if a (λ e. let o = w.negotiates e in by_application a o.number (f o) o.maps)
        in
        left _ _ (ap not w.is_open) ∙ left _ _ (why_allowed w.not_disabled)
        ∙ left _ _ (by s.enabled (λ o. in_set_law s.enabled o.number o.least o.most o.is_enabled))
        ∙ left _ _
        (by (negotiated s)
        (λ o.
        in_set_law (negotiated s) o.number o.least o.most
        (has_common s.enabled s.listed (o.number - 1) ∙ and_both _ _ o.is_enabled o.is_listed)))
        ∙ left _ _ (has_unbarred s.ours k (λ n least most needs. (w.capable n least most needs).0))
        ∙ left _ _ (has_unbarred s.theirs k (λ n least most needs. (w.capable n least most needs).1))

    first : FirstThatHolds s k (why s k)
    unfolding Sentence
    first =
        record {
          permitted = (λ e. subst Sentence e told, at_0);
          not_open = (λ e. subst Sentence e told, at_1);
          disabled = (λ e. subst Sentence e told, at_2);
          not_enabled = (λ e. subst Sentence e told, at_3);
          not_listed = (λ e. subst Sentence e told, at_4);
          not_ours = (λ e. subst Sentence e told, at_5);
          not_theirs = (λ e. subst Sentence e told, at_6);
          no_other = among (why s k) told;
        }

  -- ---- the refusals
  not_refused_law : sound s ≡ true → k < kind_count → why_not s k ≡ record { refusal = 0; reason = why s k }
  unfolding why_not
  not_refused_law h l = taken _ _ h ∙ taken _ _ (lt-ltb k kind_count l)

pub why_not_law : WhyNot
unfolding why_not
why_not_law =
    record {
      answered = λ s k h l. ap (λ (a : Reason). a.refusal) (not_refused_law s k h l);
      first = λ s k h l. subst (FirstThatHolds s k) (sym (ap (λ (a : Reason). a.reason) (not_refused_law s k h l))) (first s k (sound_means s h) l);
      asked = λ κs a r s p h l. rw (p ∙ not_refused_law (decoded a.0.now) a.1.0 h l) (refl, first (decoded a.0.now) a.1.0 (sound_means (decoded a.0.now) h) l);
      unsound = λ s k h. left _ _ h;
      no_kind = λ s k h l. taken _ _ h ∙ left _ _ (le-ltb k kind_count l);
    }
