-- Two sessions alike but for the enabled applications, the first's within the second's, and the next message number. The number is outside "alike", since
-- a change may be written by one and be Unchanged in the other. Whatever an event is decided to come to in the first and, with more enabled, in the second:
-- if the first is Open after it, the two are alike after it. Assumes nothing.
use Rattle.std.proofs.Common.{◌≡◌, ℕ, Bool, true, false, ◌&&◌, sym, refl, ap, ◌∙◌, subst, true≢false}
use Rattle.choice.specs.Pick.{pick}
use Rattle.choice.proofs.Branch.{taken, left}
use Rattle.sets.specs.Set.{common, empty, Within}
use Rattle.sets.proofs.Subsets.{within_common, lacks_empty, empty_lacks}
use Rattle.session.specs.declared.Session.{Session}
use Rattle.session.specs.declared.After.{After}
use Rattle.session.specs.Session.{is_open, in_force, negotiated, nothing_common}
use Rattle.session.specs.With.{with_other_enabled}
use Rattle.session.specs.Limits.{at_limit}
use Rattle.session.specs.Decisions.{answered, Done, AsMismatch, Negotiate, Admit, Send, Tell, settled}
use Rattle.session.proofs.Made.{never, mismatched_shut}

pub record Alike (s t : Session) : Type 0 where
  pub same_else : t ≡ with_other_enabled s t.enabled t.next
  pub more : Within s.enabled t.enabled

pub alike : (s : Session) (e n : ℕ) → Within s.enabled e → Alike s (with_other_enabled s e n)
alike s e n h = record { same_else = refl; more = h }

-- if the first is Open after the event, the two are alike after it
abbrev pub Follows : After → After → Type 0
Follows z z' = is_open z.session ≡ true → Alike z.session z'.session

-- ---- what is asked of both
-- with more in the set, what was found in it is found
more_found : (f : Bool) (a b : ℕ) → Within a b → (f && empty a) ≡ false → (f && empty b) ≡ false
more_found false a b h k = refl
more_found true a b h k = go (empty b) refl
  where
    go : (x : Bool) → empty b ≡ x → x ≡ false
    go false q = refl
    go true q = never (lacks_empty a (λ i p. true≢false (sym (h i p) ∙ empty_lacks b i q))) k

-- with more enabled, what was common is common, and what was below its limit is
pub common_more : (s : Session) (e n : ℕ) → Within s.enabled e → nothing_common s ≡ false → nothing_common (with_other_enabled s e n) ≡ false
unfolding nothing_common
common_more s e n h = more_found (in_force s) (negotiated s) (common e s.listed) (within_common s.enabled e s.listed h)

limit_more : (s : Session) (e n below_limit : ℕ) → Within s.enabled e → at_limit s below_limit ≡ false → at_limit (with_other_enabled s e n) below_limit ≡ false
unfolding at_limit
limit_more s e n below_limit h =
    more_found (in_force s) (common (negotiated s) below_limit) (common (common e s.listed) below_limit)
    (within_common (negotiated s) (common e s.listed) below_limit (within_common s.enabled e s.listed h))

-- out of Open where a test holds of the first, and then perhaps of the second; else on
unless_shut : (x x' : Bool) → (x ≡ false → x' ≡ false) → (m m' z z' : After) → is_open m.session ≡ false → Follows z z'
    → Follows (pick x m z) (pick x' m' z')
unless_shut x x' f m m' z z' shut al = go x refl
  where
    go : (y : Bool) → x ≡ y → Follows (pick x m z) (pick x' m' z')
    go true q k = never (sym (ap (λ (w : After). is_open w.session) (taken m z q)) ∙ k) shut
    go false q k =
        subst (λ (w : After). Alike w.session (pick x' m' z').session) (sym (left m z q))
        (subst (λ (w : After). Alike z.session w.session) (sym (left m' z' (f q)))
        (al (sym (ap (λ (w : After). is_open w.session) (left m z q)) ∙ k)))

-- ---- a message about what stands beside the session
pub tell_follows : (s : Session) (e n : ℕ) → Within s.enabled e → (written : ℕ) → Follows (settled s (Tell written)) (settled (with_other_enabled s e n) (Tell written))
unfolding settled answered
tell_follows s e n h written _ = record { same_else = refl; more = h }

-- ---- the same decision in both, of t and of t with e enabled
module _ (s s' t : Session) (e n : ℕ) (h : Within t.enabled e) where
  -- whatever comes of the second, a session that is not Open has none to follow it
  pub mismatch_follows : (z' : After) → Follows (settled s (AsMismatch t)) z'
  unfolding settled answered
  mismatch_follows z' k = never k (mismatched_shut t)

  pub done_follows : Follows (settled s (Done t)) (settled s' (Done (with_other_enabled t e n)))
  unfolding settled answered
  done_follows k = alike t e n h

  pub negotiate_follows : Follows (settled s (Negotiate t)) (settled s' (Negotiate (with_other_enabled t e n)))
  unfolding settled answered
  negotiate_follows =
      unless_shut (nothing_common t) (nothing_common (with_other_enabled t e n)) (common_more t e n h) _ _ _ _ (mismatched_shut t) (λ _. alike t e n h)

  pub admit_follows : (below_limit : ℕ) → Follows (settled s (Admit t below_limit)) (settled s' (Admit (with_other_enabled t e n) below_limit))
  unfolding settled answered
  admit_follows below_limit =
      unless_shut (nothing_common t) (nothing_common (with_other_enabled t e n)) (common_more t e n h) _ _ _ _ (mismatched_shut t)
      (unless_shut (at_limit t below_limit) (at_limit (with_other_enabled t e n) below_limit) (limit_more t e n below_limit h) _ _ _ _ (mismatched_shut t) (λ _. alike t e n h))

  pub send_follows : (written : ℕ) → Follows (settled s (Send t written)) (settled s' (Send (with_other_enabled t e n) written))
  unfolding settled answered
  send_follows written =
      unless_shut (nothing_common t) (nothing_common (with_other_enabled t e n)) (common_more t e n h) _ _ _ _ (mismatched_shut t)
      (λ _. record { same_else = refl; more = h })
