-- Condition 3. While the first is Open the two are alike, so what each permits is told by the laws of permission: both ask the same of the peer, and the
-- second asks it of more applications. Assumes nothing.
use Prim.Native.Nat.{ℕ, ◌+◌, ◌-◌, ◌<◌, ◌≤◌, ◌^◌}
use mathlib.Core.Path.{◌≡◌, refl, sym, ap, ◌∙◌, subst}
use mathlib.Core.Bool.{Bool, true, false, true≢false}
use mathlib.Core.List.{List, [], ◌∷◌}
use native.Mathlib.Omega.{arith}
use native.Mathlib.Decide.{dec_lt}
use Rattle.choice.proofs.Tests.{and_first, and_second, and_both}
use Rattle.sets.specs.Set.{has, Within}
use Rattle.sets.proofs.Members.{has_above}
use Rattle.sets.proofs.Switches.{numbered_is, is_numbered}
use Rattle.kinds.specs.Kinds.{application_count, known_application, is_in, opens}
use Rattle.kinds.proofs.Table.{opens_lt}
use Rattle.session.specs.declared.Session.{Session}
use Rattle.session.specs.Session.{is_open, in_force, Sound, Negotiates}
use Rattle.session.specs.With.{with_other_enabled}
use Rattle.session.specs.Events.{Event, Initialization, step, run}
use Rattle.session.proofs.SoundMeans.{sound_means}
use Rattle.session.proofs.PermittedMeans.{kind_of, permitted_means, means_permitted}
use Rattle.session.proofs.Alike.{Alike}
use Rattle.session.proofs.View.{view}
use Rattle.session.proofs.Steps.{step_sound}
use Rattle.promises.specs.Run.{StaysOpen}
use Rattle.promises.specs.Words.{Enables, Lists, Maps, Permits}
use Rattle.promises.specs.Condition3.{ReadyPair, Further, NeverLess, Condition3}

-- ---- an application in a set, by its number and by its place
pub in_set_law : (a n : ℕ) → 1 ≤ n → n ≤ application_count → has a (n - 1) ≡ true → is_in a n ≡ true
unfolding is_in
in_set_law a n l m h = and_both _ _ (is_numbered application_count n l m) h

pub at_place : (a n : ℕ) → is_in a n ≡ true → ((1 ≤ n) × (n ≤ application_count)) × (has a (n - 1) ≡ true)
unfolding is_in
at_place a n h = (numbered_is application_count n (and_first (known_application n) _ h), and_second (known_application n) _ h)

negotiator : (t : Session) (n k : ℕ) → Enables t n → Lists t n → Maps t n k → Negotiates t k
negotiator t n k e l m =
    let p = at_place t.enabled n e in
    record { number = n; least = p.0.0; most = p.0.1; is_enabled = p.1; is_listed = (at_place t.listed n l).1; maps = m }

-- ---- two alike sessions, the first Open
module _ (s : Session) (e m : ℕ) (h : Within s.enabled e) (r : Sound s) (r' : Sound (with_other_enabled s e m)) (is_open : is_open s ≡ true) where
  t : Session
  t = with_other_enabled s e m

  more : (k : ℕ) → Negotiates s k → Negotiates t k
  unfolding t
  more k o =
      record { number = o.number; least = o.least; most = o.most; is_enabled = h (o.number - 1) o.is_enabled; is_listed = o.is_listed; maps = o.maps }

  permits_more : (k : ℕ) → Permits s k → Permits t k
  unfolding t
  permits_more k p =
      let w = permitted_means s k r p in
      means_permitted (with_other_enabled s e m) k
      (record { is_open = is_open; kind = w.kind; not_disabled = w.not_disabled; negotiates = λ f. more k (w.negotiates f); capable = w.capable })

  -- a kind of the second alone: in force, else the first would permit it too
  forced : (k : ℕ) → Permits t k → (Permits s k → ⊥) → in_force s ≡ true
  unfolding t
  forced k p q = go (in_force s) refl
    where
      go : (x : Bool) → in_force s ≡ x → in_force s ≡ true
      go true f = f
      go false f =
          let w = permitted_means (with_other_enabled s e m) k r' p in
          absurd
          (q (means_permitted s k
          (record { is_open = is_open; kind = w.kind; not_disabled = w.not_disabled; negotiates = λ g. absurd (true≢false (sym g ∙ f)); capable = w.capable })))

  to_further : (k : ℕ) → Permits t k × (Permits s k → ⊥) → Further s t k
  unfolding t
  to_further k p =
      let w = permitted_means (with_other_enabled s e m) k r' p.0 in
      let f = forced k p.0 p.1 in
      let o = w.negotiates f in
      let none : (n : ℕ) → Enables s n → Lists s n → Maps s n k → ⊥ =
      λ n a b c. p.1 (means_permitted s k
      (record { is_open = is_open; kind = w.kind; not_disabled = w.not_disabled; negotiates = λ _. negotiator s n k a b c; capable = w.capable }))
      in
      let listed : Lists s o.number = in_set_law s.listed o.number o.least o.most o.is_listed in
      record {
        in_force_law = f;
        not_disabled = w.not_disabled;
        none_common = none;
        only_second =
            record {
              application = o.number;
              listed = listed;
              enabled = in_set_law e o.number o.least o.most o.is_enabled;
              not_first = λ a. none o.number a listed o.maps;
              maps = o.maps;
            };
        capable = w.capable;
      }

  from_further : (k : ℕ) → Further s t k → Permits t k × (Permits s k → ⊥)
  unfolding t
  from_further k f =
      let o = f.only_second in (
        means_permitted (with_other_enabled s e m) k
            (record {
              is_open = is_open;
              kind = kind_of (opens s.protects o.application) k (opens_lt s.protects o.application r.protects) o.maps;
              not_disabled = f.not_disabled;
              negotiates = λ _. negotiator (with_other_enabled s e m) o.application k o.enabled o.listed o.maps;
              capable = f.capable;
            }),
        λ p.
            let n = (permitted_means s k r p).negotiates f.in_force_law in
            f.none_common n.number (in_set_law s.enabled n.number n.least n.most n.is_enabled)
            (in_set_law s.listed n.number n.least n.most n.is_listed) n.maps,
      )

  never_less : NeverLess s t
  unfolding t
  never_less = record { second_open = is_open; permits = permits_more; further = λ k. (to_further k, from_further k) }

-- ---- over the events
pub alike_less : (s t : Session) → Alike s t → Sound s → Sound t → is_open s ≡ true → NeverLess s t
unfolding t
alike_less s u a r r' o =
    subst (NeverLess s) (sym a.same_else) (never_less s u.enabled u.next a.more r (subst Sound a.same_else r') o)

pub alike_step : (s t : Session) (ev : Event) → Alike s t → Sound s → Sound t → is_open (step s ev).session ≡ true → Alike (step s ev).session (step t ev).session
alike_step s t ev a r r' o =
    subst (λ (u : Session). Alike (step s ev).session (step u ev).session) (sym a.same_else)
    ((view s t.enabled t.next a.more r (subst Sound a.same_else r') ev).follows o)

over : (s t : Session) (ev : Event) (es : List Event) → Alike s t → Sound s → Sound t → StaysOpen s (ev ∷ es) → NeverLess (run s (ev ∷ es)) (run t (ev ∷ es))
over s t ev [] a r r' o =
    alike_less (step s ev).session (step t ev).session (alike_step s t ev a r r' o.0) (step_sound s r ev) (step_sound t r' ev) o.0
over s t ev (next ∷ es) a r r' o =
    over (step s ev).session (step t ev).session next es (alike_step s t ev a r r' o.0) (step_sound s r ev) (step_sound t r' ev) o.1

-- the same said of applications and of members
pub members : (a b : ℕ) → a < 2 ^ application_count → ((n : ℕ) → is_in a n ≡ true → is_in b n ≡ true) → Within a b
members a b small f k h = go (dec_lt k application_count)
  where
    go : Dec (k < application_count) → has b k ≡ true
    go (yes l) =
        let place : k + 1 - 1 ≡ k = omega arith in
        rw place at (at_place b (k + 1) (f (k + 1) (in_set_law a (k + 1) (omega arith) (omega arith) (rw place h)))).1
    go (no l) = absurd (true≢false (sym h ∙ has_above application_count a k small (omega arith)))

-- the two that it starts from
pub ready_alike : (s t : Session) → ReadyPair s t → Alike s t
ready_alike s t pair =
    let next : t.next ≡ s.next = ap (λ (u : Session). u.next) pair.alike in
    record {
      same_else = pair.alike ∙ ap (with_other_enabled s t.enabled) (sym next);
      more = members s.enabled t.enabled (sound_means s pair.first_sound).enabled pair.more;
    }

pub condition_3 : Condition3
condition_3 s t area below_limit es pair =
    over s t (Initialization area below_limit) es (ready_alike s t pair) (sound_means s pair.first_sound) (sound_means t pair.second_sound)
