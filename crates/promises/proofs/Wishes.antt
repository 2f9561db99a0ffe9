-- The wishes that are kept beside a session. A wish that is not refused switches its App alone; every other event leaves them, so over any run they stay but
-- for wishes about that App; and two sessions alike but for the enabled applications refuse the same wishes. Assumes nothing.
use Prim.Native.Nat.{ℕ, ◌-◌}
use mathlib.Core.Path.{◌≡◌, refl, sym, ap, ◌∙◌, subst}
use mathlib.Core.Bool.{Bool, true, false, ◌&&◌, false≢true}
use mathlib.Core.List.{List, [], ◌∷◌}
use native.Mathlib.Nat.{le_refl}
use borrow.Author.Tests.{eq-eqb, ne_eqb}
use Rattle.choice.proofs.Branch.{by_test, taken, left}
use Rattle.sets.specs.Set.{has, holds, switched}
use Rattle.sets.proofs.Switches.{holds_same, holds_other, switched_so, switched_lt}
use Rattle.kinds.specs.Kinds.{app_count, known_app}
use Rattle.wishes.specs.Wishes.{sound_wishes, wishes_after}
use Rattle.wishes.proofs.Few.{sound_few, few_sound}
use Rattle.session.specs.declared.Session.{Session}
use Rattle.session.specs.Session.{Sound}
use Rattle.session.specs.With.{with_other_enabled}
use Rattle.session.specs.Events.{same, Event, Initialization, Capability, LocalChange, Wish, Mismatch, Hello, Closed, Unknown, step}
use Rattle.session.proofs.Alike.{Alike}
use Rattle.session.proofs.Wishes.{wish_about, wish_done, wish_so, refused_alike}
use Rattle.session.proofs.Steps.{step_sound}
use Rattle.session.proofs.SoundMeans.{sound_means}
use Rattle.promises.specs.Run.{StaysOpen}
use Rattle.promises.specs.Wishes.{wishes_by, WishIsKept, kept_after, kept_run, OfWish, Handed, WishesStay, WishesStaySound, SameWishes, WishesOfBoth}
use Rattle.promises.proofs.Condition3.{alike_step, ready_alike}

-- ---- one wish
same_is : (a b : Bool) → same a b ≡ true → a ≡ b
same_is true true h = refl
same_is true false h = absurd (false≢true h)
same_is false true h = absurd (false≢true h)
same_is false false h = refl

-- what is so already, of an App, is so at its place
so_at : (wishes n : ℕ) (disable : Bool) → known_app n ≡ true → same (holds app_count wishes n) disable ≡ true → has wishes (n - 1) ≡ disable
so_at wishes n disable known so = sym (ap (λ (b : Bool). b && has wishes (n - 1)) known) ∙ same_is (holds app_count wishes n) disable so

pub wish_is_kept : WishIsKept
unfolding wishes_after
wish_is_kept s wishes n disable room =
    record {
      that = λ h. ap (λ (w : ℕ). holds app_count w n) (taken _ _ (eq-eqb _ _ h)) ∙ holds_same app_count wishes n disable (wish_about s wishes n disable room h).known;
      no_other = λ m ne. by_test (λ (w : ℕ). holds app_count w m ≡ holds app_count wishes m) (λ _. holds_other app_count wishes n disable m ne) (λ _. refl);
      refused = λ h. left _ _ (ne_eqb _ _ h);
      unchanged = λ h.
          let so = wish_so s wishes n disable room h in
          by_test (λ (w : ℕ). w ≡ wishes) (λ _. switched_so app_count wishes n disable (sound_few wishes so.0.kept) (so_at wishes n disable so.0.known so.1)) (λ _. refl);
      done = wish_done s wishes n disable room;
    }

pub after_sound : (wishes n : ℕ) (disable : Bool) (refusal : ℕ) → sound_wishes wishes ≡ true → sound_wishes (wishes_after wishes n disable refusal) ≡ true
unfolding wishes_after
after_sound wishes n disable refusal h =
    by_test (λ (w : ℕ). sound_wishes w ≡ true)
    (λ _. few_sound (switched app_count wishes n disable) (switched_lt app_count wishes n disable app_count (le_refl app_count) (sound_few wishes h))) (λ _. h)

-- ---- over the events: what holds of the wishes as they were, and after a wish, holds after every event
by_wish : (s : Session) (kept : ℕ) (Q : Event → ℕ → Type 0) → ((e : Event) → Q e kept)
    → ((wishes n : ℕ) (disable : Bool) (room : ℕ) → Q (Wish wishes n disable room) (wishes_by s wishes n disable room)) → (e : Event) → Q e (kept_after s kept e)
by_wish s kept Q f g (Initialization area below_limit) = f (Initialization area below_limit)
by_wish s kept Q f g (Capability area) = f (Capability area)
by_wish s kept Q f g (LocalChange n on room) = f (LocalChange n on room)
by_wish s kept Q f g (Wish wishes n disable room) = g wishes n disable room
by_wish s kept Q f g Mismatch = f Mismatch
by_wish s kept Q f g (Hello number) = f (Hello number)
by_wish s kept Q f g Closed = f Closed
by_wish s kept Q f g Unknown = f Unknown

stays_after : (s : Session) (kept n : ℕ) (e : Event) → OfWish (λ wishes m. wishes ≡ kept) e → OfWish (λ wishes m. m ≡ n → ⊥) e
    → holds app_count (kept_after s kept e) n ≡ holds app_count kept n
stays_after s kept n =
    by_wish s kept (λ e x. OfWish (λ wishes m. wishes ≡ kept) e → OfWish (λ wishes m. m ≡ n → ⊥) e → holds app_count x n ≡ holds app_count kept n)
    (λ _ _ _. refl) (λ wishes m disable room p q. (wish_is_kept s wishes m disable room).no_other n (λ e. q (sym e)) ∙ ap (λ (w : ℕ). holds app_count w n) p)

pub wishes_stay : WishesStay
wishes_stay s kept [] n h a = refl
wishes_stay s kept (e ∷ es) n h a =
    wishes_stay (step s e).session (kept_after s kept e) es n h.1 a.1 ∙ stays_after s kept n e h.0 a.0

sound_after : (s : Session) (kept : ℕ) → sound_wishes kept ≡ true → (e : Event) → OfWish (λ wishes m. wishes ≡ kept) e → sound_wishes (kept_after s kept e) ≡ true
sound_after s kept r =
    by_wish s kept (λ e x. OfWish (λ wishes m. wishes ≡ kept) e → sound_wishes x ≡ true) (λ _ _. r)
    (λ wishes n disable room p. after_sound wishes n disable _ (subst (λ (w : ℕ). sound_wishes w ≡ true) (sym p) r))

pub wishes_stay_sound : WishesStaySound
wishes_stay_sound s kept [] r h = r
wishes_stay_sound s kept (e ∷ es) r h = wishes_stay_sound (step s e).session (kept_after s kept e) es (sound_after s kept r e h.0) h.1

-- ---- of the two sessions of condition 3
kept_alike : (s t : Session) → Alike s t → Sound s → Sound t → (kept : ℕ) (e : Event) → kept_after t kept e ≡ kept_after s kept e
kept_alike s t a r r' kept (Initialization area below_limit) = refl
kept_alike s t a r r' kept (Capability area) = refl
kept_alike s t a r r' kept (LocalChange n on room) = refl
kept_alike s t a r r' kept (Wish wishes n disable room) =
    let other = with_other_enabled s t.enabled t.next in
    ap (λ (u : Session). wishes_by u wishes n disable room) a.same_else
    ∙ ap (wishes_after wishes n disable) (refused_alike s wishes n disable room t.enabled t.next r (subst Sound a.same_else r'))
kept_alike s t a r r' kept Mismatch = refl
kept_alike s t a r r' kept (Hello number) = refl
kept_alike s t a r r' kept Closed = refl
kept_alike s t a r r' kept Unknown = refl

both_keep : (s t : Session) (kept : ℕ) (es : List Event) → Alike s t → Sound s → Sound t → StaysOpen s es → SameWishes s t kept es
both_keep s t kept [] a r r' o = record { same = refl; handed = λ h. tt }
both_keep s t kept (e ∷ es) a r r' o =
    let one = kept_alike s t a r r' kept e in
    let rest = both_keep (step s e).session (step t e).session (kept_after s kept e) es (alike_step s t e a r r' o.0) (step_sound s r e) (step_sound t r' e) o.1 in
    record {
      same = ap (λ (w : ℕ). kept_run (step t e).session w es) one ∙ rest.same;
      handed = λ h. (h.0, subst (λ (w : ℕ). Handed (step t e).session w es) (sym one) (rest.handed h.1));
    }

pub wishes_of_both : WishesOfBoth
wishes_of_both s t kept area below_limit es pair o =
    both_keep s t kept (Initialization area below_limit ∷ es) (ready_alike s t pair) (sound_means s pair.first_sound) (sound_means t pair.second_sound) o
