-- What a wish comes to, along its tests once: refused; Unchanged, beside sound wishes that have it so; or told, with room for it. From there what is known
-- where it was not refused, where it was Unchanged and where it was written; and of two sessions alike but for the enabled applications it is refused in
-- both or in neither. Assumes nothing.
use Rattle.std.proofs.Common.{◌≡◌, ℕ, ◌≤◌, Bool, true, sym, refl, ap, ◌∙◌, arith, leb-true}
use Rattle.choice.proofs.Branch.{by_test, taken}
use Rattle.sets.specs.Set.{holds}
use Rattle.refusals.specs.Refusals.{not_refused}
use Rattle.kinds.specs.Kinds.{app_count, known_app}
use Rattle.message.specs.Message.{wish_length}
use Rattle.wishes.specs.Wishes.{sound_wishes}
use Rattle.session.specs.declared.Session.{Session}
use Rattle.session.specs.Session.{Sound}
use Rattle.session.specs.With.{with_other_enabled}
use Rattle.session.specs.Decisions.{outcome_done, outcome_unchanged, answered, Decision, Refused, Unchanged, Tell, settled}
use Rattle.session.specs.Events.{same, telling, on_wish, Wish, step}
use Rattle.session.proofs.SoundMeans.{means_sound}

-- beside sound wishes, about an App
pub record AboutApp (wishes n : ℕ) : Type 0 where
  pub kept : sound_wishes wishes ≡ true
  pub known : known_app n ≡ true

module _ (s : Session) (wishes n : ℕ) (disable : Bool) (room : ℕ) where
  wish_along : (R : Decision → Type 0) → ((k : ℕ) → (k ≡ not_refused → ⊥) → R (Refused k)) → (AboutApp wishes n → same (holds app_count wishes n) disable ≡ true → R Unchanged)
      → (AboutApp wishes n → wish_length ≤ room → R (Tell wish_length)) → R (on_wish s wishes n disable room)
  unfolding on_wish telling
  wish_along R refused so told =
      by_test R
      (λ _. by_test R
      (λ kept. by_test R
      (λ known. by_test R (λ q. so (record { kept = kept; known = known }) q)
      (λ _. by_test R
      (λ _. by_test R (λ _. by_test R (λ l. told (record { kept = kept; known = known }) (leb-true wish_length room l)) (λ _. refused _ (λ e. omega arith))) (λ _. refused _ (λ e. omega arith)))
      (λ _. refused _ (λ e. omega arith))))
      (λ _. refused _ (λ e. omega arith)))
      (λ _. refused _ (λ e. omega arith)))
      (λ _. refused _ (λ e. omega arith))

  -- not refused
  pub wish_about : (step s (Wish wishes n disable room)).answer.refusal ≡ not_refused → AboutApp wishes n
  unfolding settled
  wish_about = wish_along (λ c. (settled s c).answer.refusal ≡ not_refused → AboutApp wishes n) (λ k f e. absurd (f e)) (λ a _ _. a) (λ a _ _. a)

  -- and done, it was told
  pub wish_done : (step s (Wish wishes n disable room)).answer.refusal ≡ not_refused → (step s (Wish wishes n disable room)).answer.outcome ≡ outcome_done
      → (step s (Wish wishes n disable room)).answer.written ≡ wish_length
  unfolding settled answered
  wish_done =
      wish_along (λ c. (settled s c).answer.refusal ≡ not_refused → (settled s c).answer.outcome ≡ outcome_done → (settled s c).answer.written ≡ wish_length)
      (λ k f e _. absurd (f e)) (λ _ _ _ e. absurd (omega arith)) (λ _ _ _ _. refl)

  -- Unchanged, it was so already
  pub wish_so : (step s (Wish wishes n disable room)).answer.outcome ≡ outcome_unchanged → AboutApp wishes n × (same (holds app_count wishes n) disable ≡ true)
  unfolding settled answered
  wish_so =
      wish_along (λ c. (settled s c).answer.outcome ≡ outcome_unchanged → AboutApp wishes n × (same (holds app_count wishes n) disable ≡ true))
      (λ _ _ e. absurd (omega arith)) (λ a q _. (a, q)) (λ _ _ e. absurd (omega arith))

  -- written, it was not refused and had room
  pub wish_wrote : (step s (Wish wishes n disable room)).answer.written ≡ wish_length
      → ((step s (Wish wishes n disable room)).answer.refusal ≡ not_refused) × (wish_length ≤ room)
  unfolding settled answered
  wish_wrote =
      wish_along (λ c. (settled s c).answer.written ≡ wish_length → ((settled s c).answer.refusal ≡ not_refused) × (wish_length ≤ room))
      (λ _ _ e. absurd (omega arith)) (λ _ _ e. absurd (omega arith)) (λ _ l _. (refl, l))

  -- with other applications enabled it comes to the same, and so is refused alike
  asked_alike : (e m : ℕ) → Sound s → Sound (with_other_enabled s e m) → on_wish (with_other_enabled s e m) wishes n disable room ≡ on_wish s wishes n disable room
  unfolding on_wish telling
  asked_alike e m r r' = taken _ _ (means_sound (with_other_enabled s e m) r') ∙ sym (taken _ _ (means_sound s r))

  pub refused_alike : (e m : ℕ) → Sound s → Sound (with_other_enabled s e m)
      → (step (with_other_enabled s e m) (Wish wishes n disable room)).answer.refusal ≡ (step s (Wish wishes n disable room)).answer.refusal
  unfolding settled answered
  refused_alike e m r r' =
      ap (λ (c : Decision). (settled (with_other_enabled s e m) c).answer.refusal) (asked_alike e m r r')
      ∙ wish_along (λ c. (settled (with_other_enabled s e m) c).answer.refusal ≡ (settled s c).answer.refusal) (λ _ _. refl) (λ _ _. refl) (λ _ _. refl)
