-- There and back gives the old record, back and there the new one: each way the session is the same, and it is stored as it was read. When each way is
-- refused goes by its tests. And a record is of one kind alone, by its length and its kind field. Assumes nothing.
use Prim.Native.Nat.{ℕ, ◌<◌}
use mathlib.Core.Path.{◌≡◌, refl, sym, ap, ap₂, ◌∙◌}
use mathlib.Core.Bool.{true, false, ◌&&◌}
use mathlib.Core.List.{List}
use native.Mathlib.Omega.{arith}
use borrow.Author.Tests.{eq-eqb, ne_eqb}
use lib.Dec.{eqb}
use lib.ListN.{length, get_or}
use Rattle.choice.proofs.Branch.{taken, left, by_test}
use Rattle.choice.proofs.Tests.{holds_if, fails_if, and_first, and_second}
use Rattle.sets.specs.Set.{empty}
use Rattle.sets.proofs.Subsets.{empty_is}
use Rattle.octets.specs.Octets.{le_at16}
use Rattle.refusals.specs.Refusals.{not_refused, not_sound}
use Rattle.session.specs.declared.Session.{Session}
use Rattle.session.specs.Session.{sound}
use Rattle.session.specs.With.{no_session}
use Rattle.record.specs.Record.{record_length, length_field, kind_field, kind1_length, kind1_length_field, kind1_field, encoded_kind1, stored_in, decoded, decoded_kind1}
use Rattle.record.specs.Loaded.{store_refusal, store_octets}
use Rattle.record.specs.Moves.{forward, forward_room, holds_none, back_refusal, back_room, ThereAndBack, BackAndThere, ForwardRefused, BackRefused, MovesRefused, OneKind}
use Rattle.record.proofs.RoundTrip.{read_back_kind1, read, read_kind1, headed_means, narrow, narrow_kind1, stored_back_kind1, stored_back, stored_is}
use Rattle.record.proofs.ByTest.{store_done, store_stays, back_unsound, back_size, back_held, back_done, done_room, stays_room}

-- ---- a record of kind 1 holds no capability
pub none_held : (l : List ℕ) → ((decoded_kind1 l).ours ≡ 0) × ((decoded_kind1 l).theirs ≡ 0)
unfolding decoded_kind1
none_held l = by_test None (λ _. by_test None (λ _. (refl, refl)) (λ _. (refl, refl))) (λ _. (refl, refl))
  where
    None : Session → Type 0
    None s = (s.ours ≡ 0) × (s.theirs ≡ 0)

both_none : {a b : ℕ} → a ≡ 0 → b ≡ 0 → (empty a && empty b) ≡ true
unfolding empty
both_none e f = ap₂ (λ (a b : ℕ). eqb a 0 && eqb b 0) e f

-- ---- refused, on the way forward
forward_refused : (l room : List ℕ) → ForwardRefused l room
unfolding forward forward_room store_refusal
forward_refused l room =
    record {
      unsound = λ h. left _ _ h;
      no_size = λ n. by_test (λ (r : ℕ). r ≡ not_sound) (λ _. left _ _ (ne_eqb _ _ n)) (λ _. refl);
      done = λ h n. store_done (decoded_kind1 l) room h n;
      stays = λ r. (left _ _ (ne_eqb _ _ r), store_stays (decoded_kind1 l) room r);
    }

-- ---- there and back
pub there_is : (l room : List ℕ) → ((i : ℕ) → get_or l i 0 < 256) → sound (decoded_kind1 l) ≡ true → length room ≡ record_length
    → decoded (forward_room l room) ≡ decoded_kind1 l
unfolding forward_room
there_is l room o h n = stored_is (decoded_kind1 l) room h (narrow_kind1 l o) n

pub there_and_back : ThereAndBack
there_and_back l room room' o h n n' =
    let is = there_is l room o h n in
    let none = none_held l in
    let back = back_done (forward_room l room) room' (ap sound is ∙ h) (eq-eqb _ _ n') (ap holds_none is ∙ both_none none.0 none.1) in
    record {
      there = (forward_refused l room).done h n;
      back = back;
      octets = done_room (forward_room l room) room' back ∙ ap encoded_kind1 is ∙ stored_back_kind1 l o h;
    }

-- ---- back and there
module _ (l room : List ℕ) (e : back_refusal l room ≡ not_refused) where
  back_sound : sound (decoded l) ≡ true
  back_sound = holds_if (sound (decoded l)) (λ h. omega (arith, sym (back_unsound l room h) ∙ e))

  back_sized : eqb (length room) kind1_length ≡ true
  back_sized = holds_if (eqb (length room) kind1_length) (λ n. omega (arith, sym (back_size l room n) ∙ e))

  back_none : holds_none (decoded l) ≡ true
  back_none = holds_if (holds_none (decoded l)) (λ held. omega (arith, sym (back_held l room back_sound back_sized held) ∙ e))

  back_is : ((i : ℕ) → get_or l i 0 < 256) → decoded_kind1 (back_room l room) ≡ decoded l
  back_is o =
      let s = decoded l in
      let narrow-l = narrow l o in
      ap decoded_kind1 (done_room l room e)
      ∙ read_back_kind1 s back_sound narrow-l.hello narrow-l.next
      (empty_is s.ours (and_first (empty s.ours) _ back_none)) (empty_is s.theirs (and_second (empty s.ours) _ back_none))

pub back_and_there : BackAndThere
unfolding forward forward_room store_octets stored_in
back_and_there l room room' o e n =
    let is = back_is l room e o in
    let h = back_sound l room e in
    record {
      there = ap (λ (s : Session). store_refusal s room') is ∙ store_done (decoded l) room' h n;
      octets = ap (λ (s : Session). store_octets s room') is ∙ taken _ _ h ∙ taken _ _ (eq-eqb _ _ n) ∙ stored_back l o h;
    }

-- ---- refused, on the way back
-- the octets of capabilities are the session's
held_octets : (l : List ℕ) → sound (decoded l) ≡ true → holds_none (decoded l) ≡ (empty (get_or l 22 0) && empty (get_or l 23 0))
unfolding decoded
held_octets l h = ap holds_none (read l h).by_fields

back_refused : (l room : List ℕ) → BackRefused l room
back_refused l room =
    record {
      unsound = back_unsound l room;
      no_size = λ n. back_size l room (ne_eqb _ _ n);
      done = λ h n ours theirs. back_done l room h (eq-eqb _ _ n) (held_octets l h ∙ both_none ours theirs);
      held = λ h n. (
        λ r none.
            omega (arith, sym (back_done l room h (eq-eqb _ _ n) (held_octets l h ∙ both_none none.0 none.1)) ∙ r),
        λ some. back_held l room h (eq-eqb _ _ n) (not_both h some),
      );
      stays = stays_room l room;
    }
  where
    not_both : sound (decoded l) ≡ true → ((get_or l 22 0 ≡ 0) × (get_or l 23 0 ≡ 0) → ⊥) → holds_none (decoded l) ≡ false
    not_both h some =
        fails_if (holds_none (decoded l)) (λ e.
        let f = sym (held_octets l h) ∙ e in
        some (empty_is _ (and_first (empty (get_or l 22 0)) _ f), empty_is _ (and_second (empty (get_or l 22 0)) _ f)))

pub moves_refused : MovesRefused
moves_refused = record { forward_refused = forward_refused; back_refused = back_refused }

-- ---- one kind or the other
other_kind : (l : List ℕ) → (le_at16 l 2 ≡ kind_field → ⊥) → decoded l ≡ no_session
unfolding decoded
other_kind l not-2 =
    by_test None (λ _. by_test None (λ h. absurd (not-2 (headed_means length_field kind_field l h).1)) (λ _. refl)) (λ _. refl)
  where
    None : Session → Type 0
    None s = s ≡ no_session

pub one_kind : OneKind
unfolding decoded_kind1
one_kind =
    record {
      other_kind = other_kind;
      kind1 = λ l h.
          let is-1 = (headed_means kind1_length_field kind1_field l (read_kind1 l h).is_headed).1 in
          other_kind l (λ is-2. omega (arith, sym is-1 ∙ is-2));
      kind2 = λ l h. left _ _ (ne_eqb _ _ (λ (n : length l ≡ kind1_length). omega (arith, sym n ∙ (read l h).is_long)));
    }
