-- What an event comes to, once for every event: along the tests of its definition, the facts that hold of what it is decided to come to, and that it follows
-- when more applications are enabled. Soundness, numbers of 32 bits, limits, what is written and condition 3 are read off here and not
-- from the tests; a new event proves its view. Of one session it is the view of the session beside itself. Assumes nothing.
use Rattle.std.proofs.Common.{◌≡◌, ℕ, ◌-◌, ◌<◌, ◌≤◌, Bool, true, false, not, ◌&&◌, ◌||◌, eqb, ltb, leb, List, sym, refl, ap, ◌∙◌, subst, arith, lit<, lit≤, eqb-true, leb-true}
use mathlib.Core.Bool.{false≢true}
use borrow.Author.Tests.{eqb-false}
use Rattle.choice.specs.Pick.{pick}
use Rattle.choice.proofs.Branch.{by_test, pick_both, taken}
use Rattle.choice.proofs.Tests.{and_first, and_second, and_both, or_first, or_second}
use Rattle.sets.specs.Set.{has, one, empty, Within, holds, switched}
use Rattle.sets.proofs.Flags as flag
use Rattle.sets.proofs.Switches.{within_both, within_first, within_second}
use Rattle.refusals.specs.Refusals.{not_refused, out_of_range, wrong_state, no_room, peer_not_dynamic, not_sound, unknown_app, total_outside}
use Rattle.kinds.specs.Kinds.{application_count, app_count, known_application, is_in, known_app}
use Rattle.area.specs.Area.{read_area}
use Rattle.area.proofs.Parts.{read_refusal, few}
use Rattle.message.specs.Message.{change_length, wish_length}
use Rattle.wishes.specs.Wishes.{sound_wishes}
use Rattle.session.specs.declared.Session.{Session}
use Rattle.session.specs.declared.After.{After}
use Rattle.session.specs.Session.{state_ready, state_open, is_ready, is_open, is_gone, uses_tac, in_force, dynamic, recorded, uses_tac_bit, in_force_bit, recorded_bit, cleared_out_of_open, negotiated, nothing_common, Sound, Narrow}
use Rattle.session.specs.With.{with_enabled, with_next, with_other_enabled, back_to_ready, mismatched, held_to_ready, greeted, changed}
use Rattle.session.specs.Capabilities.{theirs_at_opening, theirs_after}
use Rattle.session.specs.Decisions.{answered, unchanged, Decision, Refused, Unchanged, Done, AsMismatch, Negotiate, Admit, Send, Tell, settled}
use Rattle.session.specs.Events.{checked, after_initialization, on_initialization, after_capability, flags_after, list_after, on_capability, same, already, writing, on_local_change, telling, on_wish, on_mismatch, on_hello, on_closed, on_unknown, Event, Initialization, Capability, LocalChange, Wish, Mismatch, Hello, Closed, Unknown, Numbered, decision}
use Rattle.session.proofs.SoundMeans.{means_sound}
use Rattle.session.proofs.Made.{never, Basic, basic, back_sound, mismatched_shut, to_ready_law, gone_shut, greeted_sound, sound_common, changed_basic, changed_sound, opened_uses, opened_basic, opened_sound, own_mismatched, changed_mismatched, opened_mismatched, told_uses, told_basic, told_sound, told_mismatched}
use Rattle.session.proofs.Alike.{Alike, alike, Follows, common_more, mismatch_follows, done_follows, negotiate_follows, admit_follows, send_follows, tell_follows}

-- ---- what is known of a session that an event makes
-- an application was changed, which was not so already
pub record Changes (s : Session) (n : ℕ) (on : Bool) (t : Session) : Type 0 where
  pub known : known_application n ≡ true
  pub not_so : already s n on ≡ false
  pub is : t ≡ changed s n on

-- the enabled applications: a local change alone touches them
abbrev pub Enabling : Session → Event → Session → Type 0
Enabling s (Initialization area below_limit) t = t.enabled ≡ s.enabled
Enabling s (Capability area) t = t.enabled ≡ s.enabled
Enabling s (LocalChange n on room) t = Changes s n on t
Enabling s (Wish wishes n disable room) t = t.enabled ≡ s.enabled
Enabling s Mismatch t = t.enabled ≡ s.enabled
Enabling s (Hello number) t = t.enabled ≡ s.enabled
Enabling s Closed t = t.enabled ≡ s.enabled
Enabling s Unknown t = t.enabled ≡ s.enabled

-- the peer's capabilities after an event that is not refused: the two messages tell of them, and the end of the connection forgets them
abbrev pub heard : ℕ → Event → ℕ
heard theirs (Initialization area below_limit) = theirs_at_opening (read_area area)
heard theirs (Capability area) = theirs_after theirs (read_area area)
heard theirs (LocalChange n on room) = theirs
heard theirs (Wish wishes n disable room) = theirs
heard theirs Mismatch = theirs
heard theirs (Hello number) = theirs
heard theirs Closed = 0
heard theirs Unknown = theirs

-- a session that the event makes of s, sound if something is common where negotiation is in force
pub record Makes (s : Session) (e : Event) (t : Session) : Type 0 where
  pub basic : Basic t
  pub is_sound : nothing_common t ≡ false → Sound t
  pub narrow : Narrow s → Numbered e → Narrow t
  pub uses : uses_tac t ≡ uses_tac s
  pub enabling : Enabling s e t
  pub ours : t.ours ≡ s.ours
  pub theirs : t.theirs ≡ heard s.theirs e

-- it is not opened, and if it was Open and is, its list and the force are as they were
pub record Still (s t : Session) : Type 0 where
  pub shut : is_open s ≡ false → is_open t ≡ false
  pub listed : is_open s ≡ true → is_open t ≡ true → t.listed ≡ s.listed
  pub force : is_open s ≡ true → is_open t ≡ true → in_force t ≡ in_force s

pub record MakesStill (s : Session) (e : Event) (t : Session) : Type 0 where
  pub makes : Makes s e t
  pub common : nothing_common t ≡ false
  pub still : Still s t

-- a session in which a mismatch may be found: what it leaves is what a notification leaves of s, with the enabled applications of the one it is found in
pub record Found (s t : Session) : Type 0 where
  pub told : (is_ready s || is_open s) ≡ true
  pub leaves : mismatched t ≡ with_enabled (mismatched s) t.enabled

pub record MakesFound (s : Session) (e : Event) (t : Session) : Type 0 where
  pub makes : Makes s e t
  pub found : Found s t

-- only an Initialization is admitted, and only in Ready
pub record Opens (s : Session) (area : List ℕ) (t : Session) : Type 0 where
  pub ready : is_ready s ≡ true
  pub readable : (read_area area).refusal ≡ not_refused
  pub is : t ≡ after_initialization s area (read_area area)

abbrev pub Admits : Session → Event → Session → ℕ → Type 0
Admits s (Initialization area below_limit) t b = Opens s area t × (b ≡ below_limit)
Admits s (Capability area) t b = ⊥
Admits s (LocalChange n on room) t b = ⊥
Admits s (Wish wishes n disable room) t b = ⊥
Admits s Mismatch t b = ⊥
Admits s (Hello number) t b = ⊥
Admits s Closed t b = ⊥
Admits s Unknown t b = ⊥

-- whichever event it was, it had an area
pub admits_opens : (s : Session) (e : Event) (t : Session) (b : ℕ) → Admits s e t b → (area : List ℕ) × Opens s area t
admits_opens s (Initialization area below_limit) t b f = (area, f.0)
admits_opens s (Capability area) t b f = absurd f
admits_opens s (LocalChange n on room) t b f = absurd f
admits_opens s (Wish wishes n disable room) t b f = absurd f
admits_opens s Mismatch t b f = absurd f
admits_opens s (Hello number) t b f = absurd f
admits_opens s Closed t b f = absurd f
admits_opens s Unknown t b f = absurd f

-- only a local change is sent, and only in Open with room for it
pub record Writes (s : Session) (room written : ℕ) : Type 0 where
  pub is_open : is_open s ≡ true
  pub long : written ≡ change_length
  pub enough : change_length ≤ room

abbrev pub Sends : Session → Event → ℕ → Type 0
Sends s (Initialization area below_limit) written = ⊥
Sends s (Capability area) written = ⊥
Sends s (LocalChange n on room) written = Writes s room written
Sends s (Wish wishes n disable room) written = ⊥
Sends s Mismatch written = ⊥
Sends s (Hello number) written = ⊥
Sends s Closed written = ⊥
Sends s Unknown written = ⊥

-- only a wish is told, one that was not so already: in Open, to a dynamic peer, with room for it
pub record TellsWish (s : Session) (wishes n : ℕ) (disable : Bool) (room written : ℕ) : Type 0 where
  pub is_open : is_open s ≡ true
  pub is_dynamic : dynamic s ≡ true
  pub kept : sound_wishes wishes ≡ true
  pub known : known_app n ≡ true
  pub not_so : same (holds app_count wishes n) disable ≡ false
  pub long : written ≡ wish_length
  pub enough : wish_length ≤ room

abbrev pub Tells : Session → Event → ℕ → Type 0
Tells s (Initialization area below_limit) written = ⊥
Tells s (Capability area) written = ⊥
Tells s (LocalChange n on room) written = ⊥
Tells s (Wish wishes n disable room) written = TellsWish s wishes n disable room written
Tells s Mismatch written = ⊥
Tells s (Hello number) written = ⊥
Tells s Closed written = ⊥
Tells s Unknown written = ⊥

-- which tells nothing of the peer
pub tells_unheard : (s : Session) (e : Event) (written : ℕ) → Tells s e written → s.theirs ≡ heard s.theirs e
tells_unheard s (Initialization area below_limit) written f = absurd f
tells_unheard s (Capability area) written f = absurd f
tells_unheard s (LocalChange n on room) written f = absurd f
tells_unheard s (Wish wishes n disable room) written f = refl
tells_unheard s Mismatch written f = absurd f
tells_unheard s (Hello number) written f = absurd f
tells_unheard s Closed written f = absurd f
tells_unheard s Unknown written f = absurd f

-- ---- the facts of each decision
-- a refusal of a session's own: it is one, and it is not 16, which is a row's
abbrev pub Own : ℕ → Type 0
Own n = (not_refused < n) × (n < total_outside)

abbrev pub Facts : Session → Event → Decision → Type 0
Facts s e (Refused n) = Own n
Facts s e Unchanged = s.theirs ≡ heard s.theirs e
Facts s e (Done t) = MakesStill s e t
Facts s e (AsMismatch t) = MakesFound s e t
Facts s e (Negotiate t) = MakesFound s e t
Facts s e (Admit t below_limit) = MakesFound s e t × Admits s e t below_limit
Facts s e (Send t written) = MakesFound s e t × Sends s e written
Facts s e (Tell written) = Tells s e written

-- the facts of what the first comes to, and what follows from it for the second
pub record View (s s' : Session) (e : Event) (c c' : Decision) : Type 0 where
  pub facts : Facts s e c
  pub follows : Follows (settled s c) (settled s' c')

-- ---- what every event may come to
-- with other enabled applications, more of them
module _ (s : Session) (e m : ℕ) (h : Within s.enabled e) (ev : Event) where
  abbrev s' : Session
  s' = with_other_enabled s e m

  refuses : (n : ℕ) → Own n → View s s' ev (Refused n) (Refused n)
  unfolding settled
  refuses n l = record { facts = l; follows = λ _. alike s e m h }

  stays : s.theirs ≡ heard s.theirs ev → View s s' ev Unchanged Unchanged
  unfolding settled
  stays unheard = record { facts = unheard; follows = λ _. alike s e m h }

  done : (t : Session) (e' : ℕ) → Within t.enabled e' → MakesStill s ev t → View s s' ev (Done t) (Done (with_other_enabled t e' m))
  done t e' w f = record { facts = f; follows = done_follows s s' t e' m w }

  -- neither is refused with 10
  both_checked : Sound s → Sound s' → (c c' : Decision) → View s s' ev c c' → View s s' ev (checked s c) (checked s' c')
  both_checked r r' c c' v =
      subst (λ (d : Decision). View s s' ev d (checked s' c')) (sym (taken c _ (means_sound s r)))
      (subst (λ (d : Decision). View s s' ev c d) (sym (taken c' _ (means_sound s' r'))) v)

shut_still : (s t : Session) → is_open t ≡ false → Still s t
shut_still s t h = record { shut = λ _. h; listed = λ _ k. never k h; force = λ _ k. never k h }

-- ---- Initialization
module _ (s : Session) (e m : ℕ) (h : Within s.enabled e) (r : Sound s) (r' : Sound (with_other_enabled s e m)) where
  initialization_view : (a : List ℕ) (b : ℕ) → View s (with_other_enabled s e m) (Initialization a b) (on_initialization s a b) (on_initialization (with_other_enabled s e m) a b)
  unfolding on_initialization after_initialization
  initialization_view a b =
      let ev = Initialization a b in
      let found = read_area a in
      let W = View s (with_other_enabled s e m) ev in
      both_checked s e m h ev r r' _ _
      (pick_both W (is_ready s)
      (λ q. pick_both W (eqb found.refusal not_refused)
      (λ z. record {
        facts = (
          record {
            makes = record {
              basic = opened_basic s r q a found;
              is_sound = opened_sound s r q a found (few a);
              narrow = λ n _. record { hello = n.hello; next = n.next };
              uses = opened_uses s r q a found;
              enabling = refl;
              ours = refl;
              theirs = refl;
            };
            found = record { told = or_first (is_ready s) (is_open s) q; leaves = opened_mismatched s r q a found };
          },
          (record { ready = q; readable = eqb-true found.refusal not_refused z; is = refl }, refl),
        );
        follows = admit_follows s (with_other_enabled s e m) (after_initialization s a found) e m h b;
      })
      (λ q. refuses s e m h ev found.refusal (omega (arith, eqb-false found.refusal not_refused q), omega (arith, read_refusal a))))
      (λ _. refuses s e m h ev wrong_state (lit< tt, lit< tt)))

  -- ---- Capability message
  capability_view : (a : List ℕ) → View s (with_other_enabled s e m) (Capability a) (on_capability s a) (on_capability (with_other_enabled s e m) a)
  unfolding on_capability after_capability flags_after list_after
  capability_view a =
      let ev = Capability a in
      let found = read_area a in
      let W = View s (with_other_enabled s e m) ev in
      both_checked s e m h ev r r' _ _
      (pick_both W (is_open s)
      (λ q. pick_both W (eqb found.refusal not_refused)
      (λ _. record {
        facts = record {
          makes = record {
            basic = told_basic s r q a found;
            is_sound = told_sound s r q a found (few a);
            narrow = λ n _. record { hello = n.hello; next = n.next };
            uses = told_uses s r q a found;
            enabling = refl;
            ours = refl;
            theirs = refl;
          };
          found = record { told = or_second (is_ready s) (is_open s) q; leaves = told_mismatched s r q a found };
        };
        follows = negotiate_follows s (with_other_enabled s e m) (after_capability s a found) e m h;
      })
      (λ q. refuses s e m h ev found.refusal (omega (arith, eqb-false found.refusal not_refused q), omega (arith, read_refusal a))))
      (λ _. refuses s e m h ev wrong_state (lit< tt, lit< tt)))

  -- ---- Mismatch notification
  mismatch_view : View s (with_other_enabled s e m) Mismatch (on_mismatch s) (on_mismatch (with_other_enabled s e m))
  unfolding on_mismatch
  mismatch_view =
      both_checked s e m h Mismatch r r' _ _
      (pick_both (View s (with_other_enabled s e m) Mismatch) (is_ready s || is_open s)
      (λ q. record {
        facts = record {
          makes = record { basic = basic r; is_sound = λ _. r; narrow = λ n _. n; uses = refl; enabling = refl; ours = refl; theirs = refl };
          found = record { told = q; leaves = own_mismatched s };
        };
        follows = mismatch_follows s (with_other_enabled s e m) s e m h (settled (with_other_enabled s e m) (AsMismatch (with_other_enabled s e m)));
      })
      (λ _. refuses s e m h Mismatch wrong_state (lit< tt, lit< tt)))

  -- ---- Connection closed
  closed_view : View s (with_other_enabled s e m) Closed (on_closed s) (on_closed (with_other_enabled s e m))
  unfolding on_closed has
  closed_view =
      both_checked s e m h Closed r r' _ _
      (pick_both (View s (with_other_enabled s e m) Closed) (is_open s)
      (λ _. done s e m h Closed (back_to_ready s) e h
      (record {
        makes = record {
          basic = basic (back_sound s (basic r));
          is_sound = λ _. back_sound s (basic r);
          narrow = λ n _. record { hello = n.hello; next = n.next };
          uses = flag.kept_off s.flags cleared_out_of_open uses_tac_bit refl;
          enabling = refl;
          ours = refl;
          theirs = refl;
        };
        common = sound_common (back_to_ready s) (back_sound s (basic r));
        still = shut_still s (back_to_ready s) refl;
      }))
      (λ _. refuses s e m h Closed wrong_state (lit< tt, lit< tt)))

  -- ---- an event by no number
  unknown_view : View s (with_other_enabled s e m) Unknown (on_unknown s) (on_unknown (with_other_enabled s e m))
  unfolding on_unknown
  unknown_view = both_checked s e m h Unknown r r' _ _ (refuses s e m h Unknown wrong_state (lit< tt, lit< tt))

  -- ---- Our wish
  wish_view : (wishes n : ℕ) (disable : Bool) (room : ℕ)
      → View s (with_other_enabled s e m) (Wish wishes n disable room) (on_wish s wishes n disable room) (on_wish (with_other_enabled s e m) wishes n disable room)
  unfolding on_wish telling
  wish_view wishes n disable room =
      let ev = Wish wishes n disable room in
      let W = View s (with_other_enabled s e m) ev in
      both_checked s e m h ev r r' _ _
      (pick_both W (sound_wishes wishes)
      (λ kept. pick_both W (known_app n)
      (λ known. pick_both W (same (holds app_count wishes n) disable) (λ _. stays s e m h ev refl)
      (λ not_so. pick_both W (is_open s)
      (λ o. pick_both W (dynamic s)
      (λ d. pick_both W (leb wish_length room)
      (λ l. record {
        facts = record { is_open = o; is_dynamic = d; kept = kept; known = known; not_so = not_so; long = refl; enough = leb-true wish_length room l };
        follows = tell_follows s e m h wish_length;
      })
      (λ _. refuses s e m h ev no_room (lit< tt, lit< tt)))
      (λ _. refuses s e m h ev peer_not_dynamic (lit< tt, lit< tt)))
      (λ _. refuses s e m h ev wrong_state (lit< tt, lit< tt))))
      (λ _. refuses s e m h ev unknown_app (lit< tt, lit< tt)))
      (λ _. refuses s e m h ev not_sound (lit< tt, lit< tt)))

  -- ---- Hello: the Hello is recorded, in a state that is Open exactly where it was
  greets : (number state : ℕ) → Sound (greeted s state number) → (is_open s ≡ false → eqb state state_open ≡ false) → MakesStill s (Hello number) (greeted s state number)
  unfolding has
  greets number state g f =
      record {
        makes = record {
          basic = basic g;
          is_sound = λ _. g;
          narrow = λ n k. record { hello = k; next = n.next };
          uses = flag.kept_on s.flags (one recorded_bit) uses_tac_bit refl;
          enabling = refl;
          ours = refl;
          theirs = refl;
        };
        common = sound_common (greeted s state number) g;
        still = record { shut = f; listed = λ _ _. refl; force = λ _ _. flag.kept_on s.flags (one recorded_bit) in_force_bit refl };
      }

  hello_view : (number : ℕ) → View s (with_other_enabled s e m) (Hello number) (on_hello s number) (on_hello (with_other_enabled s e m) number)
  unfolding on_hello held_to_ready
  hello_view number =
      let ev = Hello number in
      let W = View s (with_other_enabled s e m) ev in
      let w = to_ready_law s.state r.state in
      let woken = held_to_ready s in
      both_checked s e m h ev r r' _ _
      (pick_both W (is_gone s)
      (λ q. done s e m h ev (greeted s state_ready number) e h
      (greets number state_ready (greeted_sound s r number state_ready (lit≤ tt) (sym (gone_shut s.state r.state q)) (λ z. absurd (false≢true z)) refl) (λ _. refl)))
      (λ q. pick_both W (not (recorded s))
      (λ _. done s e m h ev (greeted s s.state number) e h (greets number s.state (greeted_sound s r number s.state r.state refl (λ z. z) q) (λ z. z)))
      (λ _. pick_both W (ltb s.hello number)
      (λ _. done s e m h ev (greeted s woken number) e h
      (greets number woken (greeted_sound s r number woken w.small w.as_open (λ z. never z w.not_held) (w.as_gone ∙ q)) (λ z. w.as_open ∙ z)))
      (λ _. stays s e m h ev refl))))

-- ---- Local change: what is to be written, in a session and in one with other applications enabled. It is refused in both, sent in both or done in both
writing_along : (R : Decision → Decision → Type 0) (s : Session) (e m : ℕ) (t t' : Session) (room : ℕ) → ((n : ℕ) → Own n → R (Refused n) (Refused n))
    → ((is_open s && uses_tac s) ≡ true → change_length ≤ room → R (Send t change_length) (Send t' change_length))
    → ((is_open s && uses_tac s) ≡ false → R (Done t) (Done t')) → R (writing s t room) (writing (with_other_enabled s e m) t' room)
unfolding writing
writing_along R s e m t t' room refused sent set =
    pick_both R (is_open s && uses_tac s)
    (λ o. pick_both R (dynamic s)
    (λ _. pick_both R (leb change_length room) (λ q. sent o (leb-true change_length room q)) (λ _. refused no_room (lit< tt, lit< tt))) (λ _. refused peer_not_dynamic (lit< tt, lit< tt)))
    set

-- ---- what it makes of one session
-- where nothing is to be written, negotiation is not in force
unwritten_common : (s : Session) → Sound s → (n : ℕ) (on : Bool) → (is_open s && uses_tac s) ≡ false → nothing_common (changed s n on) ≡ false
unfolding nothing_common
unwritten_common s r n on o = go (in_force s) refl
  where
    go : (f : Bool) → in_force s ≡ f → (f && empty (negotiated (changed s n on))) ≡ false
    go false k = refl
    go true k = never (and_both (is_open s) (uses_tac s) (r.force_open k) (r.force_uses k)) o

module _ (s : Session) (r : Sound s) (n : ℕ) (on : Bool) (room : ℕ) (known : known_application n ≡ true) (not_so : already s n on ≡ false) where
  changes : Makes s (LocalChange n on room) (changed s n on)
  changes =
      record {
        basic = changed_basic s r n on;
        is_sound = changed_sound s r n on;
        narrow = λ k _. record { hello = k.hello; next = k.next };
        uses = refl;
        enabling = record { known = known; not_so = not_so; is = refl };
        ours = refl;
        theirs = refl;
      }

  writing_facts : Facts s (LocalChange n on room) (writing s (changed s n on) room)
  unfolding held_to_ready
  writing_facts =
      writing_along (λ c _. Facts s (LocalChange n on room) c) s s.enabled s.next (changed s n on) (changed s n on) room (λ _ l. l)
      (λ o q. let opened_now = and_first (is_open s) _ o in (
        record { makes = changes; found = record { told = or_second (is_ready s) (is_open s) opened_now; leaves = changed_mismatched s n on } },
        record { is_open = opened_now; long = refl; enough = q },
      ))
      (λ o. record {
        makes = changes;
        common = unwritten_common s r n on o;
        still = record { shut = λ z. (to_ready_law s.state r.state).as_open ∙ z; listed = λ _ _. refl; force = λ _ _. refl };
      })

-- ---- and beside one that enables more. Eight cases, by what it asks and by which of the two has it so already; two of them cannot be
-- an Open session is not Held, and what is Open after it was Open before
open_stays : (s : Session) → is_open s ≡ true → held_to_ready s ≡ s.state
unfolding held_to_ready pick
open_stays s k = let z = eqb-true s.state state_open k in rw z refl

was_open : (s : Session) → eqb (held_to_ready s) state_open ≡ true → is_open s ≡ true
unfolding held_to_ready
was_open s = by_test (λ (k : ℕ). eqb k state_open ≡ true → is_open s ≡ true) (λ _ z. absurd (false≢true z)) (λ _ z. z)

-- in the set, with more in it
pub in_more : (a b n : ℕ) → Within a b → is_in a n ≡ true → is_in b n ≡ true
unfolding is_in
in_more a b n h e = and_both _ _ (and_first (known_application n) _ e) (h (n - 1) (and_second (known_application n) _ e))

in_has : (a n : ℕ) → is_in a n ≡ true → has a (n - 1) ≡ true
unfolding is_in
in_has a n e = and_second (known_application n) _ e

out_lacks : (a n : ℕ) → is_in a n ≡ false → known_application n ≡ true → has a (n - 1) ≡ false
unfolding is_in
out_lacks a n e h = sym (ap (λ (b : Bool). b && has a (n - 1)) h) ∙ e

module _ (s : Session) (e m : ℕ) (h : Within s.enabled e) (n room : ℕ) where
  abbrev other : Session
  other = with_other_enabled s e m

  -- what holds of the two after it
  abbrev Pair : Decision → Decision → Type 0
  Pair c c' = Follows (settled s c) (settled other c')

  same_refused : (k : ℕ) → Pair (Refused k) (Refused k)
  unfolding settled
  same_refused k _ = alike s e m h

  both_change : (on : Bool) → Within (switched application_count s.enabled n on) (switched application_count e n on)
      → Pair (writing s (changed s n on) room) (writing other (changed other n on) room)
  unfolding held_to_ready
  both_change on w =
      let t = changed s n on in
      let e' = switched application_count e n on in
      writing_along Pair s e m t (changed other n on) room (λ k _. same_refused k) (λ _ _. send_follows s other t e' m w change_length) (λ _. done_follows s other t e' m w)

  -- only the second changed, which was and stays Open
  second_changes : Sound s → Within s.enabled (switched application_count e n false) → Pair Unchanged (writing other (changed other n false) room)
  unfolding settled answered held_to_ready nothing_common
  second_changes r w k =
      let t' = changed other n false in
      writing_along (λ c _. Like (settled other c)) other e m t' t' room (λ _ _. alike s e m h)
      (λ _ _. by_test Like (λ x. never x (common_more s (switched application_count e n false) m w (sound_common s r))) (λ _. stayed _)) (λ _. stayed m)
    where
      Like : After → Type 0
      Like z = Alike s z.session

      stayed : (next : ℕ) → Alike s (with_other_enabled (changed s n false) (switched application_count e n false) next)
      stayed next = record { same_else = rw (open_stays s k) refl; more = w }

  -- only the first changed
  first_changes : Within (switched application_count s.enabled n true) e → Pair (writing s (changed s n true) room) Unchanged
  unfolding settled answered held_to_ready
  first_changes w =
      let t = changed s n true in
      writing_along (λ c _. Like (settled s c)) s s.enabled s.next t t room (λ _ _ _. alike s e m h)
      (λ _ _. by_test Like (λ _ k. never k (mismatched_shut t)) (λ _ k. stayed _ k)) (λ _ k. stayed s.next k)
    where
      Like : After → Type 0
      Like z = Follows z (unchanged other)

      stayed : (next : ℕ) → is_open (changed s n true) ≡ true → Alike (with_next (changed s n true) next) other
      stayed next k = record { same_else = rw (open_stays s (was_open s k)) refl; more = w }

module _ (s : Session) (e m : ℕ) (h : Within s.enabled e) (r : Sound s) (r' : Sound (with_other_enabled s e m)) (n room : ℕ) where
  change_view : known_application n ≡ true → (on x y : Bool) → is_in s.enabled n ≡ x → is_in e n ≡ y
      → View s (with_other_enabled s e m) (LocalChange n on room) (pick (same x on) Unchanged (writing s (changed s n on) room))
      (pick (same y on) Unchanged (writing (with_other_enabled s e m) (changed (with_other_enabled s e m) n on) room))
  unfolding pick
  change_view k true true true p q = stays s e m h (LocalChange n true room) refl
  change_view k true true false p q = never (in_more s.enabled e n h p) q
  change_view k true false true p q =
      record {
        facts = writing_facts s r n true room k (ap (λ (b : Bool). same b true) p);
        follows = first_changes s e m h n room (within_first application_count n s.enabled e h (λ _. in_has e n q));
      }
  change_view k true false false p q =
      record {
        facts = writing_facts s r n true room k (ap (λ (b : Bool). same b true) p);
        follows = both_change s e m h n room true (within_both application_count n s.enabled e h true);
      }
  change_view k false true true p q =
      record {
        facts = writing_facts s r n false room k (ap (λ (b : Bool). same b false) p);
        follows = both_change s e m h n room false (within_both application_count n s.enabled e h false);
      }
  change_view k false true false p q = never (in_more s.enabled e n h p) q
  change_view k false false true p q =
      record { facts = refl; follows = second_changes s e m h n room r (within_second application_count n s.enabled e h (λ _. out_lacks s.enabled n p k)) }
  change_view k false false false p q = stays s e m h (LocalChange n false room) refl

  local_change_view : (on : Bool) → View s (with_other_enabled s e m) (LocalChange n on room) (on_local_change s n on room) (on_local_change (with_other_enabled s e m) n on room)
  unfolding on_local_change
  local_change_view on =
      let ev = LocalChange n on room in
      both_checked s e m h ev r r' _ _
      (pick_both (View s (with_other_enabled s e m) ev) (known_application n) (λ k. change_view k on _ _ refl refl) (λ _. refuses s e m h ev out_of_range (lit< tt, lit< tt)))

-- ---- every event
module _ (s : Session) (e m : ℕ) (h : Within s.enabled e) (r : Sound s) (r' : Sound (with_other_enabled s e m)) where
  pub view : (ev : Event) → View s (with_other_enabled s e m) ev (decision s ev) (decision (with_other_enabled s e m) ev)
  view (Initialization a b) = initialization_view s e m h r r' a b
  view (Capability a) = capability_view s e m h r r' a
  view (LocalChange n on room) = local_change_view s e m h r r' n room on
  view (Wish wishes n disable room) = wish_view s e m h r r' wishes n disable room
  view Mismatch = mismatch_view s e m h r r'
  view (Hello number) = hello_view s e m h r r' number
  view Closed = closed_view s e m h r r'
  view Unknown = unknown_view s e m h r r'

-- of one session: it is within itself
pub facts_of : (s : Session) → Sound s → (ev : Event) → Facts s ev (decision s ev)
facts_of s r ev = (view s s.enabled s.next (λ _ z. z) r r ev).facts
