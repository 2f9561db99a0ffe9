-- What we write is read as we meant it. A message was written only for a known application and with room for it, so its last 9 octets are the TAC of one
-- element; and reading that, the other end switches that application in its list, or in an empty one where negotiation was not in force, and nothing else. Assumes nothing.
use Prim.Native.Nat.{ℕ, ◌≤◌}
use mathlib.Core.Path.{◌≡◌, refl, sym, ap, ap₂, ◌∙◌}
use mathlib.Core.Bool.{Bool, true, false}
use mathlib.Core.List.{List}
use native.Mathlib.Omega.{arith}
use lib.Dec.{ltb, lit<}
use lib.ListN.{length, take, drop}
use lib.Seq.{take-append_seam}
use borrow.Author.Tests.{le-leb}
use Rattle.choice.specs.Pick.{pick}
use Rattle.choice.proofs.Branch.{by_test, taken, left}
use Rattle.choice.proofs.Tests.{and_both}
use Rattle.sets.specs.Set.{has, one, union, with, switched}
use Rattle.sets.proofs.Flags as flag
use Rattle.sets.proofs.Members.{with_has}
use Rattle.sets.proofs.Switches.{numbered_is, holds_same, holds_other, holds_none_law}
use Rattle.kinds.specs.Kinds.{application_count, known_application, is_in}
use Rattle.octets.specs.Octets.{over}
use Rattle.area.specs.declared.Reading.{Reading}
use Rattle.area.specs.Area.{tac_type, part}
use Rattle.lists.specs.Sac.{sac_after, sac_list}
use Rattle.message.specs.Message.{message_head_length, one_element, tac_octets, message_of, change_length, room_with}
use Rattle.message.proofs.ReadBack.{one_tac, area_back, read_back, s_back, list_back}
use Rattle.session.specs.declared.Session.{Session}
use Rattle.session.specs.declared.After.{After}
use Rattle.session.specs.Session.{uses_tac, in_force, in_force_bit, flag_count, sound}
use Rattle.session.specs.With.{with_flags, with_listed, with_theirs}
use Rattle.session.specs.Capabilities.{theirs_after}
use Rattle.session.proofs.Capabilities.{untold}
use Rattle.session.specs.Decisions.{answered, Decision, Refused, Unchanged, Done, AsMismatch, Negotiate, Admit, Send, Tell, settled}
use Rattle.session.specs.Events.{unless_refused, takes_tac, flags_after, list_after, after_capability, on_capability, Event, Capability, LocalChange, decision, step, run, room_after}
use Rattle.session.proofs.SoundMeans.{sound_means}
use Rattle.session.proofs.View.{Facts, facts_of}
use Rattle.session.proofs.Steps.{unsound_refused}
use Rattle.promises.specs.Written.{OtherEnd, ExactlyThat, StartsWithThat, ReadAsMeant}

-- ---- where a message was written: the event was sent, which says that the application is known and that there was room
record Wrote (n room : ℕ) : Type 0 where
  pub known : known_application n ≡ true
  pub enough : change_length ≤ room

module _ (s : Session) (n : ℕ) (on : Bool) (room : ℕ) where
  abbrev change : Event
  change = LocalChange n on room

  abbrev Tells : After → Type 0
  Tells after = after.answer.written ≡ change_length → Wrote n room

  tells : (c : Decision) → Facts s change c → Tells (settled s c)
  unfolding settled answered
  tells (Refused k) f = λ e. absurd (omega arith)
  tells Unchanged f = λ e. absurd (omega arith)
  tells (Done t) f = λ e. absurd (omega arith)
  tells (AsMismatch t) f = λ e. absurd (omega arith)
  tells (Negotiate t) f = by_test Tells (λ _ e. absurd (omega arith)) (λ _ e. absurd (omega arith))
  tells (Admit t below_limit) f = absurd f.1
  tells (Send t written) f =
      by_test Tells (λ _ e. absurd (omega arith)) (λ _ _. record { known = f.0.makes.enabling.known; enough = f.1.enough })
  tells (Tell written) f = absurd f

  wrote : (step s change).answer.written ≡ change_length → Wrote n room
  wrote = go (sound s) refl
    where
      go : (x : Bool) → sound s ≡ x → (step s change).answer.written ≡ change_length → Wrote n room
      go true h e = tells (decision s change) (facts_of s (sound_means s h) change) e
      go false h e = absurd (omega (arith, sym (ap (λ (a : After). a.answer.written) (unsound_refused s change h)) ∙ e))

-- its last 9 octets are the TAC
area_of : (s : Session) (n : ℕ) (on : Bool) (room : List ℕ) → (step s (LocalChange n on (length room))).answer.written ≡ change_length
    → drop message_head_length (take change_length (room_after s (LocalChange n on (length room)) room)) ≡ tac_octets n on
unfolding room_after room_with over
area_of s n on room w =
    ap (λ (l : List ℕ). drop message_head_length (take change_length l))
    (taken _ _ (ap (λ (x : ℕ). ltb 0 x) w) ∙ taken _ _ (le-leb change_length (length room) (wrote s n on (length room) w).enough))
    ∙ ap (λ (l : List ℕ). drop message_head_length l) (take-append_seam (message_of s.next n on) (drop change_length room))
    ∙ area_back s.next tac_type (one_element n on)

-- ---- a set of applications with one of them switched
that : (l n : ℕ) (on : Bool) → known_application n ≡ true → is_in (switched application_count l n on) n ≡ on
unfolding is_in
that = holds_same application_count

no_other : (l n : ℕ) (on : Bool) (m : ℕ) → (m ≡ n → ⊥) → is_in (switched application_count l n on) m ≡ is_in l m
unfolding is_in
no_other = holds_other application_count

none_in : (m : ℕ) → is_in 0 m ≡ false
unfolding is_in
none_in = holds_none_law application_count

-- ---- at the other end
module _ (t : Session) (o : OtherEnd t) (n : ℕ) (on : Bool) (known : known_application n ≡ true) where
  takes : takes_tac t one_tac ≡ true
  takes = and_both (uses_tac t) _ o.uses refl

  -- the list that it starts from
  abbrev before : ℕ
  before = pick (in_force t) t.listed 0

  abbrev read : Session
  read = with_listed (with_flags t (union t.flags (one in_force_bit))) (switched application_count before n on)

  list_changes : list_after t (one_element n on) ≡ switched application_count before n on
  unfolding list_after
  list_changes = let k = numbered_is application_count n known in taken _ _ (s_back n on) ∙ list_back n on before (omega arith)

  after_is : after_capability t (tac_octets n on) one_tac ≡ read
  unfolding after_capability flags_after part sac_list sac_after
  after_is =
      ap₂ (λ (f l : ℕ). with_theirs (with_listed (with_flags t f) l) (theirs_after t.theirs one_tac)) (taken _ _ takes ∙ taken _ _ (s_back n on)) (taken _ _ takes ∙ list_changes)
      ∙ ap (with_theirs read) (untold t.theirs one_tac refl refl)

  event_is : step t (Capability (tac_octets n on)) ≡ settled t (Negotiate read)
  unfolding on_capability
  event_is =
      ap (settled t)
      (taken _ _ o.is_sound ∙ taken _ _ o.is_open
      ∙ ap (λ (r : Reading). unless_refused r (Negotiate (after_capability t (tac_octets n on) r))) (read_back n on)
      ∙ taken _ _ refl
      ∙ ap Negotiate after_is)

  -- negotiation stays in force
  reads_in_force : in_force t ≡ true → ExactlyThat t n on (tac_octets n on)
  unfolding with
  reads_in_force f =
      let flags = with_has flag_count t.flags in_force_bit (sound_means t o.is_sound).flags (lit< tt) f in
      let list = ap (λ (l : ℕ). switched application_count l n on) (taken t.listed 0 f) in
      record {
        event = event_is ∙ ap₂ (λ (g l : ℕ). settled t (Negotiate (with_listed (with_flags t g) l))) flags list;
        that = that t.listed n on known;
        no_other = no_other t.listed n on;
      }

  -- or comes into force
  reads_first : in_force t ≡ false → StartsWithThat t n on (tac_octets n on)
  unfolding has
  reads_first f =
      record {
        event = event_is ∙ ap (λ (l : ℕ). settled t (Negotiate (with_listed (with_flags t (union t.flags (one in_force_bit))) (switched application_count l n on)))) (left t.listed 0 f);
        force = flag.on t.flags (one in_force_bit) in_force_bit refl;
        that = that 0 n on known;
        no_other = λ m ne. no_other 0 n on m ne ∙ none_in m;
      }

pub read_as_meant : ReadAsMeant
read_as_meant s es n on room t w o =
    let known = (wrote (run s es) n on (length room) w).known in
    rw (area_of (run s es) n on room w) (record { in_force_law = reads_in_force t o n on known; not_in_force = reads_first t o n on known })
