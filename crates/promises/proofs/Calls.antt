-- What is promised of runs is promised of the calls: each event's call is that event by the law of its contract (tacit/proofs/Calls.antt), so a run of calls
-- leaves the record that the events lead to, and the session in it is the one that they lead to. Assumes nothing.
use Prim.Native.Nat.{ℕ}
use mathlib.Core.Path.{◌≡◌, refl, sym, ap, ◌∙◌, subst}
use mathlib.Core.Bool.{Bool, true, false, false≢true}
use mathlib.Core.Logic.{◌↔◌}
use mathlib.Core.List.{List, ◌∷◌}
use native.Mathlib.Omega.{arith}
use borrow.Author.Tests.{lt-ltb}
use Rattle.choice.specs.Pick.{pick}
use Rattle.choice.proofs.Branch.{taken}
use Rattle.sets.specs.Set.{has}
use Rattle.kinds.specs.Kinds.{all_applications}
use Rattle.wishes.specs.Wishes.{wishes_after}
use Rattle.session.specs.declared.Session.{Session}
use Rattle.session.specs.declared.Answer.{Answer}
use Rattle.session.specs.Session.{is_open, sound, permitted}
use Rattle.session.specs.Questions.{permission}
use Rattle.session.specs.Events.{Event, Initialization, step, run}
use Rattle.session.proofs.SoundMeans.{means_sound}
use Rattle.record.specs.Record.{decoded}
use Rattle.record.specs.Carried.{record_after}
use Rattle.tacit.proofs.Calls.{initialization_is, capability_is, local_change_is, local_change_room, wish_is, wish_wishes, wish_room, mismatch_is, hello_is, closed_is}
use Rattle.promises.specs.Run.{StaysOpen}
use Rattle.promises.specs.Records.{record_run, AllNumbered}
use Rattle.promises.specs.Condition3.{NeverLess}
use Rattle.promises.specs.Calls.{tacit_initialization, tacit_capability, tacit_local_change, tacit_wish, tacit_mismatch, tacit_hello, tacit_closed, CallsAreEvents, RoomsAreEvents, CalledRun, ended, called, CallsFollow, CallsAnswer, PermittedIsAsked, StaysOpenUnder, CallsCondition3}
use Rattle.promises.proofs.Records.{Holds, holds, holds_after, still, run_holds, records_follow}
use Rattle.promises.proofs.Condition3.{condition_3}

pub calls_are_events : CallsAreEvents
calls_are_events _ _ _ _ (tacit_initialization κs a r s p) = initialization_is κs a r s p
calls_are_events _ _ _ _ (tacit_capability κs a r s p) = capability_is κs a r s p
calls_are_events _ _ _ _ (tacit_local_change κs a r s p) = local_change_is κs a r s p
calls_are_events _ _ _ _ (tacit_wish κs a r s p) = wish_is κs a r s p
calls_are_events _ _ _ _ (tacit_mismatch κs a r s p) = mismatch_is κs a r s p
calls_are_events _ _ _ _ (tacit_hello κs a r s p) = hello_is κs a r s p
calls_are_events _ _ _ _ (tacit_closed κs a r s p) = closed_is κs a r s p

pub rooms_are_events : RoomsAreEvents
rooms_are_events = record { tacit_local_change = local_change_room; tacit_wish = wish_room }

-- ---- runs of calls
-- the record that they leave is the one that the events lead to
leaves : (es : List Event) (l n : List ℕ) → CalledRun es l n → n ≡ record_run l es
leaves _ _ _ (ended l) = refl
leaves _ _ _ (called e fs l r m n c cs) =
    leaves fs m n cs ∙ ap (λ (k : List ℕ). record_run k fs) (calls_are_events e l r m c).octets

pub calls_follow : CallsFollow
calls_follow es l n o h k c =
    let is = leaves es l n c in (
      ap decoded is ∙ records_follow l es o h k,
      ap (λ (m : List ℕ). sound (decoded m)) is ∙ means_sound (decoded (record_run l es)) (run_holds l es (holds l o h) k).is_sound,
    )

-- ---- condition 3
stays_open : (es : List Event) (l n : List ℕ) → Holds l → AllNumbered es → (c : CalledRun es l n) → StaysOpenUnder es l n c → StaysOpen (decoded l) es
stays_open _ _ _ h k (ended l) o = tt
stays_open _ _ _ h k (called e fs l r m n c cs) o =
    let is : m ≡ record_after (step (decoded l) e) l = (calls_are_events e l r m c).octets in
    let session : decoded m ≡ (step (decoded l) e).session = ap decoded is ∙ holds_after l h e k.0 in (
      sym (ap is_open session) ∙ o.0,
      subst (λ (s : Session). StaysOpen s fs) session (stays_open fs m n (subst Holds (sym is) (still l h e k.0)) k.1 cs o.1),
    )

pub calls_condition_3 : CallsCondition3
calls_condition_3 l m area es l' m' ol om k pair first second o =
    let all = Initialization area all_applications ∷ es in
    let hl = holds l ol pair.first_sound in
    subst (λ (s : Session). NeverLess s (decoded m')) (sym (calls_follow all l l' ol pair.first_sound (tt, k) first).0)
    (subst (NeverLess (run (decoded l) all)) (sym (calls_follow all m m' om pair.second_sound (tt, k) second).0)
    (condition_3 (decoded l) (decoded m) area all_applications es pair (stays_open all l l' hl (tt, k) first o)))

-- ---- the other calls: their contracts are these equations
pub calls_answer : CallsAnswer
calls_answer =
    record {
      tacit_create = λ κs a r s p. p;
      tacit_read = λ κs a r s p. p;
      tacit_permitted = λ κs a r s p. p;
      tacit_permitted_kinds = λ κs a r s p. p;
      tacit_why_not = λ κs a r s p. p;
      tacit_wish = λ κs a r s p. wish_wishes κs a r s p ∙ ap (λ (b : Answer). wishes_after a.1.0 a.1.1.0 a.1.1.1.0 b.refusal) (wish_is κs a r s p).answer;
      tacit_wish_sac = λ κs a r s p. p;
      tacit_wanted = λ a r s p. p;
      tacit_retry_interval = λ κs a r s p. p;
      tacit_sound = λ κs a r s p. p;
      tacit_load = λ κs a r s p. p;
      tacit_store = λ κs a r s p. p;
      tacit_forward = λ κs a r s p. p;
      tacit_back = λ κs a r s p. p;
      tacit_no_limits = λ a r s p. p;
      tacit_set_limit = λ a r s p. p;
      tacit_row_count = λ κs a r s p. p;
      tacit_kind_total = λ a r s p. p;
      tacit_recount = λ κs a r s p. p;
    }

-- ---- the question about a kind
one_where : (b : Bool) → (◌≡◌ {A = ℕ} (pick b 1 0) 1) ↔ (b ≡ true)
unfolding pick
one_where true = (λ _. refl, λ _. refl)
one_where false = (λ e. absurd (omega arith), λ e. absurd (false≢true e))

pub permitted_is_asked : PermittedIsAsked
unfolding permission
permitted_is_asked κs a r s p h k =
    let is = p ∙ taken _ _ h ∙ taken _ _ (lt-ltb _ _ k) in
    rw is (refl, one_where (has (permitted (decoded a.0.now)) a.1.0))
