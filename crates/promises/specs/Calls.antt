-- What C calls, over the contracts themselves as the check reads them: which event a call is, runs of calls on a record, and condition 3 of two records
-- under the calls. Assumes nothing.
use Rattle.std.specs.Prelude.{ℕ, ◌<◌, ◌^◌, ◌≡◌, true, ◌↔◌, List, [], ◌∷◌, length, refl}
use Rattle.refusals.specs.Refusals.{not_refused}
use Rattle.kinds.specs.Kinds.{kind_count, all_applications}
use Rattle.session.specs.declared.Answer.{Answer}
use Rattle.session.specs.Session.{is_open, sound}
use Rattle.wishes.specs.Wishes.{sound_wishes, wanted, wish_sac, sac_room}
use Rattle.session.specs.Creation.{fresh_by, created}
use Rattle.session.specs.Events.{Event, Initialization, Capability, LocalChange, Wish, Mismatch, Hello, Closed, step, run, room_after}
use Rattle.session.specs.Questions.{permission, permitted_kinds, why_not, retry_interval}
use Rattle.area.specs.Area.{read_area}
use Rattle.row.specs.Limiting.{no_limits, limited}
use Rattle.totals.specs.Totals.{kind_total}
use Rattle.row.specs.Row.{count_of, recount}
use Rattle.record.specs.Record.{decoded}
use Rattle.record.specs.Loaded.{load, store_refusal, store_octets}
use Rattle.record.specs.Moves.{forward, forward_room, back_refusal, back_room}
use Rattle.tacit.specs.Creation.{CreatedIn}
use Rattle.record.specs.Carried.{Carried}
use Rattle.tacit.specs.contracts.tacit_create as create
use Rattle.tacit.specs.contracts.tacit_initialization as initialization
use Rattle.tacit.specs.contracts.tacit_capability as capability
use Rattle.tacit.specs.contracts.tacit_local_change as local_change
use Rattle.tacit.specs.contracts.tacit_wish as wish
use Rattle.tacit.specs.contracts.tacit_mismatch as mismatch
use Rattle.tacit.specs.contracts.tacit_hello as hello
use Rattle.tacit.specs.contracts.tacit_closed as closed
use Rattle.tacit.specs.contracts.tacit_read as read
use Rattle.tacit.specs.contracts.tacit_permitted as permitted
use Rattle.tacit.specs.contracts.tacit_permitted_kinds as permitted_kinds_call
use Rattle.tacit.specs.contracts.tacit_why_not as why_not_call
use Rattle.tacit.specs.contracts.tacit_wish_sac as wish-sac
use Rattle.tacit.specs.contracts.tacit_wanted as is_wanted
use Rattle.tacit.specs.contracts.tacit_retry_interval as retry_interval_call
use Rattle.tacit.specs.contracts.tacit_sound as is_sound
use Rattle.tacit.specs.contracts.tacit_load as loaded
use Rattle.tacit.specs.contracts.tacit_store as stored
use Rattle.tacit.specs.contracts.tacit_forward as moved-forward
use Rattle.tacit.specs.contracts.tacit_back as moved_back
use Rattle.tacit.specs.contracts.tacit_no_limits as no_limits_call
use Rattle.tacit.specs.contracts.tacit_set_limit as set-limit
use Rattle.tacit.specs.contracts.tacit_kind_total as kind-total
use Rattle.promises.specs.Words.{Permits}
use Rattle.promises.specs.Records.{Octets, AllNumbered}
use Rattle.promises.specs.Condition3.{ReadyPair, NeverLess}
use Rattle.promises.specs.Wishes.{wishes_by}
use Rattle.promises.specs.Allowed.{Allows, AllowsBoth, AllowsAll}
use Rattle.promises.specs.Walked.{RowCount, Recount}

-- ---- the calls that are an event
-- by its contract the C call for the event, handed the record l, may answer r and leave the record l'. In a call κs are the lifetimes of what is lent, a what
-- is handed in, r what is handed back and s what is left in what was lent
pub data Called : Event → List ℕ → Answer → List ℕ → Type 0 where
  tacit_initialization : (κs : _) (a r s : _) → Allows initialization.ended (λ w. initialization.clauses) (λ w. refl) κs a r s → Called (Initialization a.1.0.now all_applications) a.0.now r s.0.now
  tacit_capability : (κs : _) (a r s : _) → Allows capability.ended (λ w. capability.clauses) (λ w. refl) κs a r s → Called (Capability a.1.0.now) a.0.now r s.0.now
  tacit_local_change : (κs : _) (a r s : _) → AllowsBoth local_change.ended (λ w. local_change.clauses) (λ w. refl) κs a r s
      → Called (LocalChange a.1.0 a.1.1.0 (length a.1.1.1.0.now)) a.0.now r s.0.now
  tacit_wish : (κs : _) (a r s : _) → AllowsAll wish.ended (λ w. wish.clauses) (λ w. refl) κs a r s
      → Called (Wish a.1.0 a.1.1.0 a.1.1.1.0 (length a.1.1.1.1.0.now)) a.0.now r.answer s.0.now
  tacit_mismatch : (κs : _) (a r s : _) → Allows mismatch.ended (λ w. mismatch.clauses) (λ w. refl) κs a r s → Called Mismatch a.0.now r s.0.now
  tacit_hello : (κs : _) (a r s : _) → Allows hello.ended (λ w. hello.clauses) (λ w. refl) κs a r s → Called (Hello a.1.0) a.0.now r s.0.now
  tacit_closed : (κs : _) (a r s : _) → Allows closed.ended (λ w. closed.clauses) (λ w. refl) κs a r s → Called Closed a.0.now r s.0.now

-- each is its event: the answer is that of the session's step, and the record holds the session after it, or is as found
abbrev pub CallsAreEvents : Type 0
CallsAreEvents = (e : Event) (l : List ℕ) (r : Answer) (l' : List ℕ) → Called e l r l' → Carried (step (decoded l) e) l r l'

-- and the room that a local change or a wish was lent is the event's
pub record RoomsAreEvents : Type 0 where
  pub tacit_local_change :
      (κs : _) (a r s : _) → AllowsBoth local_change.ended (λ w. local_change.clauses) (λ w. refl) κs a r s
      → s.1.1.1.0.now ≡ room_after (decoded a.0.now) (LocalChange a.1.0 a.1.1.0 (length a.1.1.1.0.now)) a.1.1.1.0.now
  pub tacit_wish :
      (κs : _) (a r s : _) → AllowsAll wish.ended (λ w. wish.clauses) (λ w. refl) κs a r s
      → s.1.1.1.1.0.now ≡ room_after (decoded a.0.now) (Wish a.1.0 a.1.1.0 a.1.1.1.0 (length a.1.1.1.1.0.now)) a.1.1.1.1.0.now

-- ---- one call after another, each on the record that the one before it left
pub data CalledRun : List Event → List ℕ → List ℕ → Type 0 where
  ended : (l : List ℕ) → CalledRun [] l l
  called : (e : Event) (es : List Event) (l : List ℕ) (r : Answer) (m n : List ℕ) → Called e l r m → CalledRun es m n → CalledRun (e ∷ es) l n

-- over any calls the record holds the session that the events lead to, and stays sound
abbrev pub CallsFollow : Type 0
CallsFollow =
    (es : List Event) (l n : List ℕ) → Octets l → sound (decoded l) ≡ true → AllNumbered es → CalledRun es l n
    → (decoded n ≡ run (decoded l) es) × (sound (decoded n) ≡ true)

-- ---- creation: where it is not refused, the record holds the fresh session that was asked for, and is sound, and so are the wishes
abbrev pub CreationIsSound : Type 0
CreationIsSound =
    (κs : _) (a r s : _) → Allows create.ended (λ w. create.clauses) (λ w. refl) κs a r s → r ≡ not_refused → a.1.0.first_number < 2 ^ 32
    → (decoded s.0.now ≡ fresh_by a.1.0) × (sound (decoded s.0.now) ≡ true) × (sound_wishes a.1.0.wishes ≡ true)

-- ---- the other calls, each by the definition that is its own
pub record CallsAnswer : Type 0 where
  pub tacit_create : (κs : _) (a r s : _) → Allows create.ended (λ w. create.clauses) (λ w. refl) κs a r s
      → CreatedIn (created a.1.0) a.0.now r s.0.now
  pub tacit_read : (κs : _) (a r s : _) → Allows read.ended (λ w. read.clauses) (λ w. refl) κs a r s → r ≡ read_area a.0.now
  pub tacit_permitted : (κs : _) (a r s : _) → Allows permitted.ended (λ w. permitted.clauses) (λ w. refl) κs a r s → r ≡ permission (decoded a.0.now) a.1.0
  pub tacit_permitted_kinds : (κs : _) (a r s : _) → Allows permitted_kinds_call.ended (λ w. permitted_kinds_call.clauses) (λ w. refl) κs a r s → r ≡ permitted_kinds (decoded a.0.now)
  pub tacit_why_not : (κs : _) (a r s : _) → Allows why_not_call.ended (λ w. why_not_call.clauses) (λ w. refl) κs a r s → r ≡ why_not (decoded a.0.now) a.1.0
  -- of a wish, which is an event, the wishes to keep after it
  pub tacit_wish : (κs : _) (a r s : _) → AllowsAll wish.ended (λ w. wish.clauses) (λ w. refl) κs a r s → r.wishes ≡ wishes_by (decoded a.0.now) a.1.0 a.1.1.0 a.1.1.1.0 (length a.1.1.1.1.0.now)
  pub tacit_wish_sac : (κs : _) (a r s : _) → Allows wish-sac.ended (λ w. wish-sac.clauses) (λ w. refl) κs a r s
      → (r ≡ wish_sac a.0 (length a.1.0.now)) × (s.1.0.now ≡ sac_room a.0 a.1.0.now)
  pub tacit_wanted : (a r s : _) → Allows is_wanted.ended (λ w. is_wanted.clauses) (λ w. refl) tt a r s → r ≡ wanted a.0 a.1.0
  pub tacit_retry_interval : (κs : _) (a r s : _) → Allows retry_interval_call.ended (λ w. retry_interval_call.clauses) (λ w. refl) κs a r s → r ≡ retry_interval (decoded a.0.now)
  pub tacit_sound : (κs : _) (a r s : _) → Allows is_sound.ended (λ w. is_sound.clauses) (λ w. refl) κs a r s → r ≡ sound (decoded a.0.now)
  pub tacit_load : (κs : _) (a r s : _) → Allows loaded.ended (λ w. loaded.clauses) (λ w. refl) κs a r s → r ≡ load a.0.now
  pub tacit_store : (κs : _) (a r s : _) → Allows stored.ended (λ w. stored.clauses) (λ w. refl) κs a r s → (r ≡ store_refusal a.0 a.1.0.now) × (s.1.0.now ≡ store_octets a.0 a.1.0.now)
  pub tacit_forward : (κs : _) (a r s : _) → Allows moved-forward.ended (λ w. moved-forward.clauses) (λ w. refl) κs a r s
      → (r ≡ forward a.0.now a.1.0.now) × (s.1.0.now ≡ forward_room a.0.now a.1.0.now)
  pub tacit_back : (κs : _) (a r s : _) → Allows moved_back.ended (λ w. moved_back.clauses) (λ w. refl) κs a r s
      → (r ≡ back_refusal a.0.now a.1.0.now) × (s.1.0.now ≡ back_room a.0.now a.1.0.now)
  pub tacit_no_limits : (a r s : _) → Allows no_limits_call.ended (λ w. no_limits_call.clauses) (λ w. refl) tt a r s → r ≡ no_limits
  pub tacit_set_limit : (a r s : _) → Allows set-limit.ended (λ w. set-limit.clauses) (λ w. refl) tt a r s → r ≡ limited a.0 a.1.0 a.1.1.0
  pub tacit_row_count : (κs : _) (a r s : _) → RowCount κs a r s → r ≡ count_of a.0.now a.1.0
  pub tacit_kind_total : (a r s : _) → Allows kind-total.ended (λ w. kind-total.clauses) (λ w. refl) tt a r s → r ≡ kind_total a.0 a.1.0
  pub tacit_recount : (κs : _) (a r s : _) → Recount κs a r s → r ≡ recount a.0.now

-- ---- the question: of a sound record and a kind that is one, it answers 1 exactly where the session permits the kind
abbrev pub PermittedIsAsked : Type 0
PermittedIsAsked =
    (κs : _) (a r s : _) → Allows permitted.ended (λ w. permitted.clauses) (λ w. refl) κs a r s → sound (decoded a.0.now) ≡ true → a.1.0 < kind_count
    → (r.refusal ≡ not_refused) × ((r.permitted ≡ 1) ↔ Permits (decoded a.0.now) a.1.0)

-- ---- condition 3: two records, one Initialization handed to both and then the same events, each by its call
-- the record is that of an Open session after each call
abbrev pub StaysOpenUnder : (es : List Event) (l n : List ℕ) → CalledRun es l n → Type 0
StaysOpenUnder es l n (ended m) = Unit {0}
StaysOpenUnder es l n (called e fs k r m o c cs) = (is_open (decoded m) ≡ true) × StaysOpenUnder fs m o cs

abbrev pub CallsCondition3 : Type 0
CallsCondition3 =
    (l m : List ℕ) (area : List ℕ) (es : List Event) (l' m' : List ℕ) → Octets l → Octets m → AllNumbered es → ReadyPair (decoded l) (decoded m)
    → (first : CalledRun (Initialization area all_applications ∷ es) l l') → CalledRun (Initialization area all_applications ∷ es) m m'
    → StaysOpenUnder (Initialization area all_applications ∷ es) l l' first → NeverLess (decoded l') (decoded m')
