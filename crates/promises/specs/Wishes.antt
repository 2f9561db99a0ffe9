-- L2, "our own disinterest": what the other end makes of what we write, what the wishes come to over runs, and when a kind is wanted. Soundness, that what
-- is refused is nothing, records and condition 3 are said of runs of events (Run.antt, Records.antt, Condition3.antt), and a wish is one. Assumes nothing.
use Rattle.std.specs.Prelude.{ℕ, ◌<◌, ◌≡◌, Bool, true, ◌↔◌, List, [], ◌∷◌, ◌++◌, length, take, drop}
use Rattle.sets.specs.Set.{holds}
use Rattle.refusals.specs.Refusals.{not_refused}
use Rattle.kinds.specs.Kinds.{kind_count, app_count}
use Rattle.area.specs.Area.{sac_type}
use Rattle.area.specs.Tlvs.{Tlv, area_of, Wide, Without}
use Rattle.message.specs.Sac.{sac_for}
use Rattle.message.specs.Message.{message_head_length, wish_length}
use Rattle.wishes.specs.Wishes.{sound_wishes, wishes_after, wanted, wish_sac, sac_room}
use Rattle.session.specs.declared.Session.{Session}
use Rattle.session.specs.declared.Answer.{Answer}
use Rattle.session.specs.Session.{is_ready, is_open, sound}
use Rattle.session.specs.With.{with_disabling}
use Rattle.session.specs.Decisions.{outcome_done, outcome_unchanged, Done, settled}
use Rattle.session.specs.Events.{Event, Initialization, Capability, LocalChange, Wish, Mismatch, Hello, Closed, Unknown, step, room_after}
use Rattle.promises.specs.Words.{Disables}
use Rattle.promises.specs.Run.{StaysOpen}
use Rattle.promises.specs.Condition3.{ReadyPair}

-- ---- one wish
-- its answer, and the wishes after it
abbrev pub answer_to : Session → ℕ → ℕ → Bool → ℕ → Answer
answer_to s wishes n disable room = (step s (Wish wishes n disable room)).answer

abbrev pub wishes_by : Session → ℕ → ℕ → Bool → ℕ → ℕ
wishes_by s wishes n disable room = wishes_after wishes n disable (answer_to s wishes n disable room).refusal

-- not refused, it is kept, and no other App is touched; refused or Unchanged, the wishes are as they were; done, 14 octets say so
pub record Kept (s : Session) (wishes n : ℕ) (disable : Bool) (room : ℕ) : Type 0 where
  pub that : (answer_to s wishes n disable room).refusal ≡ not_refused → holds app_count (wishes_by s wishes n disable room) n ≡ disable
  pub no_other : (m : ℕ) → (m ≡ n → ⊥) → holds app_count (wishes_by s wishes n disable room) m ≡ holds app_count wishes m
  pub refused : ((answer_to s wishes n disable room).refusal ≡ not_refused → ⊥) → wishes_by s wishes n disable room ≡ wishes
  pub unchanged : (answer_to s wishes n disable room).outcome ≡ outcome_unchanged → wishes_by s wishes n disable room ≡ wishes
  pub done : (answer_to s wishes n disable room).refusal ≡ not_refused → (answer_to s wishes n disable room).outcome ≡ outcome_done
      → (answer_to s wishes n disable room).written ≡ wish_length

abbrev pub WishIsKept : Type 0
WishIsKept = (s : Session) (wishes n : ℕ) (disable : Bool) (room : ℕ) → Kept s wishes n disable room

-- ---- "What we write, read by the other end, disables exactly what we wished"
-- the area of the message: the last 6 of its 14 octets
abbrev pub area_of_wish : Session → ℕ → ℕ → Bool → List ℕ → List ℕ
area_of_wish s wishes n disable room = drop message_head_length (take wish_length (room_after s (Wish wishes n disable (length room)) room))

-- of the session that reads it nothing changes but whether that App is disabled
pub record ExactlyThatApp (t : Session) (n : ℕ) (disable : Bool) (area : List ℕ) : Type 0 where
  pub event : step t (Capability area) ≡ settled t (Done (with_disabling t n disable))
  pub that : holds app_count (with_disabling t n disable).disabled n ≡ disable
  pub no_other : (m : ℕ) → (m ≡ n → ⊥) → holds app_count (with_disabling t n disable).disabled m ≡ holds app_count t.disabled m

-- given as a Capability message to any sound Open session
abbrev pub WishReadAsMeant : Type 0
WishReadAsMeant =
    (s : Session) (wishes n : ℕ) (disable : Bool) (room : List ℕ) (t : Session) → (answer_to s wishes n disable (length room)).written ≡ wish_length
    → sound t ≡ true → is_open t ≡ true → ExactlyThatApp t n disable (area_of_wish s wishes n disable room)

-- the SAC for an Initialization is what stands at the front of the room; refused, the room is as it was
pub record SacWritten (wishes : ℕ) (room : List ℕ) : Type 0 where
  pub octets : (wish_sac wishes (length room)).refusal ≡ not_refused → take (wish_sac wishes (length room)).written (sac_room wishes room) ≡ area_of (sac_for wishes)
  pub refused : ((wish_sac wishes (length room)).refusal ≡ not_refused → ⊥) → sac_room wishes room ≡ room

abbrev pub SacIsWritten : Type 0
SacIsWritten = (wishes : ℕ) (room : List ℕ) → SacWritten wishes room

-- an area of TLVs that holds our SAC where there is one, and no other
pub record HoldsSac (wishes : ℕ) (area : List ℕ) : Type 0 where
  pub before : List Tlv
  pub behind : List Tlv
  pub others_before : Without sac_type before
  pub others_behind : Without sac_type behind
  pub wide : Wide (before ++ (sac_for wishes ++ behind))
  pub is : area ≡ area_of (before ++ (sac_for wishes ++ behind))

-- an Initialization with it that opens a session leaves exactly our wishes disabled there, "none where it was omitted"
abbrev pub SacReadAsMeant : Type 0
SacReadAsMeant =
    (wishes : ℕ) (t : Session) (area : List ℕ) (below_limit : ℕ) → sound_wishes wishes ≡ true → HoldsSac wishes area → is_ready t ≡ true
    → is_open (step t (Initialization area below_limit)).session ≡ true → (step t (Initialization area below_limit)).session.disabled ≡ wishes

-- ---- "a kind is wanted exactly when the other end, having read our wishes, has not disabled it"
pub data HasRead : ℕ → Session → Type 0 where
  -- our Initialization
  opened : (wishes : ℕ) (t : Session) (area : List ℕ) (below_limit : ℕ) → sound_wishes wishes ≡ true → HoldsSac wishes area → is_ready t ≡ true
      → is_open (step t (Initialization area below_limit)).session ≡ true → HasRead wishes (step t (Initialization area below_limit)).session
  -- and the message of each wish since then
  told : (wishes : ℕ) (t : Session) → HasRead wishes t → sound t ≡ true → is_open t ≡ true → (s : Session) (n : ℕ) (disable : Bool) (room : List ℕ)
      → (answer_to s wishes n disable (length room)).written ≡ wish_length
      → HasRead (wishes_by s wishes n disable (length room)) (step t (Capability (area_of_wish s wishes n disable room))).session
  -- while each other event there leaves what is disabled
  since : (wishes : ℕ) (t : Session) → HasRead wishes t → (e : Event) → (step t e).session.disabled ≡ t.disabled → HasRead wishes (step t e).session

abbrev pub WantedIsNotDisabled : Type 0
WantedIsNotDisabled =
    (wishes k : ℕ) (t : Session) → HasRead wishes t → k < kind_count → ((wanted wishes k).refusal ≡ not_refused) × (((wanted wishes k).wanted ≡ 1) ↔ (Disables t k → ⊥))

-- ---- over runs the wishes are kept beside the session
-- those to keep after an event: what a wish hands back
abbrev pub kept_after : Session → ℕ → Event → ℕ
kept_after s kept (Initialization area below_limit) = kept
kept_after s kept (Capability area) = kept
kept_after s kept (LocalChange n on room) = kept
kept_after s kept (Wish wishes n disable room) = wishes_by s wishes n disable room
kept_after s kept Mismatch = kept
kept_after s kept (Hello number) = kept
kept_after s kept Closed = kept
kept_after s kept Unknown = kept

abbrev pub kept_run : Session → ℕ → List Event → ℕ
kept_run s kept [] = kept
kept_run s kept (e ∷ es) = kept_run (step s e).session (kept_after s kept e) es

-- said of each wish among the events: the wishes that it is handed, and its App
abbrev pub OfWish : (ℕ → ℕ → Type 0) → Event → Type 0
OfWish P (Initialization area below_limit) = Unit {0}
OfWish P (Capability area) = Unit {0}
OfWish P (LocalChange n on room) = Unit {0}
OfWish P (Wish wishes n disable room) = P wishes n
OfWish P Mismatch = Unit {0}
OfWish P (Hello number) = Unit {0}
OfWish P Closed = Unit {0}
OfWish P Unknown = Unit {0}

-- each is handed those that are kept
abbrev pub Handed : Session → ℕ → List Event → Type 0
Handed s kept [] = Unit {0}
Handed s kept (e ∷ es) = OfWish (λ wishes n. wishes ≡ kept) e × Handed (step s e).session (kept_after s kept e) es

-- none is about App n
abbrev pub NotAbout : ℕ → List Event → Type 0
NotAbout n [] = Unit {0}
NotAbout n (e ∷ es) = OfWish (λ wishes m. m ≡ n → ⊥) e × NotAbout n es

-- "wishes .. outlive Open": they stay over any run but for a wish about that one App, and stay sound
abbrev pub WishesStay : Type 0
WishesStay =
    (s : Session) (kept : ℕ) (es : List Event) (n : ℕ) → Handed s kept es → NotAbout n es → holds app_count (kept_run s kept es) n ≡ holds app_count kept n

abbrev pub WishesStaySound : Type 0
WishesStaySound = (s : Session) (kept : ℕ) (es : List Event) → sound_wishes kept ≡ true → Handed s kept es → sound_wishes (kept_run s kept es) ≡ true

-- "Wishes do not enter what we permit, so condition 3 stands": the same events, wishes among them, leave its two sessions the same wishes
pub record SameWishes (s t : Session) (kept : ℕ) (es : List Event) : Type 0 where
  pub same : kept_run t kept es ≡ kept_run s kept es
  pub handed : Handed s kept es → Handed t kept es

abbrev pub WishesOfBoth : Type 0
WishesOfBoth =
    (s t : Session) (kept : ℕ) (area : List ℕ) (below_limit : ℕ) (es : List Event) → ReadyPair s t → StaysOpen s (Initialization area below_limit ∷ es)
    → SameWishes s t kept (Initialization area below_limit ∷ es)
