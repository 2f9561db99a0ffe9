-- L4 over runs: "Ours are fixed at creation; the peer's come from its Initialization .. and change by Capability messages .., and are cleared on leaving
-- Open". Assumes nothing.
use Rattle.std.specs.Prelude.{ℕ, ◌≡◌, true, false, List, [], ◌∷◌, eqb}
use Rattle.choice.specs.Pick.{pick}
use Rattle.refusals.specs.Refusals.{not_refused}
use Rattle.area.specs.Area.{read_area}
use Rattle.session.specs.declared.Session.{Session}
use Rattle.session.specs.Session.{is_ready, is_open, sound}
use Rattle.session.specs.Capabilities.{theirs_at_opening, theirs_after}
use Rattle.session.specs.Events.{Event, Initialization, Capability, LocalChange, Wish, Mismatch, Hello, Closed, Unknown, step, run}
use Rattle.promises.specs.Run.{StaysOpen}

-- ours never change, whatever happens and whether or not the session is sound
abbrev pub OursStay : Type 0
OursStay = (s : Session) (es : List Event) → (run s es).ours ≡ s.ours

-- the peer's are none outside Open
abbrev pub TheirsOnlyOpen : Type 0
TheirsOnlyOpen = (s : Session) (es : List Event) → sound s ≡ true → is_open (run s es) ≡ false → (run s es).theirs ≡ 0

-- what an event that is not refused says of the peer's in an Open session: a Capability message alone says something
abbrev pub said_by : ℕ → Event → ℕ
said_by theirs (Initialization area below_limit) = theirs
said_by theirs (Capability area) = theirs_after theirs (read_area area)
said_by theirs (LocalChange n on room) = theirs
said_by theirs (Wish wishes n disable room) = theirs
said_by theirs Mismatch = theirs
said_by theirs (Hello number) = theirs
said_by theirs Closed = theirs
said_by theirs Unknown = theirs

-- the same of events, one after another; one that is refused says nothing
abbrev pub said : Session → ℕ → List Event → ℕ
said s theirs [] = theirs
said s theirs (e ∷ es) = said (step s e).session (pick (eqb (step s e).answer.refusal not_refused) (said_by theirs e) theirs) es

-- "the peer's set is what the last Initialization and the Capability messages since then say"
abbrev pub TheirsFollow : Type 0
TheirsFollow =
    (s : Session) (area : List ℕ) (below_limit : ℕ) (es : List Event) → sound s ≡ true → is_ready s ≡ true → StaysOpen s (Initialization area below_limit ∷ es)
    → (run s (Initialization area below_limit ∷ es)).theirs ≡ said (step s (Initialization area below_limit)).session (theirs_at_opening (read_area area)) es
