-- Condition 3: "a carrier who adds an application must not lose a circuit". Assumes nothing.
use Rattle.std.specs.Prelude.{ℕ, ◌≡◌, true, ◌↔◌, List, ◌∷◌}
use Rattle.session.specs.declared.Session.{Session}
use Rattle.session.specs.Session.{is_ready, is_open, in_force, sound, Capable}
use Rattle.session.specs.With.{with_other_enabled}
use Rattle.session.specs.Events.{Event, Initialization, run}
use Rattle.promises.specs.Run.{StaysOpen}
use Rattle.promises.specs.Words.{Enables, Lists, Maps, Disables, Permits}

-- "two sound Ready sessions alike in all but this: the second enables every application the first enables, perhaps more"
pub record ReadyPair (s t : Session) : Type 0 where
  pub first_sound : sound s ≡ true
  pub second_sound : sound t ≡ true
  pub first_ready : is_ready s ≡ true
  pub alike : t ≡ with_other_enabled s t.enabled s.next
  pub more : (n : ℕ) → Enables s n → Enables t n

-- one listed by the peer and enabled only in the second maps to the kind
pub record OnlySecond (s t : Session) (k : ℕ) : Type 0 where
  pub application : ℕ
  pub listed : Lists t application
  pub enabled : Enables t application
  pub not_first : Enables s application → ⊥
  pub maps : Maps t application k

-- "exactly when negotiation is in force, the peer has not disabled that kind, no application both enabled in the first and listed by the peer maps to
-- it, and one listed by the peer and enabled only in the second does", and by L4 "any capability the kind needs is held by both"
pub record Further (s t : Session) (k : ℕ) : Type 0 where
  pub in_force_law : in_force t ≡ true
  pub not_disabled : Disables t k → ⊥
  pub none_common : (n : ℕ) → Enables s n → Lists t n → Maps t n k → ⊥
  pub only_second : OnlySecond s t k
  pub capable : Capable t k

-- what holds of the two after an event, while the first is Open
pub record NeverLess (s t : Session) : Type 0 where
  pub second_open : is_open t ≡ true
  pub permits : (k : ℕ) → Permits s k → Permits t k
  pub further : (k : ℕ) → (Permits t k × (Permits s k → ⊥)) ↔ Further s t k

-- "One Initialization opens the first; give it to both, then the same events with the same room to write. After each event, until the first leaves
-- Open": the enabled sets are those of that moment. Of limits the same applications are below theirs in both
abbrev pub Condition3 : Type 0
Condition3 =
    (s t : Session) (area : List ℕ) (below_limit : ℕ) (es : List Event) → ReadyPair s t → StaysOpen s (Initialization area below_limit ∷ es)
    → NeverLess (run s (Initialization area below_limit ∷ es)) (run t (Initialization area below_limit ∷ es))
