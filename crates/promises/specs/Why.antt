-- The question why: the answer names the first sentence that holds, in the words of applications n and kinds k. Assumes nothing.
use Rattle.std.specs.Prelude.{ℕ, ◌≤◌, ◌<◌, ◌≡◌, true, false, ◌↔◌, refl}
use Rattle.refusals.specs.Refusals.{not_refused, out_of_range, not_sound}
use Rattle.kinds.specs.Kinds.{kind_count, Lacking}
use Rattle.session.specs.declared.Session.{Session}
use Rattle.session.specs.Session.{is_open, in_force, sound}
use Rattle.session.specs.Questions.{why_permitted, why_not_open, why_disabled_by_peer, why_not_enabled, why_not_listed, why_not_ours, why_not_theirs, why_not}
use Rattle.record.specs.Record.{decoded}
use Rattle.tacit.specs.contracts.tacit_why_not as why_not_call
use Rattle.promises.specs.Words.{Enables, Lists, Maps, Disables, Permits}
use Rattle.promises.specs.Allowed.{Allows}

-- ---- the sentences, in their order; the second is `Disables`
-- the session is not Open
abbrev pub NotOpen : Session → Type 0
NotOpen s = is_open s ≡ true → ⊥

-- negotiation is in force and no application that opens the kind is enabled here
pub record NotEnabled (s : Session) (k : ℕ) : Type 0 where
  pub in_force_law : in_force s ≡ true
  pub none_enabled : (n : ℕ) → Enables s n → Maps s n k → ⊥

-- an application that opens the kind and is enabled here
pub record SomeEnabled (s : Session) (k : ℕ) : Type 0 where
  pub application : ℕ
  pub enabled : Enables s application
  pub maps : Maps s application k

-- negotiation is in force, some is enabled here, and none of these is listed by the peer
pub record NotListed (s : Session) (k : ℕ) : Type 0 where
  pub in_force_law : in_force s ≡ true
  pub some_enabled : SomeEnabled s k
  pub none_listed : (n : ℕ) → Enables s n → Maps s n k → Lists s n → ⊥

-- the capability that the kind needs is not ours
abbrev pub NotOurs : Session → ℕ → Type 0
NotOurs s k = Lacking s.ours k

-- it is not the peer's
abbrev pub NotTheirs : Session → ℕ → Type 0
NotTheirs s k = Lacking s.theirs k

-- ---- the answer: 0 exactly when the kind is permitted, each other reason exactly when its sentence holds and none before it
pub record FirstThatHolds (s : Session) (k reason : ℕ) : Type 0 where
  pub permitted : (reason ≡ why_permitted) ↔ Permits s k
  pub not_open : (reason ≡ why_not_open) ↔ NotOpen s
  pub disabled : (reason ≡ why_disabled_by_peer) ↔ ((NotOpen s → ⊥) × Disables s k)
  pub not_enabled : (reason ≡ why_not_enabled) ↔ ((NotOpen s → ⊥) × (Disables s k → ⊥) × NotEnabled s k)
  pub not_listed : (reason ≡ why_not_listed) ↔ ((NotOpen s → ⊥) × (Disables s k → ⊥) × (NotEnabled s k → ⊥) × NotListed s k)
  pub not_ours : (reason ≡ why_not_ours) ↔ ((NotOpen s → ⊥) × (Disables s k → ⊥) × (NotEnabled s k → ⊥) × (NotListed s k → ⊥) × NotOurs s k)
  pub not_theirs :
      (reason ≡ why_not_theirs) ↔ ((NotOpen s → ⊥) × (Disables s k → ⊥) × (NotEnabled s k → ⊥) × (NotListed s k → ⊥) × (NotOurs s k → ⊥) × NotTheirs s k)
  pub no_other : reason ≤ why_not_theirs

-- of a sound session and a kind below 10, not refused; else 10 or 6, and no reason with it. So answers the C call too, over its contract as the check
-- reads it: κs are the lifetimes of what is lent, a what is handed in, r what is handed back and s what is left in what was lent
pub record WhyNot : Type 0 where
  pub answered : (s : Session) (k : ℕ) → sound s ≡ true → k < kind_count → (why_not s k).refusal ≡ not_refused
  pub first : (s : Session) (k : ℕ) → sound s ≡ true → k < kind_count → FirstThatHolds s k (why_not s k).reason
  pub unsound : (s : Session) (k : ℕ) → sound s ≡ false → why_not s k ≡ record { refusal = not_sound; reason = 0 }
  pub no_kind : (s : Session) (k : ℕ) → sound s ≡ true → kind_count ≤ k → why_not s k ≡ record { refusal = out_of_range; reason = 0 }
  pub asked :
      (κs : _) (a r s : _) → Allows why_not_call.ended (λ w. why_not_call.clauses) (λ w. refl) κs a r s → sound (decoded a.0.now) ≡ true → a.1.0 < kind_count
      → (r.refusal ≡ not_refused) × FirstThatHolds (decoded a.0.now) a.1.0 r.reason
