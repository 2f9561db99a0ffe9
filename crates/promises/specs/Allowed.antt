-- Which outcomes a contract allows: those of which the fact holds that it ensures. It is read off the contract that the check makes of a function's clauses, and
-- asked at every model of the logic; a contract of another form has no such fact, and is refused. In an outcome κs are the lifetimes of what is lent, a what is
-- handed in, r what is handed back and s what is left in what was lent. Assumes nothing.
use Rattle.std.specs.Prelude.{◌≡◌}
use base.Logic.{sep}
use prog.Memory.{Memory}
use prog.Routine.{Routine}
use types.Logic.{Logic}
use contract.Lifetimes.{Lfts}
use contract.Monad.{Fun, fact}
use denote.Triple.Entry.{Args, Res}
use denote.Triple.Clauses.{Ended, AtExit, Clauses}
use borrow.Fn.World.{World, Pr}

-- the `clauses` of a function's contract
abbrev pub Contract : Ended → Type 2
Contract T = (w : World) → Logic w.𝓤 → (Memory → Pr w) → (Routine → Fun w.𝓤) → Clauses w.𝓤 T

-- what may be said of an outcome
abbrev pub Outcome : Ended → Type 1
Outcome T = (κs : Lfts T.signature.lifetimes) (a : Args T.signature κs) → Res T.signature κs → AtExit T κs → Type 0

module _ (T : Ended) (c : Contract T) where
  -- what it ensures at a model
  abbrev ensured : (w : World) (κs : Lfts T.signature.lifetimes) (a : Args T.signature κs) → (c w w.𝓛 w.𝓜.mem w.𝓡.returns κs a).ghost
      → Res T.signature κs → AtExit T κs → Pr w
  ensured w κs a = (c w w.𝓛 w.𝓜.mem w.𝓡.returns κs a).ensures

  -- by one clause
  abbrev pub Allows : {φ : Outcome T} → ((w : World) → ensured w ≡ (λ κs a g r s. fact w.𝓤 (φ κs a r s))) → Outcome T
  Allows {φ} is = φ

  -- by two, and by three
  abbrev pub AllowsBoth : {φ ψ : Outcome T} → ((w : World) → ensured w ≡ (λ κs a g r s. sep w.𝓤 (fact w.𝓤 (φ κs a r s)) (fact w.𝓤 (ψ κs a r s)))) → Outcome T
  AllowsBoth {φ} {ψ} is κs a r s = φ κs a r s × ψ κs a r s

  abbrev pub AllowsAll : {φ ψ χ : Outcome T}
      → ((w : World) → ensured w ≡ (λ κs a g r s. sep w.𝓤 (fact w.𝓤 (φ κs a r s)) (sep w.𝓤 (fact w.𝓤 (ψ κs a r s)) (fact w.𝓤 (χ κs a r s))))) → Outcome T
  AllowsAll {φ} {ψ} {χ} is κs a r s = φ κs a r s × (ψ κs a r s × χ κs a r s)
