-- The contracts of the four functions that are lent a row: what the `ensures` of each states, read off it as the check reads a contract. κs are the lifetimes of
-- what is lent, a what is handed in, r what is handed back, s what is left in what was lent. Assumes nothing.
use Rattle.std.specs.Prelude.{refl}
use base.Logic.{emp}
use contract.Lifetimes.{Lfts}
use denote.Triple.Clauses.{AtExit}
use borrow.Fn.Claims.{AllOf}
use borrow.Fn.World.{World, Pr, ArgsD, ResD}
use borrow.Fn.Read.{Read, no_know, all_models, r_last}
use Rattle.row.specs.contracts.tally_of as tally_of
use Rattle.tacit.specs.contracts.tacit_row_count as row_count
use Rattle.tacit.specs.contracts.tacit_recount as recount
use Rattle.tacit.specs.contracts.tacit_row_event as row-event

-- what an assertion tells whoever has it and nothing else
abbrev alone : (w : World) → Pr w
alone w = emp w.𝓤

abbrev Tells : (P : (w : World) → Pr w) → Read alone no_know P → Type 0
Tells P r = AllOf r.tells

module _ (κs : Lfts 1) (a : ArgsD tally_of.signature κs) (r : ResD tally_of.signature κs) (s : AtExit tally_of.ended κs) where
  abbrev tally_of_ensures : (w : World) → Pr w
  tally_of_ensures w = (tally_of.clauses w.𝓛 w.𝓜.mem w.𝓡.returns κs a).ensures tt r s

  abbrev pub TallyOf : Type 0
  TallyOf = Tells tally_of_ensures (all_models tally_of_ensures (λ w. r_last _) (λ w. refl) (λ w. refl) (λ w. refl))

module _ (κs : Lfts 1) (a : ArgsD row_count.signature κs) (r : ResD row_count.signature κs) (s : AtExit row_count.ended κs) where
  abbrev row_count_ensures : (w : World) → Pr w
  row_count_ensures w = (row_count.clauses w.𝓛 w.𝓜.mem w.𝓡.returns κs a).ensures tt r s

  abbrev pub RowCount : Type 0
  RowCount = Tells row_count_ensures (all_models row_count_ensures (λ w. r_last _) (λ w. refl) (λ w. refl) (λ w. refl))

module _ (κs : Lfts 1) (a : ArgsD recount.signature κs) (r : ResD recount.signature κs) (s : AtExit recount.ended κs) where
  abbrev recount_ensures : (w : World) → Pr w
  recount_ensures w = (recount.clauses w.𝓛 w.𝓜.mem w.𝓡.returns κs a).ensures tt r s

  abbrev pub Recount : Type 0
  Recount = Tells recount_ensures (all_models recount_ensures (λ w. r_last _) (λ w. refl) (λ w. refl) (λ w. refl))

module _ (κs : Lfts 3) (a : ArgsD row-event.signature κs) (r : ResD row-event.signature κs) (s : AtExit row-event.ended κs) where
  abbrev row_event_ensures : (w : World) → Pr w
  row_event_ensures w = (row-event.clauses w.𝓛 w.𝓜.mem w.𝓡.returns κs a).ensures tt r s

  abbrev pub RowEventCall : Type 0
  RowEventCall = Tells row_event_ensures (all_models row_event_ensures (λ w. r_last _) (λ w. refl) (λ w. refl) (λ w. refl))
