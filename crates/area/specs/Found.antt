-- What was found in an area, slot by slot. Assumes nothing.
use Rattle.std.specs.Prelude.{ℕ, Bool, true, false, ltb, Result}
use Rattle.sets.specs.Set.{holds, switched}
use Rattle.refusals.specs.declared.Refusal.{Refusal}
use Rattle.refusals.specs.Refusals.{not_refused, told_as}
use Rattle.kinds.specs.Kinds.{capability_count}
use Rattle.area.specs.declared.Span.{Span}
use Rattle.area.specs.declared.Found.{Found}
use Rattle.area.specs.declared.Reading.{Reading}

-- "an absent one, and both after a refusal, have no octets"
abbrev pub none : Span
none = record { start = 0; len = 0 }

-- the number refused with, and nothing found
abbrev pub refused : ℕ → Reading
refused n = record { refusal = n; dynamic = false; capabilities = 0; holding = 0; tac = none; sac = none }

-- what was found, with nothing refused; and what reading comes to in numbers
abbrev pub told : Found → Reading
told f =
    record { refusal = not_refused; dynamic = f.dynamic; capabilities = f.capabilities; holding = f.holding; tac = f.tac; sac = f.sac }

abbrev pub reading_of : Result Found Refusal → Reading
reading_of = told_as told refused

-- before the first TLV nothing is refused and nothing is found
abbrev pub nothing_found : Reading
nothing_found = refused not_refused

-- whether a slot is filled: a TAC has one octet at the least and a SAC two
abbrev pub tac_stood : Reading → Bool
tac_stood r = ltb 0 r.tac.len

abbrev pub sac_stood : Reading → Bool
sac_stood r = ltb 0 r.sac.len

abbrev pub dynamic_stood : Reading → Bool
dynamic_stood r = r.dynamic

abbrev pub capability_stood : ℕ → Reading → Bool
capability_stood n r = holds capability_count r.capabilities n

-- what was found, with a TLV in its slot: where its value stands, and S, which of a TAC and a SAC is not asked here
abbrev pub with_tac : Span → Bool → Reading → Reading
with_tac value s r =
    record { refusal = not_refused; dynamic = r.dynamic; capabilities = r.capabilities; holding = r.holding; tac = value; sac = r.sac }

abbrev pub with_sac : Span → Bool → Reading → Reading
with_sac value s r =
    record { refusal = not_refused; dynamic = r.dynamic; capabilities = r.capabilities; holding = r.holding; tac = r.tac; sac = value }

-- "value: 1 octet, not read"
abbrev pub with_dynamic : Span → Bool → Reading → Reading
with_dynamic value s r =
    record { refusal = not_refused; dynamic = true; capabilities = r.capabilities; holding = r.holding; tac = r.tac; sac = r.sac }

-- the capability n is present, and with S = 1 it is held
abbrev pub with_capability : ℕ → Span → Bool → Reading → Reading
with_capability n value s r =
    record {
      refusal = not_refused;
      dynamic = r.dynamic;
      capabilities = switched capability_count r.capabilities n true;
      holding = switched capability_count r.holding n s;
      tac = r.tac;
      sac = r.sac;
    }
