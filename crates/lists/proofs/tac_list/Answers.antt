-- `lists::tac_list` meets its contract. Assumes nothing.
use Rattle.std.proofs.Common.{◌<◌, ◌/◌, ◌∙◌, sym, length, arith}
use Rattle.area.specs.Area.{element_length}
use Rattle.lists.proofs.Turn.{skips, applies, remembers}
use Rattle.lists.proofs.Chunks.{id_is, adds_is}
use Rattle.lists.proofs.tac_list.Goals as goal

pub loop-high-preserved-then-not-is_known : goal.loop-high-preserved-then-not-is_known
loop-high-preserved-then-not-is_known c =
    let inv = c.loop-high.invariant in
    let among : c.loop-high.high-index < length c.in-Some.octets.now / element_length = omega (arith, c.as_chunks.ensures.front_len) in
    let id = id_is c.in-Some.ensures.cases.0 c.as_chunks.ensures.front among c.from_be_bytes-id.ensures in
    let unknown = sym c.is_known.ensures ∙ c.if-not-is_known.true in
    (omega arith, inv.1 ∙ skips _ _ id _ _ unknown, inv.2 ∙ skips _ _ id _ _ unknown)

pub loop-high-preserved : goal.loop-high-preserved
loop-high-preserved c =
    let inv = c.loop-high.invariant in
    let among : c.loop-high.high-index < length c.in-Some.octets.now / element_length = omega (arith, c.as_chunks.ensures.front_len) in
    let id = id_is c.in-Some.ensures.cases.0 c.as_chunks.ensures.front among c.from_be_bytes-id.ensures in
    let on = adds_is c.in-Some.ensures.cases.0 c.as_chunks.ensures.front among c.args.opening in
    let known = sym c.is_known.ensures ∙ c.if-not-is_known.false in (
      omega arith,
      c.tac_element-set.ensures ∙ applies _ _ id _ _ known inv.2 inv.1 on,
      c.switched-met.ensures ∙ remembers _ _ id known inv.2,
    )
