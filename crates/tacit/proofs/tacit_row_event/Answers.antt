-- What the pass found serves as a tally of the whole row.
use Rattle.row.proofs.Found.{event_told}
use Rattle.tacit.proofs.tacit_row_event.Goals as goal

pub returns-then-at-row : goal.returns-then-at-row
returns-then-at-row c =
    let a = c.args in
    event_told a.row.now a.at _ a.event a.limits a.totals a.area.now a.room.now c.event_in-after.new.room c.counted.result c.tally_of-tally.result c.event_in-after.result
    c.if-at-row.true c.counted.ensures c.tally_of-tally.ensures c.event_in-after.ensures
