use Rattle.std.proofs.Common.{◌∙◌, sym}
use Rattle.station_layout.specs.SharedAdvice.{place_having}
use Rattle.station_layout.proofs.Found.{found_here, goes_on, nowhere}
use Rattle.station_layout.proofs.shared.first_having.Goals as goal

pub returns-in-Some : goal.returns-in-Some
returns-in-Some c =
    found_here (place_having c.args.written.now c.args.what.now) c.args.tables.now c.loop-table.table-index _ _ c.in-Some.found c.loop-table-test.true (sym c.place_having.ensures ∙ c.in-Some.is) c.loop-table.invariant

pub loop-table-preserved : goal.loop-table-preserved
loop-table-preserved c =
    goes_on (place_having c.args.written.now c.args.what.now) c.args.tables.now c.loop-table.table-index _ _ c.loop-table-test.true (sym c.place_having.ensures ∙ c.in_default.is) c.loop-table.invariant

pub returns : goal.returns
returns c = nowhere (place_having c.args.written.now c.args.what.now) c.args.tables.now c.loop-table.table-index _ c.loop-table-test.false c.loop-table.invariant
