use Rattle.std.proofs.Common.{rules}
use Rattle.node_record.proofs.Charts.{record_told}
use Rattle.node_record.proofs.node_chart.write_chart.Goals as goal

pub returns-clause-done : goal.returns-clause-done
returns-clause-done g c = (
  c.in_ok-chart.chart.items,
  record_told c.args.layout.now c.args.name.now c.args.recording.now c.in_ok-texts.texts.table c.layout-layout.result.now c.in_ok-texts.texts.read c.args.cut c.in_ok-chart.chart.items
      c.in_ok-texts.ensures.read c.layout-layout.ensures.entries c.in_ok-chart.ensures.drawn,
  (search rules),
)
