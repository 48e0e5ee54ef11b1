use Rattle.control_table.specs.layout.Nodes.{meant_node}
use Rattle.node_record.proofs.Charts.{chart_told}
use Rattle.node_record.proofs.node_chart.chart_of.Goals as goal

pub returns-clause-drawn : goal.returns-clause-drawn
returns-clause-drawn c =
    chart_told c.args.layout.now c.args.node (meant_node c.node_of-whose.result) c.args.recording.now c.of.result c.args.cut c.in_ok-story.story c.in_ok-text.field-0.items
    c.of.ensures c.node_of-whose.ensures c.in_ok-story.ensures c.in_ok-text.ensures
