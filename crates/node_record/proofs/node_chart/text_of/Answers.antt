use Rattle.std.proofs.Common.{◌∙◌, List, ap, subst}
use Rattle.std.specs.List.{filter}
use Rattle.lane_chart.specs.Chart.{IsChartOf}
use Rattle.lane_chart.specs.Drawn.{Drawn, drawn_rows}
use Rattle.lane_chart.specs.declared.change.Change.{Change}
use Rattle.lane_chart.specs.declared.change.Happening.{Happening}
use Rattle.lane_chart.specs.declared.drawn.DrawnRow.{DrawnRow}
use Rattle.lane_chart.specs.declared.scale.Window.{Window}
use Rattle.control_table.specs.layout.Nodes.{meant_node}
use Rattle.node_record.specs.NodeRows.{is_row_of}
use Rattle.node_record.proofs.Charts.{text_told}
use Rattle.node_record.proofs.node_chart.text_of.Goals as goal

pub returns : goal.returns
returns c =
    let site = c.args.layout.now
    in let whose = meant_node c.args.whose
    in let story = c.args.story.now
    in let rows = c.in_ok-rows.rows.items
    in let picture = c.in_ok-picture.picture
    in let drawn = c.in_ok-picture.ensures
    in text_told (λ text. text.items) site whose c.args.cut story picture c.svg.result (λ text text_is. record {
      rows = rows;
      drawn = c.in_ok-rows.ensures
          ∙ ap (λ (changes : List Change). filter (λ (drawn : Drawn). is_row_of site.detectors whose drawn.row) (drawn_rows site c.window_of-window.result changes)) c.deref.ensures.value
          ∙ ap (λ (part : Window). filter (λ (drawn : Drawn). is_row_of site.detectors whose drawn.row) (drawn_rows site part story.changes.items)) c.window_of-window.ensures;
      picture = picture;
      is = subst (λ (part : Window). IsChartOf site part rows story.happenings.items picture) c.window_of-window.ensures
          (subst (λ (happenings : List Happening). IsChartOf site c.window_of-window.result rows happenings picture) c.deref-3.ensures.value
          (subst (λ (drawn : List DrawnRow). IsChartOf site c.window_of-window.result drawn c.deref-3.result.now picture) c.deref-2.ensures.value drawn));
      text_is = text_is;
    }) c.svg.ensures
