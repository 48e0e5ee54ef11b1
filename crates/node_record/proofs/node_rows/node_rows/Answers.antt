use Rattle.std.proofs.Common.{◌∙◌, List, ap, map, rules}
use Rattle.std.proofs.lemmas.Fn.{filter_same}
use Rattle.std.specs.List.{filter}
use Rattle.lane_chart.specs.Drawn.{Drawn, seen_row}
use Rattle.lane_chart.specs.declared.drawn.DrawnRow.{DrawnRow}
use Rattle.control_table.specs.layout.Nodes.{meant_node}
use Rattle.node_record.specs.NodeRows.{is_row_of}
use Rattle.node_record.proofs.KeptRows.{seen_kept}
use Rattle.node_record.proofs.node_rows.node_rows.Goals as goal

pub returns : goal.returns
returns c =
    let detectors = c.args.layout.now.detectors
    in let whose = meant_node c.args.whose
    in ap (λ (rows : List DrawnRow). map seen_row rows)
    (filter_same _ (λ (drawn : DrawnRow). is_row_of detectors whose drawn.row) _ (λ x b f told. search rules) _ _ c.retain.ensures.filtered)
    ∙ (seen_kept seen_row (λ (drawn : Drawn). is_row_of detectors whose drawn.row) c.in_ok-rows.rows.items
    ∙ ap (λ l. filter (λ (drawn : Drawn). is_row_of detectors whose drawn.row) l) c.in_ok-rows.ensures)
