use Rattle.std.proofs.Common.{List, ◌∙◌, ap, length, string_bytes}
use Rattle.replay.specs.World.{played}
use Rattle.replay.specs.ixl_table.Table.{SitedTable}
use Rattle.replay.specs.rasta_core.Links.{OnLink}
use Rattle.station_record.proofs.Lines.{lines_of_event}
use Rattle.station_record.proofs.event_lines.event_lines.Goals as goal

pub returns-clause-lines : goal.returns-clause-lines
returns-clause-lines c =
    let tried = c.in_ok-refused.ensures
    in let layout = c.layout-layout.result.now
    in lines_of_event c.args.event.now (played c.args.world.now) (played c.try_event.new.world) layout c.time-time.result c.len-count.result c.in_ok-refused.refused
    c.network-2.result.now.sent (string_bytes c.new-text.result) (string_bytes c.push_done.new.text) (string_bytes c.push_all_sent.new.text)
    (c.layout-layout.ensures.entries ∙ (c.table.ensures ∙ ap (λ (it : SitedTable). it.site) tried.sited))
    c.time-time.ensures (c.len-count.ensures.count ∙ ap (λ (sent : List OnLink). length sent) c.network.ensures.sent)
    tried.refused tried.world c.network-2.ensures.sent c.new-text.ensures.bytes c.in_ok-push_done.ensures c.in_ok-push_all_sent.ensures
