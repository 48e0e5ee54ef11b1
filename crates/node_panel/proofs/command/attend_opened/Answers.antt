use Rattle.std.proofs.Common.{◌≤◌, ℕ, None, length, subst}
use Rattle.panel_desk.specs.StandingOrders.{StandingView, none_standing}
use Rattle.panel_desk.specs.node_lines.layout.Entries.{Site}
use Rattle.node_panel.specs.Heard.{HeardView}
use Rattle.node_panel.specs.Turns.{Moment, Turns}
use Rattle.node_panel.proofs.command.attend_opened.Goals as goal

pub returns : goal.returns
returns g c =
    let room = c.in_ok-room.ensures in
    let ended = c.in_ok-attend_node.ensures in
    let desk = c.in_ok-room.room.desk in
    let heard = c.in_ok-room.room.heard in
    let orders = c.in_ok-room.room.orders in
    let last : Moment = record { heard = c.attend_node.new.room.heard; orders = c.attend_node.new.room.orders; desk = c.attend_node.new.room.desk } in
    record {
      opened = desk;
      desk = room.desk;
      told_old = record { calls = None; latest = c.args.outside.latest };
      told_new = record { calls = None; latest = c.attend_node.new.outside.latest };
      began = c.requires;
      calls = ended.turns.0;
      called = ended.turns.1;
      last = last;
      turns = subst (λ (h : HeardView). Turns c.args.table.now (record { heard = h; orders = none_standing (length c.args.table.now.routes); desk = desk }) ended.turns.0 last) room.heard
          (subst (λ (o : StandingView). Turns c.args.table.now (record { heard = heard; orders = o; desk = desk }) ended.turns.0 last) room.orders
          (subst (λ (p : Site). Turns p (record { heard = heard; orders = orders; desk = desk }) ended.turns.0 last) room.table ended.turns.2));
      over = subst (λ (n : ℕ). n ≤ c.attend_node.new.outside.latest) c.unwrap_or.ensures ended.over;
    }
