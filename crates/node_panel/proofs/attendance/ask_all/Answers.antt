use Rattle.std.proofs.Common.{◌≡◌, ◌++◌, List, map, refl, ap, subst}
use Rattle.std.specs.List.{flat_map}
use Rattle.panel_desk.specs.Answers.{DeskView}
use Rattle.panel_desk.specs.Boards.{Notes, both}
use Rattle.panel_desk.specs.node_lines.layout.Entries.{Site}
use Rattle.panel_desk.specs.node_lines.layout.declared.ids.RouteId.{RouteId}
use Rattle.node_panel.specs.Heard.{HeardView}
use Rattle.node_panel.specs.Turns.{AsksEach, asked_by, requested}
use Rattle.node_panel.proofs.CallsOn.{calls_on}
use Rattle.node_panel.proofs.Successes.{ok_met}
use Rattle.node_panel.proofs.attendance.ask_all.Goals as goal

pub returns-clause-asked : goal.returns-clause-asked
returns-clause-asked g c =
    let old = c.args.room.now in
    let is_site : c.layout-layout.result.now ≡ old.table.now = c.layout-layout.ensures.entries in
    let by_hand = c.in_ok-ask_each.ensures in
    let kept : c.routes_by_itself.new.room.heard ≡ c.ask_each.new.heard = ap (λ r. r.heard) c.routes_by_itself.ensures.kept in
    ok_met c.ask_routes.result
    (λ by_itself. (
      by_hand.0 ++ by_itself.0,
      calls_on by_hand.1 by_itself.1,
      record {
        by_hand = by_hand.0;
        by_itself = by_itself.0;
        are = refl;
        commanded = c.ask_each.new.heard;
        asks = subst (λ (s : Site). AsksEach s (flat_map asked_by c.args.commands.now) old.heard by_hand.0 c.ask_each.new.heard) is_site by_hand.2;
        routes = c.in_ok-routes.routes.items;
        tried = c.in_ok-routes.ensures.tried;
        asks_routes = subst (λ (h : HeardView). AsksEach old.table.now (map requested c.in_ok-routes.routes.items) h by_itself.0 c.ask_routes.new.heard) kept
            (subst (λ (all : List RouteId). AsksEach old.table.now (map requested all) c.routes_by_itself.new.room.heard by_itself.0 c.ask_routes.new.heard) c.deref.ensures.value
            (subst (λ (s : Site). AsksEach s (map requested c.deref.result.now) c.routes_by_itself.new.room.heard by_itself.0 c.ask_routes.new.heard) is_site by_itself.2));
      },
      both by_hand.3 (subst (λ (d : DeskView). Notes d c.ask_routes.new.desk) (ap (λ r. r.desk) c.routes_by_itself.ensures.kept) by_itself.3),
    ))
    c.ask_routes.ensures
