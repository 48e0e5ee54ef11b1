use Rattle.std.proofs.Common.{◌≡◌, ◌∙◌, ◌∷◌, ◌++◌, List, map, refl, sym, ap, subst}
use Rattle.panel_desk.specs.Answers.{DeskView}
use Rattle.panel_desk.specs.Boards.{Notes, shown_all}
use Rattle.panel_desk.specs.Lines.{numbered}
use Rattle.panel_desk.specs.StandingOrders.{StandingView, standing_lines}
use Rattle.panel_desk.specs.declared.panel_command.PanelCommand.{PanelCommand}
use Rattle.panel_desk.specs.node_lines.layout.Entries.{Site}
use Rattle.node_drive.specs.Calls.{AsksLine, AsksListener}
use Rattle.node_panel.specs.Heard.{HeardView, heard_all, pictured}
use Rattle.node_panel.specs.Noted.{noted_all}
use Rattle.node_panel.specs.Turns.{Asks, AsksNumbers, begun, opened, timed}
use Rattle.node_panel.proofs.CallsOn.{calls_on}
use Rattle.node_panel.proofs.Successes.{ok_met}
use Rattle.node_panel.proofs.attendance.turn.Goals as goal

-- the desk once it shows what is known, and what the panel does by itself
abbrev shown_of : DeskView → Site → HeardView → StandingView → DeskView
shown_of desk site heard orders = record desk { board = shown_all site 0 (pictured heard ++ standing_lines orders) desk.board; numbers = heard.numbers }

pub returns-clause-lived : goal.returns-clause-lived
returns-clause-lived g c =
    let old = c.args.room.now in
    let site : Site = old.table.now in
    let reading = c.args.reading in
    let told = c.in_ok-hear_lines.ensures in
    let asked = c.in_ok-ask_all.ensures.asked in
    let questioned = c.ask_numbers.ensures in
    let began = c.has_listener-began.result in
    let known : HeardView = timed reading (begun began old.heard) in
    let commands : c.deref.result.now ≡ old.desk.waiting = c.deref.ensures.value ∙ c.take-commands.ensures.handed_out in
    let heard : c.hear_lines.new.heard ≡ heard_all site told.0 known =
    told.2 ∙ ap (λ (s : Site). heard_all s told.0 c.begin.new.self) c.layout-layout.ensures.entries ∙ ap (heard_all site told.0) c.begin.ensures in
    let desk : c.count.new.self ≡ opened old.desk = c.count.ensures ∙ ap (λ (d : DeskView). record d { board = numbered d.board }) c.take-commands.ensures.left in
    let noted : c.hear_lines.new.desk ≡ noted_all site reading told.0 known (opened old.desk) =
    told.3 ∙ ap (λ (s : Site). noted_all s reading told.0 c.begin.new.self c.count.new.self) c.layout-layout.ensures.entries
    ∙ ap (λ (h : HeardView). noted_all site reading told.0 h c.count.new.self) c.begin.ensures ∙ ap (noted_all site reading told.0 known) desk in
    let mid = c.ask_all.new.room in
    ok_met c.show.result
    (λ shown. (
      AsksListener began ∷ (map AsksLine told.0 ++ (asked.0 ++ questioned.0)),
      calls_on c.has_listener-began.ensures (calls_on told.1 (calls_on asked.1 questioned.1)),
      record {
        began = began;
        lines = told.0;
        asked = asked.0;
        questions = questioned.0;
        are = refl;
        mid = mid.heard;
        asks =
            subst (λ (o : StandingView). Asks site reading old.desk.waiting (record { heard = heard_all site told.0 known; orders = old.orders }) asked.0 (record { heard = mid.heard; orders = o })) (sym (ap (λ r. r.orders) shown))
            (subst (λ (all : List PanelCommand). Asks site reading all (record { heard = heard_all site told.0 known; orders = old.orders }) asked.0 (record { heard = mid.heard; orders = mid.orders })) commands
            (subst (λ (h : HeardView). Asks site reading c.deref.result.now (record { heard = h; orders = old.orders }) asked.0 (record { heard = mid.heard; orders = mid.orders })) heard asked.2));
        numbers = subst (λ (h : HeardView). AsksNumbers mid.heard questioned.0 h) (sym (ap (λ r. r.heard) shown)) questioned.2;
        noted = mid.desk;
        notes = subst (λ (d : DeskView). Notes d mid.desk) noted asked.3;
        shows = ap (λ r. r.desk) shown
            ∙ (ap (λ (s : Site). shown_of mid.desk s c.ask_numbers.new.heard mid.orders) (ap (λ t. t.now) c.in_ok-ask_all.ensures.table)
            ∙ (ap (λ (h : HeardView). shown_of mid.desk site h mid.orders) (sym (ap (λ r. r.heard) shown))
            ∙ ap (shown_of mid.desk site c.show.new.room.heard) (sym (ap (λ r. r.orders) shown))));
      },
    ))
    c.show.ensures.shown
