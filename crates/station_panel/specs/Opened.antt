-- The desk of a panel, as it is opened.
use Rattle.std.specs.Prelude.{◌≡◌, ℕ, List, [], ◌++◌, length, Some}
use Rattle.panel_desk.specs.Answers.{DeskView, access_at}
use Rattle.panel_desk.specs.declared.desk_opened.PageAsked.{PageAsked}
use Rattle.panel_desk.specs.declared.panel_line.PanelLine.{PanelLine}
use Rattle.panel_desk.specs.node_lines.layout.Entries.{Site}
use Rattle.panel_desk.specs.node_lines.replay_lines.Names.{node_names}
use Rattle.panel_desk.specs.run_numbers.Metrics.{nothing_told}
use Rattle.panel_desk.specs.StandingOrders.{none_standing}
use Rattle.panel_desk.specs.node_lines.closings.Auxiliaries.{none_counted}
use Rattle.panel_desk.specs.Lines.{blank}
use Rattle.panel_desk.specs.State.{about}
use Rattle.serde_json.specs.Read.{read}
use Rattle.station_panel.specs.Faults.{no_faults}
use Rattle.station_panel.specs.Shown.{own_lines}

-- what a panel's page is made of, and where it is
pub record PageView : Type 0 where
  pub layout : List ℕ
  pub plan : List ℕ
  pub page : List ℕ
  pub version : List ℕ
  pub port : ℕ
  pub kind : List ℕ
  -- the path of the record
  pub path : List ℕ

abbrev pub page_of : PageAsked → PageView
page_of asked = record {
  layout = asked.layout.now;
  plan = asked.plan.now;
  page = asked.page.now;
  version = asked.version.now;
  port = asked.port;
  kind = asked.kind.now;
  path = asked.record.now;
}

-- how many places a desk has for the picture of a station, and for what a panel shows of itself
abbrev pub place_count : Site → List PanelLine → ℕ
place_count site lines =
    length (lines ++ own_lines (no_faults (length (node_names site)) (length site.points)) (none_standing (length site.routes)) none_counted 0 0)

-- The desk of a layout, a page, and a station with such a picture: who may command is known by its port and by a token, which its page is
-- told; it serves this page, and what it tells of the station is of this layout's text and plan. Its board is blank, and no command waits.
pub record IsOpened (site : Site) (lines : List PanelLine) (page : PageView) (desk : DeskView) : Type 0 where
  pub site_is : desk.site ≡ site
  pub access : desk.access ≡ access_at page.port desk.access.token
  pub page_is : desk.page ≡ page.page
  pub station : read desk.station ≡ Some (about page.kind page.layout site.station.name page.path page.plan desk.access.token page.version)
  pub board : desk.board ≡ blank (place_count site lines)
  pub numbers : desk.numbers ≡ nothing_told
  pub waiting : desk.waiting ≡ []
