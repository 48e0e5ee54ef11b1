-- What comes of a panel of an interlocking's node.
use Rattle.std.specs.Prelude.{◌≡◌, ◌≤◌, ◌-◌, ◌^◌, ℕ, List, [], ◌++◌, length, take, codes, Option, Some, unwrap_or}
use Rattle.std.specs.Io.KnownBytes.{Appends}
use Rattle.serde_json.specs.Read.{read}
use Rattle.node_drive.specs.Calls.{Call, Calls, Told}
use Rattle.panel_desk.specs.Answers.{DeskView, access_at}
use Rattle.panel_desk.specs.declared.desk_opened.PageAsked.{PageAsked}
use Rattle.panel_desk.specs.node_lines.layout.Entries.{Site}
use Rattle.panel_desk.specs.run_numbers.Metrics.{nothing_told}
use Rattle.panel_desk.specs.Lines.{blank}
use Rattle.panel_desk.specs.StandingOrders.{none_standing, standing_lines}
use Rattle.panel_desk.specs.State.{about}
use Rattle.station_check.specs.Failures.{ExplainsTable, Tells as TellsText}
use Rattle.station_check.specs.Report.{IsSound}
use Rattle.station_check.specs.declared.failure.Failure.{Failure}
use Rattle.node_panel.specs.Heard.{pictured, unheard}
use Rattle.node_panel.specs.Turns.{Moment, Turns}
use Rattle.node_panel.specs.declared.failure.NodePanelFailure.{NodePanelFailure}
use Rattle.node_panel.specs.declared.failure.NodePanelFailure.TheVariants.{Address, Record, NoClock, NoPort, Io, NoMemory}

-- ---- how it stands

-- up to which reading of its clock, in milliseconds; as far as the clock goes where nothing else was asked for
abbrev pub until : Option ℕ → ℕ
until millis = unwrap_or millis (2 ^ 64 - 1)

-- The desk of a layout and a page: it serves this page, and tells of the station what was asked. Its board is blank, with a place for
-- each line, and no command waits.
pub record IsOpened (site : Site) (page : PageAsked) (desk : DeskView) : Type 0 where
  pub site_is : desk.site ≡ site
  pub access : desk.access ≡ access_at page.port desk.access.token
  pub page_is : desk.page ≡ page.page.now
  pub station : read desk.station ≡ Some (about page.kind.now page.layout.now site.station.name page.record.now page.plan.now desk.access.token page.version.now)
  pub board : desk.board ≡ blank (length (pictured (unheard site) ++ standing_lines (none_standing (length site.routes))))
  pub numbers : desk.numbers ≡ nothing_told
  pub waiting : desk.waiting ≡ []

-- A panel of a layout stood until its clock, which began at 0, had come to a moment: from a desk of this page on, and with nothing heard
-- yet, there were turns, and the calls by which they read the clock and spoke with the node. (Where a file ends the panel, its clock comes
-- to that moment at once.)
pub record Stood (site : Site) (page : PageAsked) (until : ℕ) : Type 0 where
  pub opened : DeskView
  pub desk : IsOpened site page opened
  pub told_old : Told
  pub told_new : Told
  pub began : told_old.latest ≡ 0
  pub calls : List Call
  pub called : Calls told_old told_new calls
  pub last : Moment
  pub turns : Turns site (record { heard = unheard site; orders = none_standing (length site.routes); desk = opened }) calls last
  pub over : until ≤ told_new.latest

-- ---- why it doesn't

abbrev pub failure_line : NodePanelFailure → List ℕ
failure_line Address = codes "the address of the node is an IP address and a port\n"
failure_line Record = codes "a panel of a node writes no record: the node does, with its own --record\n"
failure_line NoClock = codes "the clock cannot be read\n"
failure_line NoPort = codes "the port of the page cannot be opened\n"
failure_line Io = codes "cannot write the address of the page, or draw its token\n"
failure_line NoMemory = codes "out of memory\n"

-- This line was told, as far as the writer took it, and nothing else.
abbrev pub Tells : NodePanelFailure → Option (List ℕ) → Option (List ℕ) → Type 0
Tells failure old new = (told : ℕ) × Appends old new (take told (failure_line failure))

-- Why there was no panel, or it ended early, and that this was told: the text gives no table, and nothing was served; or it gives one.
pub data Explained {W : Type 0} (layout : List ℕ) (out_old out_new : W) (old new : Option (List ℕ)) : Type 0 where
  no_table : (failure : Failure) → ExplainsTable layout failure → out_new ≡ out_old → TellsText failure old new → Explained layout out_old out_new old new
  no_panel : (site : Site) → IsSound layout site → (failure : NodePanelFailure) → Tells failure old new → Explained layout out_old out_new old new
