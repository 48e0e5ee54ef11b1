-- A desk, as it is opened, and the panel that it hands out.
use Rattle.std.specs.Prelude.{ℕ, Bool, true, false, List, ◌++◌, codes, Option, Some, None}
use Rattle.std.specs.Fmt.{decimal}
use Rattle.draw_desk.specs.Answers.{DeskView}
use Rattle.draw_desk.specs.Calls.{Call}
use Rattle.draw_desk.specs.Seen.{AccessView}
use Rattle.draw_desk.specs.declared.desk_opened.PageDrawn.{PageDrawn}
use Rattle.draw_desk.specs.declared.panel_asked.PanelAsked.{PanelAsked}
use Rattle.draw_desk.specs.declared.panel_asked.PanelStage.{PanelStage}
use Rattle.draw_desk.specs.declared.panel_asked.PanelStage.TheVariants.{Idle, Asked, Running, Stopping}

-- by what a browser knows a desk at a port of the loopback interface, and what its page asks with
abbrev pub access_at : ℕ → List ℕ → AccessView
access_at port token = record {
  host = codes "127.0.0.1:" ++ decimal port;
  origin = codes "http://127.0.0.1:" ++ decimal port;
  token = token;
}

-- the desk of a page, whose file wasn't read yet
abbrev pub opened : PageDrawn → List ℕ → Option (List Call) → DeskView
opened asked token calls = record {
  access = access_at asked.port token;
  page = asked.page.now;
  file = asked.file.now;
  version = asked.version.now;
  known = record { number = 0; text = None };
  checked = None;
  stage = Idle;
  calls = calls;
}

-- whether a panel is to begin, or to end
abbrev pub is_turning : PanelStage → Bool
is_turning (Asked asked) = true
is_turning Stopping = true
is_turning other = false

-- the panel that is to begin, and where it does
abbrev pub panel_of : PanelStage → Option PanelAsked
panel_of (Asked asked) = Some asked
panel_of other = None

abbrev pub begun : PanelStage → PanelStage
begun (Asked asked) = Running
begun other = other
