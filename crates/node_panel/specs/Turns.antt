-- The turns of a panel of an interlocking's node: requests are answered, what the node tells is heard, what was asked for is asked of
-- the node, and the desk shows what is known then.
use Rattle.std.specs.Prelude.{◌≡◌, ℕ, Bool, true, false, List, [], ◌∷◌, ◌++◌, codes, map, Some}
use Rattle.std.specs.List.{flat_map}
use Rattle.panel_connections.specs.Served.{Serves}
use Rattle.panel_desk.specs.Answers.{Answered, DeskView}
use Rattle.panel_desk.specs.Boards.{Notes, shown_all}
use Rattle.panel_desk.specs.declared.panel_command.PanelCommand.{PanelCommand}
use Rattle.panel_desk.specs.declared.panel_command.PanelCommand.TheVariants as wants
use Rattle.panel_desk.specs.Lines.{numbered}
use Rattle.panel_desk.specs.StandingOrders.{StandingView, Tried, obeyed_all, standing_lines}
use Rattle.panel_desk.specs.node_lines.ixl_spec.declared.command.Command.TheVariants.{Request as Set}
use Rattle.panel_desk.specs.node_lines.layout.Entries.{Site}
use Rattle.panel_desk.specs.node_lines.layout.declared.ids.RouteId.{RouteId}
use Rattle.panel_desk.specs.node_lines.simulator_event.declared.event.Event.{Event}
use Rattle.panel_desk.specs.node_lines.simulator_event.declared.event.Event.TheVariants.{Request}
use Rattle.panel_desk.specs.node_lines.Commands.{command_text}
use Rattle.panel_desk.specs.node_lines.declared.operator_command.OperatorCommand.{OperatorCommand}
use Rattle.panel_desk.specs.node_lines.declared.operator_command.OperatorCommand.TheVariants.{One, CancelAll}
use Rattle.node_drive.specs.Calls.{AsksLine, AsksListener, BreaksOff, Call, LineHeard, Reads, Rests, Writes}
use Rattle.node_panel.specs.Heard.{HeardView, forgotten, heard_all, pictured, wants_numbers}
use Rattle.node_panel.specs.Noted.{noted_all}

-- ---- commands

-- what of an event an interlocking is asked: what else happens to a station isn't its business
abbrev pub asked_by_event : Event → List OperatorCommand
asked_by_event (Request command) = One command ∷ []
asked_by_event other = []

abbrev pub asked_by : PanelCommand → List OperatorCommand
asked_by (wants.Event event) = asked_by_event event
asked_by wants.CancelAll = CancelAll ∷ []
asked_by (wants.Disturb disturbance) = []
asked_by (wants.Stand order) = []

-- a route that the panel tries to set by itself
abbrev pub requested : RouteId → OperatorCommand
requested route = One (Set route)

-- Each command was asked of the node once, in their order: its line was written whole, and it waits for its answer; or it was broken
-- off, and waits for none.
pub data AsksEach (site : Site) : List OperatorCommand → HeardView → List Call → HeardView → Type 0 where
  none : {heard : HeardView} → AsksEach site [] heard [] heard
  asks : {command : OperatorCommand} {more : List OperatorCommand} {heard last : HeardView} {calls : List Call}
      → AsksEach site more (record heard { asked = heard.asked ++ command ∷ [] }) calls last
      → AsksEach site (command ∷ more) heard (Writes (command_text site command) ∷ calls) last
  breaks_off : {command : OperatorCommand} {more : List OperatorCommand} {heard last : HeardView} {calls : List Call}
      → AsksEach site more heard calls last
      → AsksEach site (command ∷ more) heard (BreaksOff (command_text site command) ∷ calls) last

-- ---- numbers

abbrev pub question : List ℕ
question = codes "numbers"

-- the line of the question was written, or broken off
pub data IsQuestion : List Call → Type 0 where
  whole : IsQuestion (Writes question ∷ [])
  broken : IsQuestion (BreaksOff question ∷ [])

abbrev pub IsQuestionIf : Bool → List Call → Type 0
IsQuestionIf true calls = IsQuestion calls
IsQuestionIf false calls = calls ≡ []

abbrev pub questioned_if : Bool → HeardView → HeardView
questioned_if true heard = record heard { questioned = Some heard.millis }
questioned_if false heard = heard

-- The node is asked for its numbers once in 10 s, and otherwise nothing is called.
pub record AsksNumbers (heard : HeardView) (calls : List Call) (new : HeardView) : Type 0 where
  pub asks : IsQuestionIf (wants_numbers heard) calls
  pub kept : new ≡ questioned_if (wants_numbers heard) heard

-- ---- turns

-- what the node told and wasn't answered yet, what the panel does by itself, and the desk
pub record Moment : Type 0 where
  pub heard : HeardView
  pub orders : StandingView
  pub desk : DeskView

-- where the node was joined anew, nothing was told yet
abbrev pub begun : Bool → HeardView → HeardView
begun true heard = forgotten heard
begun false heard = heard

-- at a reading of the operator's clock
abbrev pub timed : ℕ → HeardView → HeardView
timed reading heard = record heard { millis = reading }

-- What waited at the desk was taken; what is told from here on has the next number.
abbrev pub opened : DeskView → DeskView
opened desk = record desk { waiting = []; board = numbered desk.board }

-- what the node told, and what the panel does by itself
pub record Knows : Type 0 where
  pub heard : HeardView
  pub orders : StandingView

abbrev pub told_of : Moment → HeardView → Knows
told_of old heard = record { heard = heard; orders = old.orders }

-- Each command was asked of the node, once and in order; then each route was asked for that the panel tries to set by itself, by what it
-- knew then and what the commands asked of it.
pub record Asks (site : Site) (reading : ℕ) (commands : List PanelCommand) (old : Knows) (calls : List Call) (new : Knows) : Type 0 where
  pub by_hand : List Call
  pub by_itself : List Call
  pub are : calls ≡ by_hand ++ by_itself
  pub commanded : HeardView
  pub asks : AsksEach site (flat_map asked_by commands) old.heard by_hand commanded
  pub routes : List RouteId
  pub tried : Tried site (pictured commanded) reading (obeyed_all commands old.orders) routes new.orders
  pub asks_routes : AsksEach site (map requested routes) commanded by_itself new.heard

-- These were all calls of a turn after its reading, in their order: whether the node was joined anew; the lines that it told; each
-- command that waited, once, and then each route that the panel tries to set by itself, by what it knows then; and the question for the
-- numbers, where it is due. The log has each answer that was told, with its command, and what the process told of its file of closings;
-- and then what is noted of commands as they are asked. Then the desk shows what is known and what the panel does by itself, a line at
-- each place, and has the numbers that were told.
pub record IsLived (site : Site) (reading : ℕ) (calls : List Call) (old new : Moment) : Type 0 where
  pub began : Bool
  pub lines : List LineHeard
  pub asked : List Call
  pub questions : List Call
  pub are : calls ≡ AsksListener began ∷ (map AsksLine lines ++ (asked ++ questions))
  pub mid : HeardView
  pub asks : Asks site reading old.desk.waiting (told_of old (heard_all site lines (timed reading (begun began old.heard)))) asked (record { heard = mid; orders = new.orders })
  pub numbers : AsksNumbers mid questions new.heard
  pub noted : DeskView
  pub notes : Notes (noted_all site reading lines (timed reading (begun began old.heard)) (opened old.desk)) noted
  pub shows : new.desk ≡ record noted { board = shown_all site 0 (pictured new.heard ++ standing_lines new.orders) noted.board; numbers = new.heard.numbers }

-- It waited, read the clock, answered requests one after another, and lived.
pub record IsTurn (site : Site) (calls : List Call) (old new : Moment) : Type 0 where
  pub reading : ℕ
  pub served : DeskView
  pub serves : Serves Answered old.desk served
  pub behind : List Call
  pub are : calls ≡ Rests ∷ Reads reading ∷ behind
  pub lived : IsLived site reading behind (record old { desk = served }) new

-- turns with these calls led from one moment to another
pub data Turns (site : Site) (first : Moment) : List Call → Moment → Type 0 where
  begins : Turns site first [] first
  goes_on : {calls more : List Call} {mid new : Moment} → Turns site first calls mid → IsTurn site more mid new → Turns site first (calls ++ more) new
