-- What of the lines that a node tells is noted in the panel's log: an answer with its command, and what the process of the interlocking
-- tells of its file of closings. All else stands in the picture, or says nothing.
use Rattle.std.specs.Prelude.{ℕ, List, [], ◌∷◌, ◌++◌, codes, Result, Ok, Err}
use Rattle.std.specs.Fmt.{decimal}
use Rattle.node_drive.specs.Calls.{LineHeard, Text, Nothing, Closed}
use Rattle.panel_desk.specs.Answers.{DeskView}
use Rattle.panel_desk.specs.Lines.{noted_at}
use Rattle.panel_desk.specs.node_lines.Commands.{command_text}
use Rattle.panel_desk.specs.node_lines.layout.Entries.{Site}
use Rattle.panel_desk.specs.node_lines.replay_words.Cut.{words}
use Rattle.panel_desk.specs.node_lines.replay_words.declared.fault.Fault.{Fault}
use Rattle.panel_desk.specs.node_lines.declared.operator_command.OperatorCommand.{OperatorCommand}
use Rattle.node_panel.specs.Heard.{HeardView, heard_by}
use Rattle.node_panel.specs.Lines.{told_said}
use Rattle.node_panel.specs.declared.noted.Noting.{Noting}
use Rattle.node_panel.specs.declared.noted.Noting.TheVariants as noting
use Rattle.node_panel.specs.declared.told.Told.{Told}
use Rattle.node_panel.specs.declared.told.Told.TheVariants.{Answer, Counts, Network, Process, Tells}

-- ---- what is noted

-- of an answer: it is that to the oldest command, and to none where none was asked
abbrev pub noting_answer : List OperatorCommand → Noting
noting_answer [] = noting.Nothing
noting_answer (command ∷ more) = noting.Answer command

abbrev pub noting_of : Result Told Fault → List OperatorCommand → Noting
noting_of (Ok Answer) asked = noting_answer asked
noting_of (Ok (Process closings)) asked = noting.Line
noting_of (Ok (Tells known)) asked = noting.Nothing
noting_of (Ok (Network network node is_lost)) asked = noting.Nothing
noting_of (Ok (Counts row value)) asked = noting.Nothing
noting_of (Err fault) asked = noting.Nothing

-- ---- the lines of the log

-- at a reading a command had this answer
abbrev pub answer_text : Site → (reading : ℕ) → OperatorCommand → (answer : List ℕ) → List ℕ
answer_text site reading command answer = decimal reading ++ 32 ∷ (command_text site command ++ (codes " = " ++ answer))

-- at a reading this line was told
abbrev pub line_text : (reading : ℕ) → (line : List ℕ) → List ℕ
line_text reading line = decimal reading ++ (codes " told = " ++ line)

-- ---- the log

abbrev pub noted : List ℕ → DeskView → DeskView
noted line desk = record desk { board = noted_at line desk.board }

abbrev pub noted_as : Site → (reading : ℕ) → (line : List ℕ) → Noting → DeskView → DeskView
noted_as site reading line noting.Nothing desk = desk
noted_as site reading line (noting.Answer command) desk = noted (answer_text site reading command line) desk
noted_as site reading line noting.Line desk = noted (line_text reading line) desk

-- a desk after the question for a line, by what was heard before
abbrev pub noted_by : Site → (reading : ℕ) → LineHeard → HeardView → DeskView → DeskView
noted_by site reading (Text text) heard desk = noted_as site reading text (noting_of (told_said site (words text)) heard.asked) desk
noted_by site reading Nothing heard desk = desk
noted_by site reading Closed heard desk = desk

abbrev pub noted_all : Site → (reading : ℕ) → List LineHeard → HeardView → DeskView → DeskView
noted_all site reading [] heard desk = desk
noted_all site reading (one ∷ more) heard desk = noted_all site reading more (heard_by site one heard) (noted_by site reading one heard desk)
