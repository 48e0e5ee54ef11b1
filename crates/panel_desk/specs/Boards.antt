-- What a panel's board shows, and what its log gets.
use Rattle.std.specs.Prelude.{ℕ, suc, List, [], ◌∷◌}
use Rattle.node_lines.specs.layout.Entries.{Site}
use Rattle.panel_desk.specs.Lines.{BoardView, noted_at, numbered, told}
use Rattle.panel_desk.specs.Answers.{DeskView}
use Rattle.panel_desk.specs.ShownLines.{panel_text}
use Rattle.panel_desk.specs.declared.panel_line.PanelLine.{PanelLine}

-- lines are shown, each at its place, from one on; a place that the board lacks shows nothing
abbrev pub shown_all : Site → ℕ → List PanelLine → BoardView → BoardView
shown_all site place [] board = board
shown_all site place (line ∷ more) board = shown_all site (suc place) more (told place (panel_text site line) board)

-- after a round: all lines are told anew, at the next number
abbrev pub shown_anew : Site → List PanelLine → DeskView → DeskView
shown_anew site lines desk = record desk { board = shown_all site 0 lines (numbered desk.board) }

-- Lines were noted in the log, one after another, and nothing else changed.
pub data Notes : DeskView → DeskView → Type 0 where
  none : {desk : DeskView} → Notes desk desk
  one : {desk : DeskView} (line : List ℕ) → Notes desk (record desk { board = noted_at line desk.board })
  both : {first mid last : DeskView} → Notes first mid → Notes mid last → Notes first last
