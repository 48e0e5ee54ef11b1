-- The line of a number is heard as this number.
use Rattle.std.proofs.Common.{◌≡◌, ◌∙◌, ℕ, Ok, ap, sym}
use Rattle.panel_desk.specs.node_lines.layout.Entries.{Site}
use Rattle.panel_desk.specs.node_lines.replay_words.Cut.{words}
use Rattle.panel_desk.specs.run_numbers.Lines.{number_said, number_text, number_words}
use Rattle.panel_desk.specs.run_numbers.declared.row.Row.{Row}
use Rattle.node_panel.specs.Lines.{told_number, told_said}
use Rattle.node_panel.specs.declared.told.Told.TheVariants.{Counts}

pub number_heard : (site : Site) (row : Row) (value : ℕ) → words (number_text row value) ≡ number_words row value → number_said (words (number_text row value)) ≡ Ok (row, value)
    → told_said site (words (number_text row value)) ≡ Ok (Counts row value)
number_heard site row value are read = ap (told_said site) are ∙ ap (λ ws. told_number (number_said ws)) (sym are) ∙ ap told_number read
