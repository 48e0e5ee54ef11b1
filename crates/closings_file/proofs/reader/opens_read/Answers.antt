use Rattle.std.proofs.Common.{◌∙◌, ℕ, List, sym, ap}
use Rattle.std.specs.List.{slice_split}
use Rattle.closings.specs.Closed.{nothing}
use Rattle.closings_file.specs.Texts.{ends_line, lines_read, number_read, said_with}
use Rattle.closings_file.proofs.reader.opens_read.Goals as goal

pub returns-in-Ok : goal.returns-in-Ok
returns-in-Ok c =
    let parts = slice_split ends_line c.args.text.now in
    c.closings_read.ensures
    ∙ sym (c.in-Ok.ensures (λ opens last. said_with (record { releases = c.args.releases; opens = opens }) (lines_read c.args.layout.now last nothing)))
    ∙ ap (λ (label : List ℕ). number_read label parts (λ opens last. said_with (record { releases = c.args.releases; opens = opens }) (lines_read c.args.layout.now last nothing))) c.as_bytes.ensures.value

pub returns-in-Err : goal.returns-in-Err
returns-in-Err c =
    let parts = slice_split ends_line c.args.text.now in
    sym (c.in-Err.ensures (λ opens last. said_with (record { releases = c.args.releases; opens = opens }) (lines_read c.args.layout.now last nothing)))
    ∙ ap (λ (label : List ℕ). number_read label parts (λ opens last. said_with (record { releases = c.args.releases; opens = opens }) (lines_read c.args.layout.now last nothing))) c.as_bytes.ensures.value
