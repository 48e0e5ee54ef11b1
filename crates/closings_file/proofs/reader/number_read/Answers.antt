use Rattle.std.proofs.Common.{◌∙◌, ℕ, sym, ap}
use Rattle.std.specs.Prelude.{Result}
use Rattle.std.specs.List.{slice_split}
use Rattle.closings_file.specs.declared.fault.FileFault.{FileFault}
use Rattle.closings_file.specs.Texts.{ends_line, number_then}
use Rattle.closings_file.proofs.Numbers.{number_line_read}
use Rattle.closings_file.proofs.reader.number_read.Goals as goal

pub returns-in-Ok : goal.returns-in-Ok
returns-in-Ok c behind =
    number_line_read c.args.label.now c.args.text.now c.in-Some.line.now c.in-Some.behind.now behind c.in-Some.ensures.line
    ∙ ap (λ (said : Result ℕ FileFault). number_then said (λ number. behind number (slice_split ends_line c.in-Some.behind.now))) (sym c.in-Ok.ensures)

pub returns-in-Err : goal.returns-in-Err
returns-in-Err c behind =
    number_line_read c.args.label.now c.args.text.now c.in-Some.line.now c.in-Some.behind.now behind c.in-Some.ensures.line
    ∙ ap (λ (said : Result ℕ FileFault). number_then said (λ number. behind number (slice_split ends_line c.in-Some.behind.now))) (sym c.in-Err.ensures)
