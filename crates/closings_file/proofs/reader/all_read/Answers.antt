use Rattle.std.proofs.Common.{◌∙◌, ℕ, List, sym, ap}
use Rattle.std.specs.List.{slice_split}
use Rattle.closings_file.specs.Texts.{ends_line, number_read, opens_read}
use Rattle.closings_file.proofs.reader.all_read.Goals as goal

pub returns-in-Ok : goal.returns-in-Ok
returns-in-Ok c =
    let parts = slice_split ends_line c.args.text.now in
    c.opens_read.ensures
    ∙ sym (c.in-Ok.ensures (opens_read c.args.layout.now))
    ∙ ap (λ (label : List ℕ). number_read label parts (opens_read c.args.layout.now)) c.as_bytes.ensures.value

pub returns-in-Err : goal.returns-in-Err
returns-in-Err c =
    let parts = slice_split ends_line c.args.text.now in
    sym (c.in-Err.ensures (opens_read c.args.layout.now))
    ∙ ap (λ (label : List ℕ). number_read label parts (opens_read c.args.layout.now)) c.as_bytes.ensures.value
