use Rattle.std.proofs.Common.{◌≡◌, ◌∙◌, true, false, sym, ap}
use Rattle.std.specs.Prelude.{Result, codes}
use Rattle.std.specs.List.{slice_split}
use Rattle.std.specs.Str.{bytes_eq}
use Rattle.closings.specs.declared.thing.Named.{Named}
use Rattle.closings_file.specs.declared.fault.FileFault.{FileFault}
use Rattle.closings_file.specs.Texts.{ends_line, lines_read, read_on}
use Rattle.closings_file.proofs.Reading.{last_line, next_line}
use Rattle.closings_file.proofs.reader.lines_read.Goals as goal

pub returns-then-eq : goal.returns-then-eq
returns-then-eq c =
    let line = c.in-Some.line.now in
    let is : bytes_eq line (codes "end") ≡ true = ap (bytes_eq line) (sym c.as_bytes.ensures.value) ∙ sym c.eq.ensures ∙ c.if-eq.true in
    c.ended.ensures
    ∙ sym (last_line c.args.layout.now c.loop-line.closings c.loop-line.rest.now line c.in-Some.behind.now c.in-Some.ensures.line is)
    ∙ c.loop-line.invariant

pub returns-in-Err : goal.returns-in-Err
returns-in-Err c =
    let line = c.in-Some.line.now in
    let behind = c.in-Some.behind.now in
    let l = c.args.layout.now in
    let is : bytes_eq line (codes "end") ≡ false = ap (bytes_eq line) (sym c.as_bytes.ensures.value) ∙ sym c.eq.ensures ∙ c.if-eq.false in
    ap (λ (said : Result Named FileFault). read_on said (lines_read l (slice_split ends_line behind)) c.loop-line.closings) c.in-Err.ensures.value
    ∙ sym (next_line l c.loop-line.closings c.loop-line.rest.now line behind c.in-Some.ensures.line is)
    ∙ c.loop-line.invariant
