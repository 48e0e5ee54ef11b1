use Rattle.std.proofs.Common.{◌≡◌, List, ℕ, sym, ◌∙◌}
use Rattle.std.specs.Prelude.{Result, Ok, Err, IfOk}
use Rattle.line_laws.specs.declared.words.Side.{Side}
use Rattle.line_laws.specs.End.{File}
use Rattle.line_file.specs.declared.fault.FileFault.{FileFault}
use Rattle.line_file.specs.EndFiles.{reading, writing}
use Rattle.line_file.proofs.Texts.{read_found, read_only}
use Rattle.line_file.proofs.reader.read.Goals as goal

found_so : (name : List ℕ) (side : Side) (bytes : List ℕ) (result : Result File FileFault) → result ≡ reading name side bytes
    → IfOk result (λ kept. bytes ≡ writing name side kept)
found_so name side bytes (Ok kept) is = read_found name side bytes kept (sym is)
found_so name side bytes (Err fault) is = record {}

pub returns-clause-found : goal.returns-clause-found
returns-clause-found c = found_so c.args.name.now c.args.side c.args.bytes.now c.read_value.result c.read_value.ensures

pub returns-clause-only : goal.returns-clause-only
returns-clause-only c = λ kept is. c.read_value.ensures ∙ read_only c.args.name.now c.args.side kept c.args.bytes.now is
