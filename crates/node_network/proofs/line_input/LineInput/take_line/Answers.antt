use Rattle.std.proofs.Common.{◌∙◌, sym}
use Rattle.node_network.proofs.Cuts.{all_taken, then_cut}
use Rattle.node_network.proofs.line_input.LineInput.take_line.Goals as goal

-- nothing is left of what was read before
pub read_on-requires : goal.read_on-requires
read_on-requires g c =
    let old = c.args.self.now.buffer in
    all_taken _ c.cut-line.result old.begun old.behind _ (sym c.is_some.ensures ∙ c.if-is_some.false) c.cut-line.ensures.line c.cut-line.ensures.rest

pub returns : goal.returns
returns g c =
    let old = c.args.self.now.buffer in
    let read = c.read_on.ensures in (
      read.0,
      read.1,
      then_cut _ c.cut-line.result old.begun old.behind read.0 c.cut-line.new.self c.read_on.new.self.buffer c.cut.new.self _ (sym c.is_some.ensures ∙ c.if-is_some.false) c.cut-line.ensures.line c.cut-line.ensures.rest read.2 c.cut.ensures.line c.cut.ensures.rest,
    )
