use Rattle.std.proofs.Common.{◌+◌, ◌∷◌, Some, None, sym, ◌∙◌, ap}
use Rattle.std.specs.List.{enumerate_from}
use Rattle.node_record.specs.Records.{whole_lines}
use Rattle.node_record.proofs.WholeLines.{progress, whole-split_once}
use Rattle.node_record.proofs.whole_lines.WholeLinesIterator.next.Goals as goal

-- what is left before the call begins with the line that is taken
pub returns-in-Some-clause-steps : goal.returns-in-Some-clause-steps
returns-in-Some-clause-steps c =
    sym c.self.view_is
    ∙ ap (enumerate_from (c.self.inside.taken + 1)) {y = c.in-Some.line.now ∷ whole_lines c.in-Some.rest.now}
    (whole-split_once c.self.inside.rest.now (Some (c.in-Some.line, c.in-Some.rest)) c.in-Some.ensures.cases)

pub returns-in-Some-clause-goes : goal.returns-in-Some-clause-goes
returns-in-Some-clause-goes c = progress _ _ _ _ _ (returns-in-Some-clause-steps c) tt

pub returns-in-None-clause-steps : goal.returns-in-None-clause-steps
returns-in-None-clause-steps c =
    let none = sym c.self.view_is ∙ ap (enumerate_from (c.self.inside.taken + 1)) (whole-split_once c.self.inside.rest.now None c.in-None.ensures.cases)
    in (none, none)
