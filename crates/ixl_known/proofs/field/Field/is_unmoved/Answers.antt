use Rattle.std.proofs.Common.{arith, ap, not, ◌∙◌}
use Rattle.std.proofs.lemmas.Bool.{le-ltb}
use Rattle.ixl_known.proofs.Known.{none_unmoved, unmoved}
use Rattle.ixl_known.proofs.field.Field.is_unmoved.Goals as goal

pub returns-then-point-len : goal.returns-then-point-len
returns-then-point-len c rest = ap not c.is_moved_for.ensures ∙ unmoved rest _ _ c.args.point c.args.route c.index.result.now c.self.view_is (omega (arith, c.if-point-len.true, c.len.ensures)) c.index.ensures

pub returns-else-point-len : goal.returns-else-point-len
returns-else-point-len c rest = le-ltb c.args.point c.len.result c.if-point-len.false ∙ none_unmoved rest _ _ c.args.point c.args.route c.self.view_is (omega (arith, c.if-point-len.false, c.len.ensures))
