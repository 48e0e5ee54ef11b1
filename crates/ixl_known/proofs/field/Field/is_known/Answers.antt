use Rattle.std.proofs.Common.{ap, sym, ◌∙◌}
use Rattle.ixl_spec.specs.View.{is_known}
use Rattle.ixl_known.specs.Field.{kept}
use Rattle.ixl_known.proofs.Known.{known_at}
use Rattle.ixl_known.proofs.field.Field.is_known.Goals as goal

pub returns-in-Right : goal.returns-in-Right
returns-in-Right c rest = c.contains.ensures ∙ known_at _ rest _ _ _ c.self.view_is c.self.invariant.points_are.right c.args.point ∙ ap (λ side. is_known (kept c.args.self.now rest) c.args.point side) (sym c.in-Right.is)

pub returns-in-Left : goal.returns-in-Left
returns-in-Left c rest = c.contains-in-Left.ensures ∙ known_at _ rest _ _ _ c.self.view_is c.self.invariant.points_are.left c.args.point ∙ ap (λ side. is_known (kept c.args.self.now rest) c.args.point side) (sym c.in-Left.is)
