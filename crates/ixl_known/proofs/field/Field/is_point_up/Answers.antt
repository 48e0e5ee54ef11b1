use Rattle.std.proofs.Common.{arith, ◌∙◌}
use Rattle.std.proofs.lemmas.Bool.{le-ltb}
use Rattle.ixl_spec.specs.rasta_core.State.{is_up}
use Rattle.ixl_spec.specs.State.{KnownPointState}
use Rattle.ixl_known.specs.Field.{FieldState}
use Rattle.ixl_known.proofs.Known.{looked_at, looked_past}
use Rattle.ixl_known.proofs.field.Field.is_point_up.Goals as goal

pub returns-then-point-len : goal.returns-then-point-len
returns-then-point-len c rest = c.is_up.ensures ∙ looked_at (λ (f : FieldState). f.known_points) (λ (o : KnownPointState). is_up o.client.link.phase) _ _ c.args.point c.index.result.now c.self.view_is (omega (arith, c.if-point-len.true, c.len.ensures)) c.index.ensures

pub returns-else-point-len : goal.returns-else-point-len
returns-else-point-len c rest = le-ltb c.args.point c.len.result c.if-point-len.false ∙ looked_past (λ (f : FieldState). f.known_points) (λ (o : KnownPointState). is_up o.client.link.phase) _ _ c.args.point c.self.view_is (omega (arith, c.if-point-len.false, c.len.ensures))
