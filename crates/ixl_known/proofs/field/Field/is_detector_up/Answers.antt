use Rattle.std.proofs.Common.{arith, ◌∙◌}
use Rattle.std.proofs.lemmas.Bool.{le-ltb}
use Rattle.ixl_spec.specs.rasta_core.State.{is_up}
use Rattle.ixl_spec.specs.State.{KnownDetectorState}
use Rattle.ixl_known.specs.Field.{FieldState}
use Rattle.ixl_known.proofs.Known.{looked_at, looked_past}
use Rattle.ixl_known.proofs.field.Field.is_detector_up.Goals as goal

pub returns-then-place-len : goal.returns-then-place-len
returns-then-place-len c rest = c.is_up.ensures ∙ looked_at (λ (f : FieldState). f.detectors) (λ (o : KnownDetectorState). is_up o.client.link.phase) _ _ c.args.place c.index.result.now c.self.view_is (omega (arith, c.if-place-len.true, c.len.ensures)) c.index.ensures

pub returns-else-place-len : goal.returns-else-place-len
returns-else-place-len c rest = le-ltb c.args.place c.len.result c.if-place-len.false ∙ looked_past (λ (f : FieldState). f.detectors) (λ (o : KnownDetectorState). is_up o.client.link.phase) _ _ c.args.place c.self.view_is (omega (arith, c.if-place-len.false, c.len.ensures))
