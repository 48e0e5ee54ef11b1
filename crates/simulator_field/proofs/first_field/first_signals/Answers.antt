use Rattle.std.proofs.Common.{ap, ◌∙◌}
use Rattle.simulator_spec.specs.sci_telegram.declared.message.Position.TheVariants as positions
use Rattle.simulator_spec.specs.layout.Entries.{Site}
use Rattle.simulator_spec.specs.First.{at_zero, first_controller, new_signal}
use Rattle.simulator_field.proofs.First.{next_made}
use Rattle.simulator_field.proofs.first_field.first_signals.Goals as goal

pub loop-entry-preserved : goal.loop-entry-preserved
loop-entry-preserved c =
    next_made (λ entry. first_controller (new_signal c.args.table.now at_zero entry)) c.signals-entry-items.result.now c.args.table.now.signals c.loop-entry.entry-index c.entry-item.result _ _ c.new.result
    (c.signals-entry-items.ensures ∙ ap (λ (p : Site). p.signals) c.layout.ensures.entries) c.loop-entry-test.true c.entry-item.is c.loop-entry.invariant
    (c.new.ensures ∙ ap first_controller c.in_ok-hosted.ensures.host) c.in_ok-push.ensures.items
