use Rattle.std.proofs.Common.{◌∙◌, ap, map}
use Rattle.simulator_spec.specs.layout.Entries.{Site}
use Rattle.simulator_spec.specs.tds_ctl.Sections.{made}
use Rattle.simulator_spec.specs.First.{named_section}
use Rattle.simulator_field.proofs.Lists.{map_map}
use Rattle.simulator_field.proofs.new_controller.detection.Goals as goal

pub returns : goal.returns
returns c =
    c.new.ensures ∙ ap (map made) c.deref.ensures.value ∙ ap (map made) c.in_ok-named.ensures
    ∙ map_map made (named_section c.layout.result.now c.args.occupied.now) c.sections.result.now
    ∙ ap (map (λ section. made (named_section c.layout.result.now c.args.occupied.now section))) c.sections.ensures
    ∙ ap (λ (site : Site). map (λ section. made (named_section site c.args.occupied.now section)) c.args.entry.now.sections) c.layout.ensures.entries
