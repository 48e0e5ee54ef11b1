use Rattle.std.proofs.Common.{◌∙◌, sym}
use Rattle.simulator_spec.proofs.LinksWith.{found, missing}
use Rattle.simulator_spec.proofs.receivers.link_of.Goals as goal

pub returns-in-Some-clause-link : goal.returns-in-Some-clause-link
returns-in-Some-clause-link c = found c.args.layout.now c.args.bytes.now c.receiver_of.result c.in-Some.link c.receiver_of.ensures.value (sym c.in-Some.is ∙ c.link_with.ensures.place)

pub returns-in-None-clause-link : goal.returns-in-None-clause-link
returns-in-None-clause-link c = missing c.args.layout.now c.args.bytes.now c.receiver_of.result c.links.result c.receiver_of.ensures.value (sym c.in-None.is ∙ c.link_with.ensures.place) c.links.ensures.value
