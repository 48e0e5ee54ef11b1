use Rattle.simulator_link_laws.specs.simulator_event.declared.event.Event.TheVariants as event
use Rattle.simulator_link_laws.specs.Events.{events_of}
use Rattle.simulator_link_laws.specs.simulator_spec.Happens.{happens}
use Rattle.simulator_safety.proofs.AtDetectors.{loss_is_unseen}
use Rattle.simulator_safety.proofs.detectors.losses_are_represented.Goals as goal

pub returns : goal.returns
unfolding happens events_of
returns c = λ site table bytes world machine station once none represented.
    loss_is_unseen c.changes_are_represented.ensures.none site table world machine represented bytes
    (c.networks_follow_their_worlds.ensures site table (event.Lose bytes) world represented.network station once represented.linked none)
