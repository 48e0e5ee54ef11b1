use Rattle.simulator_link_laws.specs.rasta_core.Links.{AreLinks, begun, seen}
use Rattle.simulator_link_laws.specs.simulator_spec.Links.{names_at, starts_at_zero}
use Rattle.simulator_link_laws.specs.simulator_spec.Nodes.{links}
use Rattle.simulator_link_laws.specs.simulator_move_laws.Lawful.{AreLawful, IsLawful}
use Rattle.simulator_link_laws.specs.HasLinks.{links_in}
use Rattle.simulator_safety.proofs.ReadOff.{read_off}
use Rattle.simulator_safety.proofs.flight.items_are_read_off_the_datagrams.Goals as goal

pub returns : goal.returns
returns c = λ site world once station has link below who connection is.
    let are : AreLinks (links site) (names_at site) = c.layouts_name_their_links.ensures site station once in
    let begins : AreLawful (links site) (names_at site) (begun (names_at site) starts_at_zero) = c.lawful_worlds_stay_lawful.ensures.starts (links site) (names_at site) starts_at_zero are in
    let all : AreLawful (links site) (names_at site) (links_in has) = c.lawful_worlds_stay_lawful.ensures.run (links site) (names_at site) has.events (begun (names_at site) starts_at_zero) are begins has.may in
    let lawful : IsLawful (names_at site link) (seen link (links_in has)) = c.lawful_worlds_stay_lawful.ensures.each (links site) (names_at site) (links_in has) all link below
    in read_off site world has link lawful (c.flows_are_in_order.ensures.safe (names_at site link) (seen link (links_in has)) lawful)
    (c.items_are_counted.ensures.counted (names_at site link) (seen link (links_in has)) lawful.ordered) who connection is
