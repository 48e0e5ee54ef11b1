-- the laws that the body calls are those that the invariant stands on
use Rattle.std.proofs.Common.{◌≡◌}
use Rattle.rasta_core.specs.identity.Role.TheVariants as role
use Rattle.rasta_core.specs.Run.{Ends}
use Rattle.rasta_core.specs.Clock.{settled}
use Rattle.rasta_core.specs.Events.{Event, May, happened}
use Rattle.rasta_core.specs.Invariant.{Timely}
use Rattle.rasta_core.specs.Ordered.{Ordered}
use Rattle.object_host_laws.proofs.Server.{now_of}
use Rattle.object_host_laws.proofs.Told.{begun_holds, holds_told, run_holds}
use Rattle.object_host_laws.proofs.hosts.told_is_given.Goals as goal

pub returns : goal.returns
returns g c names start own_name peer_name object version events are may connection of_client of_server =
    let does = g.C.Controller.behaviour
    in let keeps : (event : Event) (ends : Ends) → Timely names ends × Ordered names ends → May names event ends → Timely names (happened event ends) × Ordered names (happened event ends) =
    λ event ends sound allowed. (
      c.every_event_keeps_time.ensures names event ends are sound.0 allowed,
      c.every_event_keeps_order.ensures.kept names event ends are sound.0 sound.1 allowed,
    )
    in let is_settled : (ends : Ends) → Timely names ends × Ordered names ends → settled (now_of ends) ends.server.link ≡ ends.server.link =
    λ ends sound. c.links_are_settled.ensures names ends role.Server sound.0
    in let opens = c.own_calls_open_nothing.ensures
    in let calls_for = c.step_is_calls.ensures.first
    in let made_of = c.step_is_calls.ensures.made
    in let acts_on = c.step_tells_what_was_taken.ensures
    in let at_start = begun_holds does names (λ (ends : Ends). Timely names ends × Ordered names ends) keeps is_settled opens calls_for made_of acts_on start own_name peer_name object version
    (c.starts_in_time.ensures names start are, c.every_event_keeps_order.ensures.starts names start)
    in let at_end = run_holds does names (λ (ends : Ends). Timely names ends × Ordered names ends) keeps is_settled opens calls_for made_of acts_on events _ at_start may
    in holds_told does names (λ (ends : Ends). Timely names ends × Ordered names ends) keeps is_settled opens calls_for made_of acts_on _ at_end (c.order_is_safe.ensures names _ at_end.sound.1) connection of_client of_server
