use Rattle.std.proofs.Common.{inl, inr, ap, ◌∙◌, Bool}
use Rattle.std.specs.Prelude.{if◌then◌else◌}
use Rattle.rasta_core.specs.Events.{run}
use Rattle.rasta_core.specs.Run.{Ends}
use Rattle.rasta_core.specs.Steps.{calls_at}
use Rattle.rasta_core.specs.identity.Role.TheVariants as role
use Rattle.simulator_machine.specs.Link.{Before}
use Rattle.simulator_move_laws.specs.Flows.{ClientIsAfter}
use Rattle.simulator_move_laws.specs.Lawful.{IsLawful}
use Rattle.simulator_move_laws.specs.EndsSeen.{server_of}
use Rattle.simulator_move_laws.proofs.Links.Knows.{knows}
use Rattle.simulator_move_laws.proofs.client_knowledge.clients_know_throughout.Goals as goal

pub returns : goal.returns
returns c = λ names calls ends are is each none.
    let may = c.calls_may_follow_calls.ensures.all names role.Client calls ends each
    in let new : Ends = run (calls_at role.Client calls) ends
    in let lawful : IsLawful names new = c.lawful_links_stay_lawful.ensures.run names (calls_at role.Client calls) ends are is may
    in let after : ClientIsAfter calls ends new = c.calls_of_a_client_are_told.ensures.after names calls ends are is.timely may
    in let end = c.calls_at_one_clock.ensures.end role.Client calls ends
    in let tells = c.representations_tell_the_connection.ensures
    in knows ends new _ _ _ (record {
      up = tells.up names new lawful.timely;
      entered = tells.entered names new lawful.timely;
      alone = tells.alone names new lawful.timely;
      alive = tells.alive names new role.Client lawful.timely;
      counts = c.flows_are_in_order.ensures.client names new lawful;
      flows = c.flows_are_in_order.ensures.flows names new lawful;
    }) (record {
      server = after.server ∙ ap (λ (b : Bool). if b then Before else server_of ends) none;
      end = c.calls_of_a_client_are_told.ensures.server calls ends;
      clock = end.clock;
      inside = λ opened. elim (after.inside opened) [ inl was ↦ was | inr begun ↦ absurd (cc (begun, none)) ];
    }) end.link after.given after.taken
