use Rattle.std.proofs.Common.{◌≡◌, ℕ, List, [], ◌∷◌, map, refl, sym, subst}
use Rattle.std.specs.Prelude.{Some}
use Rattle.std.proofs.lemmas.Option.{none-some}
use Rattle.rasta_core.specs.Each.{Each}
use Rattle.rasta_core.specs.Ends as calls
use Rattle.rasta_core.specs.Events.{MayCall, MayRun, run}
use Rattle.rasta_core.specs.Names.{Names}
use Rattle.rasta_core.specs.Run.{Ends, called}
use Rattle.rasta_core.specs.Steps.{calls_at}
use Rattle.rasta_core.specs.identity.Role.TheVariants as role
use Rattle.object_host.specs.Host.{LinkCall, Ticks, Closes, Sends, Receives}
use Rattle.object_host.specs.Made.{AreCallsFor, AreItems, AreOwn}
use Rattle.object_host.specs.declared.input.Input.{Input}
use Rattle.object_host.specs.declared.input.Input.TheVariants as inputs
use Rattle.object_host_laws.specs.World.{MayHear, as_call, called_all, entering}
use Rattle.simulator_machine.specs.Link.{Before}
use Rattle.simulator_move_laws.specs.EndsSeen.{server_of}
use Rattle.simulator_move_laws.specs.Ends.{Steps}
use Rattle.simulator_move_laws.proofs.ends.lawful_ends_are_fit.Goals as goal

-- the calls of a host as calls of the server's end
run_is : (connection : ℕ) (made : List LinkCall) (ends : Ends) → run (calls_at role.Server (map (as_call connection) made)) ends ≡ called_all connection made ends
unfolding called_all
run_is connection [] ends = refl
run_is connection (call ∷ others) ends = run_is connection others (called role.Server (as_call connection call) ends)

own_may : (names : Names) (connection : ℕ) (made : List LinkCall) (ends : Ends) → AreOwn made → AreItems made → Each (λ call. MayCall names role.Server call ends) (map (as_call connection) made)
own_may names connection [] ends own items = tt
own_may names connection (Ticks ∷ others) ends own items = (tt, own_may names connection others ends own.1 items)
own_may names connection (Closes why ∷ others) ends own items = (tt, own_may names connection others ends own.1 items)
own_may names connection (Sends item ∷ others) ends own items = (items.0, own_may names connection others ends own.1 items.1)
own_may names connection (Receives bytes ∷ others) ends own items = absurd own.0

all_may : (names : Names) (input : Input) (connection : ℕ) (made : List LinkCall) (ends : Ends) → MayHear names input connection ends → AreCallsFor input made → AreItems made →
    Each (λ call. MayCall names role.Server call ends) (map (as_call connection) made)
all_may names inputs.Tick connection made ends hears own items = own_may names connection made ends own items
all_may names (inputs.Datagram bytes) connection made ends hears first items =
    subst (λ cs. AreItems cs → Each (λ call. MayCall names role.Server call ends) (map (as_call connection) cs)) (sym first.1)
    (λ is. (hears, own_may names connection first.0 ends first.2 is)) items
all_may names (inputs.Sense sense) connection made ends hears own items = own_may names connection made ends own items

pub returns-clause-fit : goal.returns-clause-fit
returns-clause-fit c names ends lawful = record {
  settled_at = c.links_are_settled.ensures names ends role.Server lawful.timely;
  safe = c.flows_are_in_order.ensures.safe names ends lawful;
  same = λ opened. let one = c.representations_tell_the_connection.ensures.one names ends lawful.timely opened in (one.connection, one.client, one.server);
}

pub returns-clause-steps : goal.returns-clause-steps
returns-clause-steps c names input connection made ends are lawful hears first items =
    subst (Steps input connection ends) (run_is connection made ends) (record {
      fit = returns-clause-fit c names ends lawful;
      fit_after = returns-clause-fit c names _ (c.lawful_links_stay_lawful.ensures.run names (calls_at role.Server (map (as_call connection) made)) ends are lawful may);
      enters = enters input hears;
      goes = c.calls_of_a_server_are_moves.ensures.goes names (map (as_call connection) made) ends are lawful.timely may;
    })
  where
    may : MayRun names (calls_at role.Server (map (as_call connection) made)) ends
    may = c.calls_may_follow_calls.ensures.all names role.Server (map (as_call connection) made) ends (all_may names input connection made ends hears first items)

    enters : (i : Input) → MayHear names i connection ends → (entered : ℕ) → entering i connection ends ≡ Some entered → (server_of ends ≡ Before) × (ends.client.connection ≡ Some entered)
    enters inputs.Tick hears entered some = absurd (none-some entered some)
    enters (inputs.Datagram bytes) hears entered some =
        let rightly = c.servers_enter_once.ensures names (calls.Receives bytes.now connection) entered ends are lawful.timely hears some in (rightly.before, rightly.connection)
    enters (inputs.Sense sense) hears entered some = absurd (none-some entered some)
