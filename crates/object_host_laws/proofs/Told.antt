-- What is true of a world after every list of events: what the host acted on is a beginning of what its end took.
use Rattle.std.proofs.Common.{◌≡◌, ℕ, false, List, [], ◌∷◌, ◌++◌, append_assoc, refl, ap, sym, ◌∙◌, subst}
use Rattle.std.specs.Prelude.{Option, None, Some}
use Rattle.std.proofs.lemmas.List.{append-nil}
use Rattle.rasta_core.specs.State.{LinkState, is_open}
use Rattle.rasta_core.specs.Clock.{settled}
use Rattle.rasta_core.specs.identity.Role.TheVariants as role
use Rattle.rasta_core.specs.Ends as calls
use Rattle.rasta_core.specs.Ends.{kept}
use Rattle.rasta_core.specs.Run.{Ends, called}
use Rattle.rasta_core.specs.Events as links
use Rattle.rasta_core.specs.Events.{MayCall, Start, started}
use Rattle.rasta_core.specs.Names.{Names}
use Rattle.rasta_core.specs.Safe.{AreSafe}
use Rattle.object_host.specs.Behaviour.{Behaviour}
use Rattle.object_host.specs.Host.{HostState, LinkCall, Ticks, Closes, Sends, Receives}
use Rattle.object_host.specs.Made.{ActsOn, AreCallsFor, AreItems, AreOwn, IsMadeOf, calls_made, commands_of, items_given, items_taken}
use Rattle.object_host.specs.Step.{host_step}
use Rattle.object_host.specs.declared.input.Input.{Input}
use Rattle.object_host.specs.declared.input.Input.TheVariants as inputs
use Rattle.object_host_laws.specs.Acted.{IsActedOn}
use Rattle.object_host_laws.proofs.Acted.{other_event, step_acted}
use Rattle.object_host_laws.specs.World.{Commands, ClientRestarts, Elsewhere, Event, HostRestarts, IsTold, Loses, May, MayHear, MayRun, Passes, Steps, World, as_call, begun, called_all, entering, happened, host_of, host_restarted, run, step_of, stepped}
use Rattle.object_host_laws.proofs.Server.{OpensNothing, clock_after, given_after, links_after, now_of, stays_out, taken_after}

-- what a step takes and gives is what the end has taken and given by it
pub step_taken : {Object : Type 0} (does : Behaviour Object) (input : Input) (connection : ℕ) (world : World Object) → AreCallsFor input (step_of does input world).calls →
    (stepped does input connection world).ends.server.taken
    ≡ kept (entering input connection world.ends) world.ends.server.taken ++ items_taken (now_of world.ends) (step_of does input world).calls world.ends.server.link
unfolding stepped
step_taken does input connection world first = taken_after connection input (step_of does input world).calls world.ends first

pub step_given : {Object : Type 0} (does : Behaviour Object) (input : Input) (connection : ℕ) (world : World Object) → AreCallsFor input (step_of does input world).calls →
    (stepped does input connection world).ends.server.given
    ≡ kept (entering input connection world.ends) world.ends.server.given ++ items_given (now_of world.ends) (step_of does input world).calls world.ends.server.link
unfolding stepped
step_given does input connection world first = given_after connection input (step_of does input world).calls world.ends first

pub step_link : {Object : Type 0} (does : Behaviour Object) → ((now : ℕ) (input : Input) (host : HostState Object) → IsMadeOf now (settled now host.link) (host_step does now input host)) →
    (input : Input) (connection : ℕ) (world : World Object) → settled (now_of world.ends) world.ends.server.link ≡ world.ends.server.link →
    (stepped does input connection world).ends.server.link ≡ (step_of does input world).host.link
unfolding stepped
step_link does made_of input connection world is_settled =
    let part = step_of does input world
    in links_after connection part.calls world.ends
    ∙ ap (λ l. (calls_made (now_of world.ends) part.calls l).link) (sym is_settled) ∙ sym (made_of (now_of world.ends) input (host_of world)).link_is

pub step_clock : {Object : Type 0} (does : Behaviour Object) (input : Input) (connection : ℕ) (world : World Object) → (stepped does input connection world).ends.server.clock ≡ world.ends.server.clock
unfolding stepped
step_clock does input connection world = clock_after connection (step_of does input world).calls world.ends

pub step_outside : {Object : Type 0} (does : Behaviour Object) → OpensNothing → ((now : ℕ) (input : Input) (host : HostState Object) → AreCallsFor input (host_step does now input host).calls) →
    (input : Input) (connection : ℕ) (world : World Object) → entering input connection world.ends ≡ None → is_open world.ends.server.link.phase ≡ false →
    is_open (stepped does input connection world).ends.server.link.phase ≡ false
unfolding stepped
step_outside does opens calls_for input connection world stays closed =
    let part = step_of does input world
    in ap (λ (l : LinkState). is_open l.phase) (links_after connection part.calls world.ends)
    ∙ (stays_out opens connection input part.calls world.ends (calls_for (now_of world.ends) input (host_of world)) stays closed).out

-- out of a connection, and where it enters none, it takes and gives nothing
pub step_idle : {Object : Type 0} (does : Behaviour Object) → OpensNothing → ((now : ℕ) (input : Input) (host : HostState Object) → AreCallsFor input (host_step does now input host).calls) →
    (input : Input) (connection : ℕ) (world : World Object) → entering input connection world.ends ≡ None → is_open world.ends.server.link.phase ≡ false →
    ((stepped does input connection world).ends.server.taken ≡ world.ends.server.taken) × ((stepped does input connection world).ends.server.given ≡ world.ends.server.given)
step_idle does opens calls_for input connection world stays closed =
    let part = step_of does input world
    in let first = calls_for (now_of world.ends) input (host_of world)
    in let out = stays_out opens connection input part.calls world.ends first stays closed
    in (
      step_taken does input connection world first
          ∙ ap (λ (e : Option ℕ). kept e world.ends.server.taken ++ items_taken (now_of world.ends) part.calls world.ends.server.link) stays
          ∙ ap (λ items. world.ends.server.taken ++ items) out.no_items ∙ append-nil world.ends.server.taken,
      step_given does input connection world first
          ∙ ap (λ (e : Option ℕ). kept e world.ends.server.given ++ items_given (now_of world.ends) part.calls world.ends.server.link) stays
          ∙ ap (λ items. world.ends.server.given ++ items) out.none_given ∙ append-nil world.ends.server.given,
    )

module _ {Object : Type 0} (does : Behaviour Object) (names : Names)
    -- the laws of the link and of the steps of a host
    (Sound : Ends → Type 0)
    (keeps : (event : links.Event) (ends : Ends) → Sound ends → links.May names event ends → Sound (links.happened event ends))
    (is_settled : (ends : Ends) → Sound ends → settled (now_of ends) ends.server.link ≡ ends.server.link)
    (opens : OpensNothing)
    (calls_for : (now : ℕ) (input : Input) (host : HostState Object) → AreCallsFor input (host_step does now input host).calls)
    (made_of : (now : ℕ) (input : Input) (host : HostState Object) → IsMadeOf now (settled now host.link) (host_step does now input host))
    (acts_on : (now : ℕ) (input : Input) (host : HostState Object) → ActsOn (items_taken now (host_step does now input host).calls (settled now host.link)) (host_step does now input host))
  where
    -- the links keep their laws, and the host acted on what its end took
    pub record Holds (world : World Object) : Type 0 where
      pub sound : Sound world.ends
      pub acted : IsActedOn world.ends.server world.acted world.told

    own_sound : (connection : ℕ) (made : List LinkCall) (ends : Ends) → AreOwn made → AreItems made → Sound ends → Sound (called_all connection made ends)
    unfolding called_all
    own_sound connection [] ends own items sound = sound
    own_sound connection (Ticks ∷ others) ends own items sound =
        own_sound connection others (called role.Server (as_call connection Ticks) ends) own.1 items (keeps (links.Calls role.Server (as_call connection Ticks)) ends sound tt)
    own_sound connection (Closes why ∷ others) ends own items sound =
        own_sound connection others (called role.Server (as_call connection (Closes why)) ends) own.1 items (keeps (links.Calls role.Server (as_call connection (Closes why))) ends sound tt)
    own_sound connection (Sends item ∷ others) ends own items sound =
        own_sound connection others (called role.Server (as_call connection (Sends item)) ends) own.1 items.1 (keeps (links.Calls role.Server (as_call connection (Sends item))) ends sound items.0)
    own_sound connection (Receives bytes ∷ others) ends own items sound = absurd own.0

    received_sound : (connection : ℕ) (bytes : List ℕ) (others : List LinkCall) (ends : Ends) → AreOwn others → AreItems others →
        MayCall names role.Server (calls.Receives bytes connection) ends → Sound ends → Sound (called_all connection (Receives bytes ∷ others) ends)
    unfolding called_all
    received_sound connection bytes others ends own items may sound =
        own_sound connection others (called role.Server (as_call connection (Receives bytes)) ends) own items (keeps (links.Calls role.Server (as_call connection (Receives bytes))) ends sound may)

    step_sound : (connection : ℕ) (input : Input) (made : List LinkCall) (ends : Ends) → AreCallsFor input made → MayHear names input connection ends → AreItems made →
        Sound ends → Sound (called_all connection made ends)
    step_sound connection inputs.Tick made ends own may items sound = own_sound connection made ends own items sound
    step_sound connection (inputs.Datagram bytes) made ends first may items sound =
        subst (λ cs. Sound (called_all connection cs ends)) (sym first.1)
        (received_sound connection bytes.now first.0 ends first.2 (subst AreItems first.1 items) may sound)
    step_sound connection (inputs.Sense sense) made ends own may items sound = own_sound connection made ends own items sound

    event_acted : (event : Event Object) (world : World Object) → settled (now_of world.ends) world.ends.server.link ≡ world.ends.server.link →
        IsActedOn world.ends.server world.acted world.told →
        IsActedOn (happened does event world).ends.server (happened does event world).acted (happened does event world).told
    unfolding happened stepped host_restarted
    event_acted (Commands call) world is_settled is = other_event (links.Calls role.Client call) world.ends world.acted world.told tt is
    event_acted (Steps input connection) world is_settled is =
        step_acted does opens calls_for made_of acts_on input connection world.ends (host_of world) world.acted world.told refl is_settled is
    event_acted (Passes elapsed of_client of_server) world is_settled is = other_event (links.Passes elapsed of_client of_server) world.ends world.acted world.told tt is
    event_acted (Loses bytes) world is_settled is = other_event (links.Loses bytes) world.ends world.acted world.told tt is
    event_acted (ClientRestarts clock first) world is_settled is = other_event (links.Restarts role.Client clock first) world.ends world.acted world.told tt is
    event_acted (HostRestarts clock first object) world is_settled is = other_event (links.Restarts role.Server clock first) world.ends world.acted world.told tt is
    event_acted (Elsewhere count) world is_settled is = other_event (links.Elsewhere count) world.ends world.acted world.told tt is

    event_sound : (event : Event Object) (world : World Object) → Sound world.ends → May does names event world → Sound (happened does event world).ends
    unfolding happened stepped host_restarted
    event_sound (Commands call) world sound may = keeps (links.Calls role.Client call) world.ends sound may
    event_sound (Steps input connection) world sound may =
        step_sound connection input (step_of does input world).calls world.ends (calls_for (now_of world.ends) input (host_of world)) may.0 may.1 sound
    event_sound (Passes elapsed of_client of_server) world sound may = keeps (links.Passes elapsed of_client of_server) world.ends sound may
    event_sound (Loses bytes) world sound may = keeps (links.Loses bytes) world.ends sound tt
    event_sound (ClientRestarts clock first) world sound may = keeps (links.Restarts role.Client clock first) world.ends sound tt
    event_sound (HostRestarts clock first object) world sound may = keeps (links.Restarts role.Server clock first) world.ends sound tt
    event_sound (Elsewhere count) world sound may = keeps (links.Elsewhere count) world.ends sound tt

    event_holds : (event : Event Object) (world : World Object) → Holds world → May does names event world → Holds (happened does event world)
    event_holds event world holds may = record {
      sound = event_sound event world holds.sound may;
      acted = event_acted event world (is_settled world.ends holds.sound) holds.acted;
    }

    pub run_holds : (events : List (Event Object)) (world : World Object) → Holds world → MayRun does names events world → Holds (run does events world)
    unfolding run MayRun
    run_holds [] world holds may = holds
    run_holds (event ∷ others) world holds may = run_holds others (happened does event world) (event_holds event world holds may.0) may.1

    pub begun_holds : (start : Start) (own_name peer_name : List ℕ) (object : Object) (version : ℕ) → Sound (started names start) → Holds (begun does names start own_name peer_name object version)
    unfolding commands_of
    begun_holds start own_name peer_name object version sound = record { sound = sound; acted = record { dropped = []; beginning = refl; whole = λ _. refl; told_is = refl } }

    pub holds_told : (world : World Object) → Holds world → AreSafe world.ends → (connection : ℕ) →
        world.ends.client.connection ≡ Some connection → world.ends.server.connection ≡ Some connection → IsTold world
    holds_told world holds safe connection of_client of_server =
        let to_server = (safe connection of_client of_server).0
        in record {
          rest = holds.acted.dropped ++ to_server.rest;
          beginning = to_server.beginning ∙ ap (λ xs. xs ++ to_server.rest) holds.acted.beginning ∙ append_assoc world.acted holds.acted.dropped to_server.rest;
          told = holds.acted.told_is;
        }
