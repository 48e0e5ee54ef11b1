-- A step of a controller, as events of the links of a world.
use Rattle.std.proofs.Common.{◌≡◌, inl, inr, ℕ, ◌<◌, Bool, List, [], ◌∷◌, ◌++◌, length, map, Some, slice_get, slice_set, refl, sym, ap, subst, ◌∙◌, if◌then◌else◌}
use Rattle.std.proofs.lemmas.List.{append-nil, append_assoc, append_cancel_left, map-append}
use Rattle.simulator_spec.specs.layout.Entries.{Site}
use Rattle.simulator_spec.specs.object_host.Behaviour.{Behaviour}
use Rattle.simulator_spec.specs.object_host.Host.{HostState, LinkCall, HostSoFar, Ticks, Closes, Sends, Receives}
use Rattle.simulator_spec.specs.object_host.Made.{AreCallsFor, AreItems, AreOwn, IsMadeOf}
use Rattle.simulator_spec.specs.object_host.Step.{host_step}
use Rattle.simulator_spec.specs.object_host.declared.input.Input.{Input}
use Rattle.simulator_spec.specs.object_host.declared.input.Input.TheVariants as inputs
use Rattle.object_host_laws.specs.World.{as_call}
use Rattle.simulator_spec.specs.rasta_core.Clock.{settled}
use Rattle.simulator_spec.specs.rasta_core.Each.{Each}
use Rattle.simulator_spec.specs.rasta_core.EachLink.{AreTimely}
use Rattle.simulator_spec.specs.rasta_core.Ends as calls
use Rattle.simulator_spec.specs.rasta_core.Ends.{Call, Sent, handed_out}
use Rattle.simulator_spec.specs.rasta_core.Events.{Calls, Elsewhere, MayCall, MayRun, run}
use Rattle.simulator_spec.specs.rasta_core.Invariant.{Timely}
use Rattle.simulator_spec.specs.rasta_core.Links.{AreLinks, CallsOn, IsAmongAll, Links, LinksEvent, MayCallOn, MayRunLinks, OnLink, happened_to, run_links, seen, sent_by, sent_on}
use Rattle.simulator_spec.specs.rasta_core.Names.{Names}
use Rattle.simulator_spec.specs.rasta_core.Outbox.{spellings}
use Rattle.simulator_spec.specs.rasta_core.Run.{Ends, called}
use Rattle.simulator_spec.specs.rasta_core.Steps.{calls_at}
use Rattle.simulator_spec.specs.rasta_core.identity.Role.{Role}
use Rattle.simulator_spec.specs.rasta_core.identity.Role.TheVariants as role
use Rattle.simulator_spec.specs.Links.{AreLinksOf, end_of_server, names_at, server_ends}
use Rattle.simulator_spec.specs.Nodes.{links, partners}
use Rattle.simulator_spec.specs.Controllers.{controller_after, sent_by_controller, step_of}
use Rattle.simulator_spec.specs.State.{ClockedControllerState, WorldState}
use Rattle.simulator_link_laws.proofs.HostSteps.{IsStepped, host_stepped}
use Rattle.simulator_link_laws.proofs.Laws.{CallLaws, LinkLaws, ServerLaws}
use Rattle.simulator_link_laws.proofs.Lists.{itself, within_some}
use Rattle.simulator_link_laws.proofs.Partners.{below_links}
use Rattle.simulator_link_laws.proofs.Places.{IsKept, kept_at, one_server}
use Rattle.simulator_link_laws.specs.Events.{FollowsBy}

-- ---- what calls send

abbrev sent_by_calls : Role → List Call → Ends → List Sent
sent_by_calls who [] ends = []
sent_by_calls who (call ∷ calls) ends = sent_by who call ends ++ sent_by_calls who calls (called who call ends)

one_sent : (who : Role) (call : Call) (ends : Ends) → (called who call ends).sent ≡ ends.sent ++ sent_by who call ends
unfolding called sent_by
one_sent who call ends = refl

run_sent : (who : Role) (calls : List Call) (ends : Ends) → (run (calls_at who calls) ends).sent ≡ ends.sent ++ sent_by_calls who calls ends
run_sent who [] ends = sym (append-nil ends.sent)
run_sent who (call ∷ calls) ends = run_sent who calls (called who call ends)
    ∙ ap (λ s. s ++ sent_by_calls who calls (called who call ends)) (one_sent who call ends)
    ∙ append_assoc ends.sent (sent_by who call ends) (sent_by_calls who calls (called who call ends))

abbrev events_of : ℕ → Role → List Call → List LinksEvent
events_of link who calls = map (λ call. CallsOn link who call) calls

sent_joined : (link : ℕ) (one other : List Sent) → sent_on link (one ++ other) ≡ sent_on link one ++ sent_on link other
sent_joined link one other = map-append _ one other

links_sent : CallLaws → (link : ℕ) (who : Role) (calls : List Call) (before : Links) → (run_links (events_of link who calls) before).sent ≡ before.sent ++ sent_on link (sent_by_calls who calls (seen link before))
links_sent laws link who [] before = sym (append-nil before.sent)
links_sent laws link who (call ∷ calls) before =
    let next : Links = happened_to (CallsOn link who call) before
    in let one : List Sent = sent_by who call (seen link before)
    in let more : List Sent = sent_by_calls who calls (called who call (seen link before))
    in links_sent laws link who calls next
    ∙ ap (λ (e : Ends). (before.sent ++ sent_on link one) ++ sent_on link (sent_by_calls who calls e)) (laws.own who link (call ∷ []) before)
    ∙ append_assoc before.sent (sent_on link one) (sent_on link more)
    ∙ ap (λ (s : List OnLink). before.sent ++ s) (sym (sent_joined link one more))

links_time : (link : ℕ) (who : Role) (calls : List Call) (before : Links) → (run_links (events_of link who calls) before).time ≡ before.time
links_time link who [] before = refl
links_time link who (call ∷ calls) before = links_time link who calls (happened_to (CallsOn link who call) before)

-- ---- what may be made

among_later : (one : OnLink) (sent more : List OnLink) → IsAmongAll one sent → IsAmongAll one (sent ++ more)
among_later one [] more among = absurd among
among_later one (first ∷ others) more (inl same) = inl same
among_later one (first ∷ others) more (inr later) = inr (among_later one others more later)

pub may_later : (names : Names) (link : ℕ) (who : Role) (other call : Call) (before : Links) → MayCallOn names call before → MayCallOn names call (happened_to (CallsOn link who other) before)
may_later names link who other calls.Ticks before may = tt
may_later names link who other calls.Opens before may = tt
may_later names link who other (calls.Closes why) before may = tt
may_later names link who other (calls.Sends item) before may = may
may_later names link who other (calls.Receives bytes connection) before (inl (one, sent)) = inl (
  one,
  record {
    among = among_later one before.sent _ sent.among;
    bytes_same = sent.bytes_same;
    connection_same = sent.connection_same;
    in_time = sent.in_time;
  },
)
may_later names link who other (calls.Receives bytes connection) before (inr damaged) = inr damaged

each_later : (names : Names) (link : ℕ) (who : Role) (other : Call) (list : List Call) (before : Links) → Each (λ call. MayCallOn names call before) list → Each (λ call. MayCallOn names call (happened_to (CallsOn link who other) before)) list
each_later names link who other [] before each = tt
each_later names link who other (first ∷ others) before each = (may_later names link who other first before each.0, each_later names link who other others before each.1)

links_may : (count : ℕ) (names : ℕ → Names) (link : ℕ) (who : Role) (list : List Call) (before : Links) → link < count → Each (λ call. MayCallOn (names link) call before) list → MayRunLinks count names (events_of link who list) before
links_may count names link who [] before below each = tt
links_may count names link who (first ∷ others) before below each = ((below, each.0), links_may count names link who others (happened_to (CallsOn link who first) before) below (each_later (names link) link who first others before each.1))

pub end_may : LinkLaws → (count : ℕ) (names : ℕ → Names) (link : ℕ) (who : Role) (call : Call) (before : Links) → AreLinks count names → AreTimely count names before → link < count → MayCallOn (names link) call before
    → MayCall (names link) who call (seen link before)
end_may laws count names link who call before are timely below may =
    (subst (λ (b : Bool). MayRun (names link) (if b then Calls who call ∷ [] else Elsewhere (length (sent_by who call (seen link before))) ∷ []) (seen link before)) (itself link)
    (laws.may count names (CallsOn link who call) before are timely (below, may) link below)).0

ends_may : LinkLaws → (count : ℕ) (names : ℕ → Names) (link : ℕ) (who : Role) (list : List Call) (before : Links) → AreLinks count names → AreTimely count names before → link < count → Each (λ call. MayCallOn (names link) call before) list
    → Each (λ call. MayCall (names link) who call (seen link before)) list
ends_may laws count names link who [] before are timely below each = tt
ends_may laws count names link who (first ∷ others) before are timely below each = (end_may laws count names link who first before are timely below each.0, ends_may laws count names link who others before are timely below each.1)

own_may : (names : Names) (connection : ℕ) (list : List LinkCall) (before : Links) → AreOwn list → AreItems list → Each (λ call. MayCallOn names call before) (map (as_call connection) list)
own_may names connection [] before own items = tt
own_may names connection (Ticks ∷ others) before own items = (tt, own_may names connection others before own.1 items)
own_may names connection (Closes why ∷ others) before own items = (tt, own_may names connection others before own.1 items)
own_may names connection (Sends item ∷ others) before own items = (items.0, own_may names connection others before own.1 items.1)
own_may names connection (Receives bytes ∷ others) before own items = absurd own.0

-- what may come to a controller
abbrev pub MayCome : Names → Input → ℕ → Links → Type 0
MayCome names (inputs.Datagram bytes) connection before = MayCallOn names (calls.Receives bytes.now connection) before
MayCome names _ connection before = Unit {0}

step_may : (names : Names) (connection : ℕ) (input : Input) (list : List LinkCall) (before : Links) → AreCallsFor input list → AreItems list → MayCome names input connection before
    → Each (λ call. MayCallOn names call before) (map (as_call connection) list)
step_may names connection inputs.Tick list before own items may = own_may names connection list before own items
step_may names connection (inputs.Datagram bytes) list before first items may =
    subst (λ (l : List LinkCall). Each (λ call. MayCallOn names call before) (map (as_call connection) l)) (sym first.1)
    (may, own_may names connection first.0 before first.2 (subst AreItems first.1 items))
step_may names connection (inputs.Sense sense) list before own items may = own_may names connection list before own items

-- ---- the step

module _ {Object : Type 0} (does : Behaviour Object)
    (calls_for : (now : ℕ) (input : Input) (host : HostState Object) → AreCallsFor input (host_step does now input host).calls)
    (made_of : (now : ℕ) (input : Input) (host : HostState Object) → IsMadeOf now (settled now host.link) (host_step does now input host))
    (laws : LinkLaws) (calling : CallLaws) (serving : ServerLaws)
    (site : Site) (are_links : AreLinks (links site) (names_at site)) (world : WorldState) (before : Links) (timely : AreTimely (links site) (names_at site) before) (are : AreLinksOf site world before) where
  pub controller_follows : (new : WorldState) (link id : ℕ) (server : ClockedControllerState Object) (input : Input) (connection : ℕ)
      → slice_get (partners site) link ≡ Some id → slice_get (server_ends world) link ≡ Some (end_of_server server)
      → AreItems (step_of does input server).calls → MayCome (names_at site link) input connection before
      → new.time ≡ world.time → new.interlocking ≡ world.interlocking
      → server_ends new ≡ slice_set (server_ends world) link (end_of_server (controller_after (step_of does input server) connection (length world.sent) server))
      → new.sent ≡ world.sent ++ sent_by_controller (step_of does input server) world.time link server (controller_after (step_of does input server) connection (length world.sent) server)
      → FollowsBy site (map (λ call. CallsOn link role.Server call) (map (as_call connection) (step_of does input server).calls)) new before
  unfolding sent_by_controller
  controller_follows new link id server input connection at there items may time station ends sent = record {
    may = links_may (links site) (names_at site) link role.Server list before below each;
    are = one_server site world new before after link (end_of_server next) are (record {
      time_is = links_time link role.Server list before ∙ are.time_is ∙ sym time;
      sent_is = links_sent calling link role.Server list before
          ∙ ap (λ (s : List Sent). before.sent ++ sent_on link s) sent_here
          ∙ ap (λ (s : List OnLink). s ++ sent_on link (handed_out before.time role.Server next.connection (spellings server.host.link.identity.key done.pdus))) are.sent_is
          ∙ ap (λ (t : ℕ). world.sent ++ sent_on link (handed_out t role.Server next.connection (spellings server.host.link.identity.key done.pdus))) are.time_is
          ∙ sym sent;
      station_is = station;
      ends_are = ends;
      within = within_some (server_ends world) link (end_of_server server) there;
      others = λ other differ. calling.others role.Server link other list before differ;
      client = ap (λ (e : Ends). e.client) (calling.own role.Server link list before) ∙ calling.partner list (seen link before);
      kept = subst (IsKept (end_of_server next)) (sym (ap (λ (e : Ends). e.server) (calling.own role.Server link list before))) stepped.kept;
    });
  }
    where
      done : HostSoFar Object
      done = step_of does input server

      next : ClockedControllerState Object
      next = controller_after (step_of does input server) connection (length world.sent) server

      list : List Call
      list = map (as_call connection) (step_of does input server).calls

      after : Links
      after = run_links (events_of link role.Server (map (as_call connection) (step_of does input server).calls)) before

      below : link < links site
      below = below_links site link id at

      each : Each (λ call. MayCallOn (names_at site link) call before) (map (as_call connection) (step_of does input server).calls)
      each = step_may (names_at site link) connection input (step_of does input server).calls before (calls_for _ input server.host) items may

      ends_run : MayRun (names_at site link) (calls_at role.Server (map (as_call connection) (step_of does input server).calls)) (seen link before)
      ends_run = calling.all (names_at site link) role.Server (map (as_call connection) (step_of does input server).calls) (seen link before)
          (ends_may laws (links site) (names_at site) link role.Server (map (as_call connection) (step_of does input server).calls) before are_links timely below each)

      later : Timely (names_at site link) (run (calls_at role.Server (map (as_call connection) (step_of does input server).calls)) (seen link before))
      later = subst (Timely (names_at site link)) (calling.own role.Server link (map (as_call connection) (step_of does input server).calls) before)
          ((laws.run_time (links site) (names_at site) (events_of link role.Server (map (as_call connection) (step_of does input server).calls)) before are_links timely
          (links_may (links site) (names_at site) link role.Server (map (as_call connection) (step_of does input server).calls) before below each)).each link below)

      stepped : IsStepped (names_at site link) before.time server.host.link.identity.key (end_of_server (controller_after (step_of does input server) connection (length world.sent) server)) (step_of does input server).pdus (seen link before)
          (run (calls_at role.Server (map (as_call connection) (step_of does input server).calls)) (seen link before))
      stepped = host_stepped does calls_for made_of laws calling serving (names_at site link) (are_links.each link below) connection (length world.sent) server (seen link before) (timely.each link below)
          (kept_at world link (before.ends link).server (end_of_server server) (are.servers link id at) there) (ap length are.sent_is) input ends_run later

      sent_here : sent_by_calls role.Server (map (as_call connection) (step_of does input server).calls) (seen link before)
          ≡ handed_out before.time role.Server (controller_after (step_of does input server) connection (length world.sent) server).connection (spellings server.host.link.identity.key (step_of does input server).pdus)
      sent_here = append_cancel_left (seen link before).sent _ _ (sym (run_sent role.Server (map (as_call connection) (step_of does input server).calls) (seen link before)) ∙ stepped.sent)
