-- A step of the interlocking so far: its links are what its calls made of them, and what it notes of the datagrams that it
-- handed out is what the links tell.
use Rattle.std.proofs.Common.{◌≡◌, ◌≢◌, ◌⊎◌, inl, inr, ℕ, ◌<◌, List, [], ◌∷◌, ◌++◌, length, map, Some, slice_get, slice_set, refl, sym, ap, subst, ◌∙◌}
use Rattle.std.proofs.lemmas.Option.{same_Some}
use Rattle.simulator_spec.specs.layout.Entries.{Site}
use Rattle.simulator_spec.specs.ixl_client.Client.{ClientState}
use Rattle.simulator_spec.specs.ixl_client.Made.{Makes, link_after, outbox_after}
use Rattle.simulator_spec.specs.ixl_client.ClientSoFar as client
use Rattle.simulator_spec.specs.ixl_client.ClientSoFar.{LinkCall, Opens, Ticks, Closes, Sends, Receives, begun, as_call}
use Rattle.simulator_spec.specs.ixl_spec.StepSoFar.{Node, StepSoFar, noted}
use Rattle.simulator_spec.specs.ixl_spec.State.{IxlState}
use Rattle.simulator_spec.specs.rasta_core.Ends.{reading_of}
use Rattle.simulator_spec.specs.rasta_core.Links.{AreLinks, CallsOn, Links, LinksEvent, MayRunLinks, happened_to, run_links}
use Rattle.simulator_spec.specs.rasta_core.Names.{Names}
use Rattle.simulator_spec.specs.rasta_core.Nodes.{calls_of}
use Rattle.simulator_spec.specs.rasta_core.identity.Role.TheVariants as role
use Rattle.simulator_spec.specs.Links.{names_at}
use Rattle.simulator_spec.specs.Nodes.{links}
use Rattle.simulator_spec.specs.Interlocking.{Sending, sending_all}
use Rattle.simulator_link_laws.proofs.InterlockingCalls.{Tells}
use Rattle.simulator_link_laws.proofs.Laws.{ClientLaws, LinkLaws}
use Rattle.simulator_link_laws.proofs.Lists.{get_set, get_set_other, same_or_other, within_some}
use Rattle.simulator_link_laws.proofs.PartCalls.{AllMayMake, Leads, all_later, calls_lead, events_at}
use Rattle.simulator_link_laws.specs.Calls.{AreOfNodes, IsNodeOf, link_at, node_call}
use Rattle.simulator_link_laws.specs.Whole.{IsPeer, client_states}

-- ---- lists of events

pub run_joined : (one other : List LinksEvent) (before : Links) → run_links (one ++ other) before ≡ run_links other (run_links one before)
run_joined [] other before = refl
run_joined (event ∷ events) other before = run_joined events other (happened_to event before)

pub may_joined : (count : ℕ) (names : ℕ → Names) (one other : List LinksEvent) (before : Links) → MayRunLinks count names one before → MayRunLinks count names other (run_links one before) → MayRunLinks count names (one ++ other) before
may_joined count names [] other before may more = more
may_joined count names (event ∷ events) other before may more = (may.0, may_joined count names events other (happened_to event before) may.1 more)

-- the events of a step's calls
abbrev pub events_for : Site → ℕ → List (Node × LinkCall) → List LinksEvent
events_for site connection made = calls_of role.Client (map (node_call site connection) made)

for_joined : (site : Site) (connection : ℕ) (one other : List (Node × LinkCall)) → events_for site connection (one ++ other) ≡ events_for site connection one ++ events_for site connection other
for_joined site connection [] other = refl
for_joined site connection (first ∷ others) other = ap (λ l. CallsOn (link_at site first.0) role.Client (as_call connection first.1) ∷ l) (for_joined site connection others other)

for_node : (site : Site) (connection : ℕ) (node : Node) (list : List LinkCall) → events_for site connection (map (λ call. (node, call)) list) ≡ events_at (link_at site node) connection list
for_node site connection node [] = refl
for_node site connection node (call ∷ list) = ap (λ l. CallsOn (link_at site node) role.Client (as_call connection call) ∷ l) (for_node site connection node list)

-- ---- the nodes of calls

of_joined : (site : Site) (one other : List (Node × LinkCall)) → AreOfNodes site one → AreOfNodes site other → AreOfNodes site (one ++ other)
of_joined site [] other are more = more
of_joined site (first ∷ others) other are more = (are.0, of_joined site others other are.1 more)

of_one : (site : Site) (node : Node) (list : List LinkCall) → IsNodeOf site node → AreOfNodes site (map (λ call. (node, call)) list)
of_one site node [] is = tt
of_one site node (call ∷ list) is = (is, of_one site node list is)

-- ---- clients

-- the lists of an interlocking are as long as those of its layout
pub record IsManned (site : Site) (ixl : IxlState) : Type 0 where
  pub known_signals : length ixl.known_signals ≡ length site.signals
  pub known_points : length ixl.known_points ≡ length site.points
  pub detectors : length ixl.detectors ≡ length site.detectors

-- the client of a link, at the end that it is
pub record ClientIs (after : Links) (ixl : IxlState) (link : ℕ) : Type 0 where
  pub client : ClientState
  pub there : slice_get (client_states ixl) link ≡ Some client
  pub link_is : client.link ≡ (after.ends link).client.link
  pub peer : IsPeer client.peer

module _ (laws : LinkLaws) (client_laws : ClientLaws) (site : Site) (are : AreLinks (links site) (names_at site)) (time connection now : ℕ) (before : Links) (start : Sending) where
  abbrev pub after : List (Node × LinkCall) → Links
  after made = run_links (events_for site connection made) before

  pub record Reached (part : StepSoFar) : Type 0 where
    pub nodes : AreOfNodes site part.calls
    pub may : MayRunLinks (links site) (names_at site) (events_for site connection part.calls) before
    pub tells : Tells laws client_laws site are time (after part.calls) (sending_all site time part.outbox.datagrams start)
    pub manned : IsManned site part.ixl
    pub clients : (link : ℕ) → link < links site → ClientIs (after part.calls) part.ixl link
    pub reads : (link : ℕ) → link < links site → reading_of ((after part.calls).ends link).client.clock ≡ now

  -- a client did this in a part of a step, and is then at its place
  pub record Does (node : Node) (old : ClientState) (part : StepSoFar) (done : client.ClientSoFar) (ixl : IxlState) : Type 0 where
    pub node_is : IsNodeOf site node
    pub below : link_at site node < links site
    pub at : slice_get (client_states part.ixl) (link_at site node) ≡ Some old
    pub list : List LinkCall
    pub makes : Makes now list (begun old part.outbox) done
    pub may : AllMayMake (names_at site (link_at site node)) connection list before
    pub same_peer : done.client.peer ≡ old.peer
    pub set : client_states ixl ≡ slice_set (client_states part.ixl) (link_at site node) done.client
    pub manned : IsManned site ixl

  -- what may be made stays so in a step
  later_may : (names : Names) (list : List LinkCall) (made : List (Node × LinkCall)) (from : Links) → AllMayMake names connection list from → AllMayMake names connection list (run_links (events_for site connection made) from)
  later_may names list [] from may = may
  later_may names list (first ∷ others) from may = later_may names list others (happened_to (CallsOn (link_at site first.0) role.Client (as_call connection first.1)) from)
      (all_later names connection (link_at site first.0) (as_call connection first.1) list from may)

  module _ (node : Node) (old : ClientState) (part : StepSoFar) (done : client.ClientSoFar) (ixl : IxlState) (reached : Reached part) (does : Does node old part done ixl) where
    abbrev link : ℕ
    link = link_at site node

    abbrev here : Links
    here = after part.calls

    abbrev next_part : StepSoFar
    next_part = record (noted node done part) { ixl = ixl }

    old_link : old.link ≡ (here.ends link).client.link
    old_link = let is = reached.clients link does.below in ap (λ (c : ClientState). c.link) (same_Some old is.client (sym does.at ∙ is.there)) ∙ is.link_is

    old_peer : IsPeer old.peer
    old_peer = let is = reached.clients link does.below in subst (λ (c : ClientState). IsPeer c.peer) (same_Some is.client old (sym is.there ∙ does.at)) is.peer

    leads : Leads laws client_laws site are time connection now link does.list here part.outbox start
    leads = calls_lead laws client_laws site are time connection now link does.list here part.outbox start does.below (reached.reads link does.below)
        (later_may (names_at site link) does.list part.calls before does.may) reached.tells

    events_are : events_for site connection next_part.calls ≡ events_for site connection part.calls ++ events_at link connection does.list
    events_are = for_joined site connection part.calls (map (λ call. (node, call)) done.calls)
        ∙ ap (λ l. events_for site connection part.calls ++ l) (for_node site connection node done.calls ∙ ap (events_at link connection) does.makes.calls_are)

    after_is : after next_part.calls ≡ run_links (events_at link connection does.list) here
    after_is = ap (λ l. run_links l before) events_are ∙ run_joined (events_for site connection part.calls) (events_at link connection does.list) before

    client_at : (other : ℕ) → other < links site → (other ≡ link) ⊎ (other ≢ link) → ClientIs (run_links (events_at link connection does.list) here) ixl other
    client_at other below (inl same) = subst (ClientIs (run_links (events_at link connection does.list) here) ixl) (sym same) (record {
      client = done.client;
      there = ap (λ l. slice_get l link) does.set ∙ get_set (client_states part.ixl) link done.client (within_some (client_states part.ixl) link old does.at);
      link_is = does.makes.link_is ∙ ap (link_after now does.list) old_link ∙ sym leads.link_is;
      peer = subst IsPeer (sym does.same_peer) old_peer;
    })
    client_at other below (inr differ) =
        let is = reached.clients other below
        in record {
          client = is.client;
          there = ap (λ l. slice_get l other) does.set ∙ get_set_other (client_states part.ixl) link other done.client differ ∙ is.there;
          link_is = is.link_is ∙ ap (λ e. e.client.link) (sym (leads.others other differ));
          peer = is.peer;
        }

    reads_at : (other : ℕ) → other < links site → (other ≡ link) ⊎ (other ≢ link) → reading_of ((run_links (events_at link connection does.list) here).ends other).client.clock ≡ now
    reads_at other below (inl same) = subst (λ n. reading_of ((run_links (events_at link connection does.list) here).ends n).client.clock ≡ now) (sym same) (ap reading_of leads.clock_is ∙ reached.reads link does.below)
    reads_at other below (inr differ) = ap (λ e. reading_of e.client.clock) (leads.others other differ) ∙ reached.reads other below

    pub reached_next : Reached (record (noted node done part) { ixl = ixl })
    reached_next = record {
      nodes = of_joined site part.calls (map (λ call. (node, call)) done.calls) reached.nodes (of_one site node done.calls does.node_is);
      may = subst (λ l. MayRunLinks (links site) (names_at site) l before) (sym events_are)
          (may_joined (links site) (names_at site) (events_for site connection part.calls) (events_at link connection does.list) before reached.may leads.may);
      tells = subst (λ a. Tells laws client_laws site are time a (sending_all site time done.outbox.datagrams start)) (sym after_is)
          (subst (λ o. Tells laws client_laws site are time (run_links (events_at link connection does.list) here) (sending_all site time o start)) (sym outbox_is) leads.tells);
      manned = does.manned;
      clients = λ other below. subst (λ a. ClientIs a ixl other) (sym after_is) (client_at other below (same_or_other other link));
      reads = λ other below. subst (λ a. reading_of (a.ends other).client.clock ≡ now) (sym after_is) (reads_at other below (same_or_other other link));
    }
      where
        outbox_is : done.outbox.datagrams ≡ (outbox_after now does.list (here.ends link).client.link part.outbox).datagrams
        outbox_is = ap (λ o. o.datagrams) (does.makes.outbox_is ∙ ap (λ l. outbox_after now does.list l part.outbox) old_link)
