-- A step so far: its outbox is what its calls hand out, one after another.
use Rattle.std.proofs.Common.{◌≡◌, ℕ, zero, suc, Bool, true, false, List, [], ◌∷◌, ◌++◌, append_assoc, length, refl, ap, sym, ◌∙◌, subst}
use Rattle.std.specs.Prelude.{map, Option, Some, option_map}
use Rattle.ixl_state.specs.rasta_core.Outbox.{OutboxState}
use Rattle.ixl_state.specs.rasta_core.State.{LinkState}
use Rattle.ixl_state.specs.ixl_client.Client.{ClientState}
use Rattle.ixl_state.specs.ixl_client.Made.{Makes, link_after, outbox_after}
use Rattle.ixl_state.specs.ixl_client.ClientSoFar as client
use Rattle.ixl_state.specs.ixl_client.ClientSoFar.{LinkCall, begun, call_made}
use Rattle.ixl_state.specs.ixl_spec.StepSoFar.{Node, StepSoFar, noted}
use Rattle.ixl_state.specs.ixl_spec.State.{IxlState, changed}
use Rattle.ixl_state.specs.ixl_spec.Step.{client_at}
use Rattle.ixl_laws.specs.Called.{datagrams_of}
use Rattle.ixl_laws.specs.Nodes.{is_node}
use Rattle.ixl_laws.specs.Order.{datagrams_by, handed_out, links_behind}
use Rattle.ixl_laws.proofs.CallLists.{handed_out_behind, handed_out_joined}
use Rattle.ixl_laws.proofs.Clients.{Puts}
use Rattle.ixl_laws.proofs.Nodes.{node_same, node_self}
use Rattle.ixl_laws.proofs.PickedByTest.{some_same}

pub changed_length : {A : Type 0} (change : A → A) (place : ℕ) (list : List A) → length (changed change place list) ≡ length list
changed_length change place [] = refl
changed_length change zero (first ∷ others) = refl
changed_length change (suc place) (first ∷ others) = ap suc (changed_length change place others)

-- ---- calls of several links

unfoldable pub links_after : ℕ → List (Node × LinkCall) → (Node → Option LinkState) → Node → Option LinkState
links_after now [] links = links
links_after now (first ∷ others) links = links_after now others (links_behind now first links)

abbrev pub at_one : Node → List LinkCall → List (Node × LinkCall)
at_one node calls = map (λ call. (node, call)) calls

links_joined : (now : ℕ) (some more : List (Node × LinkCall)) (links : Node → Option LinkState) → links_after now (some ++ more) links ≡ links_after now more (links_after now some links)
unfolding links_after
links_joined now [] more links = refl
links_joined now (first ∷ others) more links = links_joined now others more (links_behind now first links)

outs_joined : (now : ℕ) (some more : List (Node × LinkCall)) (links : Node → Option LinkState) → handed_out now (some ++ more) links ≡ handed_out now some links ++ handed_out now more (links_after now some links)
unfolding links_after handed_out
outs_joined now [] more links = refl
outs_joined now (first ∷ others) more links =
    ap (λ out. datagrams_by now first.1 (links first.0) ++ out) (outs_joined now others more (links_behind now first links))
    ∙ sym (append_assoc (datagrams_by now first.1 (links first.0)) (handed_out now others (links_behind now first links)) _)

behind_here : (now : ℕ) (node : Node) (call : LinkCall) (links : Node → Option LinkState) (link : LinkState) → links node ≡ Some link → links_behind now (node, call) links node ≡ Some (call_made now call link).link
behind_here now node call links link is = rw (node_self node, is) refl

behind_elsewhere : (now : ℕ) (node other : Node) (call : LinkCall) (links : Node → Option LinkState) → is_node other node ≡ false → links_behind now (node, call) links other ≡ links other
behind_elsewhere now node other call links apart = rw apart refl

one_out : (now : ℕ) (node : Node) (calls : List LinkCall) (links : Node → Option LinkState) (link : LinkState) → links node ≡ Some link → handed_out now (at_one node calls) links ≡ datagrams_of now calls link
unfolding handed_out outbox_after link_after
one_out now node [] links link is = refl
one_out now node (call ∷ calls) links link is =
    ap (λ kept. datagrams_by now call kept ++ handed_out now (at_one node calls) (links_behind now (node, call) links)) is
    ∙ ap (λ out. datagrams_of now (call ∷ []) link ++ out) (one_out now node calls (links_behind now (node, call) links) (call_made now call link).link (behind_here now node call links link is))
    ∙ sym (joined calls)
  where
    joined : (more : List LinkCall) → datagrams_of now (call ∷ more) link ≡ datagrams_of now (call ∷ []) link ++ datagrams_of now more (call_made now call link).link
    joined more = handed_out_joined now (call ∷ []) more link

one_here : (now : ℕ) (node : Node) (calls : List LinkCall) (links : Node → Option LinkState) (link : LinkState) → links node ≡ Some link → links_after now (at_one node calls) links node ≡ Some (link_after now calls link)
unfolding links_after link_after
one_here now node [] links link is = is
one_here now node (call ∷ calls) links link is = one_here now node calls (links_behind now (node, call) links) (call_made now call link).link (behind_here now node call links link is)

one_elsewhere : (now : ℕ) (node other : Node) (calls : List LinkCall) (links : Node → Option LinkState) → is_node other node ≡ false → links_after now (at_one node calls) links other ≡ links other
unfolding links_after
one_elsewhere now node other [] links apart = refl
one_elsewhere now node other (call ∷ calls) links apart = one_elsewhere now node other calls (links_behind now (node, call) links) apart ∙ behind_elsewhere now node other call links apart

-- ---- a step so far

-- there are as many controllers of each kind
pub record SameSizes (a b : IxlState) : Type 0 where
  pub signals : length b.known_signals ≡ length a.known_signals
  pub points : length b.known_points ≡ length a.known_points
  pub detectors : length b.detectors ≡ length a.detectors

pub sizes_then : (a b c : IxlState) → SameSizes a b → SameSizes b c → SameSizes a c
sizes_then a b c one next = record { signals = next.signals ∙ one.signals; points = next.points ∙ one.points; detectors = next.detectors ∙ one.detectors }

abbrev pub link_of : Option ClientState → Option LinkState
link_of kept = option_map (λ (one : ClientState). one.link) kept

-- this client speaks with the controller with which one spoke there before
abbrev pub SpeaksAs : IxlState → Node → ClientState → Type 0
SpeaksAs start node one = (was : ClientState) × (client_at node start ≡ Some was) × (one.peer ≡ was.peer)

module _ (now : ℕ) (links : Node → Option LinkState) (start : IxlState) where
  pub record Ordered (part : StepSoFar) : Type 0 where
    pub outbox : part.outbox.datagrams ≡ handed_out now part.calls links
    pub links_are : (node : Node) → links_after now part.calls links node ≡ link_of (client_at node part.ixl)
    pub peers : (node : Node) (one : ClientState) → client_at node part.ixl ≡ Some one → SpeaksAs start node one
    pub sizes : SameSizes start part.ixl

  pub begins_ordered : (part : StepSoFar) → part.outbox.datagrams ≡ [] → part.calls ≡ [] → ((node : Node) → links node ≡ link_of (client_at node part.ixl)) →
      ((node : Node) (one : ClientState) → client_at node part.ixl ≡ Some one → SpeaksAs start node one) → SameSizes start part.ixl → Ordered part
  unfolding handed_out links_after
  begins_ordered part outbox calls are peers sizes = record {
    outbox = outbox ∙ ap (λ list. handed_out now list links) (sym calls);
    links_are = λ node. ap (λ list. links_after now list links node) calls ∙ are node;
    peers = peers;
    sizes = sizes;
  }

  -- only routes change, or what is kept beside the clients
  pub same_ordered : (part : StepSoFar) (ixl : IxlState) → ((node : Node) → client_at node ixl ≡ client_at node part.ixl) → SameSizes part.ixl ixl → Ordered part → Ordered (record part { ixl = ixl })
  same_ordered part ixl same sizes is = record {
    outbox = is.outbox;
    links_are = λ node. is.links_are node ∙ ap link_of (sym (same node));
    peers = λ node one there. is.peers node one (sym (same node) ∙ there);
    sizes = sizes_then start part.ixl ixl is.sizes sizes;
  }

  pub next_ordered : (node : Node) (old : ClientState) (part : StepSoFar) (done : client.ClientSoFar) (ixl : IxlState) (list : List LinkCall) → client_at node part.ixl ≡ Some old →
      Makes now list (begun old part.outbox) done → done.client.peer ≡ old.peer → Puts node done.client part.ixl ixl → SameSizes part.ixl ixl → Ordered part → Ordered (record (noted node done part) { ixl = ixl })
  next_ordered node old part done ixl list there makes same puts sizes is = record {
    outbox = ap (λ (box : OutboxState). box.datagrams) makes.outbox_is ∙ handed_out_behind now list old.link part.outbox
        ∙ ap (λ out. out ++ datagrams_of now list old.link) is.outbox
        ∙ ap (λ out. handed_out now part.calls links ++ out) (sym (one_out now node list (links_after now part.calls links) old.link link_there))
        ∙ sym (outs_joined now part.calls (at_one node list) links) ∙ ap (λ calls. handed_out now (part.calls ++ at_one node calls) links) (sym makes.calls_are);
    links_are = λ other. ap (λ calls. links_after now (part.calls ++ at_one node calls) links other) makes.calls_are
        ∙ ap (λ (found : Node → Option LinkState). found other) (links_joined now part.calls (at_one node list) links) ∙ link_at other (is_node other node) refl;
    peers = λ other one at. peer_at other one at (is_node other node) refl;
    sizes = sizes_then start part.ixl ixl is.sizes sizes;
  } where
    link_there : links_after now part.calls links node ≡ Some old.link
    link_there = is.links_are node ∙ ap link_of there

    link_at : (other : Node) (b : Bool) → is_node other node ≡ b → links_after now (at_one node list) (links_after now part.calls links) other ≡ link_of (client_at other ixl)
    link_at other true here = subst (λ n. links_after now (at_one node list) (links_after now part.calls links) n ≡ link_of (client_at n ixl)) (sym (node_same other node here))
        (one_here now node list (links_after now part.calls links) old.link link_there ∙ ap Some (sym makes.link_is) ∙ ap link_of (sym puts.here))
    link_at other false apart =
        one_elsewhere now node other list (links_after now part.calls links) apart ∙ is.links_are other ∙ ap link_of (sym (puts.elsewhere other apart))

    peer_at : (other : Node) (one : ClientState) → client_at other ixl ≡ Some one → (b : Bool) → is_node other node ≡ b → SpeaksAs start other one
    peer_at other one at true here =
        let was = is.peers node old there
        in let found : done.client ≡ one = some_same (sym puts.here ∙ ap (λ n. client_at n ixl) (sym (node_same other node here)) ∙ at)
        in subst (λ n. SpeaksAs start n one) (sym (node_same other node here)) (was.0, was.1, ap (λ (c : ClientState). c.peer) (sym found) ∙ same ∙ was.2)
    peer_at other one at false apart = is.peers other one (sym (puts.elsewhere other apart) ∙ at)
