-- A step so far: what was done at each controller is a list of calls of its link.
use Rattle.std.proofs.Common.{◌≡◌, ℕ, List, [], ◌∷◌, refl, ap, sym, subst}
use Rattle.std.specs.Prelude.{map, Option, Some, None}
use Rattle.ixl_state.specs.ixl_client.Client.{ClientState}
use Rattle.ixl_state.specs.ixl_client.Made.{link_after}
use Rattle.ixl_state.specs.ixl_client.ClientSoFar.{LinkCall}
use Rattle.ixl_state.specs.ixl_spec.StepSoFar.{Node, StepSoFar}
use Rattle.ixl_state.specs.ixl_spec.State.{IxlState}
use Rattle.ixl_state.specs.ixl_spec.Step.{client_at}
use Rattle.ixl_laws.specs.Called.{ActsOnTaken, ReceivesFirst, datagrams_of, items_taken}
use Rattle.ixl_laws.specs.Nodes.{of_node}

-- datagrams, each with the controller for which it was handed out
abbrev pub labelled : Node → List (List ℕ) → List (Node × List ℕ)
labelled node datagrams = map (λ one. (node, one)) datagrams

abbrev pub unlabelled : List (Node × List ℕ) → List (List ℕ)
unlabelled sent = map (λ (one : Node × List ℕ). one.1) sent

pub unlabelled_labels : (node : Node) (datagrams : List (List ℕ)) → unlabelled (labelled node datagrams) ≡ datagrams
unlabelled_labels node [] = refl
unlabelled_labels node (first ∷ others) = ap (λ list. first ∷ list) (unlabelled_labels node others)

-- from an interlocking on, with the receipt that comes first at each controller
module _ (now : ℕ) (first : IxlState) (receipt : Node → List LinkCall) where
  pub record Called (node : Node) (calls : List LinkCall) (acted sent : List (List ℕ)) (old new : ClientState) : Type 0 where
    pub link : new.link ≡ link_after now calls old.link
    pub same : new.peer ≡ old.peer
    pub datagrams : sent ≡ datagrams_of now calls old.link
    pub receives : ReceivesFirst (receipt node) calls
    pub items : ActsOnTaken (items_taken now calls old.link) acted new.link
    -- where no datagram is received nothing can be dropped
    pub nothing : receipt node ≡ [] → items.dropped ≡ []

  abbrev pub CalledAt : Node → List LinkCall → List (List ℕ) → List (List ℕ) → Option ClientState → Option ClientState → Type 0
  CalledAt node calls acted sent None None = (calls ≡ []) × (sent ≡ [])
  CalledAt node calls acted sent None (Some new) = ⊥
  CalledAt node calls acted sent (Some old) None = ⊥
  CalledAt node calls acted sent (Some old) (Some new) = Called node calls acted sent old new

  pub record SoFar (part : StepSoFar) : Type 0 where
    pub sent : List (Node × List ℕ)
    pub outbox : part.outbox.datagrams ≡ unlabelled sent
    pub each : (node : Node) → CalledAt node (of_node node part.calls) (of_node node part.acted) (of_node node sent) (client_at node first) (client_at node part.ixl)

  -- the lists of a controller that are the same
  pub alike : (other : Node) (calls more : List LinkCall) (acted more_acted sent more_sent : List (List ℕ)) (now_at then_at : Option ClientState) → more ≡ calls → more_acted ≡ acted → more_sent ≡ sent → then_at ≡ now_at →
      CalledAt other calls acted sent (client_at other first) now_at → CalledAt other more more_acted more_sent (client_at other first) then_at
  alike other calls more acted more_acted sent more_sent now_at then_at calls_is acted_is sent_is at_is is =
      subst (λ list. CalledAt other list more_acted more_sent (client_at other first) then_at) (sym calls_is)
      (subst (λ list. CalledAt other calls list more_sent (client_at other first) then_at) (sym acted_is)
      (subst (λ list. CalledAt other calls acted list (client_at other first) then_at) (sym sent_is)
      (subst (CalledAt other calls acted sent (client_at other first)) (sym at_is) is)))

  -- an interlocking with the same clients
  pub same_clients : (part : StepSoFar) (ixl : IxlState) → ((node : Node) → client_at node ixl ≡ client_at node part.ixl) → SoFar part → SoFar (record part { ixl = ixl })
  same_clients part ixl same so_far = record {
    sent = so_far.sent;
    outbox = so_far.outbox;
    each = λ node. subst (CalledAt node (of_node node part.calls) (of_node node part.acted) (of_node node so_far.sent) (client_at node first)) (sym (same node)) (so_far.each node);
  }
