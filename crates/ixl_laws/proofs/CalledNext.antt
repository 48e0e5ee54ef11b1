-- One more list of calls at one client.
use Rattle.std.proofs.Common.{◌≡◌, ◌⊎◌, inl, inr, ℕ, Bool, true, false, List, [], ◌++◌, append_assoc, append-nil, refl, ap, sym, ◌∙◌, subst}
use Rattle.std.specs.Prelude.{Option, Some, None}
use Rattle.std.proofs.lemmas.Bool.{true≢false}
use Rattle.std.proofs.lemmas.List.{map-append}
use Rattle.ixl_state.specs.rasta_core.Outbox.{OutboxState}
use Rattle.ixl_state.specs.rasta_core.State.{LinkState, is_open}
use Rattle.ixl_state.specs.ixl_client.Client.{ClientState}
use Rattle.ixl_state.specs.ixl_client.Made.{Makes, MakesOwn, link_after}
use Rattle.ixl_state.specs.ixl_client.ClientSoFar as client
use Rattle.ixl_state.specs.ixl_client.ClientSoFar.{LinkCall, begun}
use Rattle.ixl_state.specs.ixl_spec.StepSoFar.{Node, StepSoFar, noted}
use Rattle.ixl_state.specs.ixl_spec.State.{IxlState}
use Rattle.ixl_state.specs.ixl_spec.Step.{client_at}
use Rattle.ixl_laws.specs.Called.{datagrams_of}
use Rattle.ixl_laws.specs.Nodes.{is_node, of_node}
use Rattle.ixl_laws.proofs.CallLists.{handed_out_behind, handed_out_joined, links_joined, own_joined, own_take_no_more}
use Rattle.ixl_laws.proofs.CalledSoFar.{Called, CalledAt, SoFar, alike, labelled, unlabelled, unlabelled_labels}
use Rattle.ixl_laws.proofs.Clients.{Puts}
use Rattle.ixl_laws.proofs.Nodes.{node_same, noted_elsewhere, noted_here}

module _ (now : ℕ) (first : IxlState) (receipt : Node → List LinkCall) where
  -- it leaves a closed link closed, or nothing is received at all
  abbrev pub OpensNothing : Node → ClientState → client.ClientSoFar → Type 0
  OpensNothing node old done = (is_open old.link.phase ≡ false → is_open done.client.link.phase ≡ false) ⊎ (receipt node ≡ [])

  pub record Does (node : Node) (old : ClientState) (outbox : OutboxState) (done : client.ClientSoFar) : Type 0 where
    pub makes : MakesOwn now (begun old outbox) done
    pub acted : done.acted ≡ []
    pub same : done.client.peer ≡ old.peer
    pub opens : OpensNothing node old done

  module _ (node : Node) (old : ClientState) (outbox : OutboxState) (done : client.ClientSoFar) (does : Does node old outbox done) where
    abbrev list : List LinkCall
    list = does.makes.0

    abbrev makes : Makes now list (begun old outbox) done
    makes = does.makes.1

    -- the datagrams that they hand out
    abbrev pub handed_out : List (List ℕ)
    handed_out = datagrams_of now list old.link

    module _ (calls : List LinkCall) (acted sent : List (List ℕ)) (start : ClientState) (so_far : Called now first receipt node calls acted sent start old) where
      was_open : is_open done.client.link.phase ≡ true → (receipt node ≡ []) ⊎ (is_open old.link.phase ≡ true)
      was_open opened = by_kind does.opens (is_open old.link.phase) refl where
        by_kind : OpensNothing node old done → (b : Bool) → is_open old.link.phase ≡ b → (receipt node ≡ []) ⊎ (is_open old.link.phase ≡ true)
        by_kind (inr none) b is = inl none
        by_kind (inl shuts) true is = inr is
        by_kind (inl shuts) false is = absurd (true≢false (sym opened ∙ shuts is))

      whole : is_open done.client.link.phase ≡ true → so_far.items.dropped ≡ []
      whole opened = by_kind (was_open opened) where
        by_kind : (receipt node ≡ []) ⊎ (is_open old.link.phase ≡ true) → so_far.items.dropped ≡ []
        by_kind (inl none) = so_far.nothing none
        by_kind (inr was) = so_far.items.whole was

      further : Called now first receipt node (calls ++ list) acted (sent ++ handed_out) start done.client
      further = record {
        link = makes.link_is ∙ ap (link_after now list) so_far.link ∙ sym (links_joined now calls list start.link);
        same = does.same ∙ so_far.same;
        datagrams = ap (λ some. some ++ handed_out) so_far.datagrams
            ∙ ap (λ (link : LinkState). datagrams_of now calls start.link ++ datagrams_of now list link) so_far.link ∙ sym (handed_out_joined now calls list start.link);
        receives = record {
          own = so_far.receives.own ++ list;
          calls_are = ap (λ some. some ++ list) so_far.receives.calls_are ∙ append_assoc (receipt node) so_far.receives.own list;
          take_nothing = own_joined so_far.receives.own list so_far.receives.take_nothing does.makes.2;
        };
        items = record {
          dropped = so_far.items.dropped;
          beginning = own_take_no_more now calls list start.link does.makes.2 ∙ so_far.items.beginning;
          whole = whole;
        };
        nothing = so_far.nothing;
      }

    -- at this controller
    further_at : (calls : List LinkCall) (acted sent : List (List ℕ)) (start : Option ClientState) → CalledAt now first receipt node calls acted sent start (Some old) →
        CalledAt now first receipt node (calls ++ list) acted (sent ++ handed_out) start (Some done.client)
    further_at calls acted sent None so_far = absurd so_far
    further_at calls acted sent (Some start) so_far = further calls acted sent start so_far

  pub called_next : (node : Node) (old : ClientState) (part : StepSoFar) (done : client.ClientSoFar) (ixl : IxlState) → client_at node part.ixl ≡ Some old → Does node old part.outbox done → Puts node done.client part.ixl ixl →
      SoFar now first receipt part → SoFar now first receipt (record (noted node done part) { ixl = ixl })
  called_next node old part done ixl there does puts so_far = record {
    sent = so_far.sent ++ labelled node new;
    outbox = ap (λ (box : OutboxState). box.datagrams) does.makes.1.outbox_is ∙ handed_out_behind now does.makes.0 old.link part.outbox
        ∙ ap (λ datagrams. datagrams ++ new) so_far.outbox ∙ ap (λ datagrams. unlabelled so_far.sent ++ datagrams) (sym (unlabelled_labels node new))
        ∙ sym (map-append (λ (one : Node × List ℕ). one.1) so_far.sent (labelled node new));
    each = λ other. by_node other (is_node other node) refl;
  } where
    new : List (List ℕ)
    new = handed_out node old part.outbox done does

    calls_after : List (Node × LinkCall)
    calls_after = (noted node done part).calls

    acted_after : List (Node × List ℕ)
    acted_after = (noted node done part).acted

    sent_after : List (Node × List ℕ)
    sent_after = so_far.sent ++ labelled node new

    here : CalledAt now first receipt node (of_node node calls_after) (of_node node acted_after) (of_node node sent_after) (client_at node first) (client_at node ixl)
    here = alike now first receipt node (of_node node part.calls ++ does.makes.0) _ (of_node node part.acted) _ (of_node node so_far.sent ++ new) _ (Some done.client) _
        (noted_here node part.calls done.calls ∙ ap (λ list. of_node node part.calls ++ list) does.makes.1.calls_are)
        (noted_here node part.acted done.acted ∙ ap (λ list. of_node node part.acted ++ list) does.acted ∙ append-nil (of_node node part.acted))
        (noted_here node so_far.sent new) puts.here
        (further_at node old part.outbox done does (of_node node part.calls) (of_node node part.acted) (of_node node so_far.sent) (client_at node first)
        (subst (CalledAt now first receipt node (of_node node part.calls) (of_node node part.acted) (of_node node so_far.sent) (client_at node first)) there (so_far.each node)))

    by_node : (other : Node) (b : Bool) → is_node other node ≡ b → CalledAt now first receipt other (of_node other calls_after) (of_node other acted_after) (of_node other sent_after) (client_at other first) (client_at other ixl)
    by_node other true is = subst (λ n. CalledAt now first receipt n (of_node n calls_after) (of_node n acted_after) (of_node n sent_after) (client_at n first) (client_at n ixl)) (sym (node_same other node is)) here
    by_node other false apart = alike now first receipt other (of_node other part.calls) _ (of_node other part.acted) _ (of_node other so_far.sent) _ (client_at other part.ixl) _
        (noted_elsewhere other node part.calls done.calls apart) (noted_elsewhere other node part.acted done.acted apart) (noted_elsewhere other node so_far.sent new apart)
        (puts.elsewhere other apart) (so_far.each other)
