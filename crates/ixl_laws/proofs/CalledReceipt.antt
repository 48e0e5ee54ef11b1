-- A datagram is received by one controller's link, and by no other.
use Rattle.std.proofs.Common.{◌≡◌, ◌⊎◌, inl, inr, ℕ, Bool, true, false, List, [], ◌∷◌, ◌++◌, append-nil, refl, ap, sym, ◌∙◌, subst}
use Rattle.std.specs.Prelude.{Option, Some, None}
use Rattle.std.proofs.lemmas.Bool.{false≢true}
use Rattle.ixl_state.specs.rasta_core.Calls.{receiving}
use Rattle.ixl_state.specs.rasta_core.Outbox.{OutboxState}
use Rattle.ixl_state.specs.ixl_client.Client.{ClientState}
use Rattle.ixl_state.specs.ixl_client.Made.{ActsOn, MakesAfterReceipt, link_after, outbox_after}
use Rattle.ixl_state.specs.ixl_client.ClientSoFar as client
use Rattle.ixl_state.specs.ixl_client.ClientSoFar.{LinkCall, Receives, begun}
use Rattle.ixl_state.specs.ixl_client.Step.{hearing}
use Rattle.ixl_state.specs.ixl_spec.StepSoFar.{Node, StepSoFar, begun_with, empty_outbox, noted}
use Rattle.ixl_state.specs.ixl_spec.State.{IxlState}
use Rattle.ixl_state.specs.ixl_spec.Step.{client_at}
use Rattle.ixl_state.specs.ixl_spec.Table.{Table}
use Rattle.ixl_laws.specs.Called.{datagrams_of, is_listed, items_taken, receipt_by}
use Rattle.ixl_laws.specs.Nodes.{is_node, of_node}
use Rattle.ixl_laws.proofs.CallLists.{own_take_nothing}
use Rattle.ixl_laws.proofs.CalledSoFar.{Called, CalledAt, SoFar, alike, labelled, unlabelled_labels}
use Rattle.ixl_laws.proofs.CalledSteps.{ClientLaws}
use Rattle.ixl_laws.proofs.Clients.{Puts}
use Rattle.ixl_laws.proofs.Nodes.{node_same, node_self, of_another, of_itself}
use Rattle.ixl_laws.proofs.PickedByTest.{none_is}

one_is_none : {A : Type 0} {one : A} {others : List A} → one ∷ others ≡ [] → ⊥
one_is_none {A} {one} {others} is = false≢true (ap is_empty is) where
  is_empty : List A → Bool
  is_empty [] = true
  is_empty (first ∷ others) = false

module _ (now : ℕ) (first : IxlState) where
  abbrev begins : StepSoFar
  begins = begun_with first empty_outbox

  -- ---- nothing was called yet

  module _ (receipt : Node → List LinkCall) where
    -- no datagram comes to a controller that there is
    abbrev pub Nothing : Node → Type 0
    Nothing node = (client_at node first ≡ None) ⊎ (receipt node ≡ [])

    untouched : (node : Node) → Nothing node → (kept : Option ClientState) → client_at node first ≡ kept → CalledAt now first receipt node [] [] [] kept kept
    unfolding link_after outbox_after items_taken
    untouched node nothing None is = (refl, refl)
    untouched node (inl nobody) (Some old) is = absurd (none_is (sym nobody ∙ is))
    untouched node (inr none) (Some old) is = record {
      link = refl;
      same = refl;
      datagrams = refl;
      receives = record { own = []; calls_are = sym (append-nil (receipt node) ∙ none); take_nothing = tt };
      items = record { dropped = []; beginning = refl; whole = λ opened. refl };
      nothing = λ also. refl;
    }

    pub nothing_called : ((node : Node) → Nothing node) → SoFar now first receipt begins
    unfolding of_node
    nothing_called nothing = record { sent = []; outbox = refl; each = λ node. untouched node (nothing node) (client_at node first) refl }

  -- ---- a datagram is received

  module _ (laws : ClientLaws now) (table : Table) (bytes : List ℕ) (sender : Node) where
    abbrev receipt : Node → List LinkCall
    receipt = receipt_by table bytes (Some sender)

    elsewhere : (node : Node) → is_node node sender ≡ false → receipt node ≡ []
    elsewhere node apart = rw apart refl

    here : is_listed table sender ≡ true → receipt sender ≡ Receives bytes ∷ []
    here listed = rw (node_self sender, listed) refl

    -- where there is no sender, or it isn't listed
    pub nobody : client_at sender first ≡ None → SoFar now first receipt begins
    nobody none = nothing_called receipt (λ node. by_node node (is_node node sender) refl) where
      by_node : (node : Node) (b : Bool) → is_node node sender ≡ b → Nothing receipt node
      by_node node true is = inl (subst (λ n. client_at n first ≡ None) (sym (node_same node sender is)) none)
      by_node node false apart = inr (elsewhere node apart)

    pub unlisted : is_listed table sender ≡ false → SoFar now first receipt begins
    unlisted none = nothing_called receipt (λ node. inr (by_node node (is_node node sender) refl)) where
      by_node : (node : Node) (b : Bool) → is_node node sender ≡ b → receipt node ≡ []
      by_node node true is = subst (λ n. receipt n ≡ []) (sym (node_same node sender is)) (rw (node_self sender, none) refl)
      by_node node false apart = elsewhere node apart

    module _ (old : ClientState) (there : client_at sender first ≡ Some old) (listed : is_listed table sender ≡ true) where
      abbrev pub done : client.ClientSoFar
      done = hearing now bytes (begun old empty_outbox)

      made : MakesAfterReceipt now bytes (begun old empty_outbox) done
      made = laws.receipt bytes (begun old empty_outbox)

      acts : ActsOn now bytes (begun old empty_outbox) done
      acts = laws.acts bytes (begun old empty_outbox)

      abbrev list : List LinkCall
      list = Receives bytes ∷ made.0

      abbrev sent : List (List ℕ)
      sent = datagrams_of now list old.link

      called_there : Called now first receipt sender list acts.items sent old done.client
      unfolding items_taken
      called_there = record {
        link = made.1.link_is;
        same = laws.same_receipt bytes (begun old empty_outbox);
        datagrams = refl;
        receives = record { own = made.0; calls_are = ap (λ calls. calls ++ made.0) (sym (here listed)); take_nothing = made.2 };
        items = record {
          dropped = acts.dropped;
          beginning = ap (λ items. (receiving now bytes old.link).items ++ items) (own_take_nothing now made.0 _ made.2) ∙ append-nil (receiving now bytes old.link).items ∙ acts.beginning;
          whole = acts.whole;
        };
        nothing = λ none. absurd (one_is_none (sym (here listed) ∙ none));
      }

      module _ (ixl : IxlState) (puts : Puts sender done.client first ixl) where
        behind : StepSoFar
        behind = record (noted sender done begins) { ixl = ixl }

        abbrev CalledBehind : Node → Type 0
        CalledBehind node = CalledAt now first receipt node (of_node node (noted sender done begins).calls) (of_node node (noted sender done begins).acted) (of_node node (labelled sender sent)) (client_at node first) (client_at node ixl)

        called_here : CalledBehind sender
        called_here = alike now first receipt sender list _ acts.items _ sent _ (Some done.client) _
            (of_itself sender sender done.calls (node_self sender) ∙ made.1.calls_are) (of_itself sender sender done.acted (node_self sender) ∙ acts.acted)
            (of_itself sender sender sent (node_self sender)) puts.here
            (subst (λ kept. CalledAt now first receipt sender list acts.items sent kept (Some done.client)) (sym there) called_there)

        by_node : (node : Node) (b : Bool) → is_node node sender ≡ b → CalledBehind node
        by_node node true is = subst CalledBehind (sym (node_same node sender is)) called_here
        by_node node false apart = alike now first receipt node [] _ [] _ [] _ (client_at node first) _
            (of_another node sender done.calls apart) (of_another node sender done.acted apart) (of_another node sender sent apart) (puts.elsewhere node apart)
            (untouched receipt node (inr (elsewhere node apart)) (client_at node first) refl)

        pub received : SoFar now first receipt (record (noted sender done begins) { ixl = ixl })
        received = record {
          sent = labelled sender sent;
          outbox = ap (λ (outbox : OutboxState). outbox.datagrams) made.1.outbox_is ∙ sym (unlabelled_labels sender sent);
          each = λ node. by_node node (is_node node sender) refl;
        }
