-- What comes to an end keeps the exact order of both.
use Rattle.std.proofs.Common.{◌≡◌, ℕ, inl, inr, Bool, true, false, ◌&&◌, not, if◌then◌else◌, List, [], ◌++◌, Some, None, Result, Ok, Err, refl, sym, ap, subst, ◌∙◌, arith}
use Rattle.std.specs.Prelude.{◌==◌, nat_le}
use Rattle.rasta_core_spec.specs.Parameters.{connection_limit}
use Rattle.rasta_core_spec.specs.State.{LinkState, is_open, is_client}
use Rattle.rasta_core_spec.specs.Clock.{deadline, settled, state_at}
use Rattle.rasta_core_spec.specs.PdusHandedOut.{Step, silent, entered, limited, telling, sending}
use Rattle.rasta_core_spec.specs.Establishment.{granting, own_opening}
use Rattle.rasta_core_spec.specs.Receipt.{Receipt, accepting, hearing}
use Rattle.rasta_core_spec.specs.Calls.{receiving, hearing_bytes}
use Rattle.rasta_core_spec.specs.identity.Identity.{Identity}
use Rattle.rasta_core_spec.specs.identity.Role.{Role}
use Rattle.rasta_core_spec.specs.identity.Role.TheVariants as role
use Rattle.rasta_core_spec.specs.phase.State.TheVariants as state
use Rattle.rasta_core_spec.specs.reason.Reason.TheVariants as reason
use Rattle.rasta_core_spec.specs.verdict.Verdict.{Verdict}
use Rattle.rasta_core_spec.specs.verdict.Verdict.TheVariants as verdict
use Rattle.rasta_core_spec.specs.Ends.{Outcome, Receives, Sent, outcome, reading_of, entered_by, is_taken}
use Rattle.rasta_core_spec.specs.Run.{Ends, called, end_of}
use Rattle.rasta_core.specs.EndFlow.{EndFlow, IsOf, IsAt}
use Rattle.rasta_core.specs.Order.{Carries, InOrder}
use Rattle.rasta_core.specs.LinkAndFlow.{GoesOn}
use Rattle.rasta_core.specs.FirstPdus.{EarlyGoesOn, Grants, HearsOutside, refuses, grants}
use Rattle.rasta_core_spec.specs.Names.{AreNames, Names}
use Rattle.rasta_core.specs.Invariant.{Timely}
use Rattle.rasta_core.specs.Ordered.{Ordered}
use Rattle.rasta_core_spec.specs.Events.{IsDelivered, MayCall}
use Rattle.rasta_core_spec.specs.Sentences.{IsOpening}
use Rattle.rasta_core_spec.specs.pdu.Pdu.{Pdu}
use Rattle.rasta_core_spec.specs.body.Opening.{Opening}
use Rattle.rasta_core_spec.specs.body.Body.TheVariants.{ConnectionRequest}
use Rattle.rasta_core_spec.specs.pdu_fault.PduFault.{PduFault}
use Rattle.rasta_core_spec.specs.key.Key.{Key}
use Rattle.rasta_core_spec.specs.PduRead.{reading}
use Rattle.rasta_core_spec.specs.Each.{Each}
use Rattle.rasta_core_spec.specs.Values.{IsPdu}
use Rattle.caught_up_laws.specs.Exact.{AreTogether, Exact, IsAlone, alone, together, unbegun}
use Rattle.caught_up_laws.specs.inside.Laws.{Laws}
use Rattle.caught_up_laws.proofs.Lists.{both_true, by_test}
use Rattle.caught_up_laws.proofs.Made.{made_at, server_granted}
use Rattle.caught_up_laws.proofs.Calls.{client_call, server_call, swap, server_key, client_key, same_ends, server_silent}
use Rattle.caught_up_laws.proofs.Comes.{Comes, IsMeant, comes, for_me, in_flow, nothing_comes, nothing_sent, of_last}

not_true : (one : Bool) → not one ≡ true → one ≡ false
not_true true e = absurd (cc (e))
not_true false e = refl

open_where_taken : (opened took : Bool) → (not opened && took) ≡ false → took ≡ true → opened ≡ true
open_where_taken true took e t = refl
open_where_taken false true e t = absurd (cc (e))
open_where_taken false false e t = absurd (cc (t))

taken_is : (what : Verdict) → is_taken what ≡ true → what ≡ verdict.Taken
taken_is what e = grind (arith, e)

-- a grant, as bytes bring it
granted_receipt : (now : ℕ) (link : LinkState) (bytes : List ℕ) (pdu : Pdu) (client : EndFlow) → reading link.identity.key bytes ≡ Ok pdu
    → hearing pdu (entered now link).link ≡ accepting (granting pdu own_opening (entered now link).link) → (entered now link).pdus ≡ []
    → Grants client (granting pdu own_opening (entered now link).link).link (granting pdu own_opening (entered now link).link).pdus
    → Grants client (receiving now bytes link).link (receiving now bytes link).pdus
unfolding receiving hearing_bytes
granted_receipt now link bytes pdu client read heard quiet granted =
    subst (λ (found : Result Pdu PduFault). Grants client (hearing_bytes found (entered now link).link).link ((entered now link).pdus ++ (hearing_bytes found (entered now link).link).pdus)) (sym read)
    (subst (λ (receipt : Receipt). Grants client receipt.link ((entered now link).pdus ++ receipt.pdus)) (sym heard)
    (subst (λ (pdus : List Pdu). Grants client (granting pdu own_opening (entered now link).link).link (pdus ++ (granting pdu own_opening (entered now link).link).pdus)) (sym quiet) granted))

its_verdict : (now : ℕ) (link : LinkState) (bytes : List ℕ) (pdu : Pdu) (receipt : Receipt) → reading link.identity.key bytes ≡ Ok pdu
    → hearing pdu (entered now link).link ≡ receipt → (receiving now bytes link).verdict ≡ receipt.verdict
unfolding receiving hearing_bytes
its_verdict now link bytes pdu receipt read heard =
    ap (λ (found : Result Pdu PduFault). (hearing_bytes found (entered now link).link).verdict) read ∙ ap (λ (r : Receipt). r.verdict) heard

its_items : (now : ℕ) (link : LinkState) (bytes : List ℕ) (pdu : Pdu) (receipt : Receipt) → reading link.identity.key bytes ≡ Ok pdu
    → hearing pdu (entered now link).link ≡ receipt → (receiving now bytes link).items ≡ receipt.items
unfolding receiving hearing_bytes
its_items now link bytes pdu receipt read heard =
    ap (λ (found : Result Pdu PduFault). (hearing_bytes found (entered now link).link).items) read ∙ ap (λ (r : Receipt). r.items) heard

-- an open end that begins a call outside has just closed, and isn't down
pub told_not_down : (link : LinkState) → state_at (telling reason.Sequence link).link.clock (telling reason.Sequence link).link ≡ state.Down → ⊥
unfolding telling sending state_at deadline
told_not_down link = grind arith

limited_not_down : (link : LinkState) → is_open link.phase ≡ true → is_open (limited link).link.phase ≡ false → state_at (limited link).link.clock (limited link).link ≡ state.Down → ⊥
unfolding limited
limited_not_down link connected =
    by_test (λ (step : Step). is_open step.link.phase ≡ false → state_at step.link.clock step.link ≡ state.Down → ⊥) (is_open link.phase && nat_le connection_limit link.sent)
    (telling reason.Sequence link) (silent link) (λ e shut down. told_not_down link down) (λ e shut down. absurd (cc (connected, shut)))

not_down_then : (now : ℕ) (link : LinkState) → settled now link ≡ link → is_open link.phase ≡ true → is_open (entered now link).link.phase ≡ false
    → state_at (entered now link).link.clock (entered now link).link ≡ state.Down → ⊥
unfolding entered
not_down_then now link same connected =
    subst (λ (l : LinkState). is_open (limited l).link.phase ≡ false → state_at (limited l).link.clock (limited l).link ≡ state.Down → ⊥) (sym same) (limited_not_down link connected)

module _ (law : Laws) (names : Names) (are : AreNames names) (ends : Ends) (timely : Timely names ends) (bytes : List ℕ) (connection : ℕ) where
  -- ---- at the client

  module _ (may : MayCall names role.Client (Receives bytes connection) ends) where
    comes_to : (pdu : Pdu) → reading ends.client.link.identity.key bytes ≡ Ok pdu → IsMeant ends.client.link.identity pdu → Comes names role.Client ends bytes connection pdu
    comes_to pdu read meant = comes law names are role.Client ends timely bytes connection may pdu (subst (λ (key : Key). reading key bytes ≡ Ok pdu) (client_key law names ends timely) read)
        (subst (λ (i : Identity). IsMeant i pdu) timely.client.identity meant)

    client_hears : (is : AreTogether names ends)
        → GoesOn is.client is.server (receiving (reading_of ends.client.clock) bytes ends.client.link).link (receiving (reading_of ends.client.clock) bytes ends.client.link).pdus []
        (receiving (reading_of ends.client.clock) bytes ends.client.link).items
    client_hears is = go (reading ends.client.link.identity.key bytes) refl
      where
        now : ℕ
        now = reading_of ends.client.clock

        Goal : Type 0
        Goal = GoesOn is.client is.server (receiving now bytes ends.client.link).link (receiving now bytes ends.client.link).pdus [] (receiving now bytes ends.client.link).items

        outside : (pdu : Pdu) → reading ends.client.link.identity.key bytes ≡ Ok pdu → (receipt : Receipt) → hearing pdu (entered now ends.client.link).link ≡ receipt
            → HearsOutside pdu (entered now ends.client.link).link receipt → Goal
        outside pdu read receipt heard (refuses why not_taken same) = law.refusing_on now ends.client.link is.client is.server is.order is.client_plays bytes pdu why read (heard ∙ same)
        outside pdu read receipt heard (grants opening server body down late same) =
            absurd (cc (server, ap (λ (i : Identity). is_client i.role) (same_ends now ends.client.link ∙ timely.client.identity)))

        opened : (pdu : Pdu) → reading ends.client.link.identity.key bytes ≡ Ok pdu → IsOf pdu is.server.flow → (connected : Bool) → is_open (entered now ends.client.link).link.phase ≡ connected → Goal
        opened pdu read of true e = law.hearing_on now ends.client.link is.client is.server is.order is.client_plays bytes pdu read of e
        opened pdu read of false e = outside pdu read (hearing pdu (entered now ends.client.link).link) refl (law.hears_outside pdu (entered now ends.client.link).link e)

        of_server : (pdu : Pdu) → Comes names role.Client ends bytes connection pdu → IsOf pdu is.server.flow
        of_server pdu from = subst (IsOf pdu) is.server_flow (in_flow names role.Server is.connection from.datagram pdu ends.sent from.delivered.was_sent from.sender
            (of_last names ends timely bytes connection from.datagram from.delivered is.connection is.of_client) from.read)

        judged : (pdu : Pdu) → reading ends.client.link.identity.key bytes ≡ Ok pdu → (meant : Bool)
            → ((pdu.receiver == ends.client.link.identity.own) && (pdu.sender == ends.client.link.identity.partner)) ≡ meant → Goal
        judged pdu read true e = opened pdu read (of_server pdu (comes_to pdu read (for_me ends.client.link.identity pdu e))) (is_open (entered now ends.client.link).link.phase) refl
        judged pdu read false e = law.stranger_on now ends.client.link is.client is.server is.order is.client_plays bytes pdu read e

        go : (found : Result Pdu PduFault) → reading ends.client.link.identity.key bytes ≡ found → Goal
        go (Err fault) read = law.unreadable_on now ends.client.link is.client is.server is.order is.client_plays bytes fault read
        go (Ok pdu) read = judged pdu read ((pdu.receiver == ends.client.link.identity.own) && (pdu.sender == ends.client.link.identity.partner)) refl

    client_hears_alone : (is : IsAlone names ends)
        → EarlyGoesOn is.client (receiving (reading_of ends.client.clock) bytes ends.client.link).link (receiving (reading_of ends.client.clock) bytes ends.client.link).pdus
    client_hears_alone is = go (reading ends.client.link.identity.key bytes) refl
      where
        now : ℕ
        now = reading_of ends.client.clock

        Goal : Type 0
        Goal = EarlyGoesOn is.client (receiving now bytes ends.client.link).link (receiving now bytes ends.client.link).pdus

        judged : (pdu : Pdu) → reading ends.client.link.identity.key bytes ≡ Ok pdu → (meant : Bool)
            → ((pdu.receiver == ends.client.link.identity.own) && (pdu.sender == ends.client.link.identity.partner)) ≡ meant → Goal
        judged pdu read true e = absurd (nothing_comes names ends timely is bytes connection pdu (comes_to pdu read (for_me ends.client.link.identity pdu e)))
        judged pdu read false e = law.early_stranger now ends.client.link is.client is.early is.plays bytes pdu read e

        go : (found : Result Pdu PduFault) → reading ends.client.link.identity.key bytes ≡ found → Goal
        go (Err fault) read = law.early_unreadable now ends.client.link is.client is.early is.plays bytes fault read
        go (Ok pdu) read = judged pdu read ((pdu.receiver == ends.client.link.identity.own) && (pdu.sender == ends.client.link.identity.partner)) refl

  -- a client enters nothing by what comes
  abbrev pub took : (who : Role) → Bool
  took who = not (is_open (end_of who ends).link.phase) && is_taken (receiving (reading_of (end_of who ends).clock) bytes (end_of who ends).link).verdict

  pub opens_by : (who : Role) → MayCall names who (Receives bytes connection) ends → took who ≡ true → (datagram : Sent) × IsDelivered ends bytes connection datagram × IsOpening names who ends datagram
  opens_by who (inl sent) e =
      let are_both = both_true (not (is_open (end_of who ends).link.phase)) (is_taken (receiving (reading_of (end_of who ends).clock) bytes (end_of who ends).link).verdict) e
      in (sent.0, sent.1, law.taken_opening names ends who bytes connection sent.0 are timely sent.1 (not_true (is_open (end_of who ends).link.phase) are_both.0) are_both.1)
  opens_by who (inr other) e =
      let are_both = both_true (not (is_open (end_of who ends).link.phase)) (is_taken (receiving (reading_of (end_of who ends).clock) bytes (end_of who ends).link).verdict) e
      in absurd (cc (are_both.1, (law.idle names ends who bytes timely other).1))

  pub receives_client : MayCall names role.Client (Receives bytes connection) ends → Exact names ends → Exact names (called role.Client (Receives bytes connection) ends)
  unfolding called outcome
  receives_client may = client_call law names ends timely _ (ap (λ (b : Bool). if b then Some connection else None) (enters_none (took role.Client) refl))
      (subst_pdus (law.pdus names ends role.Client (Receives bytes connection) timely may)) (client_hears may) (client_hears_alone may)
    where
      enters_none : (b : Bool) → took role.Client ≡ b → took role.Client ≡ false
      enters_none true e = absurd (not_server (opens_by role.Client may e).2.is_server)
        where
          not_server : role.Client ≡ role.Server → ⊥
          not_server f = cc
      enters_none false e = e

      subst_pdus : {A : Type 0} → A → A
      subst_pdus a = a

  -- ---- at the server

  module _ (may : MayCall names role.Server (Receives bytes connection) ends) where
    comes_server : (pdu : Pdu) → reading ends.server.link.identity.key bytes ≡ Ok pdu → IsMeant ends.server.link.identity pdu → Comes names role.Server ends bytes connection pdu
    comes_server pdu read meant = comes law names are role.Server ends timely bytes connection may pdu (subst (λ (key : Key). reading key bytes ≡ Ok pdu) (server_key law names ends timely) read)
        (subst (λ (i : Identity). IsMeant i pdu) timely.server.identity meant)

    -- a server that was in the connection doesn't enter it again
    enters_no_more : (is : AreTogether names ends) → took role.Server ≡ true → ⊥
    enters_no_more is e =
        let by = opens_by role.Server may e
        in omega (arith, by.2.is_new is.connection is.of_server, of_last names ends timely bytes connection by.0 by.1 is.connection is.of_client)

    server_hears : took role.Server ≡ false → (is : AreTogether names ends)
        → GoesOn is.server is.client (receiving (reading_of ends.server.clock) bytes ends.server.link).link (receiving (reading_of ends.server.clock) bytes ends.server.link).pdus []
        (receiving (reading_of ends.server.clock) bytes ends.server.link).items
    server_hears none is = go (reading ends.server.link.identity.key bytes) refl
      where
        now : ℕ
        now = reading_of ends.server.clock

        Goal : Type 0
        Goal = GoesOn is.server is.client (receiving now bytes ends.server.link).link (receiving now bytes ends.server.link).pdus [] (receiving now bytes ends.server.link).items

        back : InOrder is.server is.client
        back = swap law names ends timely is

        outside : (pdu : Pdu) → reading ends.server.link.identity.key bytes ≡ Ok pdu → is_open (entered now ends.server.link).link.phase ≡ false → (receipt : Receipt)
            → hearing pdu (entered now ends.server.link).link ≡ receipt → HearsOutside pdu (entered now ends.server.link).link receipt → Goal
        outside pdu read shut receipt heard (refuses why not_taken same) = law.refusing_on now ends.server.link is.server is.client back is.server_plays bytes pdu why read (heard ∙ same)
        outside pdu read shut receipt heard (grants opening server body down late same) =
            let taken : is_taken (receiving now bytes ends.server.link).verdict ≡ true = ap is_taken (its_verdict now ends.server.link bytes pdu receipt read heard ∙ ap (λ (r : Receipt). r.verdict) same)
            in absurd (not_down_then now ends.server.link (law.are_settled names ends role.Server timely) (open_where_taken (is_open ends.server.link.phase) (is_taken (receiving now bytes ends.server.link).verdict) none taken) shut down)

        opened : (pdu : Pdu) → reading ends.server.link.identity.key bytes ≡ Ok pdu → IsOf pdu is.client.flow → (connected : Bool) → is_open (entered now ends.server.link).link.phase ≡ connected → Goal
        opened pdu read of true e = law.hearing_on now ends.server.link is.server is.client back is.server_plays bytes pdu read of e
        opened pdu read of false e = outside pdu read e (hearing pdu (entered now ends.server.link).link) refl (law.hears_outside pdu (entered now ends.server.link).link e)

        of_client : (pdu : Pdu) → Comes names role.Server ends bytes connection pdu → IsOf pdu is.client.flow
        of_client pdu from = subst (IsOf pdu) is.client_flow (in_flow names role.Client is.connection from.datagram pdu ends.sent from.delivered.was_sent from.sender
            (of_last names ends timely bytes connection from.datagram from.delivered is.connection is.of_client) from.read)

        judged : (pdu : Pdu) → reading ends.server.link.identity.key bytes ≡ Ok pdu → (meant : Bool)
            → ((pdu.receiver == ends.server.link.identity.own) && (pdu.sender == ends.server.link.identity.partner)) ≡ meant → Goal
        judged pdu read true e = opened pdu read (of_client pdu (comes_server pdu read (for_me ends.server.link.identity pdu e))) (is_open (entered now ends.server.link).link.phase) refl
        judged pdu read false e = law.stranger_on now ends.server.link is.server is.client back is.server_plays bytes pdu read e

        go : (found : Result Pdu PduFault) → reading ends.server.link.identity.key bytes ≡ found → Goal
        go (Err fault) read = law.unreadable_on now ends.server.link is.server is.client back is.server_plays bytes fault read
        go (Ok pdu) read = judged pdu read ((pdu.receiver == ends.server.link.identity.own) && (pdu.sender == ends.server.link.identity.partner)) refl

    -- it grants the request of a client that is alone
    module _ (is : IsAlone names ends) (shut : is_open ends.server.link.phase ≡ false) (taken : is_taken (receiving (reading_of ends.server.clock) bytes ends.server.link).verdict ≡ true)
        (datagram : Sent) (delivered : IsDelivered ends bytes connection datagram) (opens_it : IsOpening names role.Server ends datagram) where
      pdu : Pdu
      pdu = opens_it.pdu

      names_read : reading ends.server.link.identity.key bytes ≡ Ok opens_it.pdu
      names_read = subst (λ (key : Key). reading key bytes ≡ Ok opens_it.pdu) (sym (server_key law names ends timely)) (subst (λ (b : List ℕ). reading names.key b ≡ Ok opens_it.pdu) delivered.bytes_same opens_it.read)

      pub connection_is : connection ≡ is.connection
      connection_is = sym delivered.connection_same ∙ of_last names ends timely bytes connection datagram delivered is.connection is.of_client

      request_of : IsOf opens_it.pdu is.client.flow
      request_of = subst (IsOf opens_it.pdu) is.flow (in_flow names role.Client is.connection datagram opens_it.pdu ends.sent delivered.was_sent opens_it.of_client
          (of_last names ends timely bytes connection datagram delivered is.connection is.of_client) opens_it.read)

      begins : entered (reading_of ends.server.clock) ends.server.link ≡ silent (record ends.server.link { clock = reading_of ends.server.clock })
      begins = law.entered_outside (reading_of ends.server.clock) ends.server.link shut

      granted_so : (receipt : Receipt) → hearing opens_it.pdu (entered (reading_of ends.server.clock) ends.server.link).link ≡ receipt
          → HearsOutside opens_it.pdu (entered (reading_of ends.server.clock) ends.server.link).link receipt
          → Grants is.client (receiving (reading_of ends.server.clock) bytes ends.server.link).link (receiving (reading_of ends.server.clock) bytes ends.server.link).pdus
      granted_so receipt heard (refuses why not_taken same) =
          absurd (not_taken (sym (its_verdict (reading_of ends.server.clock) ends.server.link bytes opens_it.pdu receipt names_read heard ∙ ap (λ (r : Receipt). r.verdict) same)
          ∙ taken_is (receiving (reading_of ends.server.clock) bytes ends.server.link).verdict taken))
      granted_so receipt heard (grants opening server body down late same) =
          granted_receipt (reading_of ends.server.clock) ends.server.link bytes opens_it.pdu is.client names_read
          (heard ∙ same ∙ ap (λ (o : Opening). accepting (granting opens_it.pdu o (entered (reading_of ends.server.clock) ends.server.link).link)) carried.1)
          (ap (λ (step : Step). step.pdus) begins)
          (law.granting_on is.client is.early (entered (reading_of ends.server.clock) ends.server.link).link opens_it.pdu server late
          (subst (λ (place : ℕ). IsAt place opens_it.pdu is.client.flow) carried.0.0 request_of.1))
        where
          carried : Carries is.client request_of.0 (ConnectionRequest opening)
          carried = subst (Carries is.client request_of.0) body (is.early.each request_of.0 opens_it.pdu request_of.1 0).carries

      pub grants_it : Grants is.client (receiving (reading_of ends.server.clock) bytes ends.server.link).link (receiving (reading_of ends.server.clock) bytes ends.server.link).pdus
      grants_it = granted_so (hearing opens_it.pdu (entered (reading_of ends.server.clock) ends.server.link).link) refl
          (law.hears_outside opens_it.pdu (entered (reading_of ends.server.clock) ends.server.link).link (ap (λ (step : Step). is_open step.link.phase) begins ∙ shut))

      pub no_items : (receiving (reading_of ends.server.clock) bytes ends.server.link).items ≡ []
      no_items = of_heard (hearing opens_it.pdu (entered (reading_of ends.server.clock) ends.server.link).link) refl
          (law.hears_outside opens_it.pdu (entered (reading_of ends.server.clock) ends.server.link).link (ap (λ (step : Step). is_open step.link.phase) begins ∙ shut))
        where
          of_heard : (receipt : Receipt) → hearing opens_it.pdu (entered (reading_of ends.server.clock) ends.server.link).link ≡ receipt
              → HearsOutside opens_it.pdu (entered (reading_of ends.server.clock) ends.server.link).link receipt → (receiving (reading_of ends.server.clock) bytes ends.server.link).items ≡ []
          of_heard receipt heard (refuses why not_taken same) = its_items (reading_of ends.server.clock) ends.server.link bytes opens_it.pdu receipt names_read heard ∙ ap (λ (r : Receipt). r.items) same
          of_heard receipt heard (grants opening server body down late same) = its_items (reading_of ends.server.clock) ends.server.link bytes opens_it.pdu receipt names_read heard ∙ ap (λ (r : Receipt). r.items) same

    abbrev receipt_made : Outcome
    receipt_made = record {
      link = (receiving (reading_of ends.server.clock) bytes ends.server.link).link;
      pdus = (receiving (reading_of ends.server.clock) bytes ends.server.link).pdus;
      enters = entered_by ends.server.link (receiving (reading_of ends.server.clock) bytes ends.server.link).verdict connection;
      given = [];
      taken = (receiving (reading_of ends.server.clock) bytes ends.server.link).items;
    }

    says : Each IsPdu receipt_made.pdus
    unfolding outcome
    says = law.pdus names ends role.Server (Receives bytes connection) timely may

    server_entered : took role.Server ≡ true → Ordered names ends → Exact names ends → Exact names (made_at role.Server receipt_made ends)
    server_entered e ordered (unbegun is) = unbegun is
    server_entered e ordered (together is) = absurd (enters_no_more is e)
    server_entered e ordered (alone is) =
        let are_both = both_true (not (is_open ends.server.link.phase)) (is_taken (receiving (reading_of ends.server.clock) bytes ends.server.link).verdict) e
        in let shut = not_true (is_open ends.server.link.phase) are_both.0
        in let by = opens_by role.Server may e
        in together (server_granted law names ends receipt_made is
        (ap (λ (b : Bool). if b then Some connection else None) e ∙ ap (λ (c : ℕ). Some c) (connection_is is shut are_both.1 by.0 by.1 by.2))
        says (server_key law names ends timely) (law.alone_gives_none names ends is.connection ordered is.of_client is.not_of_server) refl (no_items is shut are_both.1 by.0 by.1 by.2)
        (nothing_sent names ends timely is) (grants_it is shut are_both.1 by.0 by.1 by.2))

    pub receives_server : Ordered names ends → Exact names ends → Exact names (called role.Server (Receives bytes connection) ends)
    unfolding called outcome
    receives_server ordered exact = go (took role.Server) refl
      where
        go : (b : Bool) → took role.Server ≡ b → Exact names (made_at role.Server receipt_made ends)
        go true e = server_entered e ordered exact
        go false e = server_call law names ends timely receipt_made (ap (λ (b : Bool). if b then Some connection else None) e) says (server_hears e)
            (λ is. server_silent law names ends timely (Receives bytes connection) (ap (λ (b : Bool). if b then Some connection else None) e) is) exact
