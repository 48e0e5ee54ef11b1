-- What comes to an end keeps the order of both.
use Rattle.std.proofs.Common.{◌≡◌, ℕ, inl, inr, Bool, true, false, ◌&&◌, not, if◌then◌else◌, List, [], ◌++◌, Some, None, Result, Ok, Err, refl, sym, ap, subst, ◌∙◌, arith}
use Rattle.std.specs.Prelude.{◌==◌}
use Rattle.std.proofs.lemmas.Bool.{eqb-true}
use Rattle.rasta_core_spec.specs.State.{LinkState, is_open, is_client}
use Rattle.rasta_core_spec.specs.Clock.{state_at}
use Rattle.rasta_core_spec.specs.PdusHandedOut.{Step, silent, entered, telling, sending}
use Rattle.rasta_core_spec.specs.Establishment.{granting, own_opening}
use Rattle.rasta_core_spec.specs.Receipt.{Receipt, accepting, hearing}
use Rattle.rasta_core_spec.specs.Calls.{receiving, hearing_bytes}
use Rattle.rasta_core_spec.specs.identity.Identity.{Identity}
use Rattle.rasta_core_spec.specs.identity.Role.TheVariants as role
use Rattle.rasta_core_spec.specs.phase.State.TheVariants as state
use Rattle.rasta_core_spec.specs.reason.Reason.TheVariants as reason
use Rattle.rasta_core_spec.specs.verdict.Verdict.{Verdict}
use Rattle.rasta_core_spec.specs.verdict.Verdict.TheVariants as verdict
use Rattle.rasta_core_spec.specs.Ends.{Outcome, Receives, outcome, reading_of, entered_by, is_taken}
use Rattle.rasta_core_spec.specs.Run.{Ends, called}
use Rattle.rasta_core.specs.EndFlow.{EndFlow, IsOf, IsAt}
use Rattle.rasta_core.specs.Order.{Carries}
use Rattle.rasta_core.specs.LinkAndFlow.{GoesOn}
use Rattle.rasta_core.specs.FirstPdus.{EarlyGoesOn, Grants, HearsOutside, refuses, grants}
use Rattle.rasta_core.specs.TimedEnds.{standing}
use Rattle.rasta_core_spec.specs.Names.{Names, AreNames}
use Rattle.rasta_core.specs.Invariant.{Timely}
use Rattle.rasta_core_spec.specs.Events.{MayCall}
use Rattle.rasta_core_spec.specs.Sentences.{IsOpening}
use Rattle.rasta_core.proofs.States.{IsReady, entering, calm}
use Rattle.rasta_core.proofs.Deeds.{IsFor}
use Rattle.rasta_core.proofs.Receipts.{Receives as Hears}
use Rattle.rasta_core.proofs.HeardTimes.{read_pdu}
use Rattle.rasta_core.proofs.BothEndsAfter.{made_at, shut_outside}
use Rattle.rasta_core.proofs.CallsKept.{ends_ready, ends_clock}
use Rattle.rasta_core.proofs.Called.{ReadIsIntact, read_is, bytes_do, bytes_bring}
use Rattle.rasta_core.specs.Ordered.{IsAlone, AreTogether, Ordered, unbegun, alone, together}
use Rattle.rasta_core.proofs.OrderLaws.{Laws}
use Rattle.rasta_core.proofs.Outside.{entered_identity}
use Rattle.rasta_core.proofs.Few.{none_few}
use Rattle.rasta_core.proofs.Made.{server_granted}
use Rattle.rasta_core.proofs.Comes.{deed_pdus, deed_silent, client_enters_none, items_for, Comes, comes, of_last, in_flow, server_out, nothing_comes, nothing_sent, IsGranted, deed_grants}
use Rattle.rasta_core.proofs.Calls.{client_call, server_call, swap, server_key}
use Rattle.rasta_core_spec.specs.pdu.Pdu.{Pdu}
use Rattle.rasta_core_spec.specs.body.Opening.{Opening}
use Rattle.rasta_core_spec.specs.body.Body.TheVariants.{ConnectionRequest}
use Rattle.rasta_core_spec.specs.pdu_fault.PduFault.{PduFault}
use Rattle.rasta_core_spec.specs.key.Key.{Key}
use Rattle.rasta_core_spec.specs.PduRead.{reading}

pub both_true : (one other : Bool) → (one && other) ≡ true → (one ≡ true) × (other ≡ true)
both_true true true e = (refl, refl)
both_true true false e = absurd (cc (e))
both_true false other e = absurd (cc (e))

pub not_true : (one : Bool) → not one ≡ true → one ≡ false
not_true true e = absurd (cc (e))
not_true false e = refl

open_where_taken : (opened took : Bool) → (not opened && took) ≡ false → took ≡ true → opened ≡ true
open_where_taken true took e t = refl
open_where_taken false true e t = absurd (cc (e))
open_where_taken false false e t = absurd (cc (t))

pub taken_is : (what : Verdict) → is_taken what ≡ true → what ≡ verdict.Taken
taken_is what e = grind (arith, e)

-- a PDU for an end
pub for_me : (identity : Identity) (pdu : Pdu) → ((pdu.receiver == identity.own) && (pdu.sender == identity.partner)) ≡ true → IsFor identity pdu
for_me identity pdu e =
    let both = both_true (pdu.receiver == identity.own) (pdu.sender == identity.partner) e
    in record { receiver = eqb-true pdu.receiver identity.own both.0; sender = eqb-true pdu.sender identity.partner both.1 }

-- a grant, as bytes bring it
granted_receipt : (now : ℕ) (link : LinkState) (bytes : List ℕ) (pdu : Pdu) (client : EndFlow) → reading link.identity.key bytes ≡ Ok pdu
    → hearing pdu (entered now link).link ≡ accepting (granting pdu own_opening (entered now link).link) → (entered now link).pdus ≡ []
    → Grants client (granting pdu own_opening (entered now link).link).link (granting pdu own_opening (entered now link).link).pdus
    → Grants client (receiving now bytes link).link (receiving now bytes link).pdus
unfolding receiving hearing_bytes
granted_receipt now link bytes pdu client read heard quiet granted =
    subst (λ (found : Result Pdu PduFault). Grants client (hearing_bytes found (entered now link).link).link ((entered now link).pdus ++ (hearing_bytes found (entered now link).link).pdus)) (sym read)
    (subst (λ (receipt : Receipt). Grants client receipt.link ((entered now link).pdus ++ receipt.pdus)) (sym heard)
    (subst (λ (pdus : List Pdu). Grants client (granting pdu own_opening (entered now link).link).link (pdus ++ (granting pdu own_opening (entered now link).link).pdus)) (sym quiet) granted))

its_verdict : (now : ℕ) (link : LinkState) (bytes : List ℕ) (pdu : Pdu) (receipt : Receipt) → reading link.identity.key bytes ≡ Ok pdu
    → hearing pdu (entered now link).link ≡ receipt → (receiving now bytes link).verdict ≡ receipt.verdict
unfolding receiving hearing_bytes
its_verdict now link bytes pdu receipt read heard =
    ap (λ (found : Result Pdu PduFault). (hearing_bytes found (entered now link).link).verdict) read ∙ ap (λ (r : Receipt). r.verdict) heard

-- an open end that begins a call outside has just closed, and isn't down
not_down_then : (link : LinkState) → IsReady link → is_open link.phase ≡ true → is_open (entered link.clock link).link.phase ≡ false
    → state_at (entered link.clock link).link.clock (entered link.clock link).link ≡ state.Down → ⊥
unfolding telling sending
not_down_then link ready connected shut down = elim (entering link ready) [
  | inl same ↦ cc (connected, shut, same)
  | inr over ↦ cc (down, ap (λ (step : Step). state_at step.link.clock step.link) over.1, calm (telling reason.Sequence link).link refl refl)
]

module _ (law : Laws) (intact : ReadIsIntact) (names : Names) (are : AreNames names) (ends : Ends) (timely : Timely names ends) (bytes : List ℕ) (connection : ℕ) where
  -- ---- at the client

  module _ (may : MayCall names role.Client (Receives bytes connection) ends) where
    link : LinkState
    link = ends.client.link

    at_client : Receipt
    at_client = receiving (reading_of ends.client.clock) bytes ends.client.link

    its : Hears ends.client.link (read_pdu (reading names.key bytes)) (receiving (reading_of ends.client.clock) bytes ends.client.link)
    its = bytes_do names ends role.Client bytes connection timely (bytes_bring intact names role.Client ends bytes connection timely may)

    its_key : ends.client.link.identity.key ≡ names.key
    its_key = ap (λ (i : Identity). i.key) timely.client.identity

    comes_to : (pdu : Pdu) → reading names.key bytes ≡ Ok pdu → IsFor ends.client.link.identity pdu → Comes names role.Client ends timely bytes connection pdu
    comes_to pdu read meant = comes intact names are role.Client ends timely bytes connection may pdu read (subst (λ (i : Identity). IsFor i pdu) timely.client.identity meant)

    to_names : (pdu : Pdu) → reading ends.client.link.identity.key bytes ≡ Ok pdu → reading names.key bytes ≡ Ok pdu
    to_names pdu read = subst (λ (key : Key). reading key bytes ≡ Ok pdu) its_key read

    client_hears : (is : AreTogether names ends)
        → GoesOn is.client is.server (receiving (reading_of ends.client.clock) bytes ends.client.link).link (receiving (reading_of ends.client.clock) bytes ends.client.link).pdus []
        (receiving (reading_of ends.client.clock) bytes ends.client.link).items
    client_hears is = go (reading ends.client.link.identity.key bytes) refl
      where
        now : ℕ
        now = reading_of ends.client.clock

        Goal : Type 0
        Goal = GoesOn is.client is.server (receiving now bytes ends.client.link).link (receiving now bytes ends.client.link).pdus [] (receiving now bytes ends.client.link).items

        outside : (pdu : Pdu) → reading ends.client.link.identity.key bytes ≡ Ok pdu → (receipt : Receipt) → hearing pdu (entered now ends.client.link).link ≡ receipt
            → HearsOutside pdu (entered now ends.client.link).link receipt → Goal
        outside pdu read receipt heard (refuses why not_taken same) = law.refusing_on now ends.client.link is.client is.server is.order is.client_plays bytes pdu why read (heard ∙ same)
        outside pdu read receipt heard (grants opening server body down late same) =
            absurd (cc (server, ap (λ (i : Identity). is_client i.role) (entered_identity now ends.client.link ∙ timely.client.identity)))

        opened : (pdu : Pdu) → reading ends.client.link.identity.key bytes ≡ Ok pdu → IsOf pdu is.server.flow → (connected : Bool) → is_open (entered now ends.client.link).link.phase ≡ connected → Goal
        opened pdu read of true e = law.hearing_on now ends.client.link is.client is.server is.order is.client_plays bytes pdu read of e
        opened pdu read of false e = outside pdu read (hearing pdu (entered now ends.client.link).link) refl (law.hears_outside pdu (entered now ends.client.link).link e)

        judged : (pdu : Pdu) → reading ends.client.link.identity.key bytes ≡ Ok pdu → (meant : Bool)
            → ((pdu.receiver == ends.client.link.identity.own) && (pdu.sender == ends.client.link.identity.partner)) ≡ meant → Goal
        judged pdu read true e =
            opened pdu read (in_flow names role.Client ends timely bytes connection pdu (comes_to pdu (to_names pdu read) (for_me ends.client.link.identity pdu e)) is.connection is.server.flow is.of_client is.server_flow)
            (is_open (entered now ends.client.link).link.phase) refl
        judged pdu read false e = law.stranger_on now ends.client.link is.client is.server is.order is.client_plays bytes pdu read e

        go : (found : Result Pdu PduFault) → reading ends.client.link.identity.key bytes ≡ found → Goal
        go (Err fault) read = law.unreadable_on now ends.client.link is.client is.server is.order is.client_plays bytes fault read
        go (Ok pdu) read = judged pdu read ((pdu.receiver == ends.client.link.identity.own) && (pdu.sender == ends.client.link.identity.partner)) refl

    client_hears_alone : (is : IsAlone names ends)
        → EarlyGoesOn is.client (receiving (reading_of ends.client.clock) bytes ends.client.link).link (receiving (reading_of ends.client.clock) bytes ends.client.link).pdus
    client_hears_alone is = go (reading ends.client.link.identity.key bytes) refl
      where
        now : ℕ
        now = reading_of ends.client.clock

        Goal : Type 0
        Goal = EarlyGoesOn is.client (receiving now bytes ends.client.link).link (receiving now bytes ends.client.link).pdus

        judged : (pdu : Pdu) → reading ends.client.link.identity.key bytes ≡ Ok pdu → (meant : Bool)
            → ((pdu.receiver == ends.client.link.identity.own) && (pdu.sender == ends.client.link.identity.partner)) ≡ meant → Goal
        judged pdu read true e = absurd (nothing_comes names ends timely is bytes connection pdu (comes_to pdu (to_names pdu read) (for_me ends.client.link.identity pdu e)))
        judged pdu read false e = law.early_stranger now ends.client.link is.client is.early is.plays bytes pdu read e

        go : (found : Result Pdu PduFault) → reading ends.client.link.identity.key bytes ≡ found → Goal
        go (Err fault) read = law.early_unreadable now ends.client.link is.client is.early is.plays bytes fault read
        go (Ok pdu) read = judged pdu read ((pdu.receiver == ends.client.link.identity.own) && (pdu.sender == ends.client.link.identity.partner)) refl

    pub receives_client : Ordered names ends → Ordered names (called role.Client (Receives bytes connection) ends)
    unfolding called outcome
    receives_client = client_call law names ends timely _ (ap (λ (b : Bool). if b then Some connection else None) enters_none)
        (deed_pdus _ _ _ _ _ _ _ _ its.deed) (none_few (receiving (reading_of ends.client.clock) bytes ends.client.link).pdus) client_hears
        (λ is. (
          client_hears_alone is,
          refl,
          items_for _ _ _ _ _ _ _ _ its.deed
              (λ pdu word meant. nothing_comes names ends timely is bytes connection pdu (comes_to pdu (read_is (reading names.key bytes) pdu word) meant)),
        ))
      where
        enters_none : (not (is_open ends.client.link.phase) && is_taken (receiving (reading_of ends.client.clock) bytes ends.client.link).verdict) ≡ false
        enters_none = client_enters_none _ _ _ _ _ _ _ _ its.deed (ap (λ (i : Identity). i.role) timely.client.identity)

  -- ---- at the server

  module _ (may : MayCall names role.Server (Receives bytes connection) ends) where
    server_does : Hears ends.server.link (read_pdu (reading names.key bytes)) (receiving (reading_of ends.server.clock) bytes ends.server.link)
    server_does = bytes_do names ends role.Server bytes connection timely (bytes_bring intact names role.Server ends bytes connection timely may)

    comes_server : (pdu : Pdu) → reading names.key bytes ≡ Ok pdu → IsFor ends.server.link.identity pdu → Comes names role.Server ends timely bytes connection pdu
    comes_server pdu read meant = comes intact names are role.Server ends timely bytes connection may pdu read (subst (λ (i : Identity). IsFor i pdu) timely.server.identity meant)

    server_reads : (pdu : Pdu) → reading ends.server.link.identity.key bytes ≡ Ok pdu → reading names.key bytes ≡ Ok pdu
    server_reads pdu read = subst (λ (key : Key). reading key bytes ≡ Ok pdu) (server_key law names ends timely) read

    names_read : (pdu : Pdu) → reading names.key bytes ≡ Ok pdu → reading ends.server.link.identity.key bytes ≡ Ok pdu
    names_read pdu read = subst (λ (key : Key). reading key bytes ≡ Ok pdu) (sym (server_key law names ends timely)) read

    -- whether the server enters a connection by it
    enters : Bool
    enters = not (is_open ends.server.link.phase) && is_taken (receiving (reading_of ends.server.clock) bytes ends.server.link).verdict

    -- a server that was in the connection doesn't enter it again
    enters_no_more : (is : AreTogether names ends) → (not (is_open ends.server.link.phase) && is_taken (receiving (reading_of ends.server.clock) bytes ends.server.link).verdict) ≡ true → ⊥
    enters_no_more is e = again (deed_grants _ _ _ _ _ _ _ _ server_does.deed e)
      where
        both : (not (is_open ends.server.link.phase) ≡ true) × (is_taken (receiving (reading_of ends.server.clock) bytes ends.server.link).verdict ≡ true)
        both = both_true (not (is_open ends.server.link.phase)) (is_taken (receiving (reading_of ends.server.clock) bytes ends.server.link).verdict) e

        later : (pdu : Pdu) → Comes names role.Server ends timely bytes connection pdu → ⊥
        later pdu from =
            let opening : IsOpening names role.Server ends from.datagram
            = law.taken_opening names ends role.Server bytes connection from.datagram are timely from.delivered (not_true (is_open ends.server.link.phase) both.0) both.1
            in omega (arith, opening.is_new is.connection is.of_server, of_last names role.Server ends timely bytes connection pdu from is.connection is.of_client)

        again : IsGranted ends.server.link.identity (reading names.key bytes) (standing ends.server.link) (receiving (reading_of ends.server.clock) bytes ends.server.link).items → ⊥
        again granted = later granted.pdu (comes_server granted.pdu (read_is (reading names.key bytes) granted.pdu granted.word) granted.is_for)

    server_hears : (not (is_open ends.server.link.phase) && is_taken (receiving (reading_of ends.server.clock) bytes ends.server.link).verdict) ≡ false → (is : AreTogether names ends)
        → GoesOn is.server is.client (receiving (reading_of ends.server.clock) bytes ends.server.link).link (receiving (reading_of ends.server.clock) bytes ends.server.link).pdus []
        (receiving (reading_of ends.server.clock) bytes ends.server.link).items
    server_hears none is = go (reading ends.server.link.identity.key bytes) refl
      where
        now : ℕ
        now = reading_of ends.server.clock

        Goal : Type 0
        Goal = GoesOn is.server is.client (receiving now bytes ends.server.link).link (receiving now bytes ends.server.link).pdus [] (receiving now bytes ends.server.link).items

        not_down : is_open ends.server.link.phase ≡ true → is_open (entered now ends.server.link).link.phase ≡ false
            → state_at (entered now ends.server.link).link.clock (entered now ends.server.link).link ≡ state.Down → ⊥
        not_down = subst (λ (n : ℕ). is_open ends.server.link.phase ≡ true → is_open (entered n ends.server.link).link.phase ≡ false
            → state_at (entered n ends.server.link).link.clock (entered n ends.server.link).link ≡ state.Down → ⊥) (ends_clock names ends role.Server timely)
            (not_down_then ends.server.link (ends_ready names ends role.Server timely))

        outside : (pdu : Pdu) → reading ends.server.link.identity.key bytes ≡ Ok pdu → is_open (entered now ends.server.link).link.phase ≡ false → (receipt : Receipt)
            → hearing pdu (entered now ends.server.link).link ≡ receipt → HearsOutside pdu (entered now ends.server.link).link receipt → Goal
        outside pdu read shut receipt heard (refuses why not_taken same) =
            law.refusing_on now ends.server.link is.server is.client (swap law names ends timely is) is.server_plays bytes pdu why read (heard ∙ same)
        outside pdu read shut receipt heard (grants opening server body down late same) =
            let taken : is_taken (receiving now bytes ends.server.link).verdict ≡ true = ap is_taken (its_verdict now ends.server.link bytes pdu receipt read heard ∙ ap (λ (r : Receipt). r.verdict) same)
            in absurd (not_down (open_where_taken (is_open ends.server.link.phase) (is_taken (receiving now bytes ends.server.link).verdict) none taken) shut down)

        opened : (pdu : Pdu) → reading ends.server.link.identity.key bytes ≡ Ok pdu → IsOf pdu is.client.flow → (connected : Bool) → is_open (entered now ends.server.link).link.phase ≡ connected → Goal
        opened pdu read of true e = law.hearing_on now ends.server.link is.server is.client (swap law names ends timely is) is.server_plays bytes pdu read of e
        opened pdu read of false e = outside pdu read e (hearing pdu (entered now ends.server.link).link) refl (law.hears_outside pdu (entered now ends.server.link).link e)

        judged : (pdu : Pdu) → reading ends.server.link.identity.key bytes ≡ Ok pdu → (meant : Bool)
            → ((pdu.receiver == ends.server.link.identity.own) && (pdu.sender == ends.server.link.identity.partner)) ≡ meant → Goal
        judged pdu read true e =
            opened pdu read (in_flow names role.Server ends timely bytes connection pdu (comes_server pdu (server_reads pdu read) (for_me ends.server.link.identity pdu e)) is.connection is.client.flow is.of_client is.client_flow)
            (is_open (entered now ends.server.link).link.phase) refl
        judged pdu read false e = law.stranger_on now ends.server.link is.server is.client (swap law names ends timely is) is.server_plays bytes pdu read e

        go : (found : Result Pdu PduFault) → reading ends.server.link.identity.key bytes ≡ found → Goal
        go (Err fault) read = law.unreadable_on now ends.server.link is.server is.client (swap law names ends timely is) is.server_plays bytes fault read
        go (Ok pdu) read = judged pdu read ((pdu.receiver == ends.server.link.identity.own) && (pdu.sender == ends.server.link.identity.partner)) refl

    -- it grants the request of a client that is alone
    module _ (is : IsAlone names ends) (granted : IsGranted ends.server.link.identity (reading names.key bytes) (standing ends.server.link) (receiving (reading_of ends.server.clock) bytes ends.server.link).items)
        (taken : is_taken (receiving (reading_of ends.server.clock) bytes ends.server.link).verdict ≡ true) where
      its_read : reading names.key bytes ≡ Ok granted.pdu
      its_read = read_is (reading names.key bytes) granted.pdu granted.word

      from : Comes names role.Server ends timely bytes connection granted.pdu
      from = comes_server granted.pdu its_read granted.is_for

      request_of : IsOf granted.pdu is.client.flow
      request_of = in_flow names role.Server ends timely bytes connection granted.pdu from is.connection is.client.flow is.of_client is.flow

      begun : entered (reading_of ends.server.clock) ends.server.link ≡ silent (record ends.server.link { clock = reading_of ends.server.clock })
      begun = law.entered_outside (reading_of ends.server.clock) ends.server.link (shut_outside ends.server.link granted.outside)

      is_shut : is_open (entered (reading_of ends.server.clock) ends.server.link).link.phase ≡ false
      is_shut = ap (λ (step : Step). is_open step.link.phase) begun ∙ shut_outside ends.server.link granted.outside

      connection_is : connection ≡ is.connection
      connection_is = sym from.delivered.connection_same ∙ of_last names role.Server ends timely bytes connection granted.pdu from is.connection is.of_client

      granted_so : (receipt : Receipt) → hearing granted.pdu (entered (reading_of ends.server.clock) ends.server.link).link ≡ receipt
          → HearsOutside granted.pdu (entered (reading_of ends.server.clock) ends.server.link).link receipt
          → Grants is.client (receiving (reading_of ends.server.clock) bytes ends.server.link).link (receiving (reading_of ends.server.clock) bytes ends.server.link).pdus
      granted_so receipt heard (refuses why not_taken same) =
          absurd (not_taken (sym (its_verdict (reading_of ends.server.clock) ends.server.link bytes granted.pdu receipt (names_read granted.pdu its_read) heard ∙ ap (λ (r : Receipt). r.verdict) same)
          ∙ taken_is (receiving (reading_of ends.server.clock) bytes ends.server.link).verdict taken))
      granted_so receipt heard (grants opening server body down late same) =
          granted_receipt (reading_of ends.server.clock) ends.server.link bytes granted.pdu is.client (names_read granted.pdu its_read)
          (heard ∙ same ∙ ap (λ (o : Opening). accepting (granting granted.pdu o (entered (reading_of ends.server.clock) ends.server.link).link)) carried.1)
          (ap (λ (step : Step). step.pdus) begun)
          (law.granting_on is.client is.early (entered (reading_of ends.server.clock) ends.server.link).link granted.pdu server late
          (subst (λ (place : ℕ). IsAt place granted.pdu is.client.flow) carried.0.0 request_of.1))
        where
          carried : Carries is.client request_of.0 (ConnectionRequest opening)
          carried = subst (Carries is.client request_of.0) body (is.early.each request_of.0 granted.pdu request_of.1 0).carries

      grants_it : Grants is.client (receiving (reading_of ends.server.clock) bytes ends.server.link).link (receiving (reading_of ends.server.clock) bytes ends.server.link).pdus
      grants_it = granted_so (hearing granted.pdu (entered (reading_of ends.server.clock) ends.server.link).link) refl (law.hears_outside granted.pdu (entered (reading_of ends.server.clock) ends.server.link).link is_shut)

    abbrev receipt_made : Outcome
    receipt_made = record {
      link = (receiving (reading_of ends.server.clock) bytes ends.server.link).link;
      pdus = (receiving (reading_of ends.server.clock) bytes ends.server.link).pdus;
      enters = entered_by ends.server.link (receiving (reading_of ends.server.clock) bytes ends.server.link).verdict connection;
      given = [];
      taken = (receiving (reading_of ends.server.clock) bytes ends.server.link).items;
    }

    server_entered : (not (is_open ends.server.link.phase) && is_taken (receiving (reading_of ends.server.clock) bytes ends.server.link).verdict) ≡ true → Ordered names ends
        → Ordered names (made_at role.Server receipt_made ends)
    server_entered e (unbegun is) = unbegun is
    server_entered e (together is) = absurd (enters_no_more is e)
    server_entered e (alone is) =
        let granted = deed_grants _ _ _ _ _ _ _ _ server_does.deed e
        in together (server_granted law names ends receipt_made is
        (ap (λ (b : Bool). if b then Some connection else None) e ∙ ap (λ (c : ℕ). Some c) (connection_is is granted (taken_by e)))
        (deed_pdus _ _ _ _ _ _ _ _ server_does.deed) (server_key law names ends timely) refl granted.none (nothing_sent names ends timely is) (grants_it is granted (taken_by e)))
      where
        taken_by : (not (is_open ends.server.link.phase) && is_taken (receiving (reading_of ends.server.clock) bytes ends.server.link).verdict) ≡ true
            → is_taken (receiving (reading_of ends.server.clock) bytes ends.server.link).verdict ≡ true
        taken_by f = (both_true (not (is_open ends.server.link.phase)) (is_taken (receiving (reading_of ends.server.clock) bytes ends.server.link).verdict) f).1

    pub receives_server : Ordered names ends → Ordered names (called role.Server (Receives bytes connection) ends)
    unfolding called outcome
    receives_server ordered = go (not (is_open ends.server.link.phase) && is_taken (receiving (reading_of ends.server.clock) bytes ends.server.link).verdict) refl
      where
        go : (b : Bool) → (not (is_open ends.server.link.phase) && is_taken (receiving (reading_of ends.server.clock) bytes ends.server.link).verdict) ≡ b
            → Ordered names (made_at role.Server receipt_made ends)
        go true e = server_entered e ordered
        go false e = server_call law names ends timely receipt_made (ap (λ (b : Bool). if b then Some connection else None) e) (deed_pdus _ _ _ _ _ _ _ _ server_does.deed) (none_few receipt_made.pdus) (server_hears e)
            (λ is. deed_silent _ _ _ _ _ _ _ _ server_does.deed (server_out names ends timely is) e) ordered
