-- A call of the interlocking at one of its ends, and the connections and datagrams that a world notes of it.
use Rattle.std.proofs.Common.{◌≡◌, ◌≢◌, ◌⊎◌, inl, inr, ℕ, ◌<◌, Bool, true, false, ◌&&◌, not, List, [], ◌∷◌, ◌++◌, length, Ok, Option, Some, None, slice_get, slice_set, refl, sym, ap, subst, ◌∙◌, if◌then◌else◌}
use Rattle.std.specs.Prelude.{slice_index_or}
use Rattle.std.proofs.lemmas.Bool.{true≢false}
use Rattle.std.proofs.lemmas.List.{append-nil, append_assoc}
use Rattle.std.proofs.lemmas.Option.{get_or_from_slice_get}
use Rattle.simulator_spec.specs.layout.Entries.{Site}
use Rattle.simulator_spec.specs.rasta_core.Calls.{opens}
use Rattle.simulator_spec.specs.rasta_core.Each.{Each}
use Rattle.simulator_spec.specs.rasta_core.EachLink.{AreTimely}
use Rattle.simulator_spec.specs.rasta_core.Ends.{Call, Outcome, Sent, Ticks, Opens, Closes, Sends, Receives, end_after, handed_out, is_taken, newer, outcome, reading_of}
use Rattle.simulator_spec.specs.rasta_core.Events.{Calls, Elsewhere, MayCall, run}
use Rattle.simulator_spec.specs.rasta_core.Invariant.{Timely}
use Rattle.simulator_spec.specs.rasta_core.Links.{AreLinks, CallsOn, Links, MayCallOn, OnLink, TwoEnds, happened_to, seen, sent_by, sent_on}
use Rattle.simulator_spec.specs.rasta_core.Names.{AreNames, Names, name_of, partner_of}
use Rattle.simulator_spec.specs.rasta_core.Outbox.{spellings}
use Rattle.simulator_spec.specs.rasta_core.Run.{Ends, called}
use Rattle.simulator_spec.specs.rasta_core.Sentences.{receipt_at}
use Rattle.simulator_spec.specs.rasta_core.State.{is_open}
use Rattle.simulator_spec.specs.rasta_core.Steps.{made_by}
use Rattle.simulator_spec.specs.rasta_core.identity.Role.{Role}
use Rattle.simulator_spec.specs.rasta_core.identity.Role.TheVariants as role
use Rattle.simulator_spec.specs.rasta_pdu.PduRead.{reading, u32_at}
use Rattle.simulator_spec.specs.rasta_pdu.Spelling.{writing}
use Rattle.simulator_spec.specs.rasta_pdu.declared.key.Key.{Key}
use Rattle.simulator_spec.specs.rasta_pdu.declared.pdu.Pdu.{Pdu}
use Rattle.simulator_move_laws.specs.Flows.{AsksNone, AsksOnce, begins}
use Rattle.simulator_spec.specs.Links.{names_at}
use Rattle.simulator_spec.specs.Nodes.{links}
use Rattle.simulator_spec.specs.Interlocking.{Sending, link_of, sending_all, sending_one}
use Rattle.simulator_spec.specs.rasta_pdu.Header.{is_request}
use Rattle.simulator_link_laws.proofs.ServerAnswers.{is_made}
use Rattle.simulator_link_laws.proofs.Controllers.{end_may}
use Rattle.simulator_link_laws.proofs.Laws.{ClientLaws, LinkLaws}
use Rattle.simulator_link_laws.proofs.Lists.{get_set, get_set_other, itself, length_set, same_or_other, unequal}
use Rattle.simulator_link_laws.proofs.Partners.{named_at, partner_at}
use Rattle.simulator_link_laws.proofs.Spelled.{link_is_found, other_is_seen, receiver_is_seen, request_is_seen}

-- ---- datagrams that a station notes

-- a request begins a connection on its link
asks_one : (site : Site) (time link : ℕ) (bytes : List ℕ) (sending : Sending) → is_request bytes ≡ true → link_of site bytes ≡ link → sending_one site time bytes sending ≡ record {
  connections = slice_set sending.connections link (Some (length sending.sent));
  sent = sending.sent ++ sent_on link (handed_out time role.Client (slice_index_or (slice_set sending.connections link (Some (length sending.sent))) link None) (bytes ∷ []));
}
unfolding sending_one
asks_one site time link bytes sending asks at = rw (asks, at) refl

-- all else is sent in the connection that was begun last
says_one : (site : Site) (time link : ℕ) (bytes : List ℕ) (sending : Sending) → is_request bytes ≡ false → link_of site bytes ≡ link → sending_one site time bytes sending ≡ record {
  connections = sending.connections;
  sent = sending.sent ++ sent_on link (handed_out time role.Client (slice_index_or sending.connections link None) (bytes ∷ []));
}
unfolding sending_one
says_one site time link bytes sending asks at = rw (asks, at) refl

pub sending_joined : (site : Site) (time : ℕ) (one other : List (List ℕ)) (sending : Sending) → sending_all site time (one ++ other) sending ≡ sending_all site time other (sending_all site time one sending)
unfolding sending_all
sending_joined site time [] other sending = refl
sending_joined site time (first ∷ others) other sending = sending_joined site time others other (sending_one site time first sending)

abbrev AreFor : Site → ℕ → Key → List Pdu → Type 0
AreFor site link key pdus = Each (λ pdu. link_of site (writing key pdu) ≡ link) pdus

-- what a call sends in the connection that its end is in
says_all : (site : Site) (time link : ℕ) (key : Key) (connection : Option ℕ) (pdus : List Pdu) (sending : Sending) → AsksNone pdus → AreFor site link key pdus → slice_get sending.connections link ≡ Some connection
    → sending_all site time (spellings key pdus) sending ≡ record { connections = sending.connections; sent = sending.sent ++ sent_on link (handed_out time role.Client connection (spellings key pdus)) }
unfolding sending_all
says_all site time link key connection [] sending none at noted = ap (λ (s : List OnLink). record { connections = sending.connections; sent = s }) (sym (append-nil sending.sent))
says_all site time link key connection (pdu ∷ others) sending none at noted =
    ap (sending_all site time (spellings key others)) (says_one site time link (writing key pdu) sending (other_is_seen key pdu none.0) at.0)
    ∙ ap (λ (c : Option ℕ). sending_all site time (spellings key others) (record { connections = sending.connections; sent = sending.sent ++ sent_on link (handed_out time role.Client c (writing key pdu ∷ [])) }))
    (get_or_from_slice_get sending.connections link connection None noted)
    ∙ says_all site time link key connection others (record { connections = sending.connections; sent = sending.sent ++ sent_on link (handed_out time role.Client connection (writing key pdu ∷ [])) }) none.1 at.1 noted
    ∙ ap (λ (s : List OnLink). record { connections = sending.connections; sent = s })
    (append_assoc sending.sent (sent_on link (handed_out time role.Client connection (writing key pdu ∷ []))) (sent_on link (handed_out time role.Client connection (spellings key others))))

-- a call that asks for a connection
asks_all : (site : Site) (time link : ℕ) (key : Key) (pdus : List Pdu) (sending : Sending) → AsksOnce pdus → AreFor site link key pdus → link < length sending.connections
    → sending_all site time (spellings key pdus) sending ≡ record {
      connections = slice_set sending.connections link (Some (length sending.sent));
      sent = sending.sent ++ sent_on link (handed_out time role.Client (Some (length sending.sent)) (spellings key pdus));
    }
unfolding sending_all
asks_all site time link key pdus sending asks at within =
    subst (λ (l : List Pdu). AreFor site link key l → sending_all site time (spellings key l) sending ≡ record {
      connections = slice_set sending.connections link (Some (length sending.sent));
      sent = sending.sent ++ sent_on link (handed_out time role.Client (Some (length sending.sent)) (spellings key l));
    }) (sym asks.alone) one at
  where
    one : AreFor site link key (asks.pdu ∷ []) → sending_all site time (spellings key (asks.pdu ∷ [])) sending ≡ record {
      connections = slice_set sending.connections link (Some (length sending.sent));
      sent = sending.sent ++ sent_on link (handed_out time role.Client (Some (length sending.sent)) (spellings key (asks.pdu ∷ [])));
    }
    one at = asks_one site time link (writing key asks.pdu) sending (request_is_seen key asks.pdu asks.request) at.0
        ∙ ap (λ (c : Option ℕ). record {
          connections = slice_set sending.connections link (Some (length sending.sent));
          sent = sending.sent ++ sent_on link (handed_out time role.Client c (writing key asks.pdu ∷ []));
        }) (get_or_from_slice_get (slice_set sending.connections link (Some (length sending.sent))) link (Some (length sending.sent)) None
        (get_set sending.connections link (Some (length sending.sent)) within))

-- ---- what one call of a client does

abbrev Begins : Ends → Call → Type 0
Begins ends call = (begins (reading_of ends.client.clock) call ends.client.link ≡ true) × ((outcome call ends.moment ends.client).enters ≡ Some ends.moment)

abbrev EntersNothing : Ends → Call → Type 0
EntersNothing ends call = (begins (reading_of ends.client.clock) call ends.client.link ≡ false) × ((outcome call ends.moment ends.client).enters ≡ None)

choose_number : (moment : ℕ) (test : Bool) → ((test ≡ true) × ((if test then Some moment else None) ≡ Some moment)) ⊎ ((test ≡ false) × ((if test then Some moment else None) ≡ None))
choose_number moment true = inl (refl, refl)
choose_number moment false = inr (refl, refl)

-- a client outside takes nothing, and inside it stays in its connection
takes_nothing : ClientLaws → (names : Names) (bytes : List ℕ) (connection : ℕ) (ends : Ends) → AreNames names → Timely names ends → MayCall names role.Client (Receives bytes connection) ends
    → (o : Bool) → is_open ends.client.link.phase ≡ o → (t : Bool) → is_taken (receipt_at role.Client bytes ends).verdict ≡ t → (outcome (Receives bytes connection) ends.moment ends.client).enters ≡ None
unfolding outcome
takes_nothing laws names bytes connection ends are timely may true opened t taken = ap (λ (b : Bool). if not b && is_taken (receipt_at role.Client bytes ends).verdict then Some connection else None) opened
takes_nothing laws names bytes connection ends are timely may false shut false taken =
    ap (λ (b : Bool). if not b && is_taken (receipt_at role.Client bytes ends).verdict then Some connection else None) shut ∙ ap (λ (b : Bool). if b then Some connection else None) taken
takes_nothing laws names bytes connection ends are timely (inl (datagram, delivered)) false shut true taken = absurd (cc (laws.opening names ends role.Client bytes connection datagram are timely delivered shut taken).is_server)
takes_nothing laws names bytes connection ends are timely (inr nothing) false shut true taken = absurd (true≢false (sym taken ∙ (laws.nothing names ends role.Client bytes timely nothing).1))

client_begins : ClientLaws → (names : Names) (call : Call) (ends : Ends) → AreNames names → Timely names ends → MayCall names role.Client call ends → Begins ends call ⊎ EntersNothing ends call
unfolding outcome
client_begins laws names Ticks ends are timely may = inr (refl, refl)
client_begins laws names (Closes why) ends are timely may = inr (refl, refl)
client_begins laws names (Sends item) ends are timely may = inr (refl, refl)
client_begins laws names Opens ends are timely may = choose_number ends.moment (opens (reading_of ends.client.clock) ends.client.link)
client_begins laws names (Receives bytes connection) ends are timely may = inr (refl, takes_nothing laws names bytes connection ends are timely may (is_open ends.client.link.phase) refl (is_taken (receipt_at role.Client bytes ends).verdict) refl)

-- ---- one call

each_right : {A : Type 0} (P : A → Type 0) (first rest : List A) → Each P (first ++ rest) → Each P rest
each_right P [] rest each = each
each_right P (one ∷ others) rest each = each_right P others rest each.1

-- a datagram reads as a PDU of a link
record IsRead (names : Names) (sent : Sent) : Type 0 where
  pub pdu : Pdu
  pub read : reading names.key sent.bytes ≡ Ok pdu
  pub receiver : pdu.receiver ≡ name_of (partner_of sent.sender) names

each_same : {A : Type 0} {P Q : A → Type 0} (list : List A) → Each P list → ((one : A) → P one → Q one) → Each Q list
each_same [] each to = tt
each_same (first ∷ others) each to = (to first each.0, each_same others each.1 to)

are_read : (names : Names) (ends : Ends) → Timely names ends → Each (IsRead names) ends.sent
are_read names ends timely = each_same ends.sent timely.datagrams (λ one flies. record { pdu = flies.pdu; read = flies.read; receiver = flies.receiver })

module _ (laws : LinkLaws) (client : ClientLaws) (site : Site) (are : AreLinks (links site) (names_at site)) (time : ℕ) where
  -- what a station notes of the datagrams that it sends is what the links tell
  pub record Tells (before : Links) (sending : Sending) : Type 0 where
    pub timely : AreTimely (links site) (names_at site) before
    pub time_is : before.time ≡ time
    pub sent_is : sending.sent ≡ before.sent
    pub count : length sending.connections ≡ links site
    pub noted : (link : ℕ) → link < links site → slice_get sending.connections link ≡ Some (before.ends link).client.connection

  module _ (link : ℕ) (below : link < links site) (call : Call) (before : Links) (sending : Sending) (tells : Tells before sending) (may : MayCallOn (names_at site link) call before) where
    abbrev ends : Ends
    ends = seen link before

    abbrev next : Links
    next = happened_to (CallsOn link role.Client call) before

    abbrev names : Names
    names = names_at site link

    abbrev made : Outcome
    made = outcome call ends.moment ends.client

    abbrev connection : Option ℕ
    connection = newer made.enters ends.client.connection

    abbrev key : Key
    key = ends.client.link.identity.key

    abbrev pdus : List Pdu
    pdus = (made_by (reading_of ends.client.clock) call ends.client.link).pdus

    timely_next : AreTimely (links site) (names_at site) next
    timely_next = laws.time (links site) (names_at site) (CallsOn link role.Client call) before are tells.timely (below, may)

    own_next : seen link next ≡ called role.Client call ends
    own_next = laws.sees link (CallsOn link role.Client call) before
        ∙ ap (λ (mine : Bool). run (if mine then Calls role.Client call ∷ [] else Elsewhere (length (sent_by role.Client call (seen link before))) ∷ []) ends) (itself link)

    called_connection : (called role.Client call ends).client.connection ≡ connection
    unfolding called end_after
    called_connection = refl

    called_link : (called role.Client call ends).client.link ≡ (made_by (reading_of ends.client.clock) call ends.client.link).link
    unfolding called end_after
    called_link = (is_made call ends.moment ends.client).link

    called_clock : (called role.Client call ends).client.clock ≡ ends.client.clock
    unfolding called end_after
    called_clock = refl

    called_sent : (called role.Client call ends).sent ≡ ends.sent ++ handed_out ends.time role.Client connection (spellings key made.pdus)
    unfolding called end_after
    called_sent = refl

    sent_here : sent_by role.Client call ends ≡ handed_out ends.time role.Client connection (spellings key made.pdus)
    unfolding sent_by end_after
    sent_here = refl

    pdus_are : made.pdus ≡ pdus
    pdus_are = (is_made call ends.moment ends.client).pdus

    pub link_next : (next.ends link).client.link ≡ (made_by (reading_of ends.client.clock) call ends.client.link).link
    link_next = ap (λ (e : Ends). e.client.link) own_next ∙ called_link

    pub clock_next : (next.ends link).client.clock ≡ ends.client.clock
    clock_next = ap (λ (e : Ends). e.client.clock) own_next ∙ called_clock

    connection_next : (next.ends link).client.connection ≡ connection
    connection_next = ap (λ (e : Ends). e.client.connection) own_next ∙ called_connection

    pub others_next : (other : ℕ) → other ≢ link → next.ends other ≡ before.ends other
    others_next other differ = ap (λ (mine : Bool). if mine then record { client = (called role.Client call ends).client; server = (called role.Client call ends).server } else before.ends other) (unequal other link differ)

    sent_next : next.sent ≡ before.sent ++ sent_on link (handed_out time role.Client connection (spellings key pdus))
    sent_next = ap (λ (s : List Sent). before.sent ++ sent_on link s) sent_here
        ∙ ap (λ (t : ℕ). before.sent ++ sent_on link (handed_out t role.Client connection (spellings key made.pdus))) tells.time_is
        ∙ ap (λ (l : List Pdu). before.sent ++ sent_on link (handed_out time role.Client connection (spellings key l))) pdus_are

    -- each datagram names the link's controller as its receiver
    for_link : (bytes : List ℕ) (sent : Sent) → sent.bytes ≡ bytes → sent.sender ≡ role.Client → IsRead names sent → link_of site bytes ≡ link
    for_link bytes sent same sender flies =
        let partner = partner_at site link below
        in link_is_found site are link partner.0 bytes partner.1 below
        (ap (u32_at 4) (sym same) ∙ receiver_is_seen names.key sent.bytes flies.pdu flies.read ∙ flies.receiver ∙ ap (λ (r : Role). name_of (partner_of r) names) sender ∙ ap (λ (n : Names). n.server) (named_at site link partner.0 partner.1))

    all_for : (list : List Pdu) → Each (IsRead names) (handed_out ends.time role.Client connection (spellings key list)) → AreFor site link key list
    all_for [] each = tt
    all_for (pdu ∷ others) each = (for_link (writing key pdu) _ refl refl each.0, all_for others each.1)

    are_for : AreFor site link key pdus
    are_for = subst (AreFor site link key) pdus_are (all_for made.pdus
        (each_right (IsRead names) ends.sent (handed_out ends.time role.Client connection (spellings key made.pdus)) (subst (Each (IsRead names)) called_sent
        (are_read names (called role.Client call ends) (subst (Timely names) own_next (timely_next.each link below))))))

    pub call_tells : Tells next (sending_all site time (spellings key pdus) sending)
    call_tells = from (client_begins client names call ends (are.each link below) (tells.timely.each link below) (end_may laws (links site) (names_at site) link role.Client call before are tells.timely below may)) where
      noted_here : slice_get sending.connections link ≡ Some ends.client.connection
      noted_here = tells.noted link below

      within : link < length sending.connections
      within = subst (λ n. link < n) (sym tells.count) below

      moment_is : length sending.sent ≡ ends.moment
      moment_is = ap length tells.sent_is

      begun : (made.enters ≡ Some ends.moment) → AsksOnce pdus → Tells next (sending_all site time (spellings key pdus) sending)
      begun enters asks = subst (Tells next) (sym (asks_all site time link key pdus sending asks are_for within)) (record {
        timely = timely_next;
        time_is = tells.time_is;
        sent_is = ap (λ (s : List OnLink). s ++ sent_on link (handed_out time role.Client (Some (length sending.sent)) (spellings key pdus))) tells.sent_is
            ∙ ap (λ (c : Option ℕ). before.sent ++ sent_on link (handed_out time role.Client c (spellings key pdus))) (sym new_connection) ∙ sym sent_next;
        count = length_set sending.connections link (Some (length sending.sent)) ∙ tells.count;
        noted = λ other within_other. noted_at other within_other (same_or_other other link);
      })
        where
          new_connection : connection ≡ Some (length sending.sent)
          new_connection = ap (λ (e : Option ℕ). newer e ends.client.connection) enters ∙ ap (λ (n : ℕ). Some n) (sym moment_is)

          noted_at : (other : ℕ) → other < links site → (other ≡ link) ⊎ (other ≢ link) → slice_get (slice_set sending.connections link (Some (length sending.sent))) other ≡ Some (next.ends other).client.connection
          noted_at other within_other (inl same) = subst (λ (n : ℕ). slice_get (slice_set sending.connections link (Some (length sending.sent))) n ≡ Some (next.ends n).client.connection) (sym same)
              (get_set sending.connections link (Some (length sending.sent)) within ∙ ap (λ (c : Option ℕ). Some c) (sym (connection_next ∙ new_connection)))
          noted_at other within_other (inr differ) = get_set_other sending.connections link other (Some (length sending.sent)) differ ∙ tells.noted other within_other
              ∙ ap (λ (e : TwoEnds). Some e.client.connection) (sym (others_next other differ))

      stayed : (made.enters ≡ None) → AsksNone pdus → Tells next (sending_all site time (spellings key pdus) sending)
      stayed enters asks = subst (Tells next) (sym (says_all site time link key ends.client.connection pdus sending asks are_for noted_here)) (record {
        timely = timely_next;
        time_is = tells.time_is;
        sent_is = ap (λ (s : List OnLink). s ++ sent_on link (handed_out time role.Client ends.client.connection (spellings key pdus))) tells.sent_is
            ∙ ap (λ (c : Option ℕ). before.sent ++ sent_on link (handed_out time role.Client c (spellings key pdus))) (sym same_connection) ∙ sym sent_next;
        count = tells.count;
        noted = λ other within_other. noted_at other within_other (same_or_other other link);
      })
        where
          same_connection : connection ≡ ends.client.connection
          same_connection = ap (λ (e : Option ℕ). newer e ends.client.connection) enters

          noted_at : (other : ℕ) → other < links site → (other ≡ link) ⊎ (other ≢ link) → slice_get sending.connections other ≡ Some (next.ends other).client.connection
          noted_at other within_other (inl same) = subst (λ (n : ℕ). slice_get sending.connections n ≡ Some (next.ends n).client.connection) (sym same)
              (noted_here ∙ ap (λ (c : Option ℕ). Some c) (sym (connection_next ∙ same_connection)))
          noted_at other within_other (inr differ) = tells.noted other within_other ∙ ap (λ (e : TwoEnds). Some e.client.connection) (sym (others_next other differ))

      from : Begins ends call ⊎ EntersNothing ends call → Tells next (sending_all site time (spellings key pdus) sending)
      from (inl begins_one) = begun begins_one.1 (client.once names call ends (tells.timely.each link below) begins_one.0)
      from (inr none) = stayed none.1 (client.none (reading_of ends.client.clock) call ends.client.link none.0)
