-- What is kept of two ends, and where they stand in what they sent each other.
use Rattle.std.proofs.Common.{◌≡◌, ℕ, suc, ◌+◌, ◌*◌, ◌^◌, ◌<◌, ◌≤◌, Bool, true, false, if◌then◌else◌, List, [], ◌∷◌, ◌++◌, length, Some, Result, Ok, Err, refl, sym, ap, subst, ◌∙◌, append-nil, arith}
use Rattle.std.proofs.lemmas.Option.{same_Some}
use Rattle.rasta_core_spec.specs.Ends.{Sent}
use Rattle.rasta_core_spec.specs.Events.{Event, IsAmong, May, Start, happened, started}
use Rattle.rasta_core_spec.specs.Given.{IsGiven, is_of, items_given, items_in, new_items}
use Rattle.rasta_core_spec.specs.Names.{AreNames, Names, partner_of}
use Rattle.rasta_core_spec.specs.PduRead.{reading}
use Rattle.rasta_core_spec.specs.Receipt.{ahead}
use Rattle.rasta_core_spec.specs.Run.{Ends, end_of}
use Rattle.rasta_core_spec.specs.Sequence.{distance, stamp, wire}
use Rattle.rasta_core_spec.specs.State.{LinkState, is_asking, is_open, is_up}
use Rattle.rasta_core_spec.specs.body.Body.{Body}
use Rattle.rasta_core_spec.specs.body.Body.TheVariants.{ConnectionRequest, ConnectionResponse, RetransmissionRequest, RetransmissionResponse, DisconnectionRequest, Heartbeat, Data, RetransmittedData}
use Rattle.rasta_core_spec.specs.identity.Role.{Role}
use Rattle.rasta_core_spec.specs.identity.Role.TheVariants as role
use Rattle.rasta_core_spec.specs.pdu.Pdu.{Pdu}
use Rattle.rasta_core_spec.specs.pdu_fault.PduFault.{PduFault}
use Rattle.rasta_core_spec.specs.phase.Phase.TheVariants as phase
use Rattle.rasta_core.specs.Carried.{carried}
use Rattle.rasta_core.specs.EndFlow.{EndFlow, IsAt}
use Rattle.rasta_core.specs.FirstPdus.{PlaysEarly, asks, gone}
use Rattle.rasta_core.specs.Invariant.{InFlight, Timely}
use Rattle.rasta_core.specs.LinkAndFlow.{HasJoined, Plays, asking, joined, left, reads}
use Rattle.rasta_core_spec.specs.Clock.{open_state}
use Rattle.rasta_core.specs.Order.{Way}
use Rattle.rasta_core.specs.TimedEnds.{IsInside, Inside, Outside, standing, times_of}
use Rattle.rasta_core.specs.Timely.{IsAnswering, IsKnown}
use Rattle.caught_up_laws.specs.Chain.{Chained, repeats}
use Rattle.caught_up_laws.specs.Change.{IsPlain}
use Rattle.caught_up_laws.specs.Exact.{Exact, alone, pdus_in, pdus_of, together, unbegun}
use Rattle.caught_up_laws.specs.inside.Laws.{Laws}
use Rattle.caught_up_laws.proofs.ExactEvents.{IsSound, sound_kept, sound_starts}
use Rattle.caught_up_laws.proofs.Chains.{chained_append}
use Rattle.caught_up_laws.proofs.Sent.{event_grows}
use Rattle.caught_up_laws.proofs.Level.{carried-append, level, within}
use Rattle.caught_up_laws.proofs.Lists.{among_each}

pub record IsWhole (names : Names) (ends : Ends) : Type 0 where
  pub sound : IsSound names ends
  pub given : (who : Role) → IsGiven names who ends
  pub chained : (who : Role) (connection : ℕ) → Chained false (pdus_of names who connection ends.sent)

pub whole_starts : Laws → (names : Names) (start : Start) → AreNames names → IsWhole names (started names start)
whole_starts law names start are = record { sound = sound_starts law names start are; given = λ who. law.starts_given names start who; chained = λ who connection. tt }

pub whole_kept : Laws → (names : Names) (event : Event) (ends : Ends) → AreNames names → May names event ends → IsWhole names ends → IsWhole names (happened event ends)
whole_kept law names event ends are may is = record {
  sound = sound_kept law names event ends are may is.sound;
  given = λ who. law.kept_given names (event ∷ []) ends are is.sound.timely is.given (may, tt) who;
  chained = λ who connection. let grown = event_grows law names who connection event ends is.sound.timely may
      in subst (Chained false) (sym grown.same) (chained_append false (pdus_of names who connection ends.sent) grown.more (is.chained who connection) grown.chained);
}

-- ---- what was given is what was carried

carried_here : (mine : Bool) (found : Result Pdu PduFault) → (if mine then items_in found else []) ≡ carried (if mine then pdus_in found else [])
carried_here true (Ok pdu) = sym (append-nil (new_items pdu.body))
carried_here true (Err fault) = refl
carried_here false found = refl

pub items_carried : (names : Names) (who : Role) (connection : ℕ) (sent : List Sent) → items_given names who connection sent ≡ carried (pdus_of names who connection sent)
items_carried names who connection [] = refl
items_carried names who connection (first ∷ later) =
    ap (λ here. here ++ items_given names who connection later) (carried_here (is_of who connection first) (reading names.key first.bytes))
    ∙ ap (λ rest. carried (if is_of who connection first then pdus_in (reading names.key first.bytes) else []) ++ rest) (items_carried names who connection later)
    ∙ sym (carried-append (if is_of who connection first then pdus_in (reading names.key first.bytes) else []) (pdus_of names who connection later))

pub given_carried : (names : Names) (ends : Ends) → IsWhole names ends → (who : Role) (connection : ℕ) → (end_of who ends).connection ≡ Some connection
    → (end_of who ends).given ≡ carried (pdus_of names who connection ends.sent)
given_carried names ends is who connection at = is.given who connection at ∙ items_carried names who connection ends.sent

-- ---- an end that has joined, its part, and its partner's

pub record Joined (names : Names) (who : Role) (ends : Ends) (connection : ℕ) : Type 0 where
  pub giver : EndFlow
  pub taker : EndFlow
  pub way : Way giver taker
  pub has : HasJoined (end_of who ends).link taker giver
  pub taken : taker.taken ≡ (end_of who ends).taken
  pub given : giver.given ≡ (end_of (partner_of who) ends).given
  pub flow : pdus_of names (partner_of who) connection ends.sent ≡ giver.flow
  pub of_client : ends.client.connection ≡ Some connection
  pub of_partner : (end_of (partner_of who) ends).connection ≡ Some connection

has_joined : (link : LinkState) (own other : EndFlow) → is_open link.phase ≡ true → is_asking link ≡ false → Plays link own other → HasJoined link own other
has_joined link own other opened heard (joined has) = has
has_joined link own other opened heard (asking still) = absurd (cc (still.asking, heard))
has_joined link own other opened heard (left shut keeps) = absurd (cc (opened, shut))

pub part_of : Laws → (names : Names) (ends : Ends) → IsWhole names ends → (who : Role) (connection : ℕ) → is_open (end_of who ends).link.phase ≡ true → is_asking (end_of who ends).link ≡ false
    → (end_of who ends).connection ≡ Some connection → Joined names who ends connection
part_of law names ends is role.Client connection opened heard at = go is.sound.exact
  where
    early : (client : EndFlow) → PlaysEarly ends.client.link client → ⊥
    early client (asks inside waits) = cc (waits, heard)
    early client (gone shut keeps) = cc (opened, shut)

    go : Exact names ends → Joined names role.Client ends connection
    go (unbegun none) = absurd (cc (none, at))
    go (alone one) = absurd (early one.client one.plays)
    go (together one) =
        let same : one.connection ≡ connection = same_Some one.connection connection (sym one.of_client ∙ at)
        in record {
          giver = one.server;
          taker = one.client;
          way = one.order.back;
          has = has_joined ends.client.link one.client one.server opened heard one.client_plays;
          taken = one.client_taken;
          given = one.server_given;
          flow = ap (λ (c : ℕ). pdus_of names role.Server c ends.sent) (sym same) ∙ one.server_flow;
          of_client = at;
          of_partner = one.of_server ∙ ap (λ (c : ℕ). Some c) same;
        }
part_of law names ends is role.Server connection opened heard at = go is.sound.exact
  where
    of_client : ends.client.connection ≡ Some connection
    of_client = sym (law.server_joins names ends is.sound.timely opened) ∙ at

    go : Exact names ends → Joined names role.Server ends connection
    go (unbegun none) = absurd (cc (none, of_client))
    go (alone one) = absurd (one.not_of_server (law.server_joins names ends is.sound.timely opened ∙ one.of_client))
    go (together one) =
        let same : one.connection ≡ connection = same_Some one.connection connection (sym one.of_client ∙ of_client)
        in record {
          giver = one.client;
          taker = one.server;
          way = one.order.there;
          has = has_joined ends.server.link one.server one.client opened heard one.server_plays;
          taken = one.server_taken;
          given = one.client_given;
          flow = ap (λ (c : ℕ). pdus_of names role.Client c ends.sent) (sym same) ∙ one.client_flow;
          of_client = of_client;
          of_partner = of_client;
        }

up_heard : (link : LinkState) → link.phase ≡ phase.Up → is_asking link ≡ false
up_heard link is = go (ap is_up is)
  where
    go : is_up link.phase ≡ true → is_asking link ≡ false
    go e = grind (arith, e)

-- an end that is up has taken the items of all PDUs before the one that it expects
pub level_at : Laws → (names : Names) (ends : Ends) → IsWhole names ends → (who : Role) (connection : ℕ) → (end_of who ends).link.phase ≡ phase.Up → (end_of who ends).connection ≡ Some connection
    → ((pdu : Pdu) (place : ℕ) → suc place ≡ (end_of who ends).link.expected → IsAt place pdu (pdus_of names (partner_of who) connection ends.sent) → repeats pdu.body ≡ false)
    → (front more : List Pdu) → pdus_of names (partner_of who) connection ends.sent ≡ front ++ more → length front ≤ (end_of who ends).link.expected
    → length (carried front) ≤ length (end_of who ends).taken
level_at law names ends is who connection up at last front more same few =
    let own = part_of law names ends is who connection (ap is_open up) (up_heard (end_of who ends).link up) at
    in subst (λ (items : List (List ℕ)). length (carried front) ≤ length items) own.taken
    (level own.giver own.taker own.way (own.has.inside.reading ∙ ap (λ p. reads (open_state p)) up)
    (subst (Chained false) own.flow (is.chained (partner_of who) connection))
    (λ pdu place e there. last pdu place (e ∙ sym own.has.expected) (subst (IsAt place pdu) (sym own.flow) there))
    (own.given ∙ given_carried names ends is (partner_of who) connection own.of_partner ∙ ap carried own.flow)
    front more (sym own.flow ∙ same) (subst (λ (n : ℕ). length front ≤ n) own.has.expected few))

-- ---- the place of a PDU that is taken in turn

none_ahead : (first expected place : ℕ) → expected < 2 ^ 31 → place < 2 ^ 31 → distance (wire first expected) (wire first place) ≡ 0 → place ≡ expected
none_ahead first expected place e p d = omega (arith, d)

pub its_place : Laws → (names : Names) (ends : Ends) → IsWhole names ends → (who : Role) (connection : ℕ) → is_open (end_of who ends).link.phase ≡ true → is_asking (end_of who ends).link ≡ false
    → (end_of who ends).connection ≡ Some connection → (pdu : Pdu) (place : ℕ) → IsAt place pdu (pdus_of names (partner_of who) connection ends.sent)
    → ahead pdu (end_of who ends).link ≡ 0 → (place ≡ (end_of who ends).link.expected) × (wire (end_of who ends).link.expected 1 ≡ suc place)
unfolding ahead
its_place law names ends is who connection opened heard at pdu place there none =
    let own = part_of law names ends is who connection opened heard at
    in let here : IsAt place pdu own.giver.flow = subst (IsAt place pdu) own.flow there
    in let said = own.way.each place pdu here
    in let small : own.taker.reached < 2 ^ 31 = omega (arith, own.way.counts.most, own.way.counts.fits)
    in let low : place < 2 ^ 31 = omega (arith, within place pdu own.giver.flow here, own.way.counts.fits)
    in let apart : distance (wire own.giver.first own.taker.reached) (wire own.giver.first place) ≡ 0
    = sym (ap (λ first. distance (wire first (end_of who ends).link.expected) pdu.sequence_number) own.has.partner_first
    ∙ ap (λ count. distance (wire own.giver.first count) pdu.sequence_number) own.has.expected
    ∙ ap (distance (wire own.giver.first own.taker.reached)) said.number) ∙ none
    in let same : place ≡ own.taker.reached = none_ahead own.giver.first own.taker.reached place small low apart
    in (same ∙ sym own.has.expected, next (end_of who ends).link.expected place (same ∙ sym own.has.expected) low)
  where
    next : (expected place : ℕ) → place ≡ expected → place < 2 ^ 31 → wire expected 1 ≡ suc place
    next expected place e low = omega (arith, e, low)

-- ---- when what a PDU returns was read

pub record WasTold (who : Role) (past : Ends) (datagram : Sent) (pdu : Pdu) : Type 0 where
  pub read : ℕ
  pub back : ℕ
  pub off : ℕ
  pub stamp_is : pdu.confirmed_time_stamp ≡ stamp read
  pub before : 1000 * read ≤ (end_of who past).clock
  pub most : 1000 * (end_of who past).clock + 1001 * back ≤ 1000000 * read + 1001 * past.time + 999000 + off
  pub small : off ≤ 10000
  pub promptly : datagram.at < back + 3802000

answers : (body : Body) → IsPlain body → IsAnswering role.Client body
answers (ConnectionRequest opening) is = absurd is
answers (ConnectionResponse opening) is = absurd is
answers RetransmissionRequest is = tt
answers RetransmissionResponse is = absurd is
answers (DisconnectionRequest detail why) is = absurd is
answers Heartbeat is = tt
answers (Data items) is = tt
answers (RetransmittedData items) is = absurd is

pub plain_repeats : (body : Body) → IsPlain body → repeats body ≡ false
plain_repeats (ConnectionRequest opening) is = absurd is
plain_repeats (ConnectionResponse opening) is = absurd is
plain_repeats RetransmissionRequest is = refl
plain_repeats RetransmissionResponse is = absurd is
plain_repeats (DisconnectionRequest detail why) is = absurd is
plain_repeats Heartbeat is = refl
plain_repeats (Data items) is = refl
plain_repeats (RetransmittedData items) is = absurd is

pub inside_of : (link : LinkState) → is_open link.phase ≡ true → IsInside (standing link)
inside_of link opened = subst (λ (b : Bool). IsInside (if b then Inside (is_asking link) link.own_stamp link.partner_stamp else Outside link.closed_at)) (sym opened) tt

pub was_told : (names : Names) (who : Role) (past : Ends) → Timely names past → (connection : ℕ) → is_open (end_of who past).link.phase ≡ true → (end_of who past).connection ≡ Some connection
    → (datagram : Sent) (pdu : Pdu) → IsAmong datagram past.sent → datagram.sender ≡ partner_of who → datagram.connection ≡ connection → reading names.key datagram.bytes ≡ Ok pdu → IsPlain pdu.body
    → WasTold who past datagram pdu
was_told names role.Client past is connection opened at datagram pdu among its there read plain =
    let flies : InFlight names (times_of past is.of_client is.of_server is.newest) datagram = among_each (InFlight names (times_of past is.of_client is.of_server is.newest)) datagram past.sent among is.datagrams
    in let same : flies.pdu ≡ pdu = same_read flies.pdu flies.read
    in let known : IsKnown (times_of past is.of_client is.of_server is.newest) role.Server datagram.at datagram.connection pdu flies.back
    = subst (λ (p : Pdu). IsKnown (times_of past is.of_client is.of_server is.newest) role.Server datagram.at datagram.connection p flies.back) same
    (subst (λ (r : Role). IsKnown (times_of past is.of_client is.of_server is.newest) r datagram.at datagram.connection flies.pdu flies.back) its flies.known)
    in let newest : datagram.connection ≡ is.newest = there ∙ same_Some connection is.newest (sym at ∙ is.ends_timed.client.in_newest (inside_of past.client.link opened))
    in let was = known.returns newest tt (inside_of past.client.link opened)
    in record {
      read = known.returned;
      back = flies.back;
      off = is.of_client.offset.ahead;
      stamp_is = known.returned_is tt;
      before = was.before;
      most = was.most;
      small = was.small.ahead;
      promptly = known.promptly tt;
    }
  where
    same_read : (other : Pdu) → reading names.key datagram.bytes ≡ Ok other → other ≡ pdu
    same_read other f = let r = read in cc
was_told names role.Server past is connection opened at datagram pdu among its there read plain =
    let flies : InFlight names (times_of past is.of_client is.of_server is.newest) datagram = among_each (InFlight names (times_of past is.of_client is.of_server is.newest)) datagram past.sent among is.datagrams
    in let same : flies.pdu ≡ pdu = same_read flies.pdu flies.read
    in let known : IsKnown (times_of past is.of_client is.of_server is.newest) role.Client datagram.at datagram.connection pdu flies.back
    = subst (λ (p : Pdu). IsKnown (times_of past is.of_client is.of_server is.newest) role.Client datagram.at datagram.connection p flies.back) same
    (subst (λ (r : Role). IsKnown (times_of past is.of_client is.of_server is.newest) r datagram.at datagram.connection flies.pdu flies.back) its flies.known)
    in let newest : datagram.connection ≡ is.newest = there ∙ same_Some connection is.newest (sym at ∙ is.ends_timed.server.in_newest (inside_of past.server.link opened))
    in let was = known.returns newest (answers pdu.body plain) (inside_of past.server.link opened)
    in record {
      read = known.returned;
      back = flies.back;
      off = is.of_server.offset.ahead;
      stamp_is = known.returned_is (answers pdu.body plain);
      before = was.before;
      most = was.most;
      small = was.small.ahead;
      promptly = known.promptly (answers pdu.body plain);
    }
  where
    same_read : (other : Pdu) → reading names.key datagram.bytes ≡ Ok other → other ≡ pdu
    same_read other f = let r = read in cc
