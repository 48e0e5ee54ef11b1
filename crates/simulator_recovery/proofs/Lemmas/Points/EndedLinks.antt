-- What a point's client was given and its controller has reported in the client's last connection, as the links of a world tell it.
use Rattle.simulator_recovery.proofs.Words.Basics.{◌≡◌, ◌≢◌, ◌⊎◌, inl, inr, ℕ, zero, suc, ◌<◌, ◌≤◌, ◌+◌, ◌==◌, Bool, true, false, if◌then◌else◌, List, [], ◌∷◌, ◌++◌, append-nil, append_assoc, length, Option, Some, None, slice_get, refl, sym, ap, subst, ◌∙◌, arith, false≢true, length-append, same_Some}
use Rattle.simulator_recovery.proofs.Words.Links.{is_copy, settled, state_at, reading_of, items_given, items_in, is_of, CallsOn, Links, LinksEvent, LosesAny, OnLink, PassesFor, RestartsOn, happened_to, of_link, run_links, seen, sent_by, sent_on, without_oldest_of_all, Names, end_of, LinkState, is_open, Role, reading}
use Rattle.simulator_recovery.proofs.Words.Stations.{Site, IsServerAt, ServerEnd, names_at, links, partners, WorldState, IsNetworkOf}
use Rattle.simulator_recovery.proofs.Words.Machine.{last_of, Before, Gone, In, Server, Position, Side, is_same_connection, server_in, server_of, of_server, reports_given, all_said, moves_in, reports_in, IsLawful}
use Rattle.simulator_recovery.proofs.Words.Recovery.{LawsBelow}
use Rattle.simulator_move_laws.specs.EndsSeen.{is_inside}
use Rattle.simulator_recovery.proofs.Lemmas.Ground.ClientItem.{partners_length}
use Rattle.simulator_recovery.proofs.Lemmas.Rounds.AtWork.{of_both}
use Rattle.simulator_recovery.proofs.Lemmas.Points.EndedClient.{AddsNoMove}
use Rattle.simulator_recovery.proofs.Lemmas.Points.FieldPointsStep.{reports_both}
use Rattle.simulator_recovery.proofs.Lemmas.Ground.EndCalls.{at_place}
use Rattle.simulator_recovery.proofs.Lemmas.Rounds.FlowsStay.{given_both}
use Rattle.simulator_recovery.proofs.Lemmas.Lamps.StopsGiven.{is_equal}

-- the moves that the client was given, and the positions that the controller has reported, there
abbrev pub moves_at : ℕ → Links → List Side
moves_at link network = moves_in (network.ends link).client.given

abbrev pub reports_at : ℕ → Links → List Position
reports_at link network = reports_in (reports_given (seen link network))

-- No move was given; or there is a report for each, and one more, and the last of them tells this side.
abbrev pub HasAnswered : ℕ → Side → Links → Type 0
HasAnswered link side network =
    (length (moves_at link network) ≡ 0) ⊎ ((length (reports_at link network) ≡ length (moves_at link network) + 1) × (last_of None (reports_at link network) ≡ Some side))

-- ---- two networks of one world

module _ (site : Site) (world : WorldState) (one other : Links) (a : IsNetworkOf site world one) (b : IsNetworkOf site world other) (link : ℕ) (below : link < links site) where
  id : (id : ℕ) × (slice_get (partners site) link ≡ Some id)
  id = at_place (partners site) link (subst (λ (n : ℕ). link < n) (sym (partners_length site)) below)

  client_same : (one.ends link).client.connection ≡ (other.ends link).client.connection
  client_same = same_Some _ _ (sym (a.are.clients link id.0 id.1).connection_is ∙ (b.are.clients link id.0 id.1).connection_is)

  abbrev mine : IsServerAt world link (one.ends link).server
  mine = a.are.servers link id.0 id.1

  abbrev its : IsServerAt world link (other.ends link).server
  its = b.are.servers link id.0 id.1

  kept_same : mine.kept ≡ its.kept
  kept_same = same_Some mine.kept its.kept (sym mine.there ∙ its.there)

  server_same : (one.ends link).server.connection ≡ (other.ends link).server.connection
  server_same = mine.connection_is ∙ (ap (λ (k : ServerEnd). k.connection) kept_same ∙ sym its.connection_is)

  link_same : (one.ends link).server.link ≡ (other.ends link).server.link
  link_same = mine.link_is ∙ (ap (λ (k : ServerEnd). settled (reading_of k.clock) k.link) kept_same ∙ sym its.link_is)

  clock_same : (one.ends link).server.clock ≡ (other.ends link).server.clock
  clock_same = mine.clock_is ∙ (ap (λ (k : ServerEnd). k.clock) kept_same ∙ sym its.clock_is)

  given_same : (who : Role) → (end_of who (seen link one)).connection ≡ (end_of who (seen link other)).connection → (end_of who (seen link one)).given ≡ (end_of who (seen link other)).given
  given_same who same = by_connection (end_of who (seen link one)).connection refl
    where
      by_connection : (c : Option ℕ) → (end_of who (seen link one)).connection ≡ c → (end_of who (seen link one)).given ≡ (end_of who (seen link other)).given
      by_connection None e = (a.lawful.unused link below who e).0 ∙ sym (b.lawful.unused link below who (sym same ∙ e)).0
      by_connection (Some connection) e = a.lawful.given link below who connection e
          ∙ (ap (λ (sent : List OnLink). items_given (names_at site link) who connection (of_link link sent)) (a.are.sent_is ∙ sym b.are.sent_is)
          ∙ sym (b.lawful.given link below who connection (sym same ∙ e)))

  pub moves_same : moves_at link one ≡ moves_at link other
  moves_same = ap moves_in (given_same Role.Client client_same)

  pub reports_same : reports_at link one ≡ reports_at link other
  reports_same = alike (λ (clock : ℕ) (l : LinkState) (client server : Option ℕ) (given : List (List ℕ)).
      reports_in (of_server (server_in (is_inside (state_at (reading_of clock) l)) (is_same_connection client server)) given))
      clock_same link_same client_same server_same (given_same Role.Server server_same)
    where
      alike : (f : ℕ → LinkState → Option ℕ → Option ℕ → List (List ℕ) → List Position) {k l : ℕ} {m n : LinkState} {c d e g : Option ℕ} {x y : List (List ℕ)} → k ≡ l → m ≡ n → c ≡ d → e ≡ g → x ≡ y
          → f k m c e x ≡ f l n d g y
      alike f p q r s t = cc (p, q, r, s, t)

-- ---- what was given stays given

module _ (names : Names) (who : Role) (connection link : ℕ) where
  abbrev given_in : List OnLink → List (List ℕ)
  given_in sent = items_given names who connection (of_link link sent)

  -- what is lost was given, too
  lost_same : (bytes : List ℕ) (sent : List OnLink) → given_in (without_oldest_of_all bytes sent) ≡ given_in sent
  lost_same bytes [] = refl
  lost_same bytes (first ∷ later) = choose (is_copy bytes first.datagram) (lost_same bytes later)
    where
      lost : (b : Bool) → items_given names who connection (if b then (record first.datagram { is_lost = true }) ∷ of_link link later else of_link link later)
          ≡ items_given names who connection (if b then first.datagram ∷ of_link link later else of_link link later)
      lost true = refl
      lost false = refl

      kept : given_in (without_oldest_of_all bytes later) ≡ given_in later → (b : Bool)
          → items_given names who connection (if b then first.datagram ∷ of_link link (without_oldest_of_all bytes later) else of_link link (without_oldest_of_all bytes later))
          ≡ items_given names who connection (if b then first.datagram ∷ of_link link later else of_link link later)
      kept rest_same true = ap (λ (rest : List (List ℕ)). (if is_of who connection first.datagram then items_in (reading names.key first.datagram.bytes) else []) ++ rest) rest_same
      kept rest_same false = rest_same

      choose : (b : Bool) → given_in (without_oldest_of_all bytes later) ≡ given_in later
          → given_in (if b then (record { link = first.link; datagram = record first.datagram { is_lost = true } }) ∷ later else first ∷ without_oldest_of_all bytes later) ≡ given_in (first ∷ later)
      choose true rest_same = lost (first.link == link)
      choose false rest_same = kept rest_same (first.link == link)

  abbrev Grows : List OnLink → List OnLink → Type 0
  Grows old new = (more : List (List ℕ)) × (given_in new ≡ given_in old ++ more)

  same_grows : (old new : List OnLink) → given_in new ≡ given_in old → Grows old new
  same_grows old new same = ([], same ∙ sym (append-nil (given_in old)))

  event_grows : (event : LinksEvent) (network : Links) → Grows network.sent (happened_to event network).sent
  event_grows (CallsOn at by call) network =
      let more = sent_on at (sent_by by call (seen at network))
      in (given_in more, ap (items_given names who connection) (of_both link network.sent more) ∙ given_both names who connection (of_link link network.sent) (of_link link more))
  event_grows (PassesFor elapsed of_clients of_servers) network = same_grows network.sent network.sent refl
  event_grows (LosesAny bytes) network = same_grows network.sent (without_oldest_of_all bytes network.sent) (lost_same bytes network.sent)
  event_grows (RestartsOn at by clock first) network = same_grows network.sent network.sent refl

  run_grows : (events : List LinksEvent) (network : Links) → Grows network.sent (run_links events network).sent
  run_grows [] network = same_grows network.sent network.sent refl
  run_grows (first ∷ others) network =
      let one = event_grows first network
      in let rest = run_grows others (happened_to first network)
      in (one.0 ++ rest.0, rest.1 ∙ (ap (λ (list : List (List ℕ)). list ++ rest.0) one.1 ∙ append_assoc (given_in network.sent) one.0 rest.0))

-- ---- a client that was given moves is in one connection with its controller

has_left : (inside was : Bool) → server_in inside was ≡ Gone → was ≡ true
has_left true was e = absurd (cc e)
has_left false true e = refl
has_left false false e = absurd (cc e)

same_then : (one other : Option ℕ) → is_same_connection one other ≡ true → one ≡ other
same_then None None e = refl
same_then None (Some b) e = absurd (false≢true e)
same_then (Some a) None e = absurd (false≢true e)
same_then (Some a) (Some b) e = ap Some (is_equal a b e)

all_there : (server : Server) (items : List (List ℕ)) → server ≢ Before → of_server server items ≡ items
all_there Before items entered = absurd (entered refl)
all_there In items entered = refl
all_there Gone items entered = refl

module _ (laws : LawsBelow) (site : Site) (link : ℕ) (below : link < links site) where
  -- both ends are in this connection, and what the controller has reported there is what the datagrams tell
  record Entered (network : Links) : Type 0 where
    connection : ℕ
    client : (network.ends link).client.connection ≡ Some connection
    server : (network.ends link).server.connection ≡ Some connection
    reports : reports_at link network ≡ reports_in (items_given (names_at site link) Role.Server connection (of_link link network.sent))

  entered : (world : WorldState) (network : Links) → IsNetworkOf site world network → (length (moves_at link network) ≡ 0 → ⊥) → Entered network
  unfolding all_said
  entered world network is some = record {
    connection = one.0;
    client = one.1;
    server = one.2;
    reports = ap reports_in (all_there (server_of (seen link network)) (network.ends link).server.given not_before ∙ is.lawful.given link below Role.Server one.0 one.2);
  }
    where
      lawful : IsLawful (names_at site link) (seen link network)
      lawful = laws.lawful_worlds_stay_lawful_each (links site) (names_at site) network is.lawful link below

      none : (network.ends link).client.given ≡ [] → ⊥
      none e = some (ap (λ (items : List (List ℕ)). length (moves_in items)) e)

      not_before : server_of (seen link network) ≢ Before
      not_before e = none (laws.flows_are_in_order (names_at site link) (seen link network) lawful e).0

      with_one : (c : Option ℕ) → (network.ends link).client.connection ≡ c → (network.ends link).client.connection ≡ (network.ends link).server.connection
          → (connection : ℕ) × ((network.ends link).client.connection ≡ Some connection) × ((network.ends link).server.connection ≡ Some connection)
      with_one None e same = absurd (none (lawful.unused Role.Client e).0)
      with_one (Some connection) e same = (connection, e, sym same ∙ e)

      by_open : (b : Bool) → is_open (network.ends link).server.link.phase ≡ b → server_of (seen link network) ≡ In
          → (connection : ℕ) × ((network.ends link).client.connection ≡ Some connection) × ((network.ends link).server.connection ≡ Some connection)
      by_open true e inside = let both = laws.representations_tell_the_connection_one (names_at site link) (seen link network) lawful.timely e in (both.connection, both.client, both.server)
      by_open false e inside = absurd (laws.representations_tell_the_connection_outside (names_at site link) (seen link network) lawful.timely e inside)

      by_server : (s : Server) → server_of (seen link network) ≡ s
          → (connection : ℕ) × ((network.ends link).client.connection ≡ Some connection) × ((network.ends link).server.connection ≡ Some connection)
      by_server Before e = absurd (not_before e)
      by_server In e = by_open (is_open (network.ends link).server.link.phase) refl e
      by_server Gone e = with_one (network.ends link).client.connection refl
          (same_then (network.ends link).client.connection (network.ends link).server.connection (has_left _ _ e))

      one : (connection : ℕ) × ((network.ends link).client.connection ≡ Some connection) × ((network.ends link).server.connection ≡ Some connection)
      one = by_server (server_of (seen link network)) refl

  -- ---- events that give no move

  none_left : (list : List Position) → length list ≡ 0 → list ≡ []
  none_left [] e = refl
  none_left (one ∷ later) e = absurd (omega (arith, e))

  pub answered_on : (side : Side) (events : List LinksEvent) (world new : WorldState) (network : Links) → IsNetworkOf site world network → IsNetworkOf site new (run_links events network)
      → AddsNoMove (network.ends link).client.given ((run_links events network).ends link).client.given
      → ((((run_links events network).ends link).client.connection ≡ (network.ends link).client.connection)
      ⊎ (((run_links events network).ends link).server.connection ≡ (network.ends link).server.connection))
      → length (reports_at link (run_links events network)) ≤ length (moves_at link (run_links events network)) + 1 → HasAnswered link side network → HasAnswered link side (run_links events network)
  answered_on side events world new network a b (inr none) one most answers = inl (ap length none)
  answered_on side events world new network a b (inl same) one most (inl zero_given) = inl (ap length same ∙ zero_given)
  answered_on side events world new network a b (inl same) one most (inr (all, last)) = by_many (length (moves_at link network)) refl
    where
      after : Links
      after = run_links events network

      by_many : (n : ℕ) → length (moves_at link network) ≡ n → HasAnswered link side after
      by_many zero e = inl (ap length same ∙ e)
      by_many (suc n) e = inr (ap length reports_same ∙ (all ∙ ap (λ (m : ℕ). m + 1) (sym (ap length same))), ap (last_of None) reports_same ∙ last)
        where
          was : Entered network
          was = entered world network a (λ z. absurd (omega (arith, e, z)))

          is : Entered after
          is = entered new after b (λ z. let so = ap length same in absurd (omega (arith, e, z, so)))

          in_one : is.connection ≡ was.connection
          in_one = choose one
            where
              choose : ((after.ends link).client.connection ≡ (network.ends link).client.connection) ⊎ ((after.ends link).server.connection ≡ (network.ends link).server.connection)
                  → is.connection ≡ was.connection
              choose (inl client) = same_Some _ _ (sym is.client ∙ (client ∙ was.client))
              choose (inr server) = same_Some _ _ (sym is.server ∙ (server ∙ was.server))

          grown : Grows (names_at site link) Role.Server was.connection link network.sent after.sent
          grown = run_grows (names_at site link) Role.Server was.connection link events network

          longer : reports_at link after ≡ reports_at link network ++ reports_in grown.0
          longer = is.reports ∙ (ap (λ (c : ℕ). reports_in (items_given (names_at site link) Role.Server c (of_link link after.sent))) in_one
              ∙ (ap reports_in grown.1 ∙ (reports_both _ grown.0 ∙ ap (λ (list : List Position). list ++ reports_in grown.0) (sym was.reports))))

          no_more : reports_in grown.0 ≡ []
          no_more =
              let so = ap length same
              in let parts = ap length longer
              in let both = length-append (reports_at link network) (reports_in grown.0)
              in none_left (reports_in grown.0) (omega (arith, so, parts, both, all, most))

          reports_same : reports_at link after ≡ reports_at link network
          reports_same = longer ∙ (ap (λ (list : List Position). reports_at link network ++ list) no_more ∙ append-nil (reports_at link network))
