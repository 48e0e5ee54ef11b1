-- Links of one world keep time alike: what a world doesn't tell of its links is nothing to time, but when a client left.
use Rattle.std.proofs.Common.{◌≡◌, ℕ, ◌+◌, ◌<◌, ◌≤◌, Bool, true, false, ◌&&◌, ◌||◌, not, if◌then◌else◌, List, [], ◌∷◌, length, Option, Some, None, slice_get, refl, sym, ap, subst, ◌∙◌, arith}
use Rattle.std.specs.Prelude.{slice_index_or}
use Rattle.std.proofs.lemmas.Option.{same_Some}
use Rattle.simulator_spec.specs.layout.Entries.{Site}
use Rattle.simulator_spec.specs.rasta_core.Clock.{settled}
use Rattle.simulator_spec.specs.rasta_core.Each.{Each}
use Rattle.simulator_spec.specs.rasta_core.EachLink.{AreTimely}
use Rattle.simulator_spec.specs.rasta_core.Ends.{EndState, Sent, end_later, leaves, reading_of}
use Rattle.simulator_spec.specs.rasta_core.Invariant.{InFlight, Timely}
use Rattle.simulator_spec.specs.rasta_core.Links.{Links, OnLink, of_link, run_links, seen}
use Rattle.simulator_spec.specs.rasta_core.Names.{Names}
use Rattle.simulator_spec.specs.rasta_core.Run.{Ends}
use Rattle.simulator_spec.specs.rasta_core.State.{LinkState, is_asking, is_open}
use Rattle.simulator_spec.specs.rasta_core.TimedEnds.{Inside, IsOutside, Outside, Times, standing, times_of}
use Rattle.simulator_spec.specs.rasta_core.Timely.{AreTimed, IsKnown}
use Rattle.simulator_spec.specs.rasta_core.identity.Role.{Role}
use Rattle.simulator_spec.specs.rasta_core.identity.Role.TheVariants as role
use Rattle.simulator_spec.specs.rasta_pdu.declared.pdu.Pdu.{Pdu}
use Rattle.simulator_spec.specs.Links.{AreLinksOf, IsClientAt, IsServerAt, names_at}
use Rattle.simulator_spec.specs.Nodes.{links, nodes}
use Rattle.simulator_spec.specs.State.{WorldState}
use Rattle.simulator_spec.specs.Happens.{passed}
use Rattle.simulator_spec.specs.ixl_spec.Table.{Table}
use Rattle.simulator_link_laws.proofs.KeptWhole.{time_keeps}
use Rattle.simulator_link_laws.proofs.Later.{time_links}
use Rattle.simulator_link_laws.proofs.Partners.{partner_at, partners_count}
use Rattle.simulator_link_laws.specs.Events.{time_events}
use Rattle.simulator_link_laws.specs.TrueLinks.{AreTrueLinks}
use Rattle.simulator_link_laws.specs.Whole.{IsWhole}

-- ---- two ends

-- two ends of whom nothing is known of what was given and taken, nor of when the client left
abbrev remade : Ends → ℕ → (client_given client_taken server_given server_taken : List (List ℕ)) → Ends
remade one left client_given client_taken server_given server_taken = record one {
  client = record one.client { left = left; given = client_given; taken = client_taken };
  server = record one.server { given = server_given; taken = server_taken };
}

abbrev with_left : ℕ → Times → Times
with_left left times = record times { client = record times.client { left = left } }

known_alike : (times : Times) (left : ℕ) (who : Role) (at connection : ℕ) (pdu : Pdu) (back : ℕ) → IsKnown times who at connection pdu back → IsKnown (with_left left times) who at connection pdu back
known_alike times left role.Client at connection pdu back known = record {
  sent_before = known.sent_before;
  heard_before = known.heard_before;
  read_as = known.read_as;
  returned = known.returned;
  stamp_is = known.stamp_is;
  returned_is = known.returned_is;
  promptly = known.promptly;
  counted = known.counted;
  begun = known.begun;
  dead = known.dead;
  entered = known.entered;
  was_read = known.was_read;
  returns = known.returns;
  last_word = known.last_word;
  lonely = known.lonely;
  request_old = known.request_old;
}
known_alike times left role.Server at connection pdu back known = record {
  sent_before = known.sent_before;
  heard_before = known.heard_before;
  read_as = known.read_as;
  returned = known.returned;
  stamp_is = known.stamp_is;
  returned_is = known.returned_is;
  promptly = known.promptly;
  counted = known.counted;
  begun = known.begun;
  dead = known.dead;
  entered = known.entered;
  was_read = known.was_read;
  returns = known.returns;
  last_word = known.last_word;
  lonely = known.lonely;
  request_old = known.request_old;
}

fly_alike : (names : Names) (times : Times) (left : ℕ) (sent : List Sent) → Each (InFlight names times) sent → Each (InFlight names (with_left left times)) sent
fly_alike names times left [] flies = tt
fly_alike names times left (first ∷ others) flies = (
  record {
    pdu = flies.0.pdu;
    is_pdu = flies.0.is_pdu;
    read = flies.0.read;
    receiver = flies.0.receiver;
    sender = flies.0.sender;
    back = flies.0.back;
    known = known_alike times left first.sender first.at first.connection flies.0.pdu flies.0.back flies.0.known;
  },
  fly_alike names times left others flies.1,
)

-- when a client that is outside left
pub record HasLeft (left : ℕ) (ends : Ends) : Type 0 where
  pub counted : left ≤ ends.moment
  pub over : IsOutside (standing ends.client.link) → (connection : ℕ) → ends.client.connection ≡ Some connection → connection < left

timed_alike : (times : Times) (left : ℕ) → left ≤ times.moment → (IsOutside times.client.standing → (connection : ℕ) → times.client.connection ≡ Some connection → connection < left)
    → AreTimed times → AreTimed (with_left left times)
timed_alike times left counted over are = record {
  client = record {
    small = are.client.small;
    left_before = are.client.left_before;
    returned_before = are.client.returned_before;
    heard_before = are.client.heard_before;
    left_counted = counted;
    began = are.client.began;
    in_newest = are.client.in_newest;
    was_read = are.client.was_read;
    reached = are.client.reached;
    young = are.client.young;
    apart = are.client.apart;
    closed = are.client.closed;
    heard_is = are.client.heard_is;
    prompt = are.client.prompt;
    over = over;
  };
  server = are.server;
  begun = are.begun;
  joined = are.joined;
  client_heard = are.client_heard;
  server_heard = are.server_heard;
  server_alone = are.server_alone;
  client_alone = are.client_alone;
}

timely_alike : (names : Names) (one : Ends) (left : ℕ) (client_given client_taken server_given server_taken : List (List ℕ)) → Timely names one → HasLeft left one
    → Timely names (remade one left client_given client_taken server_given server_taken)
timely_alike names one left client_given client_taken server_given server_taken is has = record {
  of_client = is.of_client;
  of_server = is.of_server;
  newest = is.newest;
  client = record { identity = is.client.identity; clock = is.client.clock; sound = is.client.sound };
  server = record { identity = is.server.identity; clock = is.server.clock; sound = is.server.sound };
  ends_timed = timed_alike (times_of one is.of_client is.of_server is.newest) left has.counted has.over is.ends_timed;
  datagrams = fly_alike names (times_of one is.of_client is.of_server is.newest) left one.sent is.datagrams;
}

-- ---- time

shut_is : (l : LinkState) → IsOutside (standing l) → is_open l.phase ≡ false
shut_is l out = pick (is_open l.phase) refl out where
  pick : (b : Bool) → is_open l.phase ≡ b → IsOutside (if b then Inside (is_asking l) l.own_stamp l.partner_stamp else Outside l.closed_at) → is_open l.phase ≡ false
  pick true e o = absurd o
  pick false e o = e

outside_is : (l : LinkState) → is_open l.phase ≡ false → IsOutside (standing l)
outside_is l shut = subst (λ (b : Bool). IsOutside (if b then Inside (is_asking l) l.own_stamp l.partner_stamp else Outside l.closed_at)) (sym shut) tt

-- a client as time goes on
pub left_later : (names : Names) (ends : Ends) (elapsed : ℕ) (new : Ends) → Timely names ends → new.client ≡ end_later elapsed ends.moment ends.client → new.moment ≡ ends.moment
    → HasLeft new.client.left new
unfolding end_later
left_later names ends elapsed new is client moment = record {
  counted = subst (λ (e : EndState). e.left ≤ new.moment) (sym client) (subst (λ (n : ℕ). then_left ≤ n) (sym moment) (counted (leaves old None link)));
  over = λ out connection at. subst (λ (e : EndState). connection < e.left) (sym client)
      (over (is_open old.phase) refl (is_open link.phase) refl
      (shut_is link (subst (λ (e : EndState). IsOutside (standing e.link)) client out)) connection (ap (λ (e : EndState). e.connection) (sym client) ∙ at));
}
  where
    old : LinkState
    old = ends.client.link

    link : LinkState
    link = settled (reading_of (ends.client.clock + elapsed)) ends.client.link

    then_left : ℕ
    then_left = if leaves old None link then ends.moment else ends.client.left

    counted : (b : Bool) → (if b then ends.moment else ends.client.left) ≤ ends.moment
    counted true = omega arith
    counted false = is.ends_timed.client.left_counted

    over : (was : Bool) → is_open old.phase ≡ was → (now : Bool) → is_open link.phase ≡ now → is_open link.phase ≡ false → (connection : ℕ) → ends.client.connection ≡ Some connection
        → connection < (if (is_open old.phase || false) && not (is_open link.phase) then ends.moment else ends.client.left)
    over was e now f shut connection at = subst (λ (b : Bool). connection < (if (is_open old.phase || false) && not b then ends.moment else ends.client.left)) (sym shut) (by was e)
      where
        by : (b : Bool) → is_open old.phase ≡ b → connection < (if (is_open old.phase || false) && true then ends.moment else ends.client.left)
        by true g = subst (λ (c : Bool). connection < (if (c || false) && true then ends.moment else ends.client.left)) (sym g) (is.ends_timed.client.began connection at)
        by false g = subst (λ (c : Bool). connection < (if (c || false) && true then ends.moment else ends.client.left)) (sym g) (is.ends_timed.client.over (outside_is old g) connection at)

-- ---- links of one world

-- the two ends of a link, by their parts
abbrev parts : (time : ℕ) (client_link : LinkState) (client_clock : ℕ) (client_connection : Option ℕ) (client_left : ℕ) (client_given client_taken : List (List ℕ))
    (server_link : LinkState) (server_clock : ℕ) (server_connection : Option ℕ) (server_left : ℕ) (server_given server_taken : List (List ℕ)) (sent : List Sent) (moment : ℕ) → Ends
parts time client_link client_clock client_connection client_left client_given client_taken server_link server_clock server_connection server_left server_given server_taken sent moment = record {
  time = time;
  client = record { link = client_link; clock = client_clock; connection = client_connection; left = client_left; given = client_given; taken = client_taken };
  server = record { link = server_link; clock = server_clock; connection = server_connection; left = server_left; given = server_given; taken = server_taken };
  sent = sent;
  moment = moment;
}

alike_parts : (f : ℕ → LinkState → ℕ → Option ℕ → LinkState → ℕ → Option ℕ → ℕ → List Sent → ℕ → Ends) (a b : ℕ) (c d : LinkState) (e g : ℕ) (h i : Option ℕ) (j k : LinkState) (l m : ℕ) (n o : Option ℕ) (p q : ℕ) (r s : List Sent) (t u : ℕ)
    → a ≡ b → c ≡ d → e ≡ g → h ≡ i → j ≡ k → l ≡ m → n ≡ o → p ≡ q → r ≡ s → t ≡ u → f a c e h j l n p r t ≡ f b d g i k m o q s u
alike_parts f a b c d e g h i j k l m n o p q r s t u e1 e2 e3 e4 e5 e6 e7 e8 e9 e10 = cc

module _ (site : Site) (world : WorldState) (one other : Links) (one_are : AreLinksOf site world one) (other_are : AreLinksOf site world other) where
  sent_same : one.sent ≡ other.sent
  sent_same = one_are.sent_is ∙ sym other_are.sent_is

  client_link : (link : ℕ) (a b : EndState) → IsClientAt world link a → IsClientAt world link b → (a.link ≡ b.link) × (a.clock ≡ b.clock) × (a.connection ≡ b.connection)
  client_link link a b x y = (
    x.link_is ∙ ap (λ (l : LinkState). settled (reading_of world.interlocking.clock) l) (same_Some _ _ (sym x.there ∙ y.there)) ∙ sym y.link_is,
    x.clock_is ∙ sym y.clock_is,
    same_Some _ _ (sym x.connection_is ∙ y.connection_is),
  )

  server_link : (link : ℕ) (a b : EndState) → IsServerAt world link a → IsServerAt world link b → (a.link ≡ b.link) × (a.clock ≡ b.clock) × (a.connection ≡ b.connection) × (a.left ≡ b.left)
  server_link link a b x y =
      let same = same_Some x.kept y.kept (sym x.there ∙ y.there) in (
        x.link_is ∙ ap (λ k. settled (reading_of k.clock) k.link) same ∙ sym y.link_is,
        x.clock_is ∙ ap (λ k. k.clock) same ∙ sym y.clock_is,
        x.connection_is ∙ ap (λ k. k.connection) same ∙ sym y.connection_is,
        x.left_is ∙ ap (λ k. k.left) same ∙ sym y.left_is,
      )

  seen_alike : (link : ℕ) → link < links site
      → seen link other ≡ remade (seen link one) (other.ends link).client.left (other.ends link).client.given (other.ends link).client.taken (other.ends link).server.given (other.ends link).server.taken
  seen_alike link below =
      let partner = partner_at site link below in
      let c = client_link link (other.ends link).client (one.ends link).client (other_are.clients link partner.0 partner.1) (one_are.clients link partner.0 partner.1) in
      let s = server_link link (other.ends link).server (one.ends link).server (other_are.servers link partner.0 partner.1) (one_are.servers link partner.0 partner.1) in
      alike_parts (λ time cl cc_ cn sl sc sn sf sent moment. parts time cl cc_ cn (other.ends link).client.left (other.ends link).client.given (other.ends link).client.taken sl sc sn sf (other.ends link).server.given (other.ends link).server.taken sent moment)
      _ _ _ _ _ _ _ _ _ _ _ _ _ _ _ _ _ _ _ _
      (other_are.time_is ∙ sym one_are.time_is) c.0 c.1 c.2 s.0 s.1 s.2 s.3 (ap (λ (l : List OnLink). of_link link l) (sym sent_same)) (ap (λ (l : List OnLink). length l) (sym sent_same))

  has_left : (ends : Ends) (left now : ℕ) (client_given client_taken server_given server_taken : List (List ℕ))
      → HasLeft left (remade ends now client_given client_taken server_given server_taken) → HasLeft left ends
  has_left ends left now client_given client_taken server_given server_taken has = record { counted = has.counted; over = has.over }

  -- links of a world keep time where other links of the world do, if their clients left in time
  pub links_alike : AreTimely (links site) (names_at site) one → ((link : ℕ) → link < links site → HasLeft (other.ends link).client.left (seen link other)) → AreTimely (links site) (names_at site) other
  links_alike timely left = record {
    each = λ link below. subst (λ (ends : Ends). Timely (names_at site link) ends) (sym (seen_alike link below))
        (timely_alike (names_at site link) (seen link one) _ _ _ _ _ (timely.each link below)
        (has_left (seen link one) _ _ _ _ _ _ (subst (λ (ends : Ends). HasLeft (other.ends link).client.left ends) (seen_alike link below) (left link below))));
    numbered = subst (λ (l : List OnLink). Each (λ o. o.link < links site) l) sent_same timely.numbered;
  }

-- time passes for links of a world as it does for others of it
pub pass_alike : (site : Site) (table : Table) (elapsed : ℕ) (clocks : List ℕ) (world : WorldState) (network other : Links) → IsWhole site world → AreLinksOf site world network
    → AreTimely (links site) (names_at site) network → length clocks ≡ nodes site → AreTrueLinks site (passed elapsed clocks world) other
    → AreTrueLinks site (passed elapsed clocks world) (run_links (time_events elapsed clocks) network)
pass_alike site table elapsed clocks world network other whole are timely count true_links = record {
  are = then_are;
  timely = links_alike site (passed elapsed clocks world) other after true_links.are then_are true_links.timely
      (λ link below. left_later (names_at site link) (seen link network) (slice_index_or clocks 0 0) (seen link after) (timely.each link below) refl refl);
  whole = time_keeps site elapsed clocks world whole;
}
  where
    after : Links
    after = run_links (time_events elapsed clocks) network

    then_are : AreLinksOf site (passed elapsed clocks world) after
    then_are = time_links site elapsed clocks world network count are (partners_count site)
