-- Many links over one list of datagrams. The links of a world have the numbers below their count.
use Rattle.std.specs.Prelude.{◌≡◌, ◌≢◌, Bool, true, false, ℕ, ◌+◌, ◌<◌, ◌≤◌, ◌==◌, ◌&&◌, List, [], ◌∷◌, ◌++◌, length, map, ◌⊎◌, if◌then◌else◌}
use Rattle.rasta_core_spec.specs.Outbox.{spellings}
use Rattle.rasta_core_spec.specs.identity.Role.{Role}
use Rattle.rasta_core_spec.specs.identity.Role.TheVariants as role
use Rattle.rasta_core_spec.specs.Bag.{is_copy, lifetime}
use Rattle.rasta_core_spec.specs.Ends.{Sent, EndState, Call, Ticks, Opens, Closes, Sends, Receives, outcome, end_after, end_later, handed_out}
use Rattle.rasta_core_spec.specs.Run.{Ends, called, end_of, restarted}
use Rattle.rasta_core_spec.specs.Events.{Calls, Elsewhere, Event, IsWithinDrift, Loses, Passes, Restarts, Start, new_end}
use Rattle.rasta_core_spec.specs.Names.{AreNames, Names}
use Rattle.rasta_core_spec.specs.TrueClocks.{Offset, is_same, set}
use Rattle.rasta_core_spec.specs.key.Key.{Key}
use Rattle.rasta_core_spec.specs.Items.{IsItem}
use Rattle.rasta_core_spec.specs.SafetyCode.{IsIntact}

-- the two ends of a link
pub record TwoEnds : Type 0 where
  pub client : EndState
  pub server : EndState

-- a datagram, and the link on which it was sent
pub record OnLink : Type 0 where
  pub link : ℕ
  pub datagram : Sent

-- a world: true time in microseconds, the ends of each link, and every datagram that was sent, oldest first
pub record Links : Type 0 where
  pub time : ℕ
  pub ends : ℕ → TwoEnds
  pub sent : List OnLink

-- the datagrams of one link
abbrev pub of_link : ℕ → List OnLink → List Sent
of_link link [] = []
of_link link (first ∷ later) = if first.link == link then first.datagram ∷ of_link link later else of_link link later

-- what a link sees of its world: its own ends and datagrams, and how many datagrams were sent in all
abbrev pub seen : ℕ → Links → Ends
seen link links = record {
  time = links.time;
  client = (links.ends link).client;
  server = (links.ends link).server;
  sent = of_link link links.sent;
  moment = length links.sent;
}

-- what a call sends
unfoldable pub sent_by : Role → Call → Ends → List Sent
sent_by who call ends =
    let old = end_of who ends
    in let made = outcome call ends.moment old
    in handed_out ends.time who (end_after made ends.moment old).connection (spellings old.link.identity.key made.pdus)

abbrev pub sent_on : ℕ → List Sent → List OnLink
sent_on link sent = map (λ datagram. record { link = link; datagram = datagram }) sent

-- a link has these ends, and the others have theirs
abbrev pub with_ends : ℕ → Ends → Links → Links
with_ends link new links = record links {
  ends = λ other. if other == link then record { client = new.client; server = new.server } else links.ends other;
}

-- the oldest copy of these bytes is lost, whose link it may be
abbrev pub without_oldest_of_all : List ℕ → List OnLink → List OnLink
without_oldest_of_all bytes [] = []
without_oldest_of_all bytes (first ∷ later) =
    if is_copy bytes first.datagram
    then (record { link = first.link; datagram = record first.datagram { is_lost = true } }) ∷ later
    else first ∷ without_oldest_of_all bytes later

pub data LinksEvent : Type 0 where
  -- an end of a link is called
  CallsOn : ℕ → Role → Call → LinksEvent
  -- time goes on, and the clocks of the client and the server of each link
  PassesFor : ℕ → (ℕ → ℕ) → (ℕ → ℕ) → LinksEvent
  -- the network loses a copy of these bytes
  LosesAny : List ℕ → LinksEvent
  -- an end of a link is made anew, with this clock in milliseconds and this first sequence number
  RestartsOn : ℕ → Role → ℕ → ℕ → LinksEvent

abbrev pub happened_to : LinksEvent → Links → Links
happened_to (CallsOn link who call) links = record (with_ends link (called who call (seen link links)) links) {
  sent = links.sent ++ sent_on link (sent_by who call (seen link links));
}
happened_to (PassesFor elapsed of_clients of_servers) links = record links {
  time = links.time + elapsed;
  ends = λ link. record {
    client = end_later (of_clients link) (length links.sent) (links.ends link).client;
    server = end_later (of_servers link) (length links.sent) (links.ends link).server;
  };
}
happened_to (LosesAny bytes) links = record links { sent = without_oldest_of_all bytes links.sent }
happened_to (RestartsOn link who clock first_sequence_number) links =
    with_ends link (restarted who clock first_sequence_number (seen link links)) links

-- whether the oldest copy of these bytes was sent on this link
abbrev pub is_oldest_on : ℕ → List ℕ → List OnLink → Bool
is_oldest_on link bytes [] = false
is_oldest_on link bytes (first ∷ later) = if is_copy bytes first.datagram then first.link == link else is_oldest_on link bytes later

-- What an event of a world is to one of its links: events of two ends. An event at another link is only that so many
-- datagrams are sent elsewhere.
abbrev pub events_on : ℕ → LinksEvent → Links → List Event
events_on link (CallsOn at who call) links = if link == at then Calls who call ∷ [] else Elsewhere (length (sent_by who call (seen at links))) ∷ []
events_on link (PassesFor elapsed of_clients of_servers) links = Passes elapsed (of_clients link) (of_servers link) ∷ []
events_on link (LosesAny bytes) links = if is_oldest_on link bytes links.sent then Loses bytes ∷ [] else []
events_on link (RestartsOn at who clock first_sequence_number) links = if link == at then Restarts who clock first_sequence_number ∷ [] else []

-- the names of the links: one key, and no server has a name that another link uses; clients may share theirs
pub record AreLinks (count : ℕ) (names : ℕ → Names) : Type 0 where
  pub each : (link : ℕ) → link < count → AreNames (names link)
  pub one_key : (one other : ℕ) → one < count → other < count → (names one).key ≡ (names other).key
  pub apart : (one other : ℕ) → one < count → other < count → one ≢ other
      → ((names one).server ≢ (names other).server) × ((names one).server ≢ (names other).client)

-- links between one client, whose identity is 1, and servers with identities of their own: 2, 3 and so on
abbrev pub star : Key → ℕ → Names
star key link = record { key = key; client = 1; server = 2 + link }

-- one of these datagrams
abbrev pub IsAmongAll : OnLink → List OnLink → Type 0
IsAmongAll one [] = ⊥
IsAmongAll one (first ∷ later) = (first ≡ one) ⊎ IsAmongAll one later

-- These bytes are those of a datagram that was sent on some link, at most 2000 ms of true time before.
pub record WasSent (links : Links) (bytes : List ℕ) (connection : ℕ) (one : OnLink) : Type 0 where
  pub among : IsAmongAll one links.sent
  pub bytes_same : one.datagram.bytes ≡ bytes
  pub connection_same : one.datagram.connection ≡ connection
  pub in_time : links.time ≤ one.datagram.at + lifetime

-- what may be given to an end: items of 1 to 61 bytes; bytes that were sent on any link not long ago, or that aren't intact
abbrev pub MayCallOn : Names → Call → Links → Type 0
MayCallOn names Ticks links = Unit {0}
MayCallOn names Opens links = Unit {0}
MayCallOn names (Closes why) links = Unit {0}
MayCallOn names (Sends item) links = IsItem item
MayCallOn names (Receives bytes connection) links =
    ((one : OnLink) × WasSent links bytes connection one) ⊎ (IsIntact names.key bytes → ⊥)

abbrev pub MayHappenTo : ℕ → (ℕ → Names) → LinksEvent → Links → Type 0
MayHappenTo count names (CallsOn link who call) links = (link < count) × MayCallOn (names link) call links
MayHappenTo count names (PassesFor elapsed of_clients of_servers) links =
    (link : ℕ) → link < count → IsWithinDrift elapsed (of_clients link) × IsWithinDrift elapsed (of_servers link)
MayHappenTo count names (LosesAny bytes) links = Unit {0}
MayHappenTo count names (RestartsOn link who clock first_sequence_number) links = Unit {0}

-- a list of events, one after another
abbrev pub run_links : List LinksEvent → Links → Links
run_links [] links = links
run_links (first ∷ others) links = run_links others (happened_to first links)

abbrev pub MayRunLinks : ℕ → (ℕ → Names) → List LinksEvent → Links → Type 0
MayRunLinks count names [] links = Unit {0}
MayRunLinks count names (first ∷ others) links = MayHappenTo count names first links × MayRunLinks count names others (happened_to first links)

-- an event of a world in which no time passes
abbrev pub IsAtOnceFor : LinksEvent → Type 0
IsAtOnceFor (PassesFor elapsed of_clients of_servers) = ⊥
IsAtOnceFor (CallsOn link who call) = Unit {0}
IsAtOnceFor (LosesAny bytes) = Unit {0}
IsAtOnceFor (RestartsOn link who clock first_sequence_number) = Unit {0}

abbrev pub AreAtOnce : List LinksEvent → Type 0
AreAtOnce [] = Unit {0}
AreAtOnce (first ∷ others) = IsAtOnceFor first × AreAtOnce others

-- the event makes this end of a link anew, and so sets its clock
abbrev pub sets_on : ℕ → Role → LinksEvent → Bool
sets_on link who (RestartsOn at other clock first_sequence_number) = (link == at) && is_same who other
sets_on link who (CallsOn at other call) = false
sets_on link who (PassesFor elapsed of_clients of_servers) = false
sets_on link who (LosesAny bytes) = false

-- how far the clocks are off after it, and after a list of such
abbrev pub offsets_on : LinksEvent → (ℕ → Role → Offset) → ℕ → Role → Offset
offsets_on event offsets link who = if sets_on link who event then set else offsets link who

abbrev pub all_offsets_on : List LinksEvent → (ℕ → Role → Offset) → ℕ → Role → Offset
all_offsets_on [] offsets = offsets
all_offsets_on (first ∷ others) offsets = all_offsets_on others (offsets_on first offsets)

-- what a list of events of a world is to one of its links
abbrev pub run_on : ℕ → List LinksEvent → Links → List Event
run_on link [] links = []
run_on link (first ∷ others) links = events_on link first links ++ run_on link others (happened_to first links)

-- an event that doesn't make the client of this link anew
abbrev pub LeavesClientOf : ℕ → LinksEvent → Type 0
LeavesClientOf link (RestartsOn at role.Client clock first_sequence_number) = link ≢ at
LeavesClientOf link _ = Unit {0}

-- a world at its beginning: true time, and the clock and the first sequence number of each end
pub record LinksStart : Type 0 where
  pub time : ℕ
  pub client_clock : ℕ → ℕ
  pub client_first : ℕ → ℕ
  pub server_clock : ℕ → ℕ
  pub server_first : ℕ → ℕ

abbrev pub start_of : ℕ → LinksStart → Start
start_of link start = record {
  time = start.time;
  moment = 0;
  client_clock = start.client_clock link;
  client_first = start.client_first link;
  server_clock = start.server_clock link;
  server_first = start.server_first link;
}

abbrev pub begun : (ℕ → Names) → LinksStart → Links
begun names start = record {
  time = start.time;
  ends = λ link. record {
    client = new_end (names link) role.Client (start.client_clock link) (start.client_first link) 0;
    server = new_end (names link) role.Server (start.server_clock link) (start.server_first link) 0;
  };
  sent = [];
}
