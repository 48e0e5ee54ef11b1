-- What can happen to two ends and the datagrams between them.
use Rattle.std.specs.Prelude.{◌≡◌, ℕ, ◌+◌, ◌*◌, ◌≤◌, List, [], ◌∷◌, None, ◌⊎◌, Ok}
use Rattle.rasta_core_link.specs.Calls.{created}
use Rattle.rasta_core_link.specs.declared.identity.Role.{Role}
use Rattle.rasta_core_link.specs.declared.identity.Role.TheVariants as role
use Rattle.rasta_core_spec.specs.Bag.{lifetime}
use Rattle.rasta_core_spec.specs.Ends.{Sent, EndState, Call, Ticks, Opens, Closes, Sends, Receives}
use Rattle.rasta_core_spec.specs.Run.{Ends, called, later, lost, restarted}
use Rattle.rasta_pdu.specs.declared.pdu.Pdu.{Pdu}
use Rattle.rasta_pdu.specs.Items.{IsItem}
use Rattle.rasta_pdu.specs.PduRead.{reading}
use Rattle.rasta_pdu.specs.SafetyCode.{IsIntact}
use Rattle.rasta_pdu.specs.Values.{IsPdu}
use Rattle.rasta_core_spec.specs.Names.{Names, name_of, identity_of, partner_of}

-- one of these datagrams
abbrev pub IsAmong : Sent → List Sent → Type 0
IsAmong datagram [] = ⊥
IsAmong datagram (first ∷ later) = (first ≡ datagram) ⊎ IsAmong datagram later

-- These bytes are those of a datagram that was sent in this connection, at most 2000 ms of true time before.
pub record IsDelivered (ends : Ends) (bytes : List ℕ) (connection : ℕ) (datagram : Sent) : Type 0 where
  pub was_sent : IsAmong datagram ends.sent
  pub bytes_same : datagram.bytes ≡ bytes
  pub connection_same : datagram.connection ≡ connection
  pub in_time : ends.time ≤ datagram.at + lifetime

-- a PDU for an end, and from its partner
pub record IsFor (names : Names) (who : Role) (pdu : Pdu) : Type 0 where
  pub receiver : pdu.receiver ≡ name_of who names
  pub sender : pdu.sender ≡ name_of (partner_of who) names

-- bytes of a PDU that is of another link
abbrev pub AreForeign : Names → Role → List ℕ → Type 0
AreForeign names who bytes = (pdu : Pdu) × IsPdu pdu × (reading names.key bytes ≡ Ok pdu) × (IsFor names who pdu → ⊥)

-- what may be given to an end: items of 1 to 61 bytes; bytes that were sent not long ago, that aren't intact, or that are
-- of another link
abbrev pub MayCall : Names → Role → Call → Ends → Type 0
MayCall names who Ticks ends = Unit {0}
MayCall names who Opens ends = Unit {0}
MayCall names who (Closes why) ends = Unit {0}
MayCall names who (Sends item) ends = IsItem item
MayCall names who (Receives bytes connection) ends =
    ((datagram : Sent) × IsDelivered ends bytes connection datagram) ⊎ ((IsIntact names.key bytes → ⊥) ⊎ AreForeign names who bytes)

-- a clock goes on by so much, in a time: it keeps within one part in a thousand
pub record IsWithinDrift (elapsed own : ℕ) : Type 0 where
  pub least : 999 * elapsed ≤ 1000 * own
  pub most : 1000 * own ≤ 1001 * elapsed

pub data Event : Type 0 where
  -- an end is called
  Calls : Role → Call → Event
  -- time goes on, and each clock
  Passes : ℕ → ℕ → ℕ → Event
  -- the network loses a copy of these bytes
  Loses : List ℕ → Event
  -- an end is made anew, with this clock in milliseconds and this first sequence number
  Restarts : Role → ℕ → ℕ → Event
  -- so many datagrams are sent on other links
  Elsewhere : ℕ → Event

abbrev pub May : Names → Event → Ends → Type 0
May names (Calls who call) ends = MayCall names who call ends
May names (Passes elapsed of_client of_server) ends = IsWithinDrift elapsed of_client × IsWithinDrift elapsed of_server
May names (Loses bytes) ends = Unit {0}
May names (Restarts who clock first_sequence_number) ends = Unit {0}
May names (Elsewhere count) ends = Unit {0}

abbrev pub happened : Event → Ends → Ends
happened (Calls who call) ends = called who call ends
happened (Passes elapsed of_client of_server) ends = later elapsed of_client of_server ends
happened (Loses bytes) ends = lost bytes ends
happened (Restarts who clock first_sequence_number) ends = restarted who clock first_sequence_number ends
happened (Elsewhere count) ends = record ends { moment = ends.moment + count }

-- a list of events, one after another
abbrev pub run : List Event → Ends → Ends
run [] ends = ends
run (first ∷ others) ends = run others (happened first ends)

abbrev pub MayRun : Names → List Event → Ends → Type 0
MayRun names [] ends = Unit {0}
MayRun names (first ∷ others) ends = May names first ends × MayRun names others (happened first ends)

-- an end that was just created, with its clock in milliseconds
abbrev pub new_end : Names → Role → ℕ → ℕ → ℕ → EndState
new_end names who clock first_sequence_number moment = record {
  link = created (identity_of who names) first_sequence_number clock;
  clock = clock * 1000;
  connection = None;
  left = moment;
  given = [];
  taken = [];
}

-- the two ends at the beginning: nothing was sent
pub record Start : Type 0 where
  pub time : ℕ
  pub moment : ℕ
  pub client_clock : ℕ
  pub client_first : ℕ
  pub server_clock : ℕ
  pub server_first : ℕ

abbrev pub started : Names → Start → Ends
started names start = record {
  time = start.time;
  client = new_end names role.Client start.client_clock start.client_first start.moment;
  server = new_end names role.Server start.server_clock start.server_first start.moment;
  sent = [];
  moment = start.moment;
}

-- two ends after a run of events that may happen to them
pub record IsRun (names : Names) (start : Start) (ends : Ends) : Type 0 where
  pub events : List Event
  pub may : MayRun names events (started names start)
  pub same : run events (started names start) ≡ ends
