-- A network that an operator disturbs: which of the datagrams that are sent are lost, and which come late. What a node hears is what
-- the network below answers.
use Rattle.std.specs.Prelude.{◌≡◌, ◌⊎◌, ◌==◌, not, ◌*◌, ◌+◌, ◌^◌, ◌-◌, ℕ, suc, min, nat_le, nat_lt, Bool, true, false, if◌then◌else◌, List, [], ◌∷◌, ◌++◌, length, map, get_or, replicate}
use Rattle.panel_desk.specs.node_lines.layout.Entries.{Site}
use Rattle.panel_desk.specs.node_lines.layout.Nodes.{identities}
use Rattle.panel_desk.specs.node_lines.ixl_spec.rasta_pdu.Header.{sender_of}
use Rattle.panel_desk.specs.node_lines.simulator_event.layout.declared.ids.NodeId.{NodeId}
use Rattle.station_drive.specs.Told.{Asks, Call, Sends}
use Rattle.station_panel.specs.Faults.{FaultsView}
use Rattle.station_panel.specs.declared.disturbed.Disturbed.{Disturbed}
use Rattle.station_panel.specs.declared.disturbed.Late.{Late}

-- a datagram that comes late
pub record LateView : Type 0 where
  pub to : NodeId
  pub bytes : List ℕ
  -- when it goes on, in microseconds
  pub due : ℕ

pub record DisturbedView (Network : Type 0) : Type 0 where
  -- the network below
  pub net : Network
  -- the identity of each node
  pub ids : List ℕ
  -- of each node, whether it is cut off
  pub cut : List Bool
  -- of the datagrams that are sent one in so many is lost; none where that is 0
  pub one_in : ℕ
  -- how many were sent since one was lost
  pub since : ℕ
  -- by how many microseconds datagrams come late
  pub delay : ℕ
  -- the clock at the round, in microseconds
  pub reading : ℕ
  -- what was sent and waits until it is due, oldest first
  pub late : List LateView

abbrev pub late_of : Late → LateView
late_of one = record { to = one.to; bytes = one.bytes.items; due = one.due }

abbrev pub disturbance : {Network : Type 0} → Disturbed Network → DisturbedView Network
disturbance d = record {
  net = d.net;
  ids = d.ids.items;
  cut = d.cut.items;
  one_in = d.one_in;
  since = d.since;
  delay = d.delay;
  reading = d.reading;
  late = map late_of d.late.items;
}

-- numbers end at the greatest of a machine word
abbrev pub saturated : ℕ → ℕ
saturated number = min number (2 ^ 64 - 1)

-- ---- how it begins

-- a network between the nodes of a layout, of which nothing is disturbed yet
abbrev pub undisturbed : {Network : Type 0} → Site → Network → DisturbedView Network
undisturbed site net = record {
  net = net;
  ids = identities site;
  cut = replicate (length (identities site)) false;
  one_in = 0;
  since = 0;
  delay = 0;
  reading = 0;
  late = [];
}

-- ---- what an operator asked for

abbrev pub flag_at : List Bool → ℕ → Bool
flag_at flags place = get_or flags place false

-- flags of as many nodes as before, by those that are wanted, from a place on
abbrev pub flags_from : List Bool → ℕ → List Bool → List Bool
flags_from wanted place [] = []
flags_from wanted place (before ∷ more) = flag_at wanted place ∷ flags_from wanted (suc place) more

-- from a reading of the clock on it is disturbed as was asked for
abbrev pub heeded : {Network : Type 0} → FaultsView → ℕ → DisturbedView Network → DisturbedView Network
heeded faults reading d = record d {
  cut = flags_from faults.cut 0 d.cut;
  one_in = faults.one_in;
  delay = saturated (faults.millis * 1000);
  reading = reading;
}

-- ---- what is lost

-- whether the node is cut off that has this identity, the first from a place on
abbrev pub is_one_cut : List Bool → ℕ → List ℕ → ℕ → Bool
is_one_cut cut sender [] place = false
is_one_cut cut sender (id ∷ more) place = if id == sender then flag_at cut place else is_one_cut cut sender more (suc place)

-- whether the node is cut off that sent these bytes
abbrev pub is_sender_cut : {Network : Type 0} → DisturbedView Network → List ℕ → Bool
is_sender_cut d bytes = is_one_cut d.cut (sender_of bytes) d.ids 0

-- a datagram is lost where its receiver or its sender is cut off
abbrev pub is_cut_off : {Network : Type 0} → DisturbedView Network → NodeId → List ℕ → Bool
is_cut_off d to bytes = if flag_at d.cut to.0 then true else is_sender_cut d bytes

-- another is counted
abbrev pub counted : {Network : Type 0} → DisturbedView Network → DisturbedView Network
counted d = record d { since = saturated (d.since + 1) }

-- its turn to be lost has come: so many were sent since one was lost
abbrev pub is_turn : {Network : Type 0} → DisturbedView Network → Bool
is_turn d = if d.one_in == 0 then false else nat_le d.one_in (saturated (d.since + 1))

-- ---- what comes late

abbrev pub is_empty : {A : Type 0} → List A → Bool
is_empty [] = true
is_empty (one ∷ more) = false

-- a datagram comes late where that was asked for, or where another is late still
abbrev pub comes_late : {Network : Type 0} → DisturbedView Network → Bool
comes_late d = if nat_lt 0 d.delay then true else not (is_empty d.late)

-- it waits until it is due, after those that wait
abbrev pub Waits : {Network : Type 0} → DisturbedView Network → NodeId → List ℕ → DisturbedView Network → Type 0
Waits d to bytes new = new ≡ record d { late = d.late ++ record { to = to; bytes = bytes; due = saturated (d.reading + d.delay) } ∷ [] }

-- one of two facts
abbrev pub Decided : Bool → Type 0 → Type 0 → Type 0
Decided true one other = one
Decided false one other = other

-- ---- what comes of calls, over a network of which it is known what it tells, and what a call makes of that

module _ {Network Net : Type 0} (told : Network → Net) (carries : Net → Call → Net → Type 0) where
  -- a call goes on to the network below
  abbrev pub GoesOn : DisturbedView Network → Call → DisturbedView Network → Type 0
  GoesOn d call new = (net : Network) × carries (told d.net) call (told net) × (new ≡ record d { net = net })

  -- What is sent is lost where a node is cut off, or where its turn has come; all else goes on to the network below. Where it comes
  -- late it waits before; if memory is lacking for that it goes on at once.
  abbrev pub SentIf : (cut turn late : Bool) → DisturbedView Network → NodeId → List ℕ → DisturbedView Network → Type 0
  SentIf true turn late d to bytes new = new ≡ d
  SentIf false true late d to bytes new = new ≡ record d { since = 0 }
  SentIf false false true d to bytes new = Waits (counted d) to bytes new ⊎ GoesOn (counted d) (Sends to bytes) new
  SentIf false false false d to bytes new = GoesOn (counted d) (Sends to bytes) new

  -- what a call makes of a disturbed network: a node hears what the network below answers
  abbrev pub Passes : DisturbedView Network → Call → DisturbedView Network → Type 0
  Passes d (Sends to bytes) new = SentIf (is_cut_off d to bytes) (is_turn d) (comes_late d) d to bytes new
  Passes d (Asks node heard) new = GoesOn d (Asks node heard) new

  -- What waited goes on to the network below, oldest first, up to the first that isn't due.
  abbrev pub Releases : List LateView → DisturbedView Network → DisturbedView Network → Type 0
  Releases [] d new = new ≡ d
  Releases (first ∷ more) d new =
      Decided (nat_le first.due d.reading)
      ((net : Network) × carries (told d.net) (Sends first.to first.bytes) (told net) × Releases more (record d { net = net; late = more }) new)
      (new ≡ d)

  abbrev pub Released : DisturbedView Network → DisturbedView Network → Type 0
  Released d new = Releases d.late d new
