-- One order of all that the nodes of a station did, as processes or in programs, what it has to keep, and what they order after each part
-- of it.
use Rattle.std.specs.Prelude.{◌≡◌, ◌⊎◌, ◌<◌, ◌≤◌, ◌*◌, ℕ, true, List, [], ◌∷◌, ◌++◌, length, Option, Some, None, slice_get}
use Rattle.node_kinds.specs.simulator_spec.layout.Entries.{Site}
use Rattle.node_kinds.specs.simulator_spec.layout.declared.entries.Point.{Point as PointEntry}
use Rattle.node_kinds.specs.simulator_spec.sci_telegram.declared.message.Aspect.TheVariants as aspects
use Rattle.node_kinds.specs.simulator_spec.rasta_core.Ends.{reading_of}
use Rattle.node_kinds.specs.simulator_spec.rasta_pdu.SafetyCode.{intact}
use Rattle.node_kinds.specs.simulator_spec.point_ctl.Drive.{drive_of}
use Rattle.node_kinds.specs.simulator_spec.ixl_spec.Table.{Table}
use Rattle.node_kinds.specs.simulator_spec.simulator_event.declared.event.Event.{Event}
use Rattle.node_kinds.specs.simulator_spec.simulator_event.declared.event.Event.TheVariants as event
use Rattle.node_kinds.specs.simulator_spec.simulator_event.declared.snapshot.Snapshot.{Snapshot}
use Rattle.node_kinds.specs.simulator_spec.First.{Outset, world_at}
use Rattle.node_kinds.specs.simulator_spec.Interlocking.{held_of}
use Rattle.node_kinds.specs.simulator_spec.Nodes.{key_of, nodes}
use Rattle.node_kinds.specs.simulator_spec.Refusals.{clock_limit, may_reach}
use Rattle.node_kinds.specs.simulator_spec.Run.{after_all}
use Rattle.node_kinds.specs.simulator_spec.TrueClocks.{KeepTime, MayCome}
use Rattle.node_kinds.specs.Controllers.{drive_order}
use Rattle.simulator_node_laws.specs.Contacts.{point_now}
use Rattle.simulator_node_laws.specs.Lives.{first_life}
use Rattle.simulator_node_laws.specs.Said.{LeftInTime}
use Rattle.simulator_node_laws.specs.Shown.{AreAll, frozen_in, interlocking_life, interlocking_now, point_life, signal_life}
use Rattle.node_safety.specs.Processes.{driven_by, shown_by}
use Rattle.node_safety.specs.Runs.{AreNodes, order_on, point_order, signal_order}

-- ---- the order

-- One thing that a node did, or a moment at which nobody did anything.
pub record Entry : Type 0 where
  -- how much true time went by since the entry before, and by how much the exact clock of each node went on, in microseconds
  pub elapsed : ℕ
  pub clocks : List ℕ
  -- What happened then: a command, a tick or a datagram came to a node; a contact told; or a node was made anew (`Restart`), at a
  -- reading of its clock and with a first sequence number. A contact may also change while its node is down.
  pub deed : Option Event

abbrev pub listed : Option Event → List Event
listed None = []
listed (Some happening) = happening ∷ []

-- the order as events of a world: time goes on, and then it happens
abbrev pub events_of : List Entry → List Event
events_of [] = []
events_of (first ∷ others) = event.Time first.elapsed first.clocks ∷ (listed first.deed ++ events_of others)

-- up to the moment of an entry, before it happens
abbrev pub up_to : List Entry → Entry → List Event
up_to before entry = events_of before ++ event.Time entry.elapsed entry.clocks ∷ []

-- ---- what an order has to keep

-- It names what is there. Time is told by the entries, and a datagram that is lost is one that never comes.
abbrev pub IsDeed : Site → Event → Type 0
IsDeed site (event.Request command) = Unit {0}
IsDeed site (event.Occupy section occupancy) = section.0 < length site.sections
IsDeed site (event.Tick node) = node.0 < nodes site
IsDeed site (event.Time elapsed clocks) = ⊥
IsDeed site (event.Deliver node bytes) = node.0 < nodes site
IsDeed site (event.Lose bytes) = ⊥
IsDeed site (event.Reach point position) = point.0 < length site.points
IsDeed site (event.Restart node clock first) = (node.0 < nodes site) × (clock * 1000 ≤ clock_limit)

-- An intact datagram that is heard left a node at most 2000 ms of true time before.
abbrev pub IsFresh : Site → Table → Outset → List Event → Event → Type 0
IsFresh site table outset events (event.Deliver node bytes) = intact (key_of site) bytes ≡ true → LeftInTime site table outset events bytes
IsFresh site table outset events deed = Unit {0}

-- A contact of a point tells something new only while the last order of its node drives the point, and then no end position or
-- the side to which it is driven.
abbrev pub TellsTruth : Site → Table → Outset → List Event → Event → Type 0
TellsTruth site table outset events (event.Reach point position) =
    let life = point_life site table outset events point.0
    in (entry : PointEntry) → slice_get site.points point.0 ≡ Some entry → may_reach (driven_by (Some (drive_order (drive_of (point_now site entry life).object))) (reading_of life.clock)) position ≡ true
TellsTruth site table outset events deed = Unit {0}

abbrev pub IfDone : Option Event → (Event → Type 0) → Type 0
IfDone None holds = Unit {0}
IfDone (Some deed) holds = holds deed

-- Time may go on to an entry: there is a clock for each node, and none comes to its end.
abbrev pub MayPass : Site → Table → Outset → List Entry → Entry → Type 0
MayPass site table outset before entry = MayCome site (event.Time entry.elapsed entry.clocks) (after_all site table (events_of before) (world_at site table outset))

module _ (site : Site) (table : Table) (outset : Outset) (order : List Entry) where
  pub record IsHistory : Type 0 where
    -- what happens names what is there
    pub deeds : (before behind : List Entry) (entry : Entry) → order ≡ before ++ entry ∷ behind → IfDone entry.deed (IsDeed site)
    -- each clock goes on by 999 to 1001 in 1000 of true time, give or take ten microseconds, between any two moments since its node
    -- was made
    pub clocks : KeepTime site table (events_of order) (world_at site table outset)
    pub passes : (before behind : List Entry) (entry : Entry) → order ≡ before ++ entry ∷ behind → MayPass site table outset before entry
    -- no datagram is heard that is older than 2000 ms, and none that no node sent
    pub fresh : (before behind : List Entry) (entry : Entry) → order ≡ before ++ entry ∷ behind → IfDone entry.deed (IsFresh site table outset (up_to before entry))
    -- contacts tell the truth
    pub contacts : (before behind : List Entry) (entry : Entry) → order ≡ before ++ entry ∷ behind → IfDone entry.deed (TellsTruth site table outset (up_to before entry))
    -- what each node did, with its readings, is what its processes recorded and its programs called, one after another
    pub records : (before behind : List Entry) → order ≡ before ++ behind → AreNodes site table outset (events_of before)

-- ---- what stands on the lines, and what programs order

-- each entry of a list has something seen of it
abbrev pub Each : {Entry Seen : Type 0} (entries : List Entry) → List Seen → ((place : ℕ) (entry : Entry) → slice_get entries place ≡ Some entry → Seen → Type 0) → Type 0
Each {Entry} {Seen} entries seen holds = (length seen ≡ length entries)
    × ((place : ℕ) (entry : Entry) (there : slice_get entries place ≡ Some entry) → (one : Seen) × (slice_get seen place ≡ Some one) × holds place entry there one)

-- What is seen is what the last order of each node says at the reading of its clock; or the equipment rests: a signal shows stop,
-- and a point isn't driven. The interlocking holds routes by what came to it, and a point lies where its contacts told last.
pub record IsOnLines (site : Site) (table : Table) (outset : Outset) (events : List Event) (are : AreNodes site table outset events) (seen : Snapshot) : Type 0 where
  pub shows : Each site.signals seen.shows.items
      (λ place entry there one. (one.0 ≡ aspects.Stop) ⊎ (one.0 ≡ shown_by (order_on signal_order (are.signal place entry there)) (reading_of (signal_life site table events place).clock)))
  pub driven : Each site.points seen.driven.items
      (λ place entry there one. (one ≡ None) ⊎ (one ≡ driven_by (order_on point_order (are.point place entry there)) (reading_of (point_life site table outset events place).clock)))
  pub position : AreAll site.points seen.position.items (λ place entry. record { 0 = (point_life site table outset events place).contacts })
  pub held : seen.held.items ≡ held_of table (interlocking_now site table (interlocking_life site table events)) (frozen_in site table events (first_life tt) [])
