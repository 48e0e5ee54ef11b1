-- What the machine sees of a point in its host.
use Rattle.std.specs.Prelude.{◌≡◌, ◌⊎◌, ◌&&◌, ◌<◌, ℕ, true, List, length, map, None, is_some}
use Rattle.std.specs.List.{All}
use Rattle.sci_telegram.specs.Names.{IsName}
use Rattle.sci_telegram.specs.Telegrams.{IsMessage, writing}
use Rattle.sci_telegram.specs.declared.message.Message.{Message}
use Rattle.sci_telegram.specs.declared.message.Message.TheVariants as message
use Rattle.rasta_core.specs.State.{is_open}
use Rattle.rasta_core.specs.Ends.{reading_of}
use Rattle.rasta_core.specs.Run.{Ends}
use Rattle.object_host.specs.Host.{HostState, sender_of}
use Rattle.object_host.specs.declared.input.Input.{Input}
use Rattle.object_host.specs.declared.report.Report.{Report}
use Rattle.point_ctl.specs.Drive.{PointState, drives}
use Rattle.object_host_laws.specs.Point.{IsReported, is_moving, position_told}
use Rattle.simulator_machine.specs.Point.{Point, PointMove, moves_given, reports_made}
use Rattle.simulator_machine.specs.Chains.{PointMayChain, point_chained}
use Rattle.simulator_move_laws.specs.Items.{moves_in, position_seen, reports_in}
use Rattle.simulator_move_laws.specs.Flows.{reports_given}
use Rattle.simulator_move_laws.specs.EndsSeen.{represented}
use Rattle.simulator_move_laws.specs.Ends.{IsAtEnd, hosted_on}

-- the names and the version of a host are such that its telegrams can be read
pub record IsNamed {Object : Type 0} (host : HostState Object) : Type 0 where
  pub own : IsName host.own_name
  pub peer : IsName host.peer_name
  pub version : host.version < 256

-- what a point's controller says: what every initialisation has, and of the point
abbrev pub IsOfPoint : Message → Type 0
IsOfPoint (message.Initialisation protocol what) = Unit {0}
IsOfPoint (message.Point what) = Unit {0}
IsOfPoint _ = ⊥

-- a report that a controller of these names makes itself, as an item
abbrev pub item_by : List ℕ → List ℕ → Report → List ℕ
item_by own_name peer_name report = writing (record { sender = sender_of report.section own_name; receiver = peer_name; message = report.message })

-- a report of the point's own that can be read
pub record IsOwn (report : Report) : Type 0 where
  pub section : report.section ≡ None
  pub message : IsMessage report.message
  pub of_point : IsOfPoint report.message

-- items that a point's controller of these names has said
pub record AreSaid (own_name peer_name : List ℕ) (items : List (List ℕ)) : Type 0 where
  pub reports : List Report
  pub are : items ≡ map (item_by own_name peer_name) reports
  pub own : All IsOwn reports

-- The machine's point is the point of this host, at these ends.
pub record IsPointSeen (ends : Ends) (host : HostState PointState) (point : Point) : Type 0 where
  pub at_end : IsAtEnd ends host
  pub named : IsNamed host
  -- the point has reported what it was told by what the server took
  pub reported : IsReported (hosted_on ends host)
  pub link : point.link ≡ represented ends
  -- the moves given are those of the client's items; in a connection, those taken are those that the server took
  pub given : moves_given point ≡ length (moves_in ends.client.given)
  pub taken : is_open ends.server.link.phase ≡ true → point.taken ≡ length (moves_in ends.server.taken)
  -- the reports made are those of the server's items
  pub made : reports_made point ≡ reports_in (reports_given ends)
  -- and those items are what its controller says, also where it was made anew since
  pub said : AreSaid host.own_name host.peer_name ends.server.given
  -- it stands where it was sensed last, and is driven in a connection, for the move in progress
  pub position : point.position ≡ position_seen host.object.sensed
  pub driven : point.driven ≡ (is_open ends.server.link.phase && is_moving host.object)

-- a contact tells of another position only while the point is driven at its controller's clock
abbrev pub IsMovedDriven : Ends → Input → HostState PointState → Type 0
IsMovedDriven ends input host =
    (position_told input host.object.sensed ≡ host.object.sensed) ⊎ (is_some (drives (reading_of ends.server.clock) host.object) ≡ true)

-- A list of the point's moves leads to what is seen then. What the interlocking has heard stays, and so does how many moves
-- it has given.
pub record PointGoes (old : Point) (Sees : Point → Type 0) : Type 0 where
  pub moves : List PointMove
  pub may : PointMayChain moves old
  pub sees : Sees (point_chained moves old)
  pub heard : (point_chained moves old).heard ≡ old.heard
