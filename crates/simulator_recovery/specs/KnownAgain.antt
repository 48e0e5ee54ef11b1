-- What the interlocking knows of points, and what their reports have told.
use Rattle.std.specs.Prelude.{◌≡◌, ℕ, ◌+◌, ◌≤◌, true, List, [], ◌∷◌, ◌++◌, length, Option, Some, None, slice_get}
use Rattle.simulator_spec.specs.layout.Entries.{Site}
use Rattle.simulator_spec.specs.rasta_core.Links.{Links}
use Rattle.simulator_spec.specs.rasta_core.State.{is_up}
use Rattle.simulator_spec.specs.sci_telegram.declared.message.Side.{Side}
use Rattle.simulator_spec.specs.sci_telegram.declared.message.Message.TheVariants as message
use Rattle.simulator_spec.specs.sci_telegram.declared.message.PointMessage.TheVariants.{PointPosition}
use Rattle.simulator_spec.specs.object_host.Told.{item_of}
use Rattle.simulator_spec.specs.point_ctl.Drive.{PointState, own_report}
use Rattle.simulator_spec.specs.ixl_client.Client.{PeerState}
use Rattle.simulator_spec.specs.ixl_client.Made.{told_by_all}
use Rattle.simulator_spec.specs.ixl_spec.State.{KnownPointState}
use Rattle.simulator_spec.specs.ixl_spec.Step.{side_heard}
use Rattle.simulator_spec.specs.Flow.{position_of}
use Rattle.simulator_spec.specs.Nodes.{point_link}
use Rattle.simulator_spec.specs.State.{ClockedControllerState, WorldState}
use Rattle.simulator_link_laws.specs.HasLinks.{HasLinks, links_in}
use Rattle.simulator_recovery.specs.Moves.{HasReported, ReportsCome, reports_in}
use Rattle.simulator_recovery.specs.Ready.{IsReadyOn}

-- the side at which a point lies as the last of these items tells, to the client that takes them from its controller
abbrev pub side_told : PeerState → List (List ℕ) → Option Side
side_told peer items = side_heard (told_by_all peer items) None

-- While its link is up, a point is known at the side that the last report tells, of those that the client has taken in the connection.
abbrev pub KnowsByReports : KnownPointState → List (List ℕ) → Type 0
KnowsByReports known taken = is_up known.client.link.phase ≡ true → known.side ≡ side_told known.client.peer taken

-- All points of a station, with what was taken at the interlocking's ends of their links.
abbrev pub AllKnowByReports : Site → WorldState → Links → Type 0
AllKnowByReports site world network = (place : ℕ) (known : KnownPointState) → slice_get world.interlocking.ixl.known_points place ≡ Some known → KnowsByReports known (network.ends (point_link site place)).client.taken

-- the links of a station, and what is known of its points there
pub record HaveTold (site : Site) (world : WorldState) : Type 0 where
  pub has : HasLinks site world
  pub reports : AllKnowByReports site world (links_in has)

-- ---- a report that comes

-- The last item that a point's controller has sent in a connection is the report that the point lies at this side.
pub record ReportsLast (site : Site) (place : ℕ) (side : Side) (connection : ℕ) (world : WorldState) : Type 0 where
  pub controller : ClockedControllerState PointState
  pub there : slice_get world.points place ≡ Some controller
  pub front : List (List ℕ)
  pub last : reports_in site place connection world ≡ front ++ item_of controller.host (own_report (message.Point (PointPosition (position_of side)))) ∷ []

-- From one moment to a later one the report came that the point lies at this side, and the controller had answered by then each item that the
-- interlocking has given in the connection: its initialisation has two items more than ask for it, and each move has one report.
pub record AnswerComes (site : Site) (place : ℕ) (side : Side) (old new : WorldState) : Type 0 where
  pub comes : ReportsCome site place old new
  pub last : ReportsLast site place side comes.connection old
  pub ready : IsReadyOn site (point_link site place) new
  pub answered : 2 + ready.up.client.given ≤ length (reports_in site place comes.connection old)

-- Since a first moment a point's controller has reported, as its next item in the connection, that the point lies at this side, and the report
-- came from a second moment to a third. At the first and the third the point's link is ready, and in between the interlocking has given it
-- nothing more.
pub record IsReportedBack (site : Site) (place : ℕ) (side : Side) (start old new : WorldState) : Type 0 where
  pub reports : HasReported site place side start old
  pub comes : ReportsCome site place old new
  pub was_ready : IsReadyOn site (point_link site place) start
  pub ready : IsReadyOn site (point_link site place) new
  pub no_more : ready.up.client.given ≤ was_ready.up.client.given
