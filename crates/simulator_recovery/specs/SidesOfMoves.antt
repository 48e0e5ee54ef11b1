-- The side to which a move that is out goes.
use Rattle.std.specs.Prelude.{◌≡◌, ℕ, List, [], ◌∷◌, ◌++◌, Some, slice_get}
use Rattle.simulator_spec.specs.layout.Entries.{Site}
use Rattle.simulator_spec.specs.sci_telegram.declared.message.Side.{Side}
use Rattle.simulator_spec.specs.ixl_client.declared.command.Command.TheVariants.{Move}
use Rattle.simulator_spec.specs.ixl_client.declared.stage.Stage.TheVariants.{AwaitsReport}
use Rattle.simulator_spec.specs.ixl_spec.Due.{At, IsHeldAt}
use Rattle.simulator_spec.specs.ixl_spec.State.{IxlState, KnownPointState}
use Rattle.simulator_spec.specs.ixl_spec.Table.{Table}
use Rattle.simulator_spec.specs.rasta_core.Links.{Links}
use Rattle.simulator_spec.specs.Nodes.{point_link}
use Rattle.simulator_spec.specs.State.{WorldState}
use Rattle.simulator_link_laws.specs.HasLinks.{HasLinks, links_in}
use Rattle.simulator_recovery.specs.ClientSaid.{commanded}

-- an item is the last of a list
pub record IsLast (item : List ℕ) (items : List (List ℕ)) : Type 0 where
  pub front : List (List ℕ)
  pub are : items ≡ front ++ item ∷ []

-- Where a move to a point is out, and set routes hold the point at a side, the last item that the point's client has given in its
-- connection is the move to this side.
abbrev pub MovesGoWhereHeld : Site → Table → IxlState → Links → Type 0
MovesGoWhereHeld site table ixl network =
    (point : ℕ) (side : Side) (known : KnownPointState) → slice_get ixl.known_points point ≡ Some known → known.client.stage ≡ AwaitsReport → IsHeldAt table ixl point side
    → IsLast (commanded known.client.peer (Move side)) (network.ends (point_link site point)).client.given

-- the links of a station, and where the moves go that are out there
pub record HaveMovesWhereHeld (site : Site) (table : Table) (world : WorldState) : Type 0 where
  pub has : HasLinks site world
  pub go : MovesGoWhereHeld site table world.interlocking.ixl (links_in has)

-- the interlocking awaits the report of a point's move
abbrev pub AwaitsMove : ℕ → WorldState → Type 0
AwaitsMove point world = At world.interlocking.ixl.known_points point (λ known. known.client.stage ≡ AwaitsReport)
