-- The text of a picture: a line for each thing that is seen, in the order of the layout, without a line feed at its end.
use Rattle.std.specs.Prelude.{ℕ, zero, suc, ◌/◌, ◌==◌, ◌++◌, Bool, true, false, List, [], ◌∷◌, Option, Some, None, codes, if◌then◌else◌}
use Rattle.std.specs.Fmt.{decimal}
use Rattle.ixl_spec.specs.sci_telegram.Words.{aspect_word, occupancy_word, position_word}
use Rattle.ixl_spec.specs.sci_telegram.declared.message.Aspect.{Aspect}
use Rattle.ixl_spec.specs.sci_telegram.declared.message.Aspect.TheVariants as aspects
use Rattle.ixl_spec.specs.sci_telegram.declared.message.Occupancy.{Occupancy}
use Rattle.ixl_spec.specs.sci_telegram.declared.message.Occupancy.TheVariants as occupancies
use Rattle.ixl_spec.specs.sci_telegram.declared.message.Position.{Position}
use Rattle.ixl_spec.specs.sci_telegram.declared.message.Position.TheVariants as positions
use Rattle.ixl_spec.specs.sci_telegram.declared.message.Side.{Side}
use Rattle.ixl_spec.specs.sci_telegram.declared.message.Side.TheVariants as sides
use Rattle.signal_ctl.specs.Signal.{SignalState}
use Rattle.point_ctl.specs.Drive.{PointState}
use Rattle.ixl_spec.specs.layout.declared.entries.Point.{Point}
use Rattle.ixl_spec.specs.layout.declared.entries.Signal.{Signal}
use Rattle.ixl_spec.specs.layout.Entries.{Site, RouteEntry}
use Rattle.ixl_spec.specs.State.{RouteState}
use Rattle.ixl_spec.specs.Table.{Table}
use Rattle.ixl_spec.specs.View.{is_set}
use Rattle.simulator_event.specs.declared.snapshot.Held.{Held}
use Rattle.simulator_spec.specs.Refusals.{driven_by}
use Rattle.simulator_spec.specs.Seen.{shown_by}
use Rattle.simulator_spec.specs.State.{ClockedControllerState, WorldState}
use Rattle.simulator_spec.specs.Interlocking.{held_of}

abbrev pub driven_text : Option Side → List ℕ
driven_text None = []
driven_text (Some sides.Right) = codes " driven right"
driven_text (Some sides.Left) = codes " driven left"

-- the name of a route of the layout
abbrev pub route_name : ℕ → List RouteEntry → List ℕ
route_name number [] = codes "-"
route_name zero (route ∷ routes) = route.name
route_name (suc number) (route ∷ routes) = route_name number routes

-- the name of the first route that is held for a signal, a hyphen where there is none
abbrev pub authority_text : Site → ℕ → List Held → List ℕ
authority_text site signal [] = codes "-"
authority_text site signal (held ∷ others) =
    if held.signal.0 == signal then route_name held.route.0 site.routes else authority_text site signal others

-- lines of signals, points, sections and routes, each after a line feed
abbrev pub signal_lines : Site → List Held → ℕ → List Signal → List (ClockedControllerState SignalState) → List ℕ
signal_lines site held place [] servers = []
signal_lines site held place (signal ∷ signals) [] = []
signal_lines site held place (signal ∷ signals) (server ∷ servers) =
    codes "\nsignal " ++ (signal.name ++ (codes " " ++ (aspect_word (shown_by server) ++ (codes " " ++ (authority_text site place held
    ++ signal_lines site held (suc place) signals servers)))))

abbrev pub point_lines : List Point → List Position → List (ClockedControllerState PointState) → List ℕ
point_lines (point ∷ points) (position ∷ positions) (server ∷ servers) =
    codes "\npoint " ++ (point.name ++ (codes " " ++ (position_word position ++ (driven_text (driven_by server)
    ++ point_lines points positions servers))))
point_lines _ _ _ = []

abbrev pub section_lines : List (List ℕ) → List Occupancy → List ℕ
section_lines [] occupied = []
section_lines (name ∷ names) [] = []
section_lines (name ∷ names) (occupancy ∷ others) =
    codes "\nsection " ++ (name ++ (codes " " ++ (occupancy_word occupancy ++ section_lines names others)))

abbrev pub set_text : Bool → List ℕ
set_text true = codes "set"
set_text false = codes "free"

abbrev pub route_lines : List RouteEntry → List RouteState → List ℕ
route_lines [] states = []
route_lines (route ∷ routes) [] = []
route_lines (route ∷ routes) (state ∷ states) =
    codes "\nroute " ++ (route.name ++ (codes " " ++ (set_text (is_set state.phase) ++ route_lines routes states)))

abbrev pub safe_text : Bool → List ℕ
safe_text true = codes "safe"
safe_text false = codes "unsafe"

-- the picture: true time in whole milliseconds, then all lines, and last whether what is seen is safe
unfoldable pub picture_text : Site → Table → Bool → WorldState → List ℕ
picture_text site table is_safe world =
    codes "time " ++ (decimal (world.time / 1000)
    ++ (signal_lines site (held_of table world.interlocking world.frozen) 0 site.signals world.signals
    ++ (point_lines site.points world.positions world.points
    ++ (section_lines site.sections world.occupancies
    ++ (route_lines site.routes world.interlocking.ixl.routes
    ++ (codes "\n" ++ safe_text is_safe))))))
