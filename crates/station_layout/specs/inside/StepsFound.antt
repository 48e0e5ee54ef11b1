-- What is found at the steps of a path, by the fault of its route.
use Rattle.std.specs.Prelude.{Option, None, option_and_then}
use Rattle.std.specs.Option.{option_map}
use Rattle.control_table.specs.layout.declared.port.Port.{Port}
use Rattle.control_table.specs.layout.Entries.{RouteEntry, Site}
use Rattle.control_table.specs.declared.fault.TableFault.{TableFault}
use Rattle.control_table.specs.declared.fault.TableFault.TheVariants as fault
use Rattle.station_layout.specs.RouteDetails.{break_at, open_at}
use Rattle.station_layout.specs.RouteStart.{start_of}
use Rattle.station_layout.specs.Search.{first_step}
use Rattle.station_layout.specs.SideDetails.{contrary_at, lacking_at}
use Rattle.station_layout.specs.declared.detail.RouteDetail.{RouteDetail}
use Rattle.station_layout.specs.declared.detail.RouteDetail.TheVariants.{Path, Points}

module _ (l : Site) (r : RouteEntry) where
  abbrev pub step_found : Port → TableFault → Port → Port → Option RouteDetail
  step_found start (fault.PathBroken _) = λ before left. option_map Path (break_at l before left)
  step_found start (fault.FlankMissing _) = λ before left. option_map Path (lacking_at l r before left)
  step_found start (fault.FlankOpen _) = λ before left. option_map Path (open_at l before left)
  step_found start (fault.FlankContradicts _) = λ before left. option_map Points (contrary_at l start r.path before left)
  step_found start _ = λ before left. None

  abbrev pub first_step_found : TableFault → Option RouteDetail
  first_step_found f = option_and_then (λ start. first_step (step_found start f) start r.path) (start_of l r)
