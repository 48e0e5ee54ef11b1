-- What a panel shows of itself, beside its station.
use Rattle.std.specs.Prelude.{ℕ, suc, Bool, List, [], ◌∷◌, ◌++◌}
use Rattle.panel_desk.specs.declared.panel_line.PanelLine.{PanelLine}
use Rattle.panel_desk.specs.declared.panel_line.PanelLine.TheVariants.{Counted, Cut, Jam, Drop, Delay, Memory}
use Rattle.panel_desk.specs.StandingOrders.{StandingView, standing_lines}
use Rattle.panel_desk.specs.node_lines.closings.declared.auxiliary.AuxiliaryCounts.{AuxiliaryCounts}
use Rattle.station_panel.specs.Faults.{FaultsView}

-- of each node from a place on, whether it is cut off
abbrev pub cut_lines : ℕ → List Bool → List PanelLine
cut_lines place [] = []
cut_lines place (is_cut ∷ more) = Cut (record { 0 = place }) is_cut ∷ cut_lines (suc place) more

-- of each point from a place on, whether it is jammed
abbrev pub jam_lines : ℕ → List Bool → List PanelLine
jam_lines place [] = []
jam_lines place (is_jammed ∷ more) = Jam (record { 0 = place }) is_jammed ∷ jam_lines (suc place) more

-- what is disturbed, and how much memory is taken, of how much
abbrev pub fault_lines : FaultsView → ℕ → ℕ → List PanelLine
fault_lines faults bytes limit =
    cut_lines 0 faults.cut ++ (jam_lines 0 faults.jammed ++ Drop faults.one_in ∷ Delay faults.millis ∷ Memory bytes limit ∷ [])

-- what a panel shows of itself: what is disturbed and the memory, how many auxiliary commands were accepted, and what it does by itself
abbrev pub own_lines : FaultsView → StandingView → AuxiliaryCounts → ℕ → ℕ → List PanelLine
own_lines faults orders counts bytes limit = fault_lines faults bytes limit ++ Counted counts ∷ standing_lines orders
