-- An interlocking that is made, in the words of a world.
use Rattle.std.proofs.Common.{◌≡◌, refl, ap, ◌∙◌, subst, ℕ, ◌*◌, List, map, Option}
use Rattle.ixl_state.specs.layout.Entries.{Site}
use Rattle.ixl_state.specs.ixl_spec.State.{IxlState}
use Rattle.ixl_state.specs.ixl_spec.Table.{Table}
use Rattle.ixl_state.specs.ixl_table.Table.{SitedTable}
use Rattle.simulator_spec.specs.First.{first_interlocking, new_ixl, no_connection}
use Rattle.simulator_spec.specs.Nodes.{partners}
use Rattle.simulator_spec.specs.State.{ClockedInterlockingState}
use Rattle.simulator_spec.specs.Interlocking.{interlocking_anew}
use Rattle.simulator.specs.Interlocking.{ClockedInterlockingView}

pub first_made : (site other : Site) (table : Table) (ixl : IxlState) (begun : List (Option ℕ)) → ixl ≡ new_ixl site table (record { clock = 0; first = 0 }) → begun ≡ map no_connection (partners other) → other ≡ site
    → (record { ixl = ixl; clock = 0; connections = begun }) ≡ first_interlocking site table
first_made site other table ixl begun ixl_is begun_is same_site =
    let Made : IxlState → List (Option ℕ) → ClockedInterlockingState = λ i b. record { ixl = i; clock = 0; connections = b }
    in ap (λ i. Made i begun) ixl_is
    ∙ ap (Made (new_ixl site table (record { clock = 0; first = 0 }))) (begun_is ∙ ap (λ p. map no_connection (partners p)) same_site)

abbrev viewed : SitedTable → IxlState → ℕ → List (Option ℕ) → ClockedInterlockingView
viewed sited ixl clock connections = record { sited = sited; interlocking = record { ixl = ixl; clock = clock; connections = connections } }

abbrev anew : ClockedInterlockingView → ℕ → ℕ → ClockedInterlockingView
anew self clock first = record self { interlocking = interlocking_anew (new_ixl self.sited.site self.sited.table (record { clock = clock; first = first })) clock self.interlocking }

pub station_restarted : (sited new_planned : SitedTable) (ixl old_ixl : IxlState) (connections : List (Option ℕ)) (old_clock clock first : ℕ) (self : ClockedInterlockingView)
    → viewed sited old_ixl old_clock connections ≡ self → new_planned ≡ sited → ixl ≡ new_ixl sited.site sited.table (record { clock = clock; first = first })
    → viewed new_planned ixl (clock * 1000) connections ≡ anew self clock first
station_restarted sited new_planned ixl old_ixl connections old_clock clock first self is_self same_planned ixl_is =
    let Anew : ClockedInterlockingView → Type 0 = λ (view : ClockedInterlockingView). viewed new_planned ixl (clock * 1000) connections ≡ anew view clock first
    in subst Anew is_self
    (ap (λ p. viewed p ixl (clock * 1000) connections) same_planned
    ∙ ap (λ i. viewed sited i (clock * 1000) connections) ixl_is)
