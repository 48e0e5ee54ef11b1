-- What is known of the things of a station, and the numbers of that for C.
use Rattle.std.specs.Prelude.{ℕ, Bool, true, false, Option, Some, None}
use Rattle.embedded_ixl.specs.Display.{authority_of, is_linked, is_set_at, occupancy_known, readiness_of, side_known}
use Rattle.embedded_ixl.specs.Embedded.{EmbeddedIxlState}
use Rattle.embedded_ixl.specs.declared.display.Authority.{Authority}
use Rattle.embedded_ixl.specs.declared.display.Readiness.{Readiness}
use Rattle.embedded_ixl.specs.declared.display.Readiness.TheVariants.{Holding, WaitingForResume, TakesRequests}
use Rattle.embedded_ixl.specs.ixl_state.ixl_spec.View.{authority_from, indicated, is_clear, is_holding, is_known, is_occupied}
use Rattle.embedded_ixl.specs.ixl_state.sci_telegram.declared.message.Aspect.{Aspect}
use Rattle.embedded_ixl.specs.ixl_state.sci_telegram.declared.message.Aspect.TheVariants as aspects
use Rattle.embedded_ixl.specs.ixl_state.sci_telegram.declared.message.Occupancy.{Occupancy}
use Rattle.embedded_ixl.specs.ixl_state.sci_telegram.declared.message.Occupancy.TheVariants as occupancies
use Rattle.embedded_ixl.specs.ixl_state.sci_telegram.declared.message.Side.{Side}
use Rattle.embedded_ixl.specs.ixl_state.sci_telegram.declared.message.Side.TheVariants as sides
use Rattle.interlocking_c.specs.declared.known.AuthorityTold.{AuthorityTold}

-- ---- what is known of the thing at a place

abbrev pub authority_at : EmbeddedIxlState → ℕ → Option Authority
authority_at it signal = authority_of it.interlocking.state.sited.table.rows (authority_from signal 0 it.interlocking.state.sited.table.rows it.interlocking.state.ixl.routes)

abbrev pub indicated_at : EmbeddedIxlState → ℕ → Option Aspect
indicated_at it signal = indicated it.interlocking.state.ixl signal

abbrev pub section_at : EmbeddedIxlState → ℕ → Option Occupancy
section_at it section = occupancy_known (is_clear it.interlocking.state.sited.table it.interlocking.state.ixl section) (is_occupied it.interlocking.state.sited.table it.interlocking.state.ixl section)

abbrev pub side_at : EmbeddedIxlState → ℕ → Option Side
side_at it point = side_known (is_known it.interlocking.state.ixl point sides.Right) (is_known it.interlocking.state.ixl point sides.Left)

abbrev pub is_linked_at : EmbeddedIxlState → ℕ → Bool
is_linked_at it node = is_linked it.interlocking.state.sited.site it.interlocking.state.ixl node

abbrev pub is_set : EmbeddedIxlState → ℕ → Bool
is_set it route = is_set_at it.interlocking.state.ixl route

abbrev pub readiness_at : ℕ → EmbeddedIxlState → Readiness
readiness_at now it = readiness_of (is_holding now it.interlocking.state.ixl) it.interlocking.state.ixl.resumed

-- ---- the numbers

abbrev pub aspect_told : Option Aspect → ℕ
aspect_told (Some aspects.Stop) = 0
aspect_told (Some aspects.Proceed) = 1
aspect_told (Some aspects.Slow) = 2
aspect_told None = 3

abbrev pub occupancy_told : Option Occupancy → ℕ
occupancy_told (Some occupancies.Clear) = 0
occupancy_told (Some occupancies.Occupied) = 1
occupancy_told None = 2

abbrev pub side_told : Option Side → ℕ
side_told None = 0
side_told (Some sides.Left) = 1
side_told (Some sides.Right) = 2

abbrev pub truth_told : Bool → ℕ
truth_told true = 1
truth_told false = 0

abbrev pub readiness_told : Readiness → ℕ
readiness_told Holding = 0
readiness_told WaitingForResume = 1
readiness_told TakesRequests = 2

-- the route that has authority, with its aspect; none is given where no route has it
abbrev pub authority_told : Option Authority → AuthorityTold
authority_told None = record { given = 0; aspect = 0; route = 0 }
authority_told (Some authority) = record { given = 1; aspect = aspect_told (Some authority.aspect); route = authority.route.0 }
