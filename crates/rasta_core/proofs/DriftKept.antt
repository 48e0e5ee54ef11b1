-- Clocks that keep within their drift in each event are steady between any two moments.
use Rattle.std.proofs.Common.{ℕ, ◌+◌, ◌*◌, ◌≤◌, List, [], ◌∷◌, refl, sym, subst, arith}
use Rattle.rasta_core_spec.specs.Events.{Event, Calls, Passes, Loses, Restarts, Elsewhere, IsWithinDrift, May, MayRun, happened}
use Rattle.rasta_core_spec.specs.Names.{Names}
use Rattle.rasta_core_spec.specs.Run.{Ends, called, later, lost, restarted}
use Rattle.rasta_core_spec.specs.TrueClocks.{IsSteady, KeepTime, MayAllCome, MayCome, Moment, StaysSteady, moment_of, moment_on}
use Rattle.rasta_core_spec.specs.identity.Role.{Role}
use Rattle.rasta_core_spec.specs.identity.Role.TheVariants as role
use Rattle.rasta_core.proofs.TrueClocks.{called_moment, elsewhere_moment, later_moment, lost_moment, own}

-- a clock that kept within its drift from one moment to another
record IsExact (early late : Moment) : Type 0 where
  least : 999 * late.at + 1000 * early.clock ≤ 1000 * late.clock + 999 * early.at
  most : 1000 * late.clock + 1001 * early.at ≤ 1000 * early.clock + 1001 * late.at

itself : (now : Moment) → IsExact now now
itself now = record { least = omega arith; most = omega arith }

steady : (early late : Moment) → IsExact early late → IsSteady early late
steady early late is = record { least = omega (arith, is.least); most = omega (arith, is.most) }

on : (from now : Moment) (elapsed step : ℕ) → IsExact from now → IsWithinDrift elapsed step → IsExact from (moment_on elapsed step now)
on from now elapsed step is within = record { least = omega (arith, is.least, within.least); most = omega (arith, is.most, within.most) }

within_of : (who : Role) (elapsed of_client of_server : ℕ) → IsWithinDrift elapsed of_client × IsWithinDrift elapsed of_server → IsWithinDrift elapsed (own who of_client of_server)
within_of role.Client elapsed of_client of_server both = both.0
within_of role.Server elapsed of_client of_server both = both.1

stays : (names : Names) (who : Role) (from : Moment) (events : List Event) (ends : Ends) → IsExact from (moment_of who ends) → MayRun names events ends → StaysSteady who from events ends
unfolding restarted
stays names who from [] ends is may = steady from (moment_of who ends) is
stays names who from (Calls caller call ∷ others) ends is may = (
  steady from (moment_of who ends) is,
  stays names who from others (called caller call ends) (subst (IsExact from) (sym (called_moment who caller call ends)) is) may.1,
)
stays names who from (Passes elapsed of_client of_server ∷ others) ends is may = (
  steady from (moment_of who ends) is,
  stays names who from others (later elapsed of_client of_server ends) (subst (IsExact from) (sym (later_moment who elapsed of_client of_server ends))
      (on from (moment_of who ends) elapsed (own who of_client of_server) is (within_of who elapsed of_client of_server may.0))) may.1,
)
stays names who from (Loses bytes ∷ others) ends is may = (
  steady from (moment_of who ends) is,
  stays names who from others (lost bytes ends) (subst (IsExact from) (sym (lost_moment who bytes ends)) is) may.1,
)
stays names role.Client from (Restarts role.Client clock first ∷ others) ends is may = (steady from (moment_of role.Client ends) is, tt)
stays names role.Server from (Restarts role.Server clock first ∷ others) ends is may = (steady from (moment_of role.Server ends) is, tt)
stays names role.Client from (Restarts role.Server clock first ∷ others) ends is may = (steady from (moment_of role.Client ends) is, stays names role.Client from others (restarted role.Server clock first ends) is may.1)
stays names role.Server from (Restarts role.Client clock first ∷ others) ends is may = (steady from (moment_of role.Server ends) is, stays names role.Server from others (restarted role.Client clock first ends) is may.1)
stays names who from (Elsewhere count ∷ others) ends is may = (
  steady from (moment_of who ends) is,
  stays names who from others (happened (Elsewhere count) ends) (subst (IsExact from) (sym (elsewhere_moment who count ends)) is) may.1,
)

pub drift_keeps : (names : Names) (events : List Event) (ends : Ends) → MayRun names events ends → KeepTime events ends
drift_keeps names [] ends may = tt
drift_keeps names (first ∷ others) ends may =
    (λ who. stays names who (moment_of who ends) (first ∷ others) ends (itself (moment_of who ends)) may, drift_keeps names others (happened first ends) may.1)

comes : (names : Names) (event : Event) (ends : Ends) → May names event ends → MayCome names event ends
comes names (Calls who call) ends may = may
comes names (Passes elapsed of_client of_server) ends may = tt
comes names (Loses bytes) ends may = tt
comes names (Restarts who clock first) ends may = tt
comes names (Elsewhere count) ends may = tt

pub all_come : (names : Names) (events : List Event) (ends : Ends) → MayRun names events ends → MayAllCome names events ends
all_come names [] ends may = tt
all_come names (first ∷ others) ends may = (comes names first ends may.0, all_come names others (happened first ends) may.1)
