-- The answer to a cancel.
use Rattle.std.proofs.Common.{◌≡◌, ◌∙◌, ℕ, refl, ap, Bool, true, false, not, if◌then◌else◌, None}
use Rattle.simulator_spec.specs.layout.declared.ids.RouteId.{RouteId}
use Rattle.simulator_spec.specs.rasta_pdu.declared.key.Key.{Key}
use Rattle.simulator_spec.specs.ixl_spec.Commands.{refusal, refused_where}
use Rattle.simulator_spec.specs.ixl_spec.State.{IxlState}
use Rattle.simulator_spec.specs.ixl_spec.Step.{Accepted, Commands, Refused, Reply, all_clocked, answer_by, reply}
use Rattle.simulator_spec.specs.ixl_spec.Table.{Table}
use Rattle.simulator_spec.specs.ixl_spec.declared.command.Command.TheVariants as command
use Rattle.simulator_spec.specs.ixl_spec.declared.command.Refusal.TheVariants as refusals

-- the clock changes nothing that a cancel is tested for
pub cancel_answered : (now : ℕ) (table : Table) (key : Key) (route : RouteId) (state : IxlState) → answer_by (refusal now table (command.Cancel route) state) ≡ reply now table key (Commands (command.Cancel route)) state
unfolding reply refusal all_clocked
cancel_answered now table key route state = refl

-- the tests of every command for a route, one after another
pub all_answered : (holding resumed : Bool) → answer_by (refused_where holding refusals.Holding (refused_where (not resumed) refusals.NotResumed None)) ≡ (if holding then Refused refusals.Holding else if not resumed then Refused refusals.NotResumed else Accepted)
all_answered true resumed = refl
all_answered false true = refl
all_answered false false = refl
