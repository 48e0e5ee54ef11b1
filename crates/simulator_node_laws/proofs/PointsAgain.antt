-- A point that its contacts tell again where it stands.
use Rattle.std.proofs.Common.{◌≡◌, ℕ, ◌<◌, Bool, true, false, List, [], ◌∷◌, Option, Some, None, refl, sym, ap, subst, ◌∙◌, if◌then◌else◌}
use Rattle.std.specs.Prelude.{nat_le}
use Rattle.simulator_spec.specs.sci_telegram.declared.message.Position.{Position}
use Rattle.simulator_spec.specs.sci_telegram.declared.message.Side.{Side}
use Rattle.simulator_spec.specs.layout.declared.entries.Point.{Point as PointEntry}
use Rattle.simulator_spec.specs.layout.Entries.{Site}
use Rattle.simulator_spec.specs.rasta_core.Clock.{alive_until}
use Rattle.simulator_spec.specs.rasta_core.Parameters.{connection_limit}
use Rattle.simulator_spec.specs.rasta_core.identity.Identity.{Identity}
use Rattle.simulator_spec.specs.object_host.Host.{HostState, keeping}
use Rattle.simulator_spec.specs.object_host.Hosted.{IsHosted, IsSteady, new_host}
use Rattle.simulator_spec.specs.object_host.Object.{ObjectCall, Takes, Ticks, Senses, Keeps, Pays, Loses, object_after, object_after_all}
use Rattle.simulator_spec.specs.object_host.Step.{beginning, host_step}
use Rattle.simulator_spec.specs.object_host.declared.input.Input.{Input}
use Rattle.simulator_spec.specs.object_host.declared.input.Input.TheVariants as inputs
use Rattle.simulator_spec.specs.object_host.declared.sense.Sense.TheVariants as sense
use Rattle.object_host_laws.specs.Point.{IsPointStep, position_told}
use Rattle.simulator_spec.specs.point_ctl.Controlled.{point_behaviour}
use Rattle.simulator_spec.specs.point_ctl.Drive.{PointState, answered, begun, drive_end, is_at, limited, losing, move_taken, reached, sensing, ticking}
use Rattle.simulator_spec.specs.point_ctl.declared.progress.Progress.{Progress}
use Rattle.simulator_spec.specs.point_ctl.declared.progress.Progress.TheVariants.{Answered, Driving, Arrived, TimedOut}
use Rattle.simulator_spec.specs.ixl_spec.Table.{Table}
use Rattle.simulator_spec.specs.simulator_event.declared.event.Event.{Event}
use Rattle.simulator_spec.specs.First.{Beginning, Outset, new_point}
use Rattle.simulator_node_laws.specs.Contacts.{IsAsNoise, point_now}
use Rattle.simulator_node_laws.specs.Lives.{first_life, host_after, point_at, position_after, position_in}
use Rattle.simulator_node_laws.specs.Shown.{point_life}
use Rattle.simulator_node_laws.proofs.Kept.{kept_in}
use Rattle.simulator_node_laws.proofs.Noise.{begun_is, begun_where, is_lost, same_is_noise}

-- ---- no drive goes on once the point stands where it leads

-- whether a drive leads to where the point stands
abbrev pub is_done : Progress → Position → Bool
is_done (Driving side since) position = is_at side position
is_done _ position = false

limited_goes_on : (now : ℕ) (position : Position) (progress : Progress) → is_done progress position ≡ false → is_done (limited now progress) position ≡ false
limited_goes_on now position Answered going = refl
limited_goes_on now position (Driving side since) going = cases (nat_le (drive_end since) now) where
  cases : (test : Bool) → is_done (if test then TimedOut else Driving side since) position ≡ false
  cases true = refl
  cases false = going
limited_goes_on now position Arrived going = refl
limited_goes_on now position TimedOut going = refl

reached_goes_on : (position : Position) (progress : Progress) → is_done (reached position progress) position ≡ false
reached_goes_on position Answered = refl
reached_goes_on position (Driving side since) = cases (is_at side position) refl where
  cases : (test : Bool) → is_at side position ≡ test → is_done (if test then Arrived else Driving side since) position ≡ false
  cases true is = refl
  cases false is = is
reached_goes_on position Arrived = refl
reached_goes_on position TimedOut = refl

begun_goes_on : (now : ℕ) (point : PointState) (move : Option Side) → is_done point.progress point.sensed ≡ false → is_done (begun now point move) point.sensed ≡ false
begun_goes_on now point None going = going
begun_goes_on now point (Some side) going = cases (is_at side point.sensed) refl where
  cases : (test : Bool) → is_at side point.sensed ≡ test → is_done (if test then Arrived else Driving side now) point.sensed ≡ false
  cases true is = refl
  cases false is = is

answered_goes_on : (position : Position) (progress : Progress) → is_done progress position ≡ false → is_done (answered progress) position ≡ false
answered_goes_on position Answered going = refl
answered_goes_on position (Driving side since) going = going
answered_goes_on position Arrived going = refl
answered_goes_on position TimedOut going = refl

call_goes_on : (call : ObjectCall) (point : PointState) → is_done point.progress point.sensed ≡ false
    → is_done (object_after point_behaviour call point).progress (object_after point_behaviour call point).sensed ≡ false
call_goes_on (Takes now telegram) point going = begun_goes_on now point (move_taken telegram point) going
call_goes_on (Ticks now) point going = limited_goes_on now point.sensed point.progress going
call_goes_on (Senses now (sense.Position position)) point going = reached_goes_on position (limited now point.progress)
call_goes_on (Senses now (sense.Section place occupancy)) point going = going
call_goes_on (Keeps moment) point going = going
call_goes_on Pays point going = answered_goes_on point.sensed point.progress going
call_goes_on Loses point going = refl

all_go_on : (calls : List ObjectCall) (point : PointState) → is_done point.progress point.sensed ≡ false
    → is_done (object_after_all point_behaviour calls point).progress (object_after_all point_behaviour calls point).sensed ≡ false
unfolding object_after_all
all_go_on [] point going = going
all_go_on (first ∷ others) point going = all_go_on others (object_after point_behaviour first point) (call_goes_on first point going)

-- ---- what is so of a point in its host

-- It senses where its contacts told last that it stands; no drive leads there, and none outlives the link.
pub record IsKept (host : HostState PointState) (position : Position) : Type 0 where
  pub hosted : IsHosted point_behaviour host
  pub sensed : host.object.sensed ≡ position
  pub goes_on : is_done host.object.progress host.object.sensed ≡ false
  pub until : host.object.until ≡ alive_until host.link

-- the laws of hosts that this stands on
pub record PointLaws : Type 0 where
  pub new : (identity : Identity) (own_name peer_name : List ℕ) (first_sequence_number now : ℕ) (object : PointState) (version : ℕ)
      → IsHosted point_behaviour (new_host point_behaviour identity own_name peer_name first_sequence_number now object version)
  pub steady : (host : HostState PointState) → IsHosted point_behaviour host → IsSteady point_behaviour host
  pub hosted : (now : ℕ) (input : Input) (host : HostState PointState) → IsSteady point_behaviour host → IsHosted point_behaviour (host_step point_behaviour now input host).host
  pub step : (now : ℕ) (input : Input) (host : HostState PointState) → IsPointStep now input host (host_step point_behaviour now input host)

same_position : (input : Input) (position : Position) → position_told input position ≡ position_after input position
same_position inputs.Tick position = refl
same_position (inputs.Datagram bytes) position = refl
same_position (inputs.Sense (sense.Position other)) position = refl
same_position (inputs.Sense (sense.Section place occupancy)) position = refl

module _ (laws : PointLaws) (site : Site) (entry : PointEntry) where
  begins_hosted : (begins : Beginning) (position : Position) → IsHosted point_behaviour (new_point site begins position entry)
  begins_hosted begins position = laws.new _ _ _ _ _ _ _

  begins_kept : (begins : Beginning) (position : Position) → IsKept (new_point site begins position entry) position
  unfolding new_host keeping
  begins_kept begins position = record { hosted = begins_hosted begins position; sensed = refl; goes_on = refl; until = refl }

  step_kept : (now : ℕ) (input : Input) (host : HostState PointState) (position : Position) → IsKept host position → IsKept (host_step point_behaviour now input host).host (position_after input position)
  step_kept now input host position kept =
      let step = laws.step now input host
      in record {
        hosted = laws.hosted now input host (laws.steady host kept.hosted);
        sensed = step.stands_after ∙ step.stands ∙ ap (position_told input) kept.sensed ∙ same_position input position;
        goes_on = subst (λ (o : PointState). is_done o.progress o.sensed ≡ false) (sym step.tells.object_is) (all_go_on _ host.object kept.goes_on);
        until = step.until;
      }

  pub point_kept : (table : Table) (outset : Outset) (events : List Event) (place : ℕ) → IsKept (point_now site entry (point_life site table outset events place)) (point_life site table outset events place).contacts
  unfolding host_after
  point_kept table outset events place = kept_in point_behaviour (λ begins position. new_point site begins position entry) (point_at site place) IsKept
      (λ begins host position kept. begins_kept begins position) step_kept site table events (first_life (position_in outset place)) (begins_kept _ (position_in outset place))

-- ---- it is told again

limited_stays : (now : ℕ) (side : Side) (since : ℕ) → nat_le (drive_end since) now ≡ false → limited now (Driving side since) ≡ Driving side since
limited_stays now side since before = ap (λ b. if b then TimedOut else Driving side since) before

reached_stays : (position : Position) (side : Side) (since : ℕ) → is_at side position ≡ false → reached position (Driving side since) ≡ Driving side since
reached_stays position side since apart = ap (λ b. if b then Arrived else Driving side since) apart

reached_again : (now : ℕ) (position : Position) (progress : Progress) → is_done progress position ≡ false → reached position (limited now (limited now progress)) ≡ limited now progress
reached_again now position Answered going = refl
reached_again now position (Driving side since) going = cases (nat_le (drive_end since) now) refl where
  cases : (test : Bool) → nat_le (drive_end since) now ≡ test → reached position (limited now (if test then TimedOut else Driving side since)) ≡ (if test then TimedOut else Driving side since)
  cases true is = refl
  cases false is = ap (reached position) (limited_stays now side since is) ∙ reached_stays position side since going
reached_again now position Arrived going = refl
reached_again now position TimedOut going = refl

sensed_again : (now : ℕ) (point : PointState) → is_done point.progress point.sensed ≡ false → sensing now (sense.Position point.sensed) (ticking now point) ≡ ticking now point
sensed_again now point going = ap (λ p. record point { progress = p }) (reached_again now point.sensed point.progress going)

begun_again : (now : ℕ) (host : HostState PointState) → is_done host.object.progress host.object.sensed ≡ false
    → sensing now (sense.Position host.object.sensed) (beginning point_behaviour now host).object ≡ (beginning point_behaviour now host).object
begun_again now host going =
    subst (λ (h : HostState PointState). sensing now (sense.Position host.object.sensed) h.object ≡ h.object) (sym (begun_is point_behaviour now host)) (cases (is_lost point_behaviour now host)) where
      cases : (test : Bool) → sensing now (sense.Position host.object.sensed) (begun_where point_behaviour test now host).object ≡ (begun_where point_behaviour test now host).object
      cases true = sensed_again now (losing host.object) refl
      cases false = sensed_again now host.object going

pub told_again : (now : ℕ) (host : HostState PointState) (position : Position) → IsKept host position → host.link.sent < connection_limit → IsAsNoise point_behaviour now (sense.Position position) host
told_again now host position kept few = subst (λ p. IsAsNoise point_behaviour now (sense.Position p) host) kept.sensed
    (same_is_noise point_behaviour now (sense.Position host.object.sensed) host kept.hosted few (begun_again now host kept.goes_on))
