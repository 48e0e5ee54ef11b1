-- What signals, points and detectors tell of themselves can be told.
use Rattle.std.proofs.Common.{ℕ, zero, suc, Bool, true, false, cond, List, [], ◌∷◌, find, Some, None, option_map}
use Rattle.std.specs.Prelude.{◌==◌}
use Rattle.simulator_spec.specs.sci_telegram.Names.{IsName}
use Rattle.simulator_spec.specs.sci_telegram.declared.message.Occupancy.{Occupancy}
use Rattle.simulator_spec.specs.object_host.declared.sense.Sense.{Sense}
use Rattle.simulator_spec.specs.object_host.declared.sense.Sense.TheVariants as sense
use Rattle.simulator_spec.specs.point_ctl.Controlled.{point_behaviour}
use Rattle.simulator_spec.specs.point_ctl.Drive as drive
use Rattle.simulator_spec.specs.point_ctl.Drive.{PointState, final_report}
use Rattle.simulator_spec.specs.point_ctl.declared.progress.Progress.{Progress}
use Rattle.simulator_spec.specs.point_ctl.declared.progress.Progress.TheVariants.{Answered, Driving, Arrived, TimedOut}
use Rattle.simulator_spec.specs.signal_ctl.Signal.{SignalState, indicated_report, signal_behaviour}
use Rattle.simulator_spec.specs.tds_ctl.Controlled.{detection_behaviour}
use Rattle.simulator_spec.specs.tds_ctl.Sections.{changed, is_same, losing, owes, owing, paying, sensing, settled, status_at, status_of, with_section}
use Rattle.simulator_spec.specs.tds_ctl.declared.section.Section.{Section}
use Rattle.simulator_link_laws.proofs.HostItems.{IsToldWhere, Tells}
use Rattle.simulator_link_laws.proofs.Lists.{by_test}

-- ---- signals

abbrev pub AnySignal : SignalState → Type 0
AnySignal signal = Unit {0}

pub signals_tell : Tells signal_behaviour AnySignal
signals_tell = record {
  takes = λ now telegram signal good. tt;
  ticks = λ now signal good. tt;
  senses = λ now sense signal good. tt;
  keeps = λ moment signal good. tt;
  pays = λ signal good. tt;
  loses = λ signal good. tt;
  owes = λ signal good. by_test IsToldWhere signal.owes (Some (indicated_report signal)) None (λ e. (tt, tt)) (λ e. tt);
  states = λ place signal good. by_test IsToldWhere (place == 0) (Some (indicated_report signal)) None (λ e. (tt, tt)) (λ e. tt);
}

-- ---- detectors

abbrev pub AreSectionsNamed : List Section → Type 0
AreSectionsNamed [] = Unit {0}
AreSectionsNamed (first ∷ others) = IsName first.name × AreSectionsNamed others

with_named : (place : ℕ) (occupancy : Occupancy) (sections : List Section) → AreSectionsNamed sections → AreSectionsNamed (with_section place (changed occupancy) sections)
with_named place occupancy [] good = tt
with_named zero occupancy (first ∷ others) good = (by_test (λ (s : Section). IsName s.name) (is_same occupancy first.occupancy) first (record first { occupancy = occupancy; owes = true }) (λ e. good.0) (λ e. good.0), good.1)
with_named (suc place) occupancy (first ∷ others) good = (good.0, with_named place occupancy others good.1)

sensing_named : (sense : Sense) (sections : List Section) → AreSectionsNamed sections → AreSectionsNamed (sensing sense sections)
sensing_named (sense.Section place occupancy) sections good = with_named place occupancy sections good
sensing_named (sense.Position position) sections good = good

paying_named : (sections : List Section) → AreSectionsNamed sections → AreSectionsNamed (paying sections)
paying_named [] good = tt
paying_named (first ∷ others) good = by_test AreSectionsNamed first.owes (settled first ∷ others) (first ∷ paying others) (λ e. (good.0, good.1)) (λ e. (good.0, paying_named others good.1))

pub losing_named : (sections : List Section) → AreSectionsNamed sections → AreSectionsNamed (losing sections)
losing_named [] good = tt
losing_named (first ∷ others) good = (good.0, losing_named others good.1)

status_named : (place : ℕ) (sections : List Section) → AreSectionsNamed sections → IsToldWhere (status_at place sections)
status_named place [] good = tt
status_named zero (first ∷ others) good = (good.0, tt)
status_named (suc place) (first ∷ others) good = status_named place others good.1

owing_named : (sections : List Section) → AreSectionsNamed sections → IsToldWhere (owing sections)
owing_named [] good = tt
owing_named (first ∷ others) good = by_first first.owes (owing_named others good.1) where
  by_first : (b : Bool) → IsToldWhere (owing others) → IsToldWhere (option_map status_of (cond b (Some first) (find owes others)))
  by_first true rest = (good.0, tt)
  by_first false rest = rest

pub detectors_tell : Tells detection_behaviour AreSectionsNamed
detectors_tell = record {
  takes = λ now telegram sections good. good;
  ticks = λ now sections good. good;
  senses = λ now sense sections good. sensing_named sense sections good;
  keeps = λ moment sections good. good;
  pays = λ sections good. paying_named sections good;
  loses = λ sections good. losing_named sections good;
  owes = λ sections good. owing_named sections good;
  states = λ place sections good. status_named place sections good;
}

-- ---- points

abbrev pub AnyPoint : PointState → Type 0
AnyPoint point = Unit {0}

final_tells : (progress : Progress) (point : PointState) → IsToldWhere (final_report progress point)
final_tells Answered point = tt
final_tells (Driving side since) point = tt
final_tells Arrived point = (tt, tt)
final_tells TimedOut point = (tt, tt)

status_tells : (place : ℕ) (point : PointState) → IsToldWhere (drive.status_at place point)
status_tells zero point = (tt, tt)
status_tells (suc place) point = tt

pub points_tell : Tells point_behaviour AnyPoint
points_tell = record {
  takes = λ now telegram point good. tt;
  ticks = λ now point good. tt;
  senses = λ now sense point good. tt;
  keeps = λ moment point good. tt;
  pays = λ point good. tt;
  loses = λ point good. tt;
  owes = λ point good. final_tells point.progress point;
  states = λ place point good. status_tells place point;
}
