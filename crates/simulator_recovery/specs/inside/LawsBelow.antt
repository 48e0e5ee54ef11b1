-- What this crate borrows of the crates below it: their laws, by what they speak of.
use Rattle.simulator_spec.specs.point_ctl.Controlled.{point_behaviour}
use Rattle.simulator_spec.specs.signal_ctl.Signal.{signal_behaviour}
use Rattle.simulator_spec.specs.tds_ctl.Controlled.{detection_behaviour}
use Rattle.simulator_recovery.specs.inside.LawsOfHost.{LawsOfHost}
use Rattle.simulator_recovery.specs.inside.LawsOfObjects.{LawsOfObjects}
use Rattle.simulator_recovery.specs.inside.LawsOfInterlockings.{LawsOfInterlockings}
use Rattle.simulator_recovery.specs.inside.LawsOfLinks.{LawsOfLinks}
use Rattle.simulator_recovery.specs.inside.LawsOfMachine.{LawsOfMachine}
use Rattle.simulator_recovery.specs.inside.LawsOfRounds.{LawsOfRounds}
use Rattle.simulator_recovery.specs.inside.LawsOfStations.{LawsOfStations}

pub record LawsBelow : Type 0 where
  pub of_links : LawsOfLinks
  pub open of_links use *
  pub of_rounds : LawsOfRounds
  pub open of_rounds use *
  pub of_objects : LawsOfObjects
  pub open of_objects use *
  pub of_interlockings : LawsOfInterlockings
  pub open of_interlockings use *
  pub of_machine : LawsOfMachine
  pub open of_machine use *
  pub of_stations : LawsOfStations
  pub open of_stations use *
  pub signals : LawsOfHost signal_behaviour
  pub points : LawsOfHost point_behaviour
  pub detectors : LawsOfHost detection_behaviour
